use Rattle.std.proofs.Common.{◌≡◌, sym, ap, ◌∙◌}
use Rattle.tc_combiner.proofs.Vocabulary.{BenchView, Shown, want_of}
use Rattle.tc_combiner.proofs.desk.Desk.acquire.Goals as goal

pub acquire_lock-requires-clause-wants : goal.acquire_lock-requires-clause-wants
acquire_lock-requires-clause-wants g c = λ κs b.
    let of : c.args.«package».image ≡ c.bench.inside.image.now = c.requires.may.of ∙ sym (ap (λ (b : BenchView). b.image) c.bench.view_is) in
    ap (λ (x : Shown). want_of x c.args.«package».context) of ∙ (sym c.want.ensures ∙ c.in-Some.is)

pub returns-clause-enters : goal.returns-clause-enters
returns-clause-enters g c =
    let of : c.args.«package».image ≡ c.bench.inside.image.now = c.requires.may.of ∙ sym (ap (λ (b : BenchView). b.image) c.bench.view_is) in
    (c.in-Some.lock, ap (λ (x : Shown). want_of x c.args.«package».context) of ∙ (sym c.want.ensures ∙ c.in-Some.is), c.acquire_lock.ensures.enters)
