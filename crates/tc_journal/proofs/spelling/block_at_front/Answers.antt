use Rattle.std.proofs.Common.{◌≡◌, ◌++◌, ℕ, ◌∙◌, sym, Option, None, Some, refl}
use Rattle.std.specs.Prelude.{codes}
use Rattle.tc_journal.specs.Told.{block_of}
use Rattle.tc_journal.specs.declared.block.Block.{Block}
use Rattle.tc_journal.specs.declared.block.Kind.{Kind}
use Rattle.tc_journal.specs.declared.block.End.{End}
use Rattle.tc_journal.proofs.Fields.{has_fields, has_end, from_end}
use Rattle.tc_journal.proofs.spelling.block_at_front.Goals as goal

none-some : {X Y : Type 0} {o : Option X} {x : X} → o ≡ None → o ≡ Some x → Y
none-some {X} {Y} {o} {x} none some = absurd (let no : None ≡ Some x = sym none ∙ some in cc)

known : {X : Type 0} {o : Option X} {x y : X} → o ≡ Some x → o ≡ Some y → x ≡ y
known {X} {o} {x} {y} is some = let same : Some x ≡ Some y = sym is ∙ some in cc

whole : (b : Block) {stamp thread turns held worker pc : ℕ} {kind : Kind} {end : End} → stamp ≡ b.stamp → thread ≡ b.thread → turns ≡ b.turns → held ≡ b.held → kind ≡ b.kind → worker ≡ b.worker → pc ≡ b.pc → end ≡ b.end
    → ◌≡◌ {A = Option Block} (Some (record { stamp = stamp; thread = thread; turns = turns; held = held; kind = kind; worker = worker; pc = pc; end = end })) (Some b)
whole b p q r s t u v w = rw (p, q, r, s, t, u, v, w) refl

pub returns-in_err-number-clause-every : goal.returns-in_err-number-clause-every
returns-in_err-number-clause-every c = λ t more h form e. none-some c.in_err-number.was (c.number.ensures t.block.stamp h.stamp (let f = has_fields t more c.args.text.now h e in cc))

pub returns-in_err-small_number-clause-every : goal.returns-in_err-small_number-clause-every
returns-in_err-small_number-clause-every c = λ t more h form e. none-some c.in_err-small_number.was (c.small_number.ensures t.block.thread h.thread (let f = has_fields t more c.args.text.now h e in cc))

pub returns-in_err-number_of_turns-clause-every : goal.returns-in_err-number_of_turns-clause-every
returns-in_err-number_of_turns-clause-every c = λ t more h form e.
    none-some c.in_err-number_of_turns.was (c.number_of_turns.ensures.value t.block.turns h.some_turns h.most_turns (let f = has_fields t more c.args.text.now h e in cc))

pub returns-in_err-held-clause-every : goal.returns-in_err-held-clause-every
returns-in_err-held-clause-every c = λ t more h form e. none-some c.in_err-held.was (c.held.ensures.value t.block.held h.held (let f = has_fields t more c.args.text.now h e in cc))

pub returns-in_err-kind-clause-every : goal.returns-in_err-kind-clause-every
returns-in_err-kind-clause-every c = λ t more h form e. none-some c.in_err-kind.was (c.kind.ensures t.block.kind (let f = has_fields t more c.args.text.now h e in cc))

pub returns-in_err-small_number-2-clause-every : goal.returns-in_err-small_number-2-clause-every
returns-in_err-small_number-2-clause-every c = λ t more h form e. none-some c.in_err-small_number-2.was (c.small_number-2.ensures t.block.worker h.worker (let f = has_fields t more c.args.text.now h e in cc))

pub returns-in_err-pc-clause-every : goal.returns-in_err-pc-clause-every
returns-in_err-pc-clause-every c = λ t more h form e. none-some c.in_err-pc.was (c.pc_and_rest-pc.ensures t.pc (codes "end " ++ from_end t more) form h.pc (let f = has_fields t more c.args.text.now h e in cc)).0

pub returns-in_err-end-clause-every : goal.returns-in_err-end-clause-every
returns-in_err-end-clause-every c = λ t more h form e.
    let behind = (c.pc_and_rest-pc.ensures t.pc (codes "end " ++ from_end t more) form h.pc (let f = has_fields t more c.args.text.now h e in cc)).1 in
    let last = has_end t more c.pc_and_rest-pc.result.1.now h behind in
    none-some c.in_err-end.was (c.end.ensures.value t.block.end h.end (cc) (cc))

pub returns-clause-every : goal.returns-clause-every
returns-clause-every c = λ t more h form e.
    let f = has_fields t more c.args.text.now h e in
    let pc = c.pc_and_rest-pc.ensures t.pc (codes "end " ++ from_end t more) form h.pc (cc) in
    let last = has_end t more c.pc_and_rest-pc.result.1.now h pc.1 in
    whole (block_of t)
    (known c.in_ok-number.was (c.number.ensures t.block.stamp h.stamp (cc)))
    (known c.in_ok-small_number.was (c.small_number.ensures t.block.thread h.thread (cc)))
    (known c.in_ok-number_of_turns.was (c.number_of_turns.ensures.value t.block.turns h.some_turns h.most_turns (cc)))
    (known c.in_ok-held.was (c.held.ensures.value t.block.held h.held (cc)))
    (known c.in_ok-kind.was (c.kind.ensures t.block.kind (cc)))
    (known c.in_ok-small_number-2.was (c.small_number-2.ensures t.block.worker h.worker (cc)))
    (known c.in_ok-pc.was pc.0)
    (known c.in_ok-end.was (c.end.ensures.value t.block.end h.end (cc) (cc)))
