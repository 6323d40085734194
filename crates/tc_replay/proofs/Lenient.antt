-- Lock states that are not strict: at the start, and after a block.
use Rattle.std.proofs.Common.{◌≡◌, ℕ, false, List, sym, ap, subst, ◌∙◌, ⊎_elim}
use Rattle.std.specs.Prelude.{Some, None, option_map}
use mathlib.Core.Option.{some}
use lib.ListN.{get_elem?}
use Rattle.tc_isa.specs.Sets.{has}
use Rattle.tc_elf.specs.Shown.{Shown}
use Rattle.tc_mutex_spec.specs.Entries.{entry_of}
use Rattle.tc_segment.specs.View.{LockView, Journal, kept, with_journal, sealed_as}
use Rattle.tc_context.specs.Locks.{lock_in}
use Rattle.tc_context.specs.Whole.{whole, journal_in, journal_at, entered}
use Rattle.tc_context.specs.View.{PackageView, with_seal}
use Rattle.tc_context.specs.Ran.{DidRun}
use Rattle.tc_context.proofs.Moved.{map_some}
use Rattle.tc_context.proofs.Running.{entered_rest, sealed_at}
use Rattle.tc_law.specs.Lawful.{IsAmong, with_states}
use Rattle.tc_law.proofs.Lawful.{with_states-at}
use Rattle.tc_replay.specs.Taken.{AreLenient}

-- a block keeps lenient lock states lenient
lenient_still : (image : Shown) (p v : PackageView) → DidRun image p v → ((k : ℕ) (l : LockView) → lock_in p.context.locks k ≡ Some l → l.journal.strict ≡ false) → (k : ℕ) (l : LockView) → lock_in v.context.locks k ≡ Some l → l.journal.strict ≡ false
lenient_still image p v ran lenient k l e =
    let put = entered (has ran.block.held k) (entry_of image k (whole p.context) ran.block) in
    let y = map_some put (journal_at p.context k) l.journal (sym (ran.journals.entries k) ∙ ap (option_map journal_in) e) in
    let z = map_some journal_in (lock_in p.context.locks k) y.0 y.1 in
    ap (λ (j : Journal). j.strict) y.2 ∙ (entered_rest (has ran.block.held k) (entry_of image k (whole p.context) ran.block) y.0).2 ∙ ap (λ (j : Journal). j.strict) z.2 ∙ lenient k z.0 z.1

pub lenient_states : (image : Shown) (packages : List PackageView) (states : List LockView) (p v : PackageView) → IsAmong packages states p → DidRun image p v
    → (stamp worker : ℕ) → AreLenient states → AreLenient (with_states (with_seal stamp worker v).context.locks states)
lenient_states image packages states p v here ran stamp worker lenient k a e = ⊎_elim
    (λ (o : (l : LockView) × (lock_in (with_seal stamp worker v).context.locks k ≡ Some l) × (kept l ≡ a)).
    let x = map_some (with_journal (sealed_as stamp worker)) (lock_in v.context.locks k) o.0 (sym (sealed_at stamp worker v.context.locks k) ∙ o.1) in
    subst (λ (l : LockView). l.journal.strict ≡ false) o.2 (ap (λ (l : LockView). l.journal.strict) x.2 ∙ lenient_still image p v ran (λ j l f. lenient j (kept l) (here.locks j l f)) k x.0 x.1))
    (λ (o : (lock_in (with_seal stamp worker v).context.locks k ≡ None) × (get_elem? states k ≡ some a)). lenient k a o.1)
    (with_states-at (with_seal stamp worker v).context.locks states k a e)
