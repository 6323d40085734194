-- The tail of a queue and the line of a lock in the pure machine.
use Rattle.std.proofs.Common.{◌≡◌, ℕ, Bool, true, not, if◌then◌else◌, List, [], ◌∷◌, ◌++◌, refl, sym, ap, subst}
use Rattle.tc_elf.specs.Shown.{Shown}
use Rattle.tc_core.specs.Core.{Core, Limits}
use Rattle.tc_core.specs.Lines.{is_single}
use Rattle.tc_core.specs.Events.{is_enabled, effect, entered, left_by_all, has_lock}
use Rattle.tc_core.specs.declared.event.Event.TheVariants.{Enter, Leave}
use Rattle.tc_queue.specs.Calls.{enter_effect, leave_effect}
use Rattle.tc_queue.specs.Laws as queue
use Rattle.tc_combiner.proofs.Vocabulary.{EnterTie, LeaveTie, line_of}
use Rattle.std.proofs.lemmas.Bool.{and_parts}
use Rattle.tc_lemmas.proofs.Tests.{eq_self}

pub entered_line : (image : Shown) (c : Core) (w t lock : ℕ) → line_of (effect image c (Enter w t lock)) lock ≡ line_of c lock ++ t ∷ []
unfolding effect
entered_line image c w t lock = ap (λ (b : Bool). (if b then entered (c.custody lock) t else c.custody lock).line) (eq_self lock)

pub left_line : (image : Shown) (c : Core) (w lock : ℕ) → line_of (effect image c (Leave w lock)) lock ≡ []
unfolding effect
left_line image c w lock = ap (λ (b : Bool). (if b then left_by_all (c.custody lock) else c.custody lock).line) (eq_self lock)

single_line : (image : Shown) (limits : Limits) (c : Core) (w lock : ℕ) → is_enabled image limits c (Leave w lock) ≡ true → is_single (line_of c lock) ≡ true
unfolding is_enabled
single_line image limits c w lock e = (and_parts (not (c.custody lock).left) _ (and_parts (has_lock image limits c w lock) _ e).1).1

only_of : (line : List ℕ) → is_single line ≡ true → (only : ℕ) × (line ≡ only ∷ [])
only_of [] e = let n : ⊥ = cc in absurd n
only_of (u ∷ []) e = (u, refl)
only_of (u ∷ v ∷ us) e = let n : ⊥ = cc in absurd n

pub enter_ties : queue.EnterTie → EnterTie
enter_ties tie image limits c w lock u tail v shows on =
    let k = tie u tail v (line_of c lock) shows in record {
      shows = subst (λ (l : List ℕ). queue.Shows (enter_effect u tail v).0 l) (sym (entered_line image c w u.thread lock)) k.shows;
      before = k.before;
    }

pub leave_ties : queue.LeaveTie → LeaveTie
leave_ties tie image limits c w lock u tail v shows on left =
    let only = only_of (line_of c lock) (single_line image limits c w lock on) in
    let k = tie u tail v only.0 (subst (λ (l : List ℕ). queue.Shows tail l) only.1 shows) left in
    subst (λ (l : List ℕ). queue.Shows (leave_effect u tail v).0 l) (sym (left_line image c w lock)) k.1
