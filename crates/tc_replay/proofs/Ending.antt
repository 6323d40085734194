-- What a checker has once its threads have ended.
use Rattle.std.proofs.Common.{◌≡◌, ◌⊎◌, ℕ, ◌+◌, ◌<◌, ◌≤◌, ◌==◌, Bool, true, false, List, [], ◌∷◌, ◌++◌, map, length, refl, sym, ap, subst, ◌∙◌, arith, inl, inr, ⊎_elim}
use Rattle.std.specs.Prelude.{Option, Some, None, nat_lt, if◌then◌else◌}
use Rattle.std.proofs.lemmas.Bool.Decides.{eqb_tells}
use Rattle.std.proofs.lemmas.List.{length-map}
use mathlib.Core.Option.{some, some-injective, some-ne-none}
use lib.ListN.{get_elem?}
use Rattle.tc_isa.specs.declared.options.Options.{Options as Terms}
use Rattle.tc_elf.specs.Shown.{Shown}
use Rattle.tc_journal.specs.declared.block.Block.{Block}
use Rattle.tc_turn.specs.Turn.{Thread, is_running, thread_at_start, no_thread}
use Rattle.tc_mutex_spec.specs.Machine.{State, start}
use Rattle.tc_mutex_spec.specs.Blocks.{Stands, TellsAfter, Tells, IsComplete, end_after}
use Rattle.tc_mutex_spec.proofs.BlockEnds.{block_ends}
use Rattle.tc_mutex_spec.proofs.BlocksAlike.{runs_apart}
use Rattle.tc_mutex_spec.proofs.Holds.{can_thread}
use Rattle.tc_mutex_spec.proofs.ListLaws.{there, same_list}
use Rattle.tc_segment.specs.View.{LockView, kept}
use Rattle.tc_context.specs.Locks.{lock_in, IsPlaced}
use Rattle.tc_context.specs.View.{PackageView, bare, status_in}
use Rattle.tc_law.specs.Lawful.{Lawful, StandsAt, owner_after}
use Rattle.tc_law.proofs.Following.{holds_told}
use Rattle.tc_replay.specs.Rejected.{IsFirstOn}
use Rattle.tc_replay.specs.Taken.{AreTaken, CheckerView, HasWhatItTook}
use Rattle.tc_replay.proofs.Keeping.{at_map}
use Rattle.tc_replay.proofs.Starting.{was_at, pushed_at, count_more}
use Rattle.tc_lemmas.proofs.Lists.{something_at}
use Rattle.std.proofs.lemmas.Bool.{cases_lt}

-- ---- a thread that has ended holds nothing

abbrev HoldsNothing : Shown → State → Type 0
HoldsNothing image m = (t k : ℕ) → (t < length image.entries → is_running (m.threads t).status ≡ false) → (m.threads t).held k ≡ false

none_at_start : (image : Shown) (fuel : ℕ) → HoldsNothing image (start image fuel)
none_at_start image fuel t k over = go (nat_lt t (length image.entries))
  where
    go : (v : Bool) → (if v then thread_at_start image fuel t else no_thread).held k ≡ false
    go true = refl
    go false = refl

none_after : (image : Shown) (seen : List Block) (m to : State) (b : Block) → Stands image seen m b to → HoldsNothing image m → HoldsNothing image to
none_after image seen m to b stands none t k over = elim (eqb_tells t b.thread) [
  | inl s ↦
      let known : b.thread < length image.entries = can_thread image m b.thread (stands.runs.defined 0 stands.runs.some) in
      let over_b = subst (λ u. u < length image.entries → is_running (to.threads u).status ≡ false) s.1 over in
      subst (λ u. (to.threads u).held k ≡ false) (sym s.1) (block_ends image m to b.thread b.turns b.end stands.runs (over_b known) k)
  | inr s ↦
      let same : to.threads t ≡ m.threads t = (runs_apart image m to b.thread b.turns b.end stands.runs).threads t s.1 in
      ap (λ (d : Thread). d.held k) same ∙ none t k (λ lt. ap (λ (d : Thread). is_running d.status) (sym same) ∙ over lt)
]

none_told : (image : Shown) (seen h : List Block) (from last : State) → TellsAfter image seen from h last → HoldsNothing image from → HoldsNothing image last
none_told image seen [] from last told none = subst (HoldsNothing image) told none
none_told image seen (b ∷ h) from last told none = none_told image (seen ++ b ∷ []) h told.0 last told.2 (none_after image seen from told.0 b told.1 none)

-- so nobody owns a lock where each thread has ended
none_owns : (image : Shown) (fuel : ℕ) (h : List Block) → Tells image fuel h (end_after image fuel h) → IsComplete image (end_after image fuel h) → (k : ℕ) → owner_after image fuel h k ≡ None
none_owns image fuel h told complete k = go (owner_after image fuel h k) refl
  where
    go : (o : Option ℕ) → owner_after image fuel h k ≡ o → o ≡ None
    go None e = refl
    go (Some t) e =
        let held = (holds_told image fuel h (end_after image fuel h) told t k).1 e in
        let none = none_told image [] h (start image fuel) (end_after image fuel h) told (none_at_start image fuel) t k (complete t) in
        absurd (let f : true ≡ false = sym held ∙ none in cc)

-- ---- the packages and the locks

not_at : (k n : ℕ) → n + 1 ≤ k → (k == n) ≡ false
not_at k n le = elim (eqb_tells k n) [ inl s ↦ absurd (let same = s.1 in omega (arith, le, same)) | inr s ↦ s.0 ]

-- one package more has ended
pub ended_more : (packages : List PackageView) (t : ℕ) (p : PackageView) → ((u : ℕ) (x : PackageView) → u < t → StandsAt packages u x → is_running (status_in x) ≡ false) → StandsAt packages t p → is_running (status_in p) ≡ false
    → (u : ℕ) (x : PackageView) → u < t + 1 → StandsAt packages u x → is_running (status_in x) ≡ false
ended_more packages t p so_far here over u x lt at = elim (eqb_tells u t) [
  | inl s ↦
      let same : p ≡ x = some-injective p x (sym here ∙ ap (get_elem? packages) (sym s.1) ∙ at) in
      ap (λ (y : PackageView). is_running (status_in y)) (sym same) ∙ over
  | inr s ↦ so_far u x (let ne = s.1 in grind (arith, ne, lt)) at
]

-- a checker keeps what its parts do
pub kept_by : (v w : CheckerView) → v ≡ w → HasWhatItTook v → HasWhatItTook w
kept_by v w is keeps = subst HasWhatItTook is keeps

-- so many locks are given away: these are still at home
pub record IsGiven (image : Shown) (home : List (Option LockView)) (n : ℕ) (now : List (Option LockView)) (states : List LockView) : Type 0 where
  pub to_come : (k : ℕ) → n ≤ k → lock_in now k ≡ lock_in home k
  pub count : n ≤ length image.guards → length states ≡ n
  pub all : length image.guards ≤ n → length states ≡ length image.guards
  pub each : (k : ℕ) (l : LockView) → StandsAt states k l → lock_in home k ≡ Some l

pub none_given : (image : Shown) (home : List (Option LockView)) (states : List LockView) → states ≡ [] → IsGiven image home 0 home states
none_given image home states none = record {
  to_come = λ k le. refl;
  count = λ le. ap (λ (l : List LockView). length l) none;
  all = λ le. (let many = ap (λ (l : List LockView). length l) none in omega (arith, many, le));
  each = λ k l e. absurd (some-ne-none l (sym (ap (λ (x : List LockView). get_elem? x k) (sym none) ∙ e)));
}

module _ (image : Shown) (terms : Terms) (h : List Block) (packages : List PackageView) (home : List (Option LockView)) (taken : AreTaken image terms h packages home) where
  abbrev last : State
  last = end_after image terms.fuel h

  count : length packages ≡ length image.entries
  count = sym (length-map packages bare) ∙ taken.1.law.all_packages

  -- a package tells whether its thread has ended
  pub status_is : (t : ℕ) (p : PackageView) → StandsAt packages t p → is_running (status_in p) ≡ is_running (last.threads t).status
  status_is t p e = ap (λ (d : Thread). is_running d.status) (taken.1.law.packages_after t (bare p) (at_map bare packages t p e)).follows.thread

  pub all_ended : ((t : ℕ) (p : PackageView) → StandsAt packages t p → is_running (status_in p) ≡ false) → IsComplete image last
  all_ended over t lt =
      let x = something_at packages t (omega (arith, lt, count)) in
      sym (status_is t x.0 x.1) ∙ over t x.0 x.1

  pub first_on : (t : ℕ) (p : PackageView) → StandsAt packages t p → is_running (status_in p) ≡ true → ((u : ℕ) (x : PackageView) → u < t → StandsAt packages u x → is_running (status_in x) ≡ false) → IsFirstOn image last t
  first_on t p e runs over =
      let here = (there packages t p p e).0 in
      record {
        known = omega (arith, here, count);
        runs = sym (status_is t p e) ∙ runs;
        first = λ u lt. (let x = something_at packages u (omega (arith, lt, here)) in sym (status_is u x.0 x.1) ∙ over u x.0 lt x.1);
      }

  pub home_known : (k : ℕ) (l : LockView) → lock_in home k ≡ Some l → k < length image.guards
  home_known k l e =
      let place = (there taken.0 k (kept l) (kept l) (taken.1.home_is k l e).place).0 in
      let all = taken.1.law.all_states in
      omega (arith, place, all)

  -- each lock is at home
  pub all_home : IsComplete image last → (k : ℕ) → k < length image.guards → (l : LockView) × (lock_in home k ≡ Some l)
  all_home complete k lt = go (lock_in home k) refl
    where
      go : (o : Option LockView) → lock_in home k ≡ o → (l : LockView) × (lock_in home k ≡ Some l)
      go None e = absurd (taken.1.owned k lt e (none_owns image terms.fuel h taken.1.law.tells complete k))
      go (Some l) e = (l, e)

  -- and they are given away by number
  pub given : (states : List LockView) → length states ≡ length image.guards → ((k : ℕ) (l : LockView) → StandsAt states k l → lock_in home k ≡ Some l) → Lawful image terms.fuel terms.limit h (map bare packages) (map kept states)
  given states many each = subst (Lawful image terms.fuel terms.limit h (map bare packages)) (sym same) taken.1.law
    where
      same : map kept states ≡ taken.0
      same = same_list (map kept states) taken.0
          (λ i a e. let x = was_at kept states i a e in subst (StandsAt taken.0 i) x.2 (taken.1.home_is i x.0 (each i x.0 x.1)).place)
          (λ i a e.
          let lt : i < length states = (let place = (there taken.0 i a a e).0 in let all = taken.1.law.all_states in omega (arith, place, all, many)) in
          let x = something_at states i lt in
          let is : kept x.0 ≡ a = some-injective (kept x.0) a (sym (taken.1.home_is i x.0 (each i x.0 x.1)).place ∙ e) in
          at_map kept states i x.0 x.1 ∙ ap (λ y. some y) is)

  -- a lock more is given away
  pub given_more : IsComplete image last → (n : ℕ) (now left : List (Option LockView)) (states more : List LockView) (l : LockView) → IsGiven image home n now states → IsPlaced n None now left → lock_in now n ≡ Some l → more ≡ states ++ l ∷ [] → IsGiven image home (n + 1) left more
  given_more complete n now left states more l so_far gone here is =
      let at_home : lock_in home n ≡ Some l = sym (so_far.to_come n (omega arith)) ∙ here in
      let lt : n < length image.guards = home_known n l at_home in
      let was : length states ≡ n = so_far.count (omega (arith, lt)) in
      let many : length more ≡ n + 1 = count_more n states more l was is in
      record {
        to_come = λ k le. gone k ∙ ap (λ b. if b then None else lock_in now k) (not_at k n le) ∙ so_far.to_come k (omega (arith, le));
        count = λ le. many;
        all = λ le. omega (arith, le, lt, many);
        each = λ k x e. ⊎_elim
            (λ o. ap (lock_in home) (o.0 ∙ was) ∙ at_home ∙ ap Some o.1)
            (λ old. so_far.each k x old)
            (pushed_at states l x k (subst (λ y. StandsAt y k x) is e));
      }

  -- there is none of that number
  pub given_none : IsComplete image last → (n : ℕ) (now left : List (Option LockView)) (states more : List LockView) → IsGiven image home n now states → IsPlaced n None now left → lock_in now n ≡ None → more ≡ states → IsGiven image home (n + 1) left more
  given_none complete n now left states more so_far gone none is =
      let past : length image.guards ≤ n = by_bound (cases_lt n (length image.guards)) in
      let was : length states ≡ length image.guards = so_far.all past in
      let same = ap (λ (y : List LockView). length y) is in
      record {
        to_come = λ k le. gone k ∙ ap (λ b. if b then None else lock_in now k) (not_at k n le) ∙ so_far.to_come k (omega (arith, le));
        count = λ le. absurd (omega (arith, le, past));
        all = λ le. same ∙ was;
        each = λ k x e. so_far.each k x (subst (λ y. StandsAt y k x) is e);
      }
    where
      by_bound : (n < length image.guards) ⊎ (length image.guards ≤ n) → length image.guards ≤ n
      by_bound (inl lt) = absurd (let x = all_home complete n lt in let f : None ≡ Some x.0 = sym none ∙ so_far.to_come n (omega arith) ∙ x.1 in cc)
      by_bound (inr le) = le

  -- there are no more locks than places
  pub few_guards : IsComplete image last → ((k : ℕ) → 32 ≤ k → lock_in home k ≡ None) → length image.guards ≤ 32
  few_guards complete past = by_bound (cases_lt 32 (length image.guards))
    where
      by_bound : (32 < length image.guards) ⊎ (length image.guards ≤ 32) → length image.guards ≤ 32
      by_bound (inl lt) = absurd (let x = all_home complete 32 lt in let f : None ≡ Some x.0 = sym (past 32 (omega arith)) ∙ x.1 in cc)
      by_bound (inr le) = le
