-- A thread holds a lock exactly where it is its owner.
use Rattle.std.proofs.Common.{◌≡◌, ◌≢◌, ◌↔◌, ℕ, zero, suc, ◌<◌, Bool, true, false, not, ◌&&◌, ◌==◌, List, [], ◌∷◌, length, refl, sym, ap, subst, ◌∙◌, arith, inl, inr}
use Rattle.std.specs.Prelude.{Option, Some, None, if◌then◌else◌, nat_lt, option_and_then}
use Rattle.std.proofs.lemmas.Bool.Decides.{eqb_tells, nat_tests}
use Rattle.std.proofs.lemmas.Bool.{and_parts}
use Rattle.tc_elf.specs.Shown.{Shown, guard_at}
use Rattle.tc_elf.specs.declared.image.Region.{Region}
use Rattle.tc_elf.specs.declared.image.Region.TheVariants as region
use Rattle.tc_exec.specs.declared.outcome.Act.{Act}
use Rattle.tc_exec.specs.declared.outcome.Act.TheVariants.{Next, Called, Faulted}
use Rattle.tc_exec.specs.declared.outcome.Call.TheVariants.{Lock, Unlock, Sleep, Exit}
use Rattle.tc_exec.specs.declared.outcome.Put.{Put}
use Rattle.tc_turn.specs.Memory.{put_number}
use Rattle.tc_turn.specs.Turn.{Thread, Mutex, thread_at_start, no_thread, next_lock, next_act, thread_after, mutex_after, guard_with, guard_after, given_up, when}
use Rattle.tc_turn.specs.Reads.{Covers}
use Rattle.tc_mutex_spec.specs.Machine.{State, is_free, is_open, can_turn, after, turn, turns, start, IsHeldByOwner}
use Rattle.tc_mutex_spec.specs.Blocks.{locks_of_block, reach}
use Rattle.tc_mutex_spec.proofs.Local.{after_thread, after_mutex, turn_apart}
use Rattle.tc_mutex_spec.proofs.BlocksAlike.{covers_block}

given : (b : Bool) (l : Mutex) (u : ℕ) → (given_up b l).owner ≡ Some u → (l.owner ≡ Some u) × (b ≡ false)
given true l u e = absurd (cc)
given false l u e = (e, refl)

-- a store changes no owner
with_owner : (image : Shown) (place : Region) (k : ℕ) (l : Mutex) (addr width value : ℕ) → (guard_with image place k l addr width value).owner ≡ l.owner
with_owner image region.Text k l addr width value = refl
with_owner image region.Private k l addr width value = refl
with_owner image region.Stack k l addr width value = refl
with_owner image (region.Guard lock) k l addr width value =
    elim (k == lock) as (λ b. (when b (record { bytes = put_number (guard_at image k).start l.bytes addr width value; broken = l.broken; sections = l.sections; owner = l.owner }) l).owner ≡ l.owner) [ true ↦ refl | false ↦ refl ]
with_owner image region.Nothing k l addr width value = refl

guard_owner : (image : Shown) (put : Option Put) (k : ℕ) (l : Mutex) → (guard_after image put k l).owner ≡ l.owner
guard_owner image None k l = refl
guard_owner image (Some put) k l = with_owner image put.region k l put.addr put.width put.value

-- the owner after the turn: it held the lock before it or took it in it
owner_held : (image : Shown) (t : ℕ) (d : Thread) (a : Option Act) (k : ℕ) (l : Mutex) → (l.owner ≡ Some t → d.held k ≡ true) → (mutex_after image t d.held a k l).owner ≡ Some t → (thread_after d a).held k ≡ true
owner_held image t d None k l h e = (let g = given (d.held k) l t e in absurd (let f = h g.0 in let n = g.1 in cc))
owner_held image t d (Some (Next regs put)) k l h e = h (sym (guard_owner image put k l) ∙ e)
owner_held image t d (Some (Called (Lock lock) regs)) k l h e = elim (eqb_tells k lock) [ inl x ↦ rw x.0 refl | inr x ↦ (let s = (rw x.0 at e) in rw x.0 (h s)) ]
owner_held image t d (Some (Called (Unlock lock) regs)) k l h e = elim (eqb_tells k lock) [ inl x ↦ absurd (let s : None ≡ Some t = (rw x.0 at e) in cc) | inr x ↦ (let s = (rw x.0 at e) in rw x.0 (h s)) ]
owner_held image t d (Some (Called (Sleep n) regs)) k l h e = h e
owner_held image t d (Some (Called Exit regs)) k l h e = (let g = given (d.held k) l t e in absurd (let f = h g.0 in let n = g.1 in cc))
owner_held image t d (Some (Faulted f)) k l h e = (let g = given (d.held k) l t e in absurd (let x = h g.0 in let n = g.1 in cc))

held_owner : (image : Shown) (t : ℕ) (d : Thread) (a : Option Act) (k : ℕ) (l : Mutex) → (d.held k ≡ true → l.owner ≡ Some t) → (thread_after d a).held k ≡ true → (mutex_after image t d.held a k l).owner ≡ Some t
held_owner image t d None k l h e = absurd (cc)
held_owner image t d (Some (Next regs put)) k l h e = guard_owner image put k l ∙ h e
held_owner image t d (Some (Called (Lock lock) regs)) k l h e = elim (eqb_tells k lock) [ inl x ↦ rw x.0 refl | inr x ↦ (let s = (rw x.0 at e) in rw x.0 (h s)) ]
held_owner image t d (Some (Called (Unlock lock) regs)) k l h e = elim (eqb_tells k lock) [ inl x ↦ absurd (let s : false ≡ true = (rw x.0 at e) in cc) | inr x ↦ (let s = (rw x.0 at e) in rw x.0 (h s)) ]
held_owner image t d (Some (Called (Sleep n) regs)) k l h e = h e
held_owner image t d (Some (Called Exit regs)) k l h e = absurd (cc)
held_owner image t d (Some (Faulted f)) k l h e = absurd (cc)

-- a lock that the turn takes has no owner before it
pub open_none : (o : Option ℕ) (locks : ℕ → Mutex) (k : ℕ) → is_open o locks ≡ true → o ≡ Some k → (locks k).owner ≡ None
open_none o locks k is e = free (locks k).owner (ap (λ x. is_open x locks) (sym e) ∙ is)
  where
    free : (x : Option ℕ) → is_free x ≡ true → x ≡ None
    free None h = refl
    free (Some u) h = absurd (cc)

-- a turn that is defined is one of a thread
pub can_thread : (image : Shown) (m : State) (t : ℕ) → can_turn image m t ≡ true → t < length image.entries
unfolding can_turn
can_thread image m t e = (let test : nat_lt t (length image.entries) ≡ true = (and_parts _ _ e).0 in grind (arith, nat_tests))

pub can_open : (image : Shown) (m : State) (t : ℕ) → can_turn image m t ≡ true → is_open (next_lock image (m.threads t)) m.locks ≡ true
unfolding can_turn
can_open image m t e = (and_parts _ _ (and_parts _ _ e).1).1

-- a lock that another thread owns isn't touched
others_lock : (image : Shown) (m : State) (t u k : ℕ) → IsHeldByOwner m → can_turn image m t ≡ true → u ≢ t → (m.locks k).owner ≡ Some u → (after image m t).locks k ≡ m.locks k
others_lock image m t u k inv can ne e =
    let set : ℕ → Bool = λ j. not (j == k) in
    let covers : Covers image set (m.threads t) = record {
      held = λ j h. elim (eqb_tells j k) [
        | inl x ↦ absurd (let o = (inv t j).0 h in let s : Some t ≡ Some u = sym o ∙ ap (λ i. (m.locks i).owner) x.1 ∙ e in ne cc)
        | inr x ↦ ap not x.0
      ];
      next = λ j h. elim (eqb_tells j k) [
        | inl x ↦ absurd (let o = open_none (next_lock image (m.threads t)) m.locks j (can_open image m t can) h in let s : None ≡ Some u = sym o ∙ ap (λ i. (m.locks i).owner) x.1 ∙ e in cc)
        | inr x ↦ ap not x.0
      ];
    } in
    (turn_apart image m t set covers).locks k (elim (eqb_tells k k) [ inl x ↦ ap not x.0 | inr x ↦ absurd (x.1 refl) ])

owner_other : (image : Shown) (t u : ℕ) (d : Thread) (a : Option Act) (k : ℕ) (l : Mutex) → u ≢ t → (mutex_after image t d.held a k l).owner ≡ Some u → l.owner ≡ Some u
owner_other image t u d None k l ne e = (given (d.held k) l u e).0
owner_other image t u d (Some (Next regs put)) k l ne e = sym (guard_owner image put k l) ∙ e
owner_other image t u d (Some (Called (Lock lock) regs)) k l ne e = elim (eqb_tells k lock) [ inl x ↦ absurd (let s : Some t ≡ Some u = (rw x.0 at e) in let f : t ≡ u = cc in ne (sym f)) | inr x ↦ (rw x.0 at e) ]
owner_other image t u d (Some (Called (Unlock lock) regs)) k l ne e = elim (eqb_tells k lock) [ inl x ↦ absurd (let s : None ≡ Some u = (rw x.0 at e) in cc) | inr x ↦ (rw x.0 at e) ]
owner_other image t u d (Some (Called (Sleep n) regs)) k l ne e = e
owner_other image t u d (Some (Called Exit regs)) k l ne e = (given (d.held k) l u e).0
owner_other image t u d (Some (Faulted f)) k l ne e = (given (d.held k) l u e).0

pub holds_after : (image : Shown) (m : State) (t : ℕ) → can_turn image m t ≡ true → IsHeldByOwner m → IsHeldByOwner (after image m t)
holds_after image m t can inv u k =
    let d = m.threads t in
    let a = next_act image d m.locks in
    let lock = after_mutex image m t k in
    elim (eqb_tells u t) [
      | inl x ↦ subst (λ v. ((after image m t).threads v).held k ≡ true ↔ ((after image m t).locks k).owner ≡ Some v) (sym x.1) (
        (λ h. ap (λ (l : Mutex). l.owner) lock ∙ held_owner image t d a k (m.locks k) (inv t k).0 (ap (λ (y : Thread). y.held k) (sym (after_thread image m t)) ∙ h)),
        (λ e. ap (λ (y : Thread). y.held k) (after_thread image m t) ∙ owner_held image t d a k (m.locks k) (inv t k).1 (ap (λ (l : Mutex). l.owner) (sym lock) ∙ e)),
      )
      | inr x ↦
          (let same : (after image m t).threads u ≡ m.threads u = (turn_apart image m t (locks_of_block d.held (next_lock image d)) (covers_block image d)).threads u x.1 in (
            (λ h. (let o = (inv u k).0 (ap (λ (y : Thread). y.held k) (sym same) ∙ h) in ap (λ (l : Mutex). l.owner) (others_lock image m t u k inv can x.1 o) ∙ o)),
            (λ e. ap (λ (y : Thread). y.held k) same ∙ (inv u k).1 (owner_other image t u d a k (m.locks k) x.1 (ap (λ (l : Mutex). l.owner) (sym lock) ∙ e))),
          ))
    ]

-- so it is after any number of a thread's turns
pub holds_reach : (image : Shown) (m : State) (t n : ℕ) → ((k : ℕ) → k < n → can_turn image (reach image m t k) t ≡ true) → IsHeldByOwner m → IsHeldByOwner (reach image m t n)
holds_reach image m t zero can inv = inv
holds_reach image m t (suc n) can inv = holds_after image (reach image m t n) t (can n (omega arith)) (holds_reach image m t n (λ k lt. can k (omega arith)) inv)

turn_some : (image : Shown) (m n : State) (t : ℕ) → turn image m t ≡ Some n → (can_turn image m t ≡ true) × (n ≡ after image m t)
unfolding turn
turn_some image m n t = elim (can_turn image m t) as (λ b. (if b then Some (after image m t) else None) ≡ Some n → (b ≡ true) × (n ≡ after image m t)) [
  | true ↦ λ e. (refl, cc)
  | false ↦ λ e. absurd (cc)
]

pub holds_turns : (image : Shown) (ts : List ℕ) (m last : State) → IsHeldByOwner m → turns image m ts ≡ Some last → IsHeldByOwner last
holds_turns image [] m last inv e = subst (λ x. IsHeldByOwner x) (let s : m ≡ last = cc in s) inv
holds_turns image (t ∷ ts) m last inv e = step (turn image m t) refl e (λ n i f. holds_turns image ts n last i f)
  where
    step : (o : Option State) → turn image m t ≡ o → option_and_then (λ n. turns image n ts) o ≡ Some last → ((n : State) → IsHeldByOwner n → turns image n ts ≡ Some last → IsHeldByOwner last) → IsHeldByOwner last
    step None h f rec = absurd (cc)
    step (Some n) h f rec = (let s = turn_some image m n t h in rec n (subst (λ x. IsHeldByOwner x) (sym s.1) (holds_after image m t s.0 inv)) f)

started : (image : Shown) (fuel t k : ℕ) → ((start image fuel).threads t).held k ≡ false
started image fuel t k = elim (nat_lt t (length image.entries)) as (λ b. (if b then thread_at_start image fuel t else no_thread).held k ≡ false) [ true ↦ refl | false ↦ refl ]

pub holds_start : (image : Shown) (fuel : ℕ) → IsHeldByOwner (start image fuel)
holds_start image fuel t k = ((λ h. absurd (let f = started image fuel t k in cc)), (λ h. absurd (cc)))
