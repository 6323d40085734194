-- Each step of a pass on the table is an operation that may come there.
use Rattle.std.proofs.Common.{◌≡◌, ℕ, ◌+◌, ◌%◌, ◌^◌, ◌<◌, ◌==◌, true, false, List, [], ◌∷◌, length, set, sym, refl, ap, ◌∙◌, subst, arith, Option, Some, None, slice_index}
use Rattle.tc_hall.proofs.Vocabulary.{CLOCK, Cargo, DidSeal, Hall, HasLock, IsAsLeft, IsClaimable, IsFree, IsInRange, IsOrdered, IsPackageAfter, IsSlotOut, IsStateAfter, Joins, KeptHall, Knows, Lock, LockView, Look, MayFree, MayPut, Package, PackageView, Place, STOP, Sat, Seals, Splits, Stop, Stopped, HallTerms, after_claim, after_free, after_miss, after_put}
use Rattle.tc_hall.proofs.Vocabulary.{after_seal, after_take, claim, code_of, commit, dealt, free, fresh, get_elem?, gives, gone, has, join, keeps, kept, lay, locks, look, merged, miss, none, of_lock, of_package, place_of, put, reach, sealed_block, slot_word, some, split, stepped, stop, stopped, take, takes, threads, with_call, with_seal}
use prog.Atomic.{either}
use Rattle.atomic_table.specs.Table.{step, Act, Valid, carried_after, Allows}
use Rattle.atomic_table.proofs.Lists.{set_here, set_else, exchanged}
use Rattle.tc_hall.specs.Steps.{Got, Took, claimed, laid, reached, took_as, put_as, did_free, looked, stopping, saw_stopped, sealed_as}
use Rattle.tc_hall.specs.Standing.{IfLined, ClaimsAs, FreesAs, PutsAs, SealsAs, TakesAs}
use Rattle.tc_hall.proofs.Outs.{lock_came, called_taken}
use Rattle.tc_hall.proofs.Moves.{home_of, is_out, taken, gets}
use Rattle.tc_hall.proofs.Cases.{clash, home_out}
use Rattle.tc_hall.proofs.Telling.{place_codes, filled, as_left}
use Rattle.tc_hall.proofs.Left.{left_home, left_state}
use Rattle.tc_hall.proofs.Sealing.{did_seal}
use Rattle.tc_hall.proofs.Taking.{lock_home_of, is_lock_out}
use Rattle.tc_hall.proofs.Ordering.{claimable_low, kept_of, next}
use Rattle.tc_hall.proofs.Holding.{first_value}
use Rattle.tc_lemmas.proofs.Lists.{something_at}

terms_are : (a b : HallTerms) → Some a ≡ Some b → a ≡ b
terms_are a b e = cc e

module _ (k : HallTerms) where
  -- ---- claim, and the slot of a package

  abbrev pub Claims : Option HallTerms → ℕ → ℕ → ℕ → ℕ → ℕ → Knows → List (ℕ × Option Cargo) → Type 0
  Claims o slots id word code new v c = Allows (IsOrdered k) slots id (v, c) word (λ x. either (x == code) new x) (claimed o (step slots word code new none) (v, c))

  pub claims : (slots id t code new : ℕ) (v : Knows) (c : List (ℕ × Option Cargo)) → c ≡ [] → IsClaimable k code → new ≡ 512 + v.worker → t < threads k → v.spent ≡ false → v.open_slot ≡ None → IfLined k v (ClaimsAs v t (place_of code)) → Claims (Some k) slots id (slot_word t) code new v c
  claims slots id t code new v c empty can new_is below live idle stands = subst (Claims (Some k) slots id (slot_word t) code new v) (sym empty) (λ s d deep at small.
      let r : KeptHall k s = kept_of k s d in
      let low = (claimable_low k code r.told.limits.locks can).0 in
      let found : ℕ = slice_index s.words (slot_word t) in
      let place = something_at r.told.places t (omega (arith, r.told.law.all_packages)) in
      let F : ℕ → Type 0 = λ x. (w : Knows) × (a : Act (Option Cargo)) × Valid s.homes [] a × IsOrdered k (stepped s (slot_word t) x id [] w a) × claimed (Some k) (step slots (slot_word t) code new none) (v, []) found (w, carried_after [] a) in
      exchanged found code new F
      (λ hit. let lies = home_of s.words s.homes s.views t place.0 (r.placed.holder t) (r.placed.each t place.0 place.1) (omega arith) in
      let h = lies.1 in
      let after : IsPackageAfter k.image.value k.fuel r.told.history t place.0 = r.told.law.packages_after t place.0 place.1 in
      let thread : h.context.context.thread ≡ t = ap (λ (z : PackageView). z.context.thread) h.same ∙ after.follows.number in (
        taken k v t code h.context,
        takes t (Some (Package h.context)),
        h.slot,
        subst (λ (z : ℕ). IsOrdered k (stepped s (slot_word t) z id [] (taken k v t code h.context) (takes t (Some (Package h.context))))) (sym new_is)
            (next k s d id v (claim t code h.context) at live record { free = idle; below = below; can = can; found = hit; slot = h.slot; stands = stands }),
        (
          (λ _ u e. subst (λ (z : ℕ × ℕ). Got (Some k) z.1 z.0 (v, []) (taken k v t z.1 h.context, (t, Some (Package h.context)) ∷ [])) (λ i. ((let x : t ≡ u = omega arith in x) i, hit i)) (
            h.context,
            after_claim v found h.context,
            gets k s r id t v place.0 h at live below place.1 lies.0 thread,
            refl,
            (λ j is. subst (λ (z : HallTerms). IsAsLeft z v h.context) (terms_are k j is) (left_home k s r id t v place.0 h at below place.1 thread)),
          )),
          (λ miss. absurd (miss hit)),
        ),
      ))
      (λ other. (after_miss v (slot_word t) found, keeps, tt, next k s d id v (miss (slot_word t) code found) at live (refl, other), ((λ hit _ _. absurd (other hit)), (λ _. refl)))))

  abbrev pub Lays : ℕ → ℕ → ℕ → Knows → List (ℕ × Option Cargo) → Type 0
  Lays slots id word v c = Allows (IsOrdered k) slots id (v, c) word (λ n. n) (laid (step slots word 0 0 none) (v, c))

  -- an empty slot of what the pass has out goes back
  pub lays : (slots id slot : ℕ) (v : Knows) (c : List (ℕ × Option Cargo)) → c ≡ (slot, None) ∷ [] → v.open_slot ≡ Some slot → v.spent ≡ false → IsSlotOut k v slot → Lays slots id (slot_word slot) v c
  lays slots id slot v c one open_slot live out' = subst (Lays slots id (slot_word slot) v) (sym one) (λ s d deep at small. (record v { open_slot = None }, gives, tt, next k s d id v (lay slot) at live (open_slot, out'), refl))

  abbrev pub Reaches : ℕ → ℕ → ℕ → Knows → List (ℕ × Option Cargo) → Type 0
  Reaches slots id word v c = Allows (IsOrdered k) slots id (v, c) word (λ n. n) (reached (step slots word 0 0 none) (v, c))

  slot_empty : (s : Hall) (r : KeptHall k s) (id : ℕ) (v : Knows) (slot : ℕ) → get_elem? s.views id ≡ some v → v.open_slot ≡ None → IsSlotOut k v slot → get_elem? s.homes slot ≡ some (some None)
  slot_empty s r id v slot at idle (of_package t p is has) = ap (get_elem? s.homes) is ∙ (is_out k s r id t v p at has).4 (λ e. clash v.open_slot t idle e)
  slot_empty s r id v slot at idle (of_lock i l is has) = ap (get_elem? s.homes) is ∙ (is_lock_out k s r id i v l at has).4 (λ e. clash v.open_slot (threads k + i) idle e)

  -- the pass takes an empty slot of what it has out
  pub reaches : (slots id slot : ℕ) (v : Knows) (c : List (ℕ × Option Cargo)) → c ≡ [] → v.open_slot ≡ None → v.spent ≡ false → IsSlotOut k v slot → Reaches slots id (slot_word slot) v c
  reaches slots id slot v c empty idle live out' = subst (Reaches slots id (slot_word slot) v) (sym empty) (λ s d deep at small. (
    record v { open_slot = Some slot },
    takes slot None,
    slot_empty s (kept_of k s d) id v slot at idle out',
    next k s d id v (reach slot) at live (idle, out'),
    (λ u e. ap (λ (z : ℕ). (record v { open_slot = Some z }, (z, None) ∷ [])) (let x : slot ≡ u = omega arith in x)),
  ))

  -- ---- put

  abbrev pub FillsAs : Option HallTerms → ℕ → ℕ → ℕ → ℕ → Knows → List (ℕ × Option Cargo) → Type 0
  FillsAs o slots id word code v c = Allows (IsOrdered k) slots id (v, c) word (λ _. code) (λ _. put_as o (step slots word code 0 none) (v, c) code)

  abbrev pub Fills : ℕ → ℕ → ℕ → ℕ → Knows → List (ℕ × Option Cargo) → Type 0
  Fills = FillsAs (Some k)

  -- so the step that fills it is allowed
  pub fills : (slots id : ℕ) (place : Place) (v : Knows) (q : PackageView) (c : List (ℕ × Option Cargo)) → c ≡ (q.context.thread, Some (Package q)) ∷ [] → v.open_slot ≡ Some q.context.thread → v.spent ≡ false → IsInRange (locks k) place → MayPut place v q
      → IfLined k v (PutsAs v q place) → Fills slots id (slot_word q.context.thread) (code_of place) v c
  fills slots id place v q c one open_slot live range may stands = subst (Fills slots id (slot_word q.context.thread) (code_of place) v) (sym one) (λ s d deep at small. (
    record (after_put v q (place_of (code_of place))) { open_slot = None },
    gives,
    tt,
    subst (λ (z : Place). IsOrdered k (stepped s (slot_word q.context.thread) (code_of place) id ((q.context.thread, Some (Package q)) ∷ []) (record (after_put v q z) { open_slot = None }) gives)) (sym (place_codes place))
        (next k s d id v (put q place) at live record { open_slot = open_slot; range = range; may = may; stands = stands }),
    (λ u x e. let cargo : Some (Package q) ≡ Some (Package x) = ap first_value e in
        let same : q ≡ x = cc cargo in (
          ap (filled v (place_of (code_of place))) same,
          (λ j is. subst (λ (z : HallTerms × PackageView). IsAsLeft z.0 v z.1) (λ i. (terms_are k j is i, same i)) (as_left k s (kept_of k s d) id place v q at may)),
        )),
  ))

  -- ---- look, stop, stopped

  abbrev pub Looks : ℕ → ℕ → ℕ → Knows → List (ℕ × Option Cargo) → Type 0
  Looks slots id word v c = Allows (IsOrdered k) slots id (v, c) word (λ n. n) (looked (step slots word 0 0 none) (v, c))

  pub looks : (slots id t : ℕ) (v : Knows) (c : List (ℕ × Option Cargo)) → c ≡ [] → t < threads k → v.spent ≡ false → Looks slots id (slot_word t) v c
  looks slots id t v c empty below live = subst (Looks slots id (slot_word t) v) (sym empty) (λ s d deep at small. (
    with_call v (Look t (slice_index s.words (slot_word t))),
    keeps,
    tt,
    next k s d id v (look t (slice_index s.words (slot_word t))) at live (below, refl),
    (λ u e. ap (λ (z : ℕ). (with_call v (Look z (slice_index s.words (slot_word t))), [])) (let x : t ≡ u = omega arith in x)),
  ))

  abbrev pub Stops : ℕ → ℕ → Knows → List (ℕ × Option Cargo) → Type 0
  Stops slots id v c = Allows (IsOrdered k) slots id (v, c) STOP (λ _. 1) (λ _. stopping (step slots STOP 1 0 none) (v, c) 1)

  pub stops : (slots id : ℕ) (v : Knows) (c : List (ℕ × Option Cargo)) → c ≡ [] → v.spent ≡ false → Stops slots id v c
  stops slots id v c empty live = subst (Stops slots id v) (sym empty) (λ s d deep at small. (with_call v Stop, keeps, tt, next k s d id v stop at live tt, refl))

  abbrev pub Sees : ℕ → ℕ → Knows → List (ℕ × Option Cargo) → Type 0
  Sees slots id v c = Allows (IsOrdered k) slots id (v, c) STOP (λ n. n) (saw_stopped (step slots STOP 0 0 none) (v, c))

  pub sees : (slots id : ℕ) (v : Knows) (c : List (ℕ × Option Cargo)) → c ≡ [] → v.spent ≡ false → Sees slots id v c
  sees slots id v c empty live = subst (Sees slots id v) (sym empty) (λ s d deep at small. (
    with_call v (Stopped (slice_index s.words STOP)),
    keeps,
    tt,
    next k s d id v (stopped (slice_index s.words STOP)) at live refl,
    (refl, (λ t e. ((kept_of k s d).passes id v at).pinned t e)),
  ))

  -- ---- take and free, and the slot of a lock

  abbrev pub TakesAll : Option HallTerms → ℕ → ℕ → ℕ → Knows → List (ℕ × Option Cargo) → Type 0
  TakesAll o slots id word v c = Allows (IsOrdered k) slots id (v, c) word (λ x. either (x == 0) 1 x) (took_as o (step slots word 0 1 none) (v, c))

  pub takes_lock : (slots id i : ℕ) (v : Knows) (c : List (ℕ × Option Cargo)) → c ≡ [] → i < locks k → v.spent ≡ false → v.open_slot ≡ None → IfLined k v (TakesAs v i) → TakesAll (Some k) slots id (slot_word (threads k + i)) v c
  takes_lock slots id i v c empty below live idle stands = subst (TakesAll (Some k) slots id (slot_word (threads k + i)) v) (sym empty) (λ s d deep at small.
      let r : KeptHall k s = kept_of k s d in
      let n : ℕ = threads k in
      let j : ℕ = slot_word (n + i) in
      let found : ℕ = slice_index s.words j in
      let place = something_at r.told.segments i (omega (arith, r.told.law.all_states)) in
      let F : ℕ → Type 0 = λ x. (w : Knows) × (a : Act (Option Cargo)) × Valid s.homes [] a × IsOrdered k (stepped s j x id [] w a) × took_as (Some k) (step slots j 0 1 none) (v, []) found (w, carried_after [] a) in
      exchanged found 0 1 F
      (λ hit. let lies = lock_home_of n s.words s.homes s.views i place.0 (r.locks_placed.spot i) (r.locks_placed.each i place.0 place.1) hit in
      let h = lies.1 in
      let l : LockView = h.segment in
      let after : IsStateAfter k.image.value k.fuel k.limit r.told.history i place.0 = r.told.law.states_after i place.0 place.1 in
      let number : l.number ≡ i = ap (λ (z : LockView). z.number) h.same ∙ after.follows.number in
      let taken : Knows = after_take v l in
      let w : Knows = record taken { open_slot = Some (n + i) } in
      let wide : length v.locks ≡ locks k = r.locks_placed.sized id v at live in
      let here : HasLock taken i (kept l) = subst (λ (z : ℕ). get_elem? (set v.locks z (Some (kept l))) i ≡ some (Some (kept l))) (sym number) (set_here v.locks i (Some (kept l)) (omega arith)) in (
        w,
        takes (n + i) (Some (Lock l)),
        h.slot,
        next k s d id v (take i l) at live record { free = idle; below = below; word = hit; slot = h.slot; stands = stands },
        (
          (λ _ k' u slot is at' e. let same : k ≡ k' = terms_are k k' is in let wide' : threads k ≡ threads k' = ap threads same in let number' : i ≡ u = omega arith in let slot' : n + i ≡ slot = omega arith in
              subst (λ (z : HallTerms × ℕ × ℕ). Took z.0 z.1 z.2 (v, []) (w, (n + i, Some (Lock l)) ∷ [])) (λ y. (same y, number' y, slot' y)) (
                l,
                taken,
                record {
                  now = refl;
                  rest = record {
                    number = number;
                    of = ap (λ (z : LockView). z.journal.image) h.same ∙ (after.follows.of ∙ sym ((r.passes id v at).of live));
                    opened = ap (λ (z : LockView). z.journal.opened) h.same ∙ after.opened;
                    closed = ap (λ (z : LockView). z.journal.closed) h.same ∙ after.closed;
                    ended = h.rests;
                  };
                  came = lock_came v l (subst (λ (z : ℕ). HasLock taken z (kept l)) (sym number) here) (λ x has. home_out (r.locks_placed.spot l.number) id (ap r.locks_placed.spot number ∙ lies.0) (r.locks_placed.owned id v l.number x at has).0);
                  called = called_taken v l;
                },
                refl,
                left_state k s r id i v place.0 h at place.1,
              )),
          (λ miss. absurd (miss hit)),
        ),
      ))
      (λ other. (after_miss v j found, keeps, tt, next k s d id v (miss j 0 found) at live (refl, other), ((λ hit _ _ _ _ _ _. absurd (other hit)), (λ _. refl)))))

  abbrev pub FreesAll : ℕ → ℕ → ℕ → Knows → List (ℕ × Option Cargo) → Type 0
  FreesAll slots id word v c = Allows (IsOrdered k) slots id (v, c) word (λ _. 0) (λ _. did_free (step slots word 0 0 none) (v, c) 0)

  -- so the step that fills it is allowed
  pub frees : (slots id : ℕ) (v : Knows) (l : LockView) (c : List (ℕ × Option Cargo)) → c ≡ (threads k + l.number, Some (Lock l)) ∷ [] → v.open_slot ≡ Some (threads k + l.number) → v.spent ≡ false → MayFree v l → IfLined k v (FreesAs v l.number)
      → FreesAll slots id (slot_word (threads k + l.number)) v c
  frees slots id v l c one open_slot live may stands = subst (FreesAll slots id (slot_word (threads k + l.number)) v) (sym one) (λ s d deep at small. (
    record (after_free v l) { open_slot = None },
    gives,
    tt,
    next k s d id v (free l) at live (open_slot, may, stands),
    (λ slot x e. let cargo : Some (Lock l) ≡ Some (Lock x) = ap first_value e in let same : l ≡ x = cc cargo in ap (freed v) same),
  ))
    where
      freed : Knows → LockView → Sat
      freed v l = (record (after_free v l) { open_slot = None }, [])

  -- ---- passes that are made and joined

  pub splits : (id : ℕ) (v : Knows) → v.spent ≡ false → v.maker ≡ true → v.made < v.worker → Splits (IsOrdered k) id v (dealt v) (fresh v)
  splits id v live makes room s d at = next k s d id v split at live (makes, room)

  pub merges : (id : ℕ) (v : Knows) (other : ℕ) (w : Knows) → v.spent ≡ false → w.spent ≡ false → IsFree w → (k.lined ≡ true → IsFree v) → Joins (IsOrdered k) id v other w (merged v w) gone
  merges id v other w live lives clear both s d at ne there' = next k s d id v (join other w) at live (sym (set_else s.views id other (merged v w) ne) ∙ there', lives, ne, clear, both)

-- ---- commit

abbrev pub SealsAll : HallTerms → ℕ → ℕ → Knows → Option PackageView → List (ℕ × Option Cargo) → Type 0
SealsAll k slots id v o c = Allows (IsOrdered k) slots id (v, c) CLOCK (λ n. (n + 1) % 2 ^ 64) (sealed_as o (step slots CLOCK 1 0 none) (v, c))

pub seals : (k : HallTerms) (slots id : ℕ) (v : Knows) (q : PackageView) (c : List (ℕ × Option Cargo)) → c ≡ [] → v.spent ≡ false → (a : Seals v q) → IfLined k v (SealsAs v a.ran.block) → SealsAll k slots id v (Some q) c
seals k slots id v q c empty live a stands = subst (SealsAll k slots id v (Some q)) (sym empty) (λ s d deep at small. (
  after_seal v (sealed_block (slice_index s.words CLOCK) v.worker a.ran.block) (with_seal (slice_index s.words CLOCK) v.worker q),
  keeps,
  tt,
  next k s d id v (commit (slice_index s.words CLOCK) a.ran.block q) at live (refl, a, refl, stands),
  (λ p is. (let same : q ≡ p = cc is in subst (λ z. DidSeal z (slice_index s.words CLOCK) v (after_seal v (sealed_block (slice_index s.words CLOCK) v.worker a.ran.block) (with_seal (slice_index s.words CLOCK) v.worker q))) same (did_seal k s (kept_of k s d) id v q a live at), refl)),
))
