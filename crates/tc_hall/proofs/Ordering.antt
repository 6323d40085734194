-- Each operation keeps what holds between any two steps, so it holds after every order of them.
use Rattle.std.proofs.Common.{◌≡◌, ◌≢◌, ℕ, ◌+◌, ◌<◌, ◌≤◌, false, List, [], ◌∷◌, sym, refl, ap, ◌∙◌, subst, ⊎_elim, arith, Option, Some, None, slice_index}
use Rattle.tc_hall.proofs.Vocabulary.{AreStocked, Block, CLOCK, Cargo, Hall, IsClaimable, IsInLimits, IsLegal, IsOpening, IsOrdered, IsSlotOut, KeptHall, Knows, LockView, MAX_GUARDS, Made, MayClaim, MayDo, MayFill, Operation, Package, PackageView, Place, Seals, HallTerms, after, after_operation, after_put, claim, claim_effect, code_of, commit, commit_effect, free, get_elem?, gives}
use Rattle.tc_hall.proofs.Vocabulary.{hall_after, join, lay, line, line_word, locks, look, look_effect, miss, miss_effect, of_lock, of_package, opening, put, put_effect, reach, slot_word, some, split, starting, stepped, stop, stopped, stopped_effect, take, take_effect, threads, words_of}
use Rattle.std.specs.Prelude.{replicate}
use Rattle.atomic_table.proofs.Lists.{set_else}
use Rattle.tc_hall.specs.Effects.{reach_effect, lay_effect}
use Rattle.tc_hall.specs.Order.{MayTake, MayCome}
use Rattle.tc_hall.proofs.Moves.{at_home_of, takes_home, misses, lay_kept, reach_kept}
use Rattle.tc_hall.proofs.Telling.{place_codes, fills_kept, look_kept, line_kept, stop_kept, see_kept}
use Rattle.tc_hall.proofs.Words.{line_behind}
use Rattle.tc_hall.proofs.Sealing.{seals_kept}
use Rattle.tc_hall.proofs.Taking.{lock_at_home, take_kept, free_kept, lay_lock_kept, reach_lock_kept}
use Rattle.tc_hall.proofs.Making.{deals, joins}
use Rattle.tc_hall.proofs.Opening.{opens}

-- a thread that may be claimed is not done, and with no pass
pub claimable_low : (k : HallTerms) (word : ℕ) → locks k ≤ MAX_GUARDS → IsClaimable k word → (word < 512) × (word ≢ 2)
claimable_low k word few can = ⊎_elim (λ (z : word ≡ 0). (omega arith, (λ e. omega arith)))
    (λ o. ⊎_elim (λ (z : word ≡ 1). (omega arith, (λ e. omega arith))) (λ (z : (i : ℕ) × (i < locks k) × (word ≡ 256 + i)). waits z.0 z.1 z.2) o) can
  where
    waits : (i : ℕ) → i < locks k → word ≡ 256 + i → (word < 512) × (word ≢ 2)
    waits i below is = (omega arith, (λ e. omega arith))

module _ (k : HallTerms) (s : Hall) (r : KeptHall k s) (id : ℕ) (v : Knows) (at : get_elem? s.views id ≡ some v) (live : v.spent ≡ false) where
  pub claim_after : (t word : ℕ) (q : PackageView) → MayClaim k s v t word q → KeptHall k (after s id (claim_effect v t word q))
  claim_after t word q a =
      let can = claimable_low k (slice_index s.words (slot_word t)) r.told.limits.locks (subst (IsClaimable k) (sym a.found) a.can) in
      let h = at_home_of k s r t q a.below can.0 a.slot in
      subst (λ (z : PackageView). KeptHall k (after s id (claim_effect v t word z))) h.same
      (takes_home k s r id t word (512 + v.worker) v h.stands h.home at live a.free a.below refl can.1 h.placed h.holder h.thread)

  pub take_after : (i : ℕ) (l : LockView) → MayTake k s v i l → KeptHall k (after s id (take_effect (threads k) v i l))
  take_after i l a =
      let h = lock_at_home k s r i l a.below a.word a.slot in
      subst (λ (z : LockView). KeptHall k (after s id (take_effect (threads k) v i z))) h.same
      (take_kept k s r id i v h.stands h.lies at live a.free a.below a.word h.spot h.placed h.number)

  pub put_after : (q : PackageView) (place : Place) → MayFill k v q place → KeptHall k (after s id (put_effect v q place))
  put_after q place a =
      subst (λ (z : Place). KeptHall k (stepped s (slot_word q.context.thread) (code_of place) id ((q.context.thread, Some (Package q)) ∷ []) (record (after_put v q z) { open_slot = None }) gives)) (place_codes place)
      (fills_kept k s r id place v q at a.open_slot live a.range a.may)

  commit_after : (b : Block) (q : PackageView) (a : Seals v q) → a.ran.block ≡ b → KeptHall k (after s id (commit_effect v (slice_index s.words CLOCK) b q))
  commit_after b q a is = subst (λ (z : Block). KeptHall k (after s id (commit_effect v (slice_index s.words CLOCK) z q))) is (seals_kept k s r id v q a live at)

  reach_after : (slot : ℕ) → v.open_slot ≡ None → IsSlotOut k v slot → KeptHall k (after s id (reach_effect v slot (slice_index s.words (slot_word slot))))
  reach_after slot idle (of_package t p is has) = subst (λ (z : ℕ). KeptHall k (after s id (reach_effect v z (slice_index s.words (slot_word z))))) (sym is) (reach_kept k s r id t v p at live idle has)
  reach_after slot idle (of_lock i l is has) = subst (λ (z : ℕ). KeptHall k (after s id (reach_effect v z (slice_index s.words (slot_word z))))) (sym is) (reach_lock_kept k s r id i v l at live idle has)

  lay_after : (slot : ℕ) → v.open_slot ≡ Some slot → IsSlotOut k v slot → KeptHall k (after s id (lay_effect v slot (slice_index s.words (slot_word slot))))
  lay_after slot held (of_package t p is has) = subst (λ (z : ℕ). KeptHall k (after s id (lay_effect v z (slice_index s.words (slot_word z))))) (sym is) (lay_kept k s r id t v p at live (held ∙ ap (λ (z : ℕ). Some z) is) has)
  lay_after slot held (of_lock i l is has) = subst (λ (z : ℕ). KeptHall k (after s id (lay_effect v z (slice_index s.words (slot_word z))))) (sym is) (lay_lock_kept k s r id i v l at live (held ∙ ap (λ (z : ℕ). Some z) is) has)

  pub kept_after : (o : Operation) → MayDo k s id v o → KeptHall k (after_operation k s id v o)
  kept_after (claim t word q) may = claim_after t word q may
  kept_after (take i l) may = take_after i l may
  kept_after (miss word wanted found) may = subst (λ (z : ℕ). KeptHall k (after s id (miss_effect v word z))) may.0 (misses k s word id v at live r)
  kept_after (commit stamp b q) may = subst (λ (z : ℕ). KeptHall k (after s id (commit_effect v z b q))) may.0 (commit_after b q may.1 may.2)
  kept_after (put q place) may = put_after q place may
  kept_after (free l) may = free_kept k s r id v l at may.0 live may.1
  kept_after (look t found) may = subst (λ (z : ℕ). KeptHall k (after s id (look_effect v t z))) may.1 (look_kept k s r id t v at live)
  kept_after stop may = stop_kept k s r id v at live
  kept_after (stopped found) may = subst (λ (z : ℕ). KeptHall k (after s id (stopped_effect v z))) may (see_kept k s r id v at live)
  kept_after (line i c) may = line_kept k s r id i (line_word k i c) _ v c at live (line_behind k i c)
  kept_after (reach slot) may = reach_after slot may.0 may.1
  kept_after (lay slot) may = lay_after slot may.0 may.1
  kept_after split may = deals k id v live may.0 may.1 s r at
  kept_after (join other w) may = joins k id v other w live may.1 may.3 s r at may.2 (set_else s.views id other _ may.2 ∙ may.0)

module _ (k : HallTerms) where
  -- what holds at the opening holds after each legal order
  pub kept_by : (first : Hall) → IsOpening k first → (order : List Made) → IsLegal k first order → KeptHall k (hall_after k first order)
  kept_by first begins [] legal = subst (KeptHall k) (sym begins.is) (opens k _ begins.slots begins.limits begins.stocked refl)
  kept_by first begins (m ∷ before) legal =
      let may : MayCome k (hall_after k first before) m = legal.0 in
      kept_after k (hall_after k first before) (kept_by first begins before legal.1) m.pass m.knew may.pass may.live m.operation may.may

  pub kept_of : (s : Hall) → IsOrdered k s → KeptHall k s
  kept_of s d = subst (KeptHall k) (sym d.is) (kept_by d.first d.opens d.order d.legal)

  -- one operation more
  pub next : (s : Hall) (d : IsOrdered k s) (id : ℕ) (v : Knows) (o : Operation) → get_elem? s.views id ≡ some v → v.spent ≡ false → MayDo k s id v o → IsOrdered k (after_operation k s id v o)
  next s d id v o at live may =
      let m : Made = record { pass = id; knew = v; operation = o } in
      record {
        first = d.first;
        opens = d.opens;
        order = m ∷ d.order;
        legal = (subst (λ (z : Hall). MayCome k z m) d.is record { pass = at; live = live; may = may }, d.legal);
        is = ap (λ (z : Hall). after_operation k z id v o) d.is;
      }

  -- a new hall
  pub opens_order : (ws : List ℕ) (slots : List (Option Cargo)) → IsInLimits k → AreStocked k.image.value (threads k) (locks k) k.fuel k.limit slots → ws ≡ replicate (words_of k) 0 → IsOrdered k (opening ws slots (starting k))
  opens_order ws slots limits ready zeros = record {
    first = opening ws slots (starting k);
    opens = record { limits = limits; slots = slots; stocked = ready; is = ap (λ (l : List ℕ). opening l slots (starting k)) zeros };
    order = [];
    legal = tt;
    is = refl;
  }
