-- The packages and lock states of a hall that was closed.
use Rattle.std.proofs.Common.{◌≡◌, ◌≢◌, ℕ, ◌+◌, ◌<◌, Bool, false, List, [], ◌∷◌, ◌++◌, length, map, get_or, set, sym, ap, ◌∙◌, subst, ⊎_elim, arith, Option, Some, None, length-append, get_or-set_other, get_or-set_same}
use Rattle.tc_hall.proofs.Vocabulary.{AreTaken, Cargo, HasAll, HasSeenAll, IsEmptied, IsEnd, IsFree, IsLockHome, IsOrdered, KeptHall, Knows, Lawful, LiesLock, Lock, LockView, Package, PackageView, Spot, HallTerms, bare, get_elem?, home, inside, is_running, kept, length-map, locked_in, locks, out, some, some-injective, some-ne-none, threads}
use mathlib.Core.Logic.{dite}
use mathlib.Core.Option as maybe
use native.Mathlib.Decide.{ℕ_discrete}
use Rattle.atomic_table.specs.Table.{State, Final, Seen}
use Rattle.atomic_table.proofs.Lists.{at_map}
use Rattle.std.specs.Mem.Slots.Ownership.{Filled}
use Rattle.tc_mutex_spec.proofs.ListLaws.{there}
use Rattle.tc_hall.proofs.OneOrder.{same_list, unstopped_by, written}
use Rattle.tc_hall.proofs.Ordering.{kept_of}
use Rattle.tc_hall.proofs.Parts.{parts}
use Rattle.tc_hall.specs.Steps.{IsPackage, IsLock}
use Rattle.tc_hall.proofs.Moves.{home_of}
use Rattle.tc_hall.proofs.Cases.{clash, same_package}
use Rattle.tc_hall.proofs.Taking.{has_live}
use Rattle.tc_lemmas.proofs.Lists.{at_end, something_at}

module _ {A : Type 0} (wrap : A → Cargo) (off : ℕ) (slots : List (Option Cargo)) where
  pub taken_none : (qs : List A) → qs ≡ [] → AreTaken wrap off 0 slots qs
  taken_none qs e = record { count = ap (λ (l : List A). length l) e; each = λ t q h. absurd (some-ne-none q (sym (ap (λ (l : List A). get_elem? l t) (sym e) ∙ h))) }

  pub taken_more : (n : ℕ) (qs rs : List A) (q : A) → AreTaken wrap off n slots qs → rs ≡ qs ++ q ∷ [] → get_elem? slots (off + n) ≡ some (Some (wrap q)) → AreTaken wrap off (n + 1) slots rs
  taken_more n qs rs q all is at = subst (AreTaken wrap off (n + 1) slots) (sym is) record {
    count = let l = length-append qs (q ∷ []) in let c = all.count in omega arith;
    each = λ t r e. ⊎_elim (λ (o : get_elem? qs t ≡ some r). all.each t r o)
        (λ (o : (t ≡ length qs) × (q ≡ r)). subst (λ (z : ℕ × A). get_elem? slots (off + z.0) ≡ some (Some (wrap z.1))) (λ i. (sym (o.0 ∙ all.count) i, o.1 i)) at) (at_end qs q r t e);
  }

pub emptied_more : (n all : ℕ) (filled : List Bool) → IsEmptied n all filled → n < length filled → IsEmptied (n + 1) all (set filled n false)
emptied_more n all filled old h = record {
  empty = λ t b. dite (ℕ_discrete t n) (λ (e : t ≡ n). ap (λ (z : ℕ). get_or (set filled n false) z false) e ∙ get_or-set_same filled n false false h) (λ (ne : t ≢ n). get_or-set_other filled n t false false ne ∙ old.empty t (omega arith));
  full = λ t b c. get_or-set_other filled n t false false (λ e. omega arith) ∙ old.full t (omega arith) c;
}

pub full_emptied : (all : ℕ) (filled : List Bool) → Filled filled 0 all → IsEmptied 0 all filled
full_emptied all filled f = record { empty = λ t b. absurd (omega arith); full = λ t a b. f t a b }

-- all is in the slots: each thread was seen done, every other pass was joined, and the last has nothing out
module _ (k : HallTerms) (id : ℕ) (v : Knows) (ws : List ℕ) (xs : List (Option Cargo)) (final : Final (Seen (IsOrdered k) id v) ws xs) (live : v.spent ≡ false) (seen : HasSeenAll (threads k) v) (all : HasAll k.workers v) (free : IsFree v) where
  abbrev s : State (Option Cargo) Knows
  s = final.0

  rule : KeptHall k s
  rule = kept_of k s final.1.0

  record InSlot (t : ℕ) (p : PackageView) : Type 0 where
    pub context : PackageView
    pub at : get_elem? xs t ≡ some (Some (Package context))
    pub home : get_elem? s.homes t ≡ some (some (Some (Package context)))
    pub same : bare context ≡ p
    pub ended : (is_running context.context.guest.status ≡ false) × ((i : ℕ) → locked_in context i ≡ None)

  in_slot : (t : ℕ) (p : PackageView) → get_elem? rule.told.places t ≡ some p → InSlot t p
  in_slot t p e =
      let below : t < threads k = omega (arith, (there rule.told.places t p p e).0, rule.told.law.all_packages) in
      let saw = seen t below in
      let two = (rule.passes id v final.1.1).done saw.0 t below saw.1 in
      let h = (home_of s.words s.homes s.views t p (rule.placed.holder t) (rule.placed.each t p e) (omega arith)).1 in
      record { context = h.context; at = final.4 t (Some (Package h.context)) h.slot; home = h.slot; same = h.same; ended = h.order.ended two }

  lock_home : (i : ℕ) (l : LockView) → get_elem? rule.told.segments i ≡ some l → (o : Spot) → LiesLock (threads k) s.words s.homes s.views i l o → IsLockHome (threads k) s.words s.homes i l
  lock_home i l e home o = o
  lock_home i l e (inside t) o =
      let p = something_at rule.told.places t (let b = o.below in omega (arith, rule.told.law.all_packages)) in
      let h = in_slot t p.0 p.1 in
      let same : h.context ≡ o.context = same_package (get_elem? s.homes t) h.context o.context h.home o.slot in
      absurd (clash (locked_in o.context i) o.segment (ap (λ (z : PackageView). locked_in z i) (sym same) ∙ h.ended.1 i) o.has)
  lock_home i l e (out j) o =
      let is = has_live k s rule j i o.view l o.pass o.has in
      ⊎_elim
      (λ (z : o.view.worker ≡ v.worker). let same_id : j ≡ id = rule.apart.apart j id o.view v o.pass final.1.1 is live z in
      let same : v ≡ o.view = some-injective v o.view (sym final.1.1 ∙ (ap (get_elem? s.views) (sym same_id) ∙ o.pass)) in
      absurd (free.locks i l (ap (λ (x : Knows). get_elem? x.locks i) same ∙ o.has)))
      (λ (z : (e : ℕ) × (get_elem? v.joined e ≡ some o.view.worker)). absurd (rule.apart.joined id j z.0 v o.view final.1.1 o.pass is z.1))
      (all o.view.worker (rule.passes j o.view o.pass).worker)

  lock_in_slot : (i : ℕ) (l : LockView) → get_elem? rule.told.segments i ≡ some l → (q : LockView) × (get_elem? xs (threads k + i) ≡ some (Some (Lock q))) × (kept q ≡ l)
  lock_in_slot i l e = let h = lock_home i l e (rule.locks_placed.spot i) (rule.locks_placed.each i l e) in (h.segment, final.4 (threads k + i) (Some (Lock h.segment)) h.slot, h.same)

  pub some_package : (t : ℕ) (x : Option Cargo) → t < threads k → get_elem? xs t ≡ some x → IsPackage x
  some_package t x h at = let p = something_at rule.told.places t (omega (arith, rule.told.law.all_packages)) in let q = in_slot t p.0 p.1 in (q.context, some-injective x (Some (Package q.context)) (sym at ∙ q.at))

  pub some_lock : (i : ℕ) (x : Option Cargo) → i < locks k → get_elem? xs (threads k + i) ≡ some x → IsLock x
  some_lock i x h at = let p = something_at rule.told.segments i (omega (arith, rule.told.law.all_states)) in let q = lock_in_slot i p.0 p.1 in (q.0, some-injective x (Some (Lock q.0)) (sym at ∙ q.1))

  pub ends : (qs : List PackageView) (ls : List LockView) → AreTaken (λ (q : PackageView). Package q) 0 (threads k) xs qs → AreTaken (λ (l : LockView). Lock l) (threads k) (locks k) xs ls → IsEnd k v qs ls
  ends qs ls taken taken_locks =
      let at : (t : ℕ) (q : PackageView) → get_elem? qs t ≡ some q → get_elem? xs t ≡ some (Some (Package q)) = λ t q e. subst (λ (z : ℕ). get_elem? xs z ≡ some (Some (Package q))) (omega arith) (taken.each t q e) in
      let same : map bare qs ≡ rule.told.places = sym (same_list rule.told.places (map bare qs) (rule.told.law.all_packages ∙ sym (length-map qs bare ∙ taken.count))
      (λ t p e. let q = in_slot t p e in
      let r = something_at qs t (let b = (there rule.told.places t p p e).0 in omega (arith, rule.told.law.all_packages, taken.count)) in
      let both : r.0 ≡ q.context = pick (get_elem? xs t) r.0 q.context (at t r.0 r.1) q.at in
      at_map bare qs t r.0 r.1 ∙ ap (λ (z : PackageView). some z) (ap bare both ∙ q.same))) in
      let same_locks : map kept ls ≡ rule.told.segments = sym (same_list rule.told.segments (map kept ls) (rule.told.law.all_states ∙ sym (length-map ls kept ∙ taken_locks.count))
      (λ i l e. let q = lock_in_slot i l e in
      let r = something_at ls i (let b = (there rule.told.segments i l l e).0 in omega (arith, rule.told.law.all_states, taken_locks.count)) in
      let both : r.0 ≡ q.0 = pick_lock (get_elem? xs (threads k + i)) r.0 q.0 (taken_locks.each i r.0 r.1) q.1 in
      at_map kept ls i r.0 r.1 ∙ ap (λ (z : LockView). some z) (ap kept both ∙ q.2))) in
      record {
        history = rule.told.history;
        law = subst (λ (z : List PackageView × List LockView). Lawful k.image.value k.fuel k.limit rule.told.history z.0 z.1) (λ i. (sym same i, sym same_locks i)) rule.told.law;
        strict = λ i l e. rule.told.strict i (kept l) (sym (ap (λ (xs : List LockView). get_elem? xs i) same_locks) ∙ at_map kept ls i l e);
        workers = rule.told.workers;
        delegates = rule.told.delegates;
        sealed = (rule.passes id v final.1.1).sealed;
        ended = λ t q e. let place = something_at rule.told.places t (let b = (there qs t q q e).0 in omega (arith, rule.told.law.all_packages, taken.count)) in
            let slot = in_slot t place.0 place.1 in
            let both : slot.context ≡ q = pick (get_elem? xs t) slot.context q slot.at (at t q e) in
            subst (λ (z : PackageView). (is_running z.context.guest.status ≡ false) × ((i : ℕ) → locked_in z i ≡ None)) both slot.ended;
        steps = record {
          state = s;
          ordered = final.1.0;
          pass = id;
          last = final.1.1;
          noted = parts k s final.1.0 id v final.1.1 live;
          written = written k s final.1.0 rule;
          unstopped = unstopped_by k s final.1.0 rule id v final.1.1 live all;
        };
      }
    where
      pick : (x : maybe.Option (Option Cargo)) (a b : PackageView) → x ≡ some (Some (Package a)) → x ≡ some (Some (Package b)) → a ≡ b
      pick x a b e f = cc (e, f)

      pick_lock : (x : maybe.Option (Option Cargo)) (a b : LockView) → x ≡ some (Some (Lock a)) → x ≡ some (Some (Lock b)) → a ≡ b
      pick_lock x a b e f = cc (e, f)
