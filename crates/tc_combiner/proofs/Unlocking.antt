-- What an unlock comes to, from its parts.
use Rattle.std.proofs.Common.{not, ◌⊎◌, ◌≡◌, ◌≢◌, ◌<◌, ◌≤◌, ◌+◌, inl, inr, ℕ, true, false, ◌&&◌, ◌==◌, List, [], ◌∷◌, ◌++◌, length, refl, sym, ap, ◌∙◌, subst, subst₂, arith, Option, Some, None, is_some}
use Rattle.tc_combiner.proofs.Vocabulary.{Acted, Acts, All-cons, All-nil, Block, PassCall, Change, DeskStep, DidPass, DidTakeOut, Did_adopt, Did_stop, GaveUp, Goes, GoesOn, HallView, DeskParts, HasHeldAnd, HasNone, HasOnlyHeld, HoldsNone, IsAside, IsAt, IsAtHall, IsGood, IsPlain, IsSoundPackage, Item, Knows}
use Rattle.tc_combiner.proofs.Vocabulary.{LockView, MAX_HELD, MayAct, MayGive, MayGoOn, MayRelease, MayUnlock, Owned, Pack, PackageView, PassView, Passed, PassedAs, PutAllBack, PutsAside, Ready, Runs, SeatView, SetAside, Settled, TakesDown, HallTerms, UnlockedAs, Unlocks, Was_adopted, Was_granted, Was_stopped, WentOn, Went_home}
use Rattle.tc_combiner.proofs.Vocabulary.{adopts, and_parts, at_none, back, by_parts, change, dite, ends_section, erase, adopted_in, has, is_only, is_running, last_of, locked_in, may_adopt, nat_tests, outs, packed, put_call, threads, turn_of, unlocks, was_cut, with_package, without_lock, ℕ_discrete}
use Rattle.std.proofs.lemmas.Bool.{and_left, and_right}
use Rattle.std.proofs.lemmas.Nat.Bits.{bit_at-zero, bit_at_or, bit_at-pow_other}
use Rattle.std.specs.Int.{bit_at}
use Rattle.std.specs.Prelude.{◌^◌, bit_or}
use Rattle.tc_isa.specs.Sets.{with_lock}
use Rattle.tc_hall.proofs.Cases.{none_of}
use Rattle.tc_combiner.proofs.Acting.{acts_beside, acts_then, at_after, takes_none, takes_then}
use Rattle.tc_combiner.proofs.Answering.{back_answers, keeps_answers, then_answers, then_at, wider}
use Rattle.tc_combiner.proofs.Looking.{looks_further}
use Rattle.tc_combiner.proofs.Packages.{good_order, no_other, plain_gives, releases_uncut, ungranted_fits}
use Rattle.tc_combiner.proofs.PassedOn.{few_followed, few_more, left_after}
use Rattle.tc_combiner.proofs.Releasing.{threads_apart}
use Rattle.tc_combiner.proofs.Owning.{place_here, place_other, swap, without_first}

left_only_held : (i : ℕ) (l : LockView) (q p : PackageView) → DidTakeOut i l q p → HasHeldAnd i q → HasOnlyHeld p
left_only_held i l q p d h j m e = dite (ℕ_discrete j i)
    (λ (s : j ≡ i). let f : locked_in p i ≡ Some m = ap (locked_in p) (sym s) ∙ e in let g = place_here i None q p d.locks in let n : ⊥ = cc in absurd n)
    (λ (ne : j ≢ i). ap (λ (c : PackageView). has c.context.guest.held j) d.is ∙ h j m (sym (place_other i None q p d.locks j ne) ∙ e) ne)

still_runs : (i : ℕ) (l : LockView) (q p : PackageView) → DidTakeOut i l q p → Runs q → Runs p
still_runs i l q p d r = ap (λ (c : PackageView). is_running c.context.guest.status) d.is ∙ r

-- the package without the lock that it released
pub left_plain : (v : Knows) (k : HallTerms) (i : ℕ) (b : Block) (l : LockView) (q p : PackageView) → DidTakeOut i l q p → MayRelease k v i b q → Runs q → HasHeldAnd i q → IsPlain (threads k) p
left_plain v k i b l q p d m r h = record {
  thread = subst (λ (t : ℕ). t < threads k) (sym (ap (λ (c : PackageView). c.context.thread) d.is)) m.thread;
  settled = ap (λ (c : PackageView). c.pending) d.is ∙ m.settled;
  granted = ap (λ (c : PackageView). c.granted) d.is ∙ m.granted;
  locks = left_only_held i l q p d h;
  ended = λ e. let y = still_runs i l q p d r in let n : ⊥ = cc in absurd n;
  uncut = ap (λ (c : PackageView). was_cut (last_of c.log)) d.is ∙ (ap was_cut m.last ∙ releases_uncut i b.end m.released.1);
}

-- ---- a package behind which a waiter is adopted holds no lock

adopts_only : (b : Block) (i run limit : ℕ) → may_adopt b i run limit ≡ true → b.held ≡ with_lock 0 i
adopts_only b i run limit e = let k : (b.held == with_lock 0 i) ≡ true = (and_parts (unlocks i b.end) _ (and_parts (unlocks i b.end && is_only b.held i) _ e).0).1 in grind (arith, nat_tests)

with_other : (i j : ℕ) → j ≢ i → has (with_lock 0 i) j ≡ false
with_other i j ne = ap (λ b. b == 1) (let same : bit_at (bit_or 0 (2 ^ i)) j ≡ 0 = omega (arith, bit_at_or 0 (2 ^ i) j, bit_at-pow_other i j ne, bit_at-zero j) in same)

-- what the package holds whose block may adopt
pub alone_holds : (q : PackageView) (b : Block) (i run limit : ℕ) → IsSoundPackage q → last_of q.log ≡ Some b → ends_section i b ≡ true → may_adopt b i run limit ≡ true → HoldsNone q
alone_holds q b i run limit s e r a j =
    let held = (left_after q.image q b s.left e).held j in
    dite (ℕ_discrete j i)
    (λ (y : j ≡ i). held ∙ and_right (has b.held j) (not (ends_section j b)) (ap not (ap (λ (k : ℕ). ends_section k b) y ∙ r)))
    (λ (ne : j ≢ i). held ∙ and_left (has b.held j) _ (ap (λ (h : ℕ). has h j) (adopts_only b i run limit a) ∙ with_other i j ne))

none_in : (p : PackageView) → HasOnlyHeld p → HoldsNone p → HasNone p
none_in p h n j = none_of (locked_in p j) (λ l e. let y = h j l e in let z = n j in let n : ⊥ = cc in n)

-- the package without the lock may go on, and be set aside where a waiter was adopted behind it
pub may_go_on : (v : Knows) (k : HallTerms) (i : ℕ) (b : Block) (l : LockView) (q p : PackageView) → MayUnlock k v i b q → v.image ≡ k.image.value → DidTakeOut i l q p → MayGoOn k p
may_go_on v k i b l q p m image d = record {
  of = ap (λ (c : PackageView). c.image) d.is ∙ (m.release.of ∙ image);
  plain = left_plain v k i b l q p d m.release m.runs m.locks_in;
  runs = still_runs i l q p d m.runs;
}

pub may_aside : (v : Knows) (k : HallTerms) (i : ℕ) (b : Block) (l : LockView) (q p : PackageView) → IsSoundPackage q → MayUnlock k v i b q → v.image ≡ k.image.value → DidTakeOut i l q p → adopts l b ≡ true → IsAside k p
may_aside v k i b l q p sound m image d a =
    let g = may_go_on v k i b l q p m image d in
    let number = (sound.stored i l d.was).number in
    let holds : HoldsNone q = alone_holds q b l.number _ _ sound m.release.last (subst (λ (j : ℕ). ends_section j b ≡ true) (sym number) m.release.released.1) a in
    record {
      goes = g;
      free = none_in p g.plain.locks (λ j. ap (λ (c : PackageView). has c.context.guest.held j) d.is ∙ holds j);
    }

-- ---- what an unlock comes to

went_unlocks : (x : DeskStep SeatView) (i : ℕ) (b : Block) (ds es : List PassCall) (r : Settled) → PassedAs x i b ds Went_home ⊎ PassedAs x i b ds Was_granted → WentOn (with_package (without_lock i x.given) x) es r → UnlockedAs x i b (ds ++ es) r
went_unlocks x i b ds es (GoesOn r) k g = (ds, es, refl, k, g)
went_unlocks x i b ds es r k g = absurd g

-- the seats count for nothing where a package goes on
went_at : {A B : Type 0} (k : HallTerms) (q : PackageView) (seats : Change A) (others : Change B) (parts : Change DeskParts) (cs : List PassCall) (r : Settled) → WentOn (by_parts k q seats parts) cs r → WentOn (by_parts k q others parts) cs r
went_at k q seats others parts cs (GoesOn r) h = h
went_at k q seats others parts cs r h = absurd h

module _ (hall : HallView) (i : ℕ) (b : Block) (q p : PackageView) (s t : SeatView) (h m : DeskParts) (parts : MayAct hall (Pack q ∷ packed h.aside) 2 h) where
  room_after : (r : Passed) → DidPass hall.terms i b (change q p) (change s t) (change h m) r → length m.ready.items + 1 ≤ MAX_HELD
  room_after r d = let more = few_more d (few_followed (by_parts hall.terms q (change s t) (change h m)) d.state b (turn_of q i) d.calls r d.became) in let room = parts.room in omega arith

  pub at_then : (r : Passed) → adopted_in r ≡ [] → DidPass hall.terms i b (change q p) (change s t) (change h m) r → IsAtHall hall (Pack p ∷ packed m.aside) m
  at_then r e d = then_at hall d.calls q p h m parts.at (subst (λ (xs : List Item). Acted hall.terms d.calls (Pack q ∷ []) (Pack p ∷ xs) (change h m)) e d.acted) d.aside

  pub may_then : (r : Passed) → adopted_in r ≡ [] → DidPass hall.terms i b (change q p) (change s t) (change h m) r → MayAct hall (Pack p ∷ packed m.aside) 1 m
  may_then r e d = record { at = at_then r e d; room = room_after r d }

  -- the waiter that is adopted comes first, before the package that is set aside
  adopts_beside : (x : PackageView) (d : DidPass hall.terms i b (change q p) (change s t) (change h m) (Was_adopted x)) → Acts d.calls (Pack q ∷ packed h.aside) (Pack x ∷ Pack p ∷ packed h.aside) h.pass m.pass
  adopts_beside x d = record { own = d.acted.acts.own; adds = d.acted.acts.adds; moves = λ c zs o. swap c (outs m.pass.knows) (Pack p) (Pack x) (packed h.aside ++ zs) (d.acted.acts.moves c (packed h.aside ++ zs) o) }

  pub may_adopted : (x : PackageView) → DidPass hall.terms i b (change q p) (change s t) (change h m) (Was_adopted x) → MayAct hall (Pack p ∷ packed m.aside) 1 m
  may_adopted x d =
      let y = at_after hall d.calls (Pack q ∷ packed h.aside) (Pack x ∷ Pack p ∷ packed h.aside) h.pass m.pass h.aside m.aside parts.at (adopts_beside x d) d.aside in
      let out : Owned m.pass.knows (Pack p ∷ packed m.aside) = subst (λ (o : Option PackageView). Owned m.pass.knows (Pack p ∷ packed o)) (sym d.aside) (without_first m.pass.knows (Pack x) (Pack p ∷ packed h.aside) y.out) in
      record { at = record { own = y.own; image = y.image; out = out; aside = y.aside }; room = room_after (Was_adopted x) d }

  -- which is of another thread
  pub adopted_apart : (x : PackageView) → DidPass hall.terms i b (change q p) (change s t) (change h m) (Was_adopted x) → x.context.thread ≢ p.context.thread
  adopted_apart x d = threads_apart (outs m.pass.knows) p x (d.acted.acts.moves (erase (outs h.pass.knows) (Pack q)) [] (parts.at.out.1.0, refl)).1.0

  -- the lock went home or was granted, and the package goes on
  goes : {How : LockView → List PassCall → Type 0} (g : DeskParts) (r : Settled) (d : GaveUp hall.terms i (change q p) [] (change s t) (change h m) How) → PassedAs (by_parts hall.terms q (change s t) (change h g)) i b d.calls Went_home ⊎ PassedAs (by_parts hall.terms q (change s t) (change h g)) i b d.calls Was_granted → Goes hall.terms p (change m g) r
      → Unlocks hall.terms i b q (change s t) (change h g) r
  goes g r d gone f =
      let x : DeskStep SeatView = by_parts hall.terms q (change s t) (change h g) in
      let worker : m.pass.knows.worker ≡ h.pass.knows.worker = d.acted.acts.adds.told.worker in
      let same : by_parts hall.terms p (change s t) (change m g) ≡ with_package (without_lock i q) x = λ j. record { image = hall.terms.image.value; worker = worker j; given = d.taken.is j; seats = change s t; aside = change (d.aside j) g.aside } in
      let went : WentOn (with_package (without_lock i q) x) f.calls r = subst (λ (z : DeskStep SeatView). WentOn z f.calls r) same (went_at hall.terms p at_none (change s t) (change m g) f.calls r f.became) in record {
        calls = d.calls ++ f.calls;
        answers = then_answers hall.terms d.calls f.calls q p h m g r d.acted d.aside f.answers;
        became = (d.asks, looks_further 1 h.pass.knows m.pass.knows g.pass.knows (s ∷ []) (t ∷ []) d.looks f.answers.acts.adds.looks, went_unlocks x i b d.calls f.calls r gone went);
      }

  pub goes_home : (g : DeskParts) (r : Settled) → DidPass hall.terms i b (change q p) (change s t) (change h m) Went_home → Goes hall.terms p (change m g) r → Unlocks hall.terms i b q (change s t) (change h g) r
  goes_home g r d f = goes g r d (inl (d.state, d.taken.was, d.became)) f

  pub goes_granted : (g : DeskParts) (r : Settled) → DidPass hall.terms i b (change q p) (change s t) (change h m) Was_granted → Goes hall.terms p (change m g) r → Unlocks hall.terms i b q (change s t) (change h g) r
  goes_granted g r d f = goes g r d (inr (d.state, d.taken.was, d.became)) f

  pub goes_adopted : (g : DeskParts) (x : PackageView) → b.worker ≡ h.pass.knows.worker → DidPass hall.terms i b (change q p) (change s t) (change h m) (Was_adopted x) → PutsAside hall.terms p (change m g) → Unlocks hall.terms i b q (change s t) (change h g) (Did_adopt x)
  goes_adopted g x same d f =
      let c : Acts f.calls (Pack p ∷ packed h.aside) (packed g.aside) m.pass g.pass = subst (λ (o : Option PackageView). Acts f.calls (Pack p ∷ packed o) (packed g.aside) m.pass g.pass) d.aside f.acted.acts in
      let set : SetAside (without_lock i q) h.aside g.aside f.calls = subst₂ (λ (y : PackageView) (a : Option PackageView). SetAside y a g.aside f.calls) d.taken.is d.aside f.set in
      let good : IsGood x hall.terms.image.value h.pass.knows.worker = subst (λ (n : ℕ). IsGood x hall.terms.image.value n) same d.became.2.2 in record {
        calls = d.calls ++ f.calls;
        answers = record {
          acts = acts_then d.calls f.calls (Pack q ∷ packed h.aside) (Pack x ∷ Pack p ∷ packed h.aside) (Pack x ∷ packed g.aside) h.pass m.pass g.pass (adopts_beside x d) (acts_beside f.calls (Pack x) (Pack p ∷ packed h.aside) (packed g.aside) m.pass g.pass c);
          readied = takes_then (threads hall.terms) h.ready.items m.ready.items g.ready.items d.calls f.calls d.acted.readied f.acted.readied;
          aside = f.aside;
        };
        became = (d.asks, looks_further 1 h.pass.knows m.pass.knows g.pass.knows (s ∷ []) (t ∷ []) d.looks f.acted.acts.adds.looks, (d.calls, f.calls, refl, (d.state, d.taken.was, d.became), set, good));
      }

  pub goes_stopped : (g : DeskParts) → DidPass hall.terms i b (change q p) (change s t) (change h m) Was_stopped → PutAllBack p (change m g) → Unlocks hall.terms i b q (change s t) (change h g) Did_stop
  goes_stopped g d a =
      let same : d.calls ++ back p m.aside ≡ d.calls ++ back (without_lock i q) h.aside = λ j. d.calls ++ back (d.taken.is j) (d.aside j) in record {
        calls = d.calls ++ back p m.aside;
        answers = then_answers hall.terms d.calls (back p m.aside) q p h m g Did_stop d.acted d.aside (back_answers hall.terms p m g a);
        became = (d.asks, looks_further 1 h.pass.knows m.pass.knows g.pass.knows (s ∷ []) (t ∷ []) d.looks a.acts.adds.looks, (d.calls, same, (d.state, d.taken.was, d.became), a.aside));
      }

-- ---- a package that goes on, or is set aside

pub going_good : (k : HallTerms) (w : ℕ) (q : PackageView) → MayGoOn k q → IsGood q k.image.value w
going_good k w q m = record { of = m.of; settled = m.plain.settled; runs = m.runs; locks = no_other q m.plain.locks; fits = ungranted_fits q w m.plain.granted }

pub may_ready : (hall : HallView) (q : PackageView) (xs : List Item) (p : PassView) (a : Option PackageView) → IsAt hall (Pack q ∷ xs) p a → MayGoOn hall.terms q → MayGive hall p Ready q
may_ready hall q xs p a at m = plain_gives hall Ready q xs p a at m.plain tt (good_order q hall.terms.image.value p.knows.worker (going_good hall.terms p.knows.worker q m))

module _ (hall : HallView) (q : PackageView) (h g : DeskParts) (parts : MayAct hall (Pack q ∷ packed h.aside) 1 h) where
  pub goes_same : MayGoOn hall.terms q → Acts [] (Pack q ∷ packed h.aside) (Pack q ∷ packed h.aside) h.pass g.pass → g.ready.items ≡ h.ready.items → g.aside ≡ h.aside → (HoldsNone q → h.aside ≡ None) → Goes hall.terms q (change h g) (GoesOn q)
  goes_same m a e f none = record {
    calls = [];
    answers = keeps_answers hall [] q h g (GoesOn q) parts.at (subst (λ (o : Option PackageView). Acts [] (Pack q ∷ packed h.aside) (Pack q ∷ packed o) h.pass g.pass) (sym f) a) (takes_none (threads hall.terms) h.ready.items g.ready.items [] e refl) f;
    became = (going_good hall.terms h.pass.knows.worker q m, inl (refl, f, none, refl));
  }

  takes_one : MayGoOn hall.terms q → g.ready.items ≡ h.ready.items ++ q.context.thread ∷ [] → TakesDown (threads hall.terms) h.ready.items g.ready.items (put_call q Ready ∷ [])
  takes_one m e = (e, All-cons (λ n. n < threads hall.terms) q.context.thread [] m.plain.thread (All-nil (λ n. n < threads hall.terms)))

  pub goes_other : (o : PackageView) → MayGoOn hall.terms q → h.aside ≡ Some o → g.aside ≡ None → HoldsNone q → Acts (put_call q Ready ∷ []) (Pack q ∷ []) [] h.pass g.pass → g.ready.items ≡ h.ready.items ++ q.context.thread ∷ [] → Goes hall.terms q (change h g) (GoesOn o)
  goes_other o m is gone none a e =
      let other = parts.at.aside o is in record {
        calls = put_call q Ready ∷ [];
        answers = record {
          acts = subst₂ (λ (x y : Option PackageView). Acts (put_call q Ready ∷ []) (Pack q ∷ packed x) (Pack o ∷ packed y) h.pass g.pass) (sym is) (sym gone) (record { own = a.own; adds = a.adds; moves = λ b zs w. a.moves b (Pack o ∷ zs) w });
          readied = takes_one m e;
          aside = λ b f. let n : ⊥ = cc in absurd n;
        };
        became = (going_good hall.terms h.pass.knows.worker o other.goes, inr (is, none, gone, refl));
      }

  sets_later : (a c : Option PackageView) → is_some a ≡ true → c ≡ a → SetAside q a c (put_call q Ready ∷ [])
  sets_later None c e f = let n : ⊥ = cc in absurd n
  sets_later (Some x) c e f = (f, refl)

  pub sets_behind : IsAside hall.terms q → is_some h.aside ≡ true → g.aside ≡ h.aside → Acts (put_call q Ready ∷ []) (Pack q ∷ []) [] h.pass g.pass → g.ready.items ≡ h.ready.items ++ q.context.thread ∷ [] → PutsAside hall.terms q (change h g)
  sets_behind i some f a e = record {
    calls = put_call q Ready ∷ [];
    acted = record { acts = wider (put_call q Ready ∷ []) q h g f a; readied = takes_one i.goes e };
    set = sets_later h.aside g.aside some f;
    aside = λ b x. parts.at.aside b (sym f ∙ x);
  }

  pub sets_alone : IsAside hall.terms q → h.aside ≡ None → g.aside ≡ Some q → Acts [] (Pack q ∷ []) (Pack q ∷ []) h.pass g.pass → g.ready.items ≡ h.ready.items → PutsAside hall.terms q (change h g)
  sets_alone i none f a e = record {
    calls = [];
    acted = record { acts = subst₂ (λ (x y : Option PackageView). Acts [] (Pack q ∷ packed x) (packed y) h.pass g.pass) (sym none) (sym f) a; readied = takes_none (threads hall.terms) h.ready.items g.ready.items [] e refl };
    set = subst (λ (x : Option PackageView). SetAside q x g.aside []) (sym none) (f, refl);
    aside = λ b x. let y : Some q ≡ Some b = sym f ∙ x in let z : q ≡ b = cc in subst (λ (c : PackageView). IsAside hall.terms c) z i;
  }
