-- The locks of a thread that has ended, one after another.
use Rattle.std.proofs.Common.{◌≡◌, ◌≢◌, ◌<◌, ◌≤◌, inl, inr, ℕ, zero, suc, ◌^◌, ◌+◌, ◌-◌, ◌*◌, Bool, true, false, not, ◌&&◌, ◌==◌, cond, List, [], ◌∷◌, ◌++◌, length, map, filter, get_or, refl, sym, ap, ◌∙◌, subst, subst₂, arith, append_assoc, append-nil, Option, Some, None, is_some, slice_index_or}
use Rattle.std.proofs.lemmas.Bool.{and_right, cond-false, cond-true, or_right}
use Rattle.tc_combiner.proofs.Vocabulary.{Acts, AreSameSeats, AreSeats, Asks, AtSeat, Block, PassCall, Change, DeskStep, DidLeave, DidLeaveAll, Did_stop, Done, Ending, Ends, HallView, DeskParts, Has_ended, IsAtHall, IsEmptied, IsInOrder, IsPlain, IsSeatFor, IsSoundPackage, Knows, LeftAs, LeftInOrder, LockView, MAX_HELD, MayAct, MayEnd, MayGive}
use Rattle.tc_combiner.proofs.Vocabulary.{MayRelease, OneLeft, Owned, Pack, PackageView, PutAllBack, QueueView, SeatView, SeatsLeft, HallTerms, Turn, at_lock, back, bare, by_parts, change, dite, ends_thread, has, is_running, last_of, locked_in, locks, nat_tests, no_seat, packed, put_call, seat_at, threads, turn_of, unlocks, was_cut, ℕ_discrete}
use Rattle.std.proofs.lemmas.Bool.Decides.{eqb_tells}
use Rattle.std.specs.List.{range_with_len}
use Rattle.tc_isa.specs.Sets.{without_lock, locks_of}
use Rattle.std.specs.Int.{bit_at}
use Rattle.std.proofs.lemmas.Nat.{pow_pos}
use Rattle.std.proofs.lemmas.Nat.Bits.{bit_at-zero}
use Rattle.std.specs.Prelude.{MatchOption}
use Rattle.tc_journal.proofs.Locks.{has_none}
use Rattle.tc_turn.proofs.Few.{less_few}
use Rattle.tc_combiner.specs.Stances.{KnowsLines, LeftSo}
use Rattle.tc_combiner.proofs.Stances.{stop_acts}
use Rattle.tc_combiner.proofs.Leaving.{out_still, still_at, still_then, stop_at}
use Rattle.tc_combiner.proofs.Acting.{acted_by, acted_then, acts_none, at_after, takes_none}
use Rattle.tc_combiner.proofs.Answering.{back_answers, keeps_answers, then_answers, then_at, wider}
use Rattle.tc_combiner.proofs.PassedOn.{few_left, few_more, left_after}
use Rattle.tc_combiner.proofs.Looking.{looks_at, looks_further, looks_none, looks_twice, looks_within}
use Rattle.tc_combiner.proofs.Packages.{not_some, plain_gives, releases_uncut}
use Rattle.tc_combiner.proofs.Owning.{place_here, place_other}
use Rattle.tc_combiner.proofs.Seats.{map_at, seat_before}

but_lock : (x y z : Bool) → x ≡ z → (not x && y) ≡ (not z && y)
but_lock x y z e = ap (λ b. not b && y) e

left_in : (rest next i j : ℕ) → ((k : ℕ) → has next k ≡ (not (k == i) && has rest k)) → has next j ≡ true → (j ≢ i) × (has rest j ≡ true)
left_in rest next i j e h = elim (j == i) as (λ (x : Bool). (j == i) ≡ x → (not x && has rest j) ≡ true → (j ≢ i) × (has rest j ≡ true)) [
  | true ↦ λ f g. let n : ⊥ = cc in absurd n
  | false ↦ λ f g. (let ne : j ≢ i = grind (arith, nat_tests) in ne, g)
] refl (sym (e j) ∙ h)

gone_in : (rest next i j : ℕ) → ((k : ℕ) → has next k ≡ (not (k == i) && has rest k)) → has next j ≡ false → j ≢ i → has rest j ≡ false
gone_in rest next i j e h ne = let f : (j == i) ≡ false = grind (arith, nat_tests) in sym (but_lock (j == i) (has rest j) false f) ∙ (sym (e j) ∙ h)

pub known_in : (p : PackageView) (i : ℕ) (o : Option LockView) → IsSoundPackage p → locked_in p i ≡ o → is_some o ≡ true → i < length p.image.guards
known_in p i None s e f = let n : ⊥ = cc in absurd n
known_in p i (Some l) s e f = (s.stored i l e).known

pub seats_first : (ss : List SeatView) → AreSameSeats ss ss
seats_first ss = record { count = refl; each = λ j. (refl, refl) }

not_zero : (rest i : ℕ) → bit_at rest i ≡ 1 → 0 < rest
not_zero zero i e = let z = bit_at-zero i in let n : ⊥ = omega (arith, z, e) in absurd n
not_zero (suc n) i e = omega arith

pub less_falls : (rest i next : ℕ) → next ≡ without_lock rest i → has rest i ≡ true → next < rest
less_falls rest i next e h =
    let bit : bit_at rest i ≡ 1 = grind (arith, nat_tests) in
    let some : 0 < rest = not_zero rest i bit in
    let low : 0 < 2 ^ i = pow_pos i in
    let is : next ≡ rest - 2 ^ i = e ∙ ap (λ (n : ℕ). rest - n * 2 ^ i) bit ∙ ap (λ (n : ℕ). rest - n) (let one : 1 * 2 ^ i ≡ 2 ^ i = omega arith in one) in
    omega arith

pub none_left : (P : Type 0) (Q : ℕ → Type 0) (o : Option ℕ) → MatchOption o P Q → ((x : ℕ) → o ≡ Some x → ⊥) → P
none_left P Q None h n = h
none_left P Q (Some x) h n = absurd (n x refl)

-- ---- the least of a set comes first

same_past : (p q : ℕ → Bool) (i a n : ℕ) → ((k : ℕ) → k ≢ i → q k ≡ p k) → i < a → filter p (range_with_len a n) ≡ filter q (range_with_len a n)
same_past p q i a zero same low = refl
same_past p q i a (suc n) same low =
    let e : p a ≡ q a = sym (same a (λ e. let z : ⊥ = omega arith in z)) in
    let rest = same_past p q i (a + 1) n same (omega arith) in
    λ j. cond (e j) (a ∷ rest j) (rest j)

not_yet : (p : ℕ → Bool) (i a : ℕ) → ((k : ℕ) → p k ≡ true → i ≤ k) → a < i → p a ≡ false
not_yet p i a least low = elim (p a) as (λ (x : Bool). p a ≡ x → x ≡ false) [
  | true ↦ λ r. let k = least a r in let n : ⊥ = omega arith in absurd n
  | false ↦ λ r. refl
] refl

least_first : (p q : ℕ → Bool) (i a n : ℕ) → ((k : ℕ) → k ≢ i → q k ≡ p k) → q i ≡ false → p i ≡ true → ((k : ℕ) → p k ≡ true → i ≤ k) → a ≤ i → i < a + n → filter p (range_with_len a n) ≡ i ∷ filter q (range_with_len a n)
least_first p q i a zero same out in_it least low high = absurd (omega arith)
least_first p q i a (suc n) same out in_it least low high = elim (eqb_tells a i) [
  | inl e ↦ cond-true (p a) _ _ (ap p e.1 ∙ in_it) ∙ ((λ j. e.1 j ∷ same_past p q i (a + 1) n same (let f = e.1 in omega arith) j) ∙ ap (λ (l : List ℕ). i ∷ l) (sym (cond-false (q a) _ _ (ap q e.1 ∙ out))))
  | inr e ↦ let ne : a ≢ i = e.1 in
      let off : p a ≡ false = not_yet p i a least (omega arith) in
      cond-false (p a) _ _ off ∙ (least_first p q i (a + 1) n same out in_it least (omega arith) (omega arith) ∙ ap (λ (l : List ℕ). i ∷ l) (sym (cond-false (q a) _ _ (same a ne ∙ off))))
]

locks_first : (rest next i : ℕ) → ((k : ℕ) → has next k ≡ (not (k == i) && has rest k)) → has rest i ≡ true → ((k : ℕ) → has rest k ≡ true → i ≤ k) → i < 32 → locks_of rest ≡ i ∷ locks_of next
unfolding locks_of
locks_first rest next i each waits least small = least_first (has rest) (has next) i 0 32
    (λ k ne. each k ∙ but_lock (k == i) (has rest k) false (grind (arith, nat_tests)))
    (each i ∙ but_lock (i == i) (has rest i) true (grind (arith, nat_tests))) waits least (omega arith) (omega arith)

-- ---- one lock more

same_turn : (p q : PackageView) (i : ℕ) → bare p ≡ bare q → p.numbers ≡ q.numbers → turn_of p i ≡ turn_of q i
same_turn p q i same numbers = λ j. record { thread = (same j).context.thread; number = slice_index_or (numbers j) i 0 }

-- what becomes of a lock does not depend on what else the desk has
left_any : (x : DeskStep SeatView) (worker : ℕ) (q : PackageView) (aside : Change (Option PackageView)) (l : LockView) (b : Block) (own : Turn) (cs : List PassCall) (was is : Bool) → LeftAs x l b own cs was is → LeftAs (record x { worker = worker; given = q; aside = aside }) l b own cs was is
left_any x worker q aside l b own cs false false h = h
left_any x worker q aside l b own cs false true h = h
left_any x worker q aside l b own cs true false h = h
left_any x worker q aside l b own cs true true h = h

order_any : (x : DeskStep (List SeatView)) (aside : Change (Option PackageView)) (b : Block) (is : List ℕ) (cs : List PassCall) (was end : Bool) → LeftInOrder x b is cs was end → LeftInOrder (record x { aside = aside }) b is cs was end
order_any x aside b [] cs was end h = h
order_any x aside b (i ∷ is) cs was end h =
    let one = h.0 in (
      record { state = one.state; here = one.here; calls = one.calls; stopped = one.stopped; became = left_any (at_lock i x) x.worker x.given aside one.state b (turn_of x.given i) one.calls was one.stopped one.became },
      h.1,
      h.2,
      order_any x aside b is h.1 one.stopped end h.3,
    )

-- the lock of a package that is q but for the locks before
left_was : (k : HallTerms) (b : Block) (q p r : PackageView) (i : ℕ) (s z t y : SeatView) (parts : Change DeskParts) (h g : DeskParts) (was is : Bool) → bare p ≡ bare q → p.numbers ≡ q.numbers → z ≡ s → y ≡ t → (d : DidLeave k i b (change p r) (change z t) (change h g) (change was is))
    → LeftAs (by_parts k q (change s y) parts) d.state b (turn_of q i) d.calls was is
left_was k b q p r i s z t y parts h g was is same numbers first last d =
    let at : LeftAs (by_parts k q (change z t) parts) d.state b (turn_of p i) d.calls was is = left_any (by_parts k p (change z t) (change h g)) parts.old.pass.knows.worker q (change parts.old.aside parts.new.aside) d.state b (turn_of p i) d.calls was is d.became in
    subst (λ (u : Turn). LeftAs (by_parts k q (change s y) parts) d.state b u d.calls was is) (same_turn p q i same numbers)
    (subst₂ (λ (c e : SeatView). LeftAs (by_parts k q (change c e) parts) d.state b (turn_of p i) d.calls was is) first (sym last) at)

pub leaves_first : (hall : HallView) (b : Block) (q : PackageView) (ss : List SeatView) (h : DeskParts) → MayAct hall (Pack q ∷ []) (length (locks_of b.held)) h → ((j : ℕ) → is_some (locked_in q j) ≡ has b.held j) → KnowsLines hall.terms h.pass.knows (Pack q ∷ [])
    → Ending hall.terms b (change q q) b.held (change ss ss) (change h h) false
leaves_first hall b q ss h m locks lines = record {
  calls = [];
  acted = acted_by hall.terms [] (Pack q ∷ []) (Pack q ∷ []) h h (acts_none h.pass (Pack q ∷ [])) refl refl;
  aside = refl;
  room = m.room;
  same = refl;
  granted = refl;
  numbers = refl;
  lines = record { lines = lines; turns = λ lined t c e. refl };
  within = λ j f. f;
  left = λ j f. refl;
  gone = λ j f. not_some (locked_in q j) (locks j ∙ f);
  passed = 0;
  few = omega arith;
  looks = looks_none h.pass.knows ss;
  count = refl;
  others = λ j f. refl;
  wait = λ j f. refl;
  asks = λ j f g. let n : ⊥ = cc in absurd n;
  order = λ us es end agree l. l;
}

leaves_one : (k : HallTerms) (b : Block) (q p r : PackageView) (rest next i : ℕ) (ss ts us : List SeatView) (h g m : DeskParts) (was is : Bool) → Ending k b (change q p) rest (change ss ts) (change h g) was → has rest i ≡ true → ((j : ℕ) → has rest j ≡ true → i ≤ j) → i < 32 → ((j : ℕ) → has next j ≡ (not (j == i) && has rest j))
    → AtSeat i ts us (λ s t. DidLeave k i b (change p r) (change s t) (change g m) (change was is)) → LeftSo k h.pass.knows m.pass.knows r is → Ending k b (change q r) next (change ss us) (change h m) is
leaves_one k b q p r rest next i ss ts us h g m was is y waits least small each at so =
    let d = at.here in
    let few = few_more d (few_left (by_parts k p (change (seat_at ts i) (seat_at us i)) (change g m)) d.state b (turn_of p i) d.calls was is d.became) in record {
      calls = y.calls ++ d.calls;
      acted = acted_then k y.calls d.calls (Pack q ∷ []) (Pack p ∷ []) (Pack r ∷ []) h g m y.acted d.acted;
      aside = d.aside ∙ y.aside;
      room = let less = less_few rest next i each waits small in let old = y.room in omega arith;
      same = ap bare d.taken.is ∙ y.same;
      granted = ap (λ (c : PackageView). c.granted) d.taken.is ∙ y.granted;
      numbers = ap (λ (c : PackageView). c.numbers) d.taken.is ∙ y.numbers;
      lines = so;
      within = λ j f. y.within j (left_in rest next i j each f).1;
      left = λ j f. let z = left_in rest next i j each f in place_other i None p r d.taken.locks j z.0 ∙ y.left j z.1;
      gone = λ j f. dite (ℕ_discrete j i) (λ (s : j ≡ i). ap (locked_in r) s ∙ place_here i None p r d.taken.locks) (λ (ne : j ≢ i). place_other i None p r d.taken.locks j ne ∙ y.gone j (gone_in rest next i j each f ne));
      passed = y.passed + 1;
      few = let less = less_few rest next i each waits small in let old = y.few in omega arith;
      looks = looks_twice y.passed 1 h.pass.knows g.pass.knows m.pass.knows ss ts us y.looks (looks_at 1 i g.pass.knows m.pass.knows ts us at d.looks);
      count = at.same.count ∙ y.count;
      others = λ j f. at.others j (λ e. let z : has b.held i ≡ true = y.within i waits in let w : has b.held i ≡ false = ap (has b.held) (sym e) ∙ f in let n : ⊥ = cc in n) ∙ y.others j f;
      wait = λ j f. let z = left_in rest next i j each f in at.others j z.0 ∙ y.wait j z.1;
      asks = λ j held f. dite (ℕ_discrete j i)
          (λ (s : j ≡ i). subst (λ (n : ℕ). Asks (turn_of q n) (seat_at ss n) (seat_at us n)) (sym s) (subst₂ (λ (u : Turn) (a : SeatView). Asks u a (seat_at us i)) (same_turn p q i y.same y.numbers) (y.wait i waits) d.asks))
          (λ (ne : j ≢ i). subst (λ (a : SeatView). Asks (turn_of q j) (seat_at ss j) a) (sym (at.others j ne)) (y.asks j held (gone_in rest next i j each f ne)));
      order = λ vs es end agree l.
          let here : seat_at vs i ≡ seat_at us i = agree i (each i ∙ but_lock (i == i) (has rest i) true (grind (arith, nat_tests))) in
          let x : DeskStep (List SeatView) = by_parts k q (change ss vs) (change h g) in
          let z : DeskStep (List SeatView) = by_parts k q (change ss vs) (change h m) in
          let one : OneLeft (at_lock i x) b i was = record {
            state = d.state;
            here = sym (y.left i waits) ∙ d.taken.was;
            calls = d.calls;
            stopped = is;
            became = left_was k b q p r i (seat_at ss i) (seat_at ts i) (seat_at us i) (seat_at vs i) (change h g) g m was is y.same y.numbers (y.wait i waits) here d;
          } in
          let others : LeftInOrder x b (locks_of next) es is end = order_any z x.aside b (locks_of next) es is end l in
          let all : LeftInOrder x b (locks_of rest) (d.calls ++ es) was end = subst (λ (n : List ℕ). LeftInOrder x b n (d.calls ++ es) was end) (sym (locks_first rest next i each waits least small)) (one, es, refl, others) in
          order_any x z.aside b (locks_of b.held) ((y.calls ++ d.calls) ++ es) false end
          (subst (λ (c : List PassCall). LeftInOrder x b (locks_of b.held) c false end) (sym (append_assoc y.calls d.calls es))
          (y.order vs (d.calls ++ es) end (λ j f. agree j (each j ∙ and_right (not (j == i)) (has rest j) f) ∙ at.others j (λ e. let z : has rest i ≡ false = ap (has rest) (sym e) ∙ f in let n : ⊥ = cc in n)) all));
    }

module _ {k : HallTerms} {b : Block} {q p : PackageView} {rest : ℕ} {ss ts : List SeatView} {h g : DeskParts} {was : Bool} (y : Ending k b (change q p) rest (change ss ts) (change h g) was) where
  -- the run was not stopped before
  pub leaves_more : {r : PackageView} {next i : ℕ} {us : List SeatView} {m : DeskParts} {is : Bool} → was ≡ false → has rest i ≡ true → ((j : ℕ) → has rest j ≡ true → i ≤ j) → i < 32 → ((j : ℕ) → has next j ≡ (not (j == i) && has rest j))
      → AtSeat i ts us (λ s t. DidLeave k i b (change p r) (change s t) (change g m) (change false is)) → Owned h.pass.knows (Pack q ∷ []) → LeftSo k g.pass.knows m.pass.knows r is → Ending k b (change q r) next (change ss us) (change h m) is
  leaves_more {r = r} {next = next} {i = i} {us = us} {m = m} {is = is} e waits least small each at own so =
      let still = still_at k h.pass.knows g.pass.knows p was e y.lines in
      let out = out_still h.pass.knows g.pass.knows q p y.acted.acts.moves y.same own in
      leaves_one k b q p r rest next i ss ts us h g m false is (subst (λ (x : Bool). Ending k b (change q p) rest (change ss ts) (change h g) x) e y) waits least small each at (still_then k h.pass.knows g.pass.knows m.pass.knows p r is out still so)

  -- it was
  pub leaves_home : {r : PackageView} {next i : ℕ} {m : DeskParts} → was ≡ true → has rest i ≡ true → ((j : ℕ) → has rest j ≡ true → i ≤ j) → i < 32 → ((j : ℕ) → has next j ≡ (not (j == i) && has rest j))
      → ((s : SeatView) → DidLeave k i b (change p r) (change s s) (change g m) (change true true)) → Ending k b (change q r) next (change ss ts) (change h m) was
  leaves_home {r = r} {next = next} {i = i} {m = m} e waits least small each home =
      let d = home (seat_at ts i) in
      let at : AtSeat i ts ts (λ s t. DidLeave k i b (change p r) (change s t) (change g m) (change true true)) = record { same = seats_first ts; others = λ j ne. refl; here = d } in
      let stop = stop_acts d.calls (Pack p ∷ []) (Pack r ∷ []) g.pass m.pass d.acted.acts (stop_at k h.pass.knows g.pass.knows p was e y.lines) in
      subst (λ (x : Bool). Ending k b (change q r) next (change ss ts) (change h m) x) (sym e)
      (leaves_one k b q p r rest next i ss ts ts h g m true true (subst (λ (x : Bool). Ending k b (change q p) rest (change ss ts) (change h g) x) e y) waits least small each at stop)

pub left_all : {k : HallTerms} {b : Block} {q p : PackageView} {rest : ℕ} {ss ts : List SeatView} {h g : DeskParts} {now : Bool} → rest ≡ 0 → Ending k b (change q p) rest (change ss ts) (change h g) now → DidLeaveAll k b (change q p) (change ss ts) (change h g) now
unfolding locks_of
left_all {k = k} {b = b} {q = q} {p = p} {rest = rest} {ss = ss} {ts = ts} {h = h} {g = g} {now = now} none y0 = let y : Ending k b (change q p) 0 (change ss ts) (change h g) now = subst (λ (n : ℕ). Ending k b (change q p) n (change ss ts) (change h g) now) none y0 in record {
  calls = y.calls;
  acted = y.acted;
  aside = y.aside;
  emptied = record { same = y.same; granted = y.granted; free = λ j. y.gone j (has_none j) };
  seats_left = record { count = y.count; others = y.others; asks = λ j held. y.asks j held (has_none j) };
  looks = looks_within y.passed (length (locks_of b.held)) h.pass.knows g.pass.knows ss ts (let few = y.few in omega arith) y.looks;
  order = subst (λ (c : List PassCall). LeftInOrder (by_parts k q (change ss ts) (change h g)) b (locks_of b.held) c false now) (append-nil y.calls) (y.order ts [] now (λ j f. refl) (refl, refl));
}

-- ---- what the next may ask

pub may_next : {hall : HallView} {b : Block} {q p : PackageView} {rest n : ℕ} {ss ts : List SeatView} {h g : DeskParts} {now : Bool} (next i : ℕ) → MayAct hall (Pack q ∷ []) n h → Ending hall.terms b (change q p) rest (change ss ts) (change h g) now → has rest i ≡ true → i < 32 → ((j : ℕ) → has next j ≡ (not (j == i) && has rest j))
    → MayAct hall (Pack p ∷ []) 1 g
may_next {hall = hall} {q = q} {p = p} {rest = rest} {h = h} {g = g} next i m y waits small each = record { at = at_after hall y.calls (Pack q ∷ []) (Pack p ∷ []) h.pass g.pass h.aside g.aside m.at y.acted.acts y.aside; room = (let less = less_few rest next i each waits small in let old = y.room in omega arith) }

pub may_release : {k : HallTerms} {b : Block} {q p : PackageView} {rest i : ℕ} {ss ts : List SeatView} {h g : DeskParts} {now : Bool} → MayEnd k h.pass.knows b q → Ending k b (change q p) rest (change ss ts) (change h g) now → has rest i ≡ true → MayRelease k g.pass.knows i b p
may_release {k = k} {b = b} {i = i} m y waits = record {
  lock = m.known i (y.within i waits);
  of = ap (λ (c : PackageView). c.image) y.same ∙ (m.of ∙ sym y.acted.acts.adds.told.image);
  thread = subst (λ (t : ℕ). t < threads k) (sym (ap (λ (c : PackageView). c.context.thread) y.same)) m.thread;
  settled = ap (λ (c : PackageView). c.pending) y.same ∙ m.settled;
  granted = y.granted ∙ m.granted;
  last = ap (λ (c : PackageView). last_of c.log) y.same ∙ m.last;
  released = (y.within i waits, or_right (unlocks i b.end) (ends_thread b.end) m.ended);
  worker = m.worker ∙ sym y.acted.acts.adds.told.worker;
  here = ap is_some (y.left i waits) ∙ (m.locks i ∙ y.within i waits);
}

module _ {S X : Type 0} where
  pub seat_in : (seen : S → SeatView) (queue : X → QueueView) (k : HallTerms) (qs : List X) (ss ts : List S) (i : ℕ) (x : X) (s : S) → s ≡ get_or ts i s → AreSeats k (map queue qs) (map seen ss) → seat_at (map seen ts) i ≡ seat_at (map seen ss) i → i < locks k → i < length ts → IsSeatFor (threads k) (queue (get_or qs i x)) (seen (get_or ts i s))
  seat_in seen queue k qs ss ts i x s is of same low deep = subst₂ (λ (a : QueueView) (b : SeatView). IsSeatFor (threads k) a b) (map_at queue qs i x) (sym same ∙ (seat_before seen ts i s no_seat deep is ∙ ap seen is)) (of i (queue x) no_seat low)

-- ---- once all of them were passed on

pub emptied_plain : (k : HallTerms) (v : Knows) (b : Block) (q p : PackageView) → MayEnd k v b q → IsEmptied q p → IsPlain (threads k) p
emptied_plain k v b q p m h = record {
  thread = subst (λ (t : ℕ). t < threads k) (sym (ap (λ (c : PackageView). c.context.thread) h.same)) m.thread;
  settled = ap (λ (c : PackageView). c.pending) h.same ∙ m.settled;
  granted = h.granted ∙ m.granted;
  locks = λ i l e. let g = h.free i in let n : ⊥ = cc in absurd n;
  ended = λ e i. h.free i;
  uncut = ap (λ (c : PackageView). was_cut (last_of c.log)) h.same ∙ (ap was_cut m.last ∙ releases_uncut 0 b.end (or_right (unlocks 0 b.end) (ends_thread b.end) m.ended));
}

emptied_order : (k : HallTerms) (v : Knows) (b : Block) (q p : PackageView) → MayEnd k v b q → IsSoundPackage q → IsEmptied q p → IsInOrder 2 p
emptied_order t v b q p m s h = record {
  ended = λ e. (ap (λ (c : PackageView). is_running c.context.guest.status) h.same ∙ (left_after q.image q b s.left m.last).runs ∙ ap not m.ended, λ i. h.free i);
  runs = λ ne. absurd (ne refl);
  own = λ i l e. let g = h.free i in let k : ⊥ = cc in absurd k;
  waits = λ i e. let k : ⊥ = omega arith in absurd k;
  ready = λ g e. let f : p.granted ≡ None = h.granted ∙ m.granted in let k : ⊥ = cc in absurd k;
}

module _ {hall : HallView} {b : Block} {q p : PackageView} {ss ts : List SeatView} {h m : DeskParts} (may : MayEnd hall.terms h.pass.knows b q) (parts : MayAct hall (Pack q ∷ packed h.aside) MAX_HELD h) where
  pub at_end : (end : Bool) → DidLeaveAll hall.terms b (change q p) (change ss ts) (change h m) end → IsAtHall hall (Pack p ∷ packed m.aside) m
  at_end end d = then_at hall d.calls q p h m parts.at d.acted d.aside

  pub may_done : (end : Bool) → IsSoundPackage q → DidLeaveAll hall.terms b (change q p) (change ss ts) (change h m) end → MayGive hall m.pass Done p
  may_done end s d = plain_gives hall Done p (packed m.aside) m.pass m.aside (at_end end d) (emptied_plain hall.terms h.pass.knows b q p may d.emptied) tt (emptied_order hall.terms h.pass.knows b q p may s d.emptied)

  then_order : (g : DeskParts) (end : Bool) (d : DidLeaveAll hall.terms b (change q p) (change ss ts) (change h m) end) → LeftInOrder (by_parts hall.terms q (change ss ts) (change h g)) b (locks_of b.held) d.calls false end
  then_order g end d = order_any (by_parts hall.terms q (change ss ts) (change h m)) (change h.aside g.aside) b (locks_of b.held) d.calls false end d.order

  done_by : (end is : Bool) → is ≡ end → DidLeaveAll hall.terms b (change q p) (change ss ts) (change h m) is → DidLeaveAll hall.terms b (change q p) (change ss ts) (change h m) end
  done_by end is e d = subst (λ (x : Bool). DidLeaveAll hall.terms b (change q p) (change ss ts) (change h m) x) e d

  ends_as : (g : DeskParts) → DidLeaveAll hall.terms b (change q p) (change ss ts) (change h m) false → Acts (put_call p Done ∷ []) (Pack p ∷ []) [] m.pass g.pass → g.ready.items ≡ m.ready.items → g.aside ≡ m.aside → Ends hall.terms b q (change ss ts) (change h g) Has_ended
  ends_as g d a e f = record {
    calls = d.calls ++ put_call p Done ∷ [];
    answers = then_answers hall.terms d.calls (put_call p Done ∷ []) q p h m g Has_ended d.acted d.aside
        (keeps_answers hall (put_call p Done ∷ []) p m g Has_ended (at_end false d) (wider (put_call p Done ∷ []) p m g f a) (takes_none (threads hall.terms) m.ready.items g.ready.items (put_call p Done ∷ []) e refl) f);
    became = (d.seats_left, looks_further (length (locks_of b.held)) h.pass.knows m.pass.knows g.pass.knows ss ts d.looks a.adds.looks, (p, d.calls, refl, d.emptied, then_order g false d, f ∙ d.aside));
  }

  stops_as : (g : DeskParts) → DidLeaveAll hall.terms b (change q p) (change ss ts) (change h m) true → PutAllBack p (change m g) → Ends hall.terms b q (change ss ts) (change h g) Did_stop
  stops_as g d a = record {
    calls = d.calls ++ back p m.aside;
    answers = then_answers hall.terms d.calls (back p m.aside) q p h m g Did_stop d.acted d.aside (back_answers hall.terms p m g a);
    became = (d.seats_left, looks_further (length (locks_of b.held)) h.pass.knows m.pass.knows g.pass.knows ss ts d.looks a.acts.adds.looks, (p, d.calls, ap (λ (o : Option PackageView). d.calls ++ back p o) d.aside, d.emptied, then_order g true d, a.aside));
  }

  pub ends_done : (g : DeskParts) (is : Bool) → is ≡ false → DidLeaveAll hall.terms b (change q p) (change ss ts) (change h m) is → Acts (put_call p Done ∷ []) (Pack p ∷ []) [] m.pass g.pass → g.ready.items ≡ m.ready.items → g.aside ≡ m.aside → Ends hall.terms b q (change ss ts) (change h g) Has_ended
  ends_done g is e d a f n = ends_as g (done_by false is e d) a f n

  pub ends_stopped : (g : DeskParts) (is : Bool) → is ≡ true → DidLeaveAll hall.terms b (change q p) (change ss ts) (change h m) is → PutAllBack p (change m g) → Ends hall.terms b q (change ss ts) (change h g) Did_stop
  ends_stopped g is e d a = stops_as g (done_by true is e d) a

pub same_seats : (b : Block) (q : PackageView) (ss ts : List SeatView) → SeatsLeft b q ss ts → AreSameSeats ss ts
same_seats b q ss ts h = record {
  count = h.count;
  each = λ j. elim (has b.held j) as (λ (x : Bool). has b.held j ≡ x → (seat_at ts j).table ≡ (seat_at ss j).table × (seat_at ts j).threads ≡ (seat_at ss j).threads) [
    | true ↦ λ e. let a = h.asks j e in (a.table, a.threads)
    | false ↦ λ e. let s = h.others j e in (ap (λ (x : SeatView). x.table) s, ap (λ (x : SeatView). x.threads) s)
  ] refl;
}
