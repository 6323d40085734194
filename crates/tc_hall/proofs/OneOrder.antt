-- The history is what the one order of all operations sealed; and where the last pass's list shows no stop, the order has none.
use Rattle.std.proofs.Common.{◌≡◌, ◌≢◌, ◌⊎◌, ⊎_elim, inl, inr, ℕ, suc, ◌+◌, ◌*◌, ◌%◌, ◌<◌, ◌≤◌, Bool, true, false, List, [], ◌∷◌, ◌++◌, length, set, slice_index, length-append, get_or-set_other, get_or-set_same, sym, refl, ap, ◌∙◌, subst, arith}
use Rattle.std.proofs.lemmas.Bool.{or_cases}
use Rattle.std.proofs.lemmas.List.{append-nil, get_or-replicate}
use Rattle.std.proofs.lemmas.Nat.{mul-le}
use mathlib.Core.Logic.{dite}
use native.Mathlib.Decide.{ℕ_discrete}
use lib.Seq.{set-get_or}
use Rattle.atomic_table.proofs.Lists.{at_last, at_longer, set_else, set_here}
use Rattle.tc_mutex_spec.proofs.ListLaws.{there}
use Rattle.tc_lemmas.proofs.Lists.{at_end}
use Rattle.tc_hall.proofs.Vocabulary.{Block, CLOCK, Hall, HallTerms, HasAll, IsLegal, IsOpening, IsOrdered, KeptHall, Knows, Line, Look, MAX_THREADS, Made, MayDo, Operation, PassCall, Stop, Stopped, after_operation, claim, claim_call, commit, dealt, free}
use Rattle.tc_hall.proofs.Vocabulary.{fresh, get_elem?, gone, hall_after, join, lay, line, line_word, look, merged, miss, put, put_call, reach, sealed_block, slot_word, some, some-injective, some-ne-none, split, stop, stopped, take, threads, with_call, words_of}
use Rattle.tc_hall.specs.declared.board.PassCall.TheVariants.{Commit, Free, Take}
use Rattle.tc_hall.specs.Closing.{MadeNone, has_stop, is_stop, sealed_by, sealed_in}
use Rattle.tc_hall.proofs.Cases.{apart}
use Rattle.tc_hall.proofs.Listing.{at_append}
use Rattle.tc_hall.proofs.Ordering.{kept_by}
use Rattle.tc_hall.proofs.Words.{line_behind}

-- two lists of one length, each of whose places agree
pub same_list : {A : Type 0} (xs ys : List A) → length xs ≡ length ys → ((t : ℕ) (a : A) → get_elem? xs t ≡ some a → get_elem? ys t ≡ some a) → xs ≡ ys
same_list [] [] l e = refl
same_list [] (y ∷ ys) l e = absurd (omega arith)
same_list (x ∷ xs) [] l e = absurd (omega arith)
same_list (x ∷ xs) (y ∷ ys) l e = let head : y ≡ x = some-injective y x (e 0 x refl) in let tail = same_list xs ys (omega arith) (λ t a h. e (suc t) a h) in cc (head, tail)

-- ---- what a pass has in its lists goes with it to the pass that it is joined into

-- its lists may have more at their ends
pub record IsLonger (v w : Knows) : Type 0 where
  pub calls : List PassCall
  pub called : w.calls ≡ v.calls ++ calls
  pub blocks : List Block
  pub sealed : w.sealed ≡ v.sealed ++ blocks

-- a live pass has it
pub record IsHeld (T : Knows → Type 0) (vs : List Knows) : Type 0 where
  pub id : ℕ
  pub view : Knows
  pub pass : get_elem? vs id ≡ some view
  pub live : view.spent ≡ false
  pub has : T view

module _ (T : Knows → Type 0) (grows : (v w : Knows) → IsLonger v w → T v → T w) (gets : (v w : Knows) → T w → T (merged v w)) where
  module _ (vs : List Knows) (id : ℕ) (v : Knows) (at : get_elem? vs id ≡ some v) (live : v.spent ≡ false) where
    has_here : (w : Knows) → w.spent ≡ false → T w → IsHeld T (set vs id w)
    has_here w l h = record { id = id; view = w; pass = set_here vs id w (there vs id v v at).0; live = l; has = h }

    its_view : (h : IsHeld T vs) (j : ℕ) (w : Knows) → h.id ≡ j → get_elem? vs j ≡ some w → T w
    its_view h j w is here = subst T (some-injective h.view w (sym h.pass ∙ (ap (get_elem? vs) is ∙ here))) h.has

    stays : (w : Knows) → w.spent ≡ v.spent → IsLonger v w → IsHeld T vs → IsHeld T (set vs id w)
    stays w l more h = dite (ℕ_discrete h.id id)
        (λ (is : h.id ≡ id). has_here w (l ∙ live) (grows v w more (its_view h id v is at)))
        (λ (ne : h.id ≢ id). record { id = h.id; view = h.view; pass = set_else vs id h.id w ne ∙ h.pass; live = h.live; has = h.has })

    -- it made one call more, or none
    called : (w : Knows) (c : PassCall) → w.spent ≡ v.spent → w.calls ≡ v.calls ++ c ∷ [] → w.sealed ≡ v.sealed → IsHeld T vs → IsHeld T (set vs id w)
    called w c l e f h = stays w l record { calls = c ∷ []; called = e; blocks = []; sealed = f ∙ sym (append-nil v.sealed) } h

    silent : (w : Knows) → w.spent ≡ v.spent → w.calls ≡ v.calls → w.sealed ≡ v.sealed → IsHeld T vs → IsHeld T (set vs id w)
    silent w l e f h = stays w l record { calls = []; called = e ∙ sym (append-nil v.calls); blocks = []; sealed = f ∙ sym (append-nil v.sealed) } h

    made_another : IsHeld T vs → IsHeld T (set vs id (dealt v) ++ fresh v ∷ [])
    made_another h = let s = silent (dealt v) refl refl refl h in record { id = s.id; view = s.view; pass = at_longer (set vs id (dealt v)) (fresh v ∷ []) s.id s.view s.pass; live = s.live; has = s.has }

    joined_in : (other : ℕ) (w : Knows) → get_elem? vs other ≡ some w → other ≢ id → IsHeld T vs → IsHeld T (set (set vs id (merged v w)) other gone)
    joined_in other w there' ne h =
        dite (ℕ_discrete h.id other)
        (λ (is : h.id ≡ other). mine (gets v w (its_view h other w is there')))
        (λ (far : h.id ≢ other). dite (ℕ_discrete h.id id)
        (λ (is : h.id ≡ id). mine (grows v (merged v w) record { calls = w.calls; called = refl; blocks = w.sealed; sealed = refl } (its_view h id v is at)))
        (λ (off : h.id ≢ id). record { id = h.id; view = h.view; pass = set_else (set vs id (merged v w)) other h.id gone far ∙ (set_else vs id h.id (merged v w) off ∙ h.pass); live = h.live; has = h.has }))
      where
        mine : T (merged v w) → IsHeld T (set (set vs id (merged v w)) other gone)
        mine has = record { id = id; view = merged v w; pass = set_else (set vs id (merged v w)) other id gone (λ e. ne (sym e)) ∙ set_here vs id (merged v w) (there vs id v v at).0; live = live; has = has }

  module _ (k : HallTerms) (s : Hall) (id : ℕ) (v : Knows) (at : get_elem? s.views id ≡ some v) (live : v.spent ≡ false) where
    held_after : (o : Operation) → MayDo k s id v o → IsHeld T s.views → IsHeld T (after_operation k s id v o).views
    held_after (claim t word q) may h = called s.views id v at live _ (claim_call v q word) refl refl refl h
    held_after (take i l) may h = called s.views id v at live _ (Take l.number) refl refl refl h
    held_after (miss word wanted found) may h = silent s.views id v at live _ refl refl refl h
    held_after (commit stamp b q) may h = stays s.views id v at live _ refl record { calls = Commit q.context.thread (sealed_block stamp v.worker b) ∷ []; called = refl; blocks = sealed_block stamp v.worker b ∷ []; sealed = refl } h
    held_after (put q place) may h = called s.views id v at live _ (put_call q place) refl refl refl h
    held_after (free l) may h = called s.views id v at live _ (Free l.number) refl refl refl h
    held_after (look t found) may h = called s.views id v at live _ (Look t found) refl refl refl h
    held_after (stopped found) may h = called s.views id v at live _ (Stopped found) refl refl refl h
    held_after stop may h = called s.views id v at live _ Stop refl refl refl h
    held_after (line i c) may h = called s.views id v at live _ (Line i c) refl refl refl h
    held_after (reach slot) may h = silent s.views id v at live _ refl refl refl h
    held_after (lay slot) may h = silent s.views id v at live _ refl refl refl h
    held_after split may h = made_another s.views id v at live h
    held_after (join other w) may h = joined_in s.views id v at live other w may.0 may.2 h

-- ---- stops

abbrev DidStop : Knows → Type 0
DidStop v = (i : ℕ) × (get_elem? v.calls i ≡ some Stop)

stop_grows : (v w : Knows) → IsLonger v w → DidStop v → DidStop w
stop_grows v w more h = (h.0, ap (λ (l : List PassCall). get_elem? l h.0) more.called ∙ at_longer v.calls more.calls h.0 Stop h.1)

stop_gets : (v w : Knows) → DidStop w → DidStop (merged v w)
stop_gets v w h = at_append v.calls w.calls h.0 Stop h.1

stop_made : (k : HallTerms) (s : Hall) (id : ℕ) (v : Knows) → get_elem? s.views id ≡ some v → v.spent ≡ false → (o : Operation) → is_stop o ≡ true → IsHeld DidStop (after_operation k s id v o).views
stop_made k s id v at live stop e = has_here DidStop stop_grows stop_gets s.views id v at live (with_call v Stop) live (length v.calls, at_last v.calls Stop (length v.calls) refl)
stop_made k s id v at live o e = absurd (apart (is_stop o) refl e)

-- a stop of the order is in the list of a live pass
stop_held : (k : HallTerms) (first : Hall) (order : List Made) → IsLegal k first order → has_stop order ≡ true → IsHeld DidStop (hall_after k first order).views
stop_held k first [] legal e = absurd (apart false refl e)
stop_held k first (m ∷ before) legal e =
    let s : Hall = hall_after k first before in
    ⊎_elim
    (λ (was : has_stop before ≡ true). held_after DidStop stop_grows stop_gets k s m.pass m.knew legal.0.pass legal.0.live m.operation legal.0.may (stop_held k first before legal.1 was))
    (λ (now : is_stop m.operation ≡ true). stop_made k s m.pass m.knew legal.0.pass legal.0.live m.operation now)
    (or_cases (has_stop before) (is_stop m.operation) e)

-- ---- blocks

abbrev DidSeal : Block → Knows → Type 0
DidSeal b v = (i : ℕ) × (get_elem? v.sealed i ≡ some b)

seal_grows : (b : Block) (v w : Knows) → IsLonger v w → DidSeal b v → DidSeal b w
seal_grows b v w more h = (h.0, ap (λ (l : List Block). get_elem? l h.0) more.sealed ∙ at_longer v.sealed more.blocks h.0 b h.1)

seal_gets : (b : Block) (v w : Knows) → DidSeal b w → DidSeal b (merged v w)
seal_gets b v w h = at_append v.sealed w.sealed h.0 b h.1

in_none : (bs : List Block) (i : ℕ) (b : Block) → get_elem? (bs ++ []) i ≡ some b → get_elem? bs i ≡ some b
in_none bs i b e = ap (λ (l : List Block). get_elem? l i) (sym (append-nil bs)) ∙ e

-- the clock counts them, and each has its number as its stamp
module _ (k : HallTerms) (s : Hall) (r : KeptHall k s) (id : ℕ) (v : Knows) (at : get_elem? s.views id ≡ some v) (live : v.spent ≡ false) (bs : List Block) (counted : slice_index s.words CLOCK ≡ length bs) where
  low : length bs + 1 < 18446744073709551616
  low =
      let most : threads k * (k.fuel + 1) ≤ MAX_THREADS * 65537 = mul-le (threads k) (k.fuel + 1) MAX_THREADS 65537 r.told.limits.threads (omega (arith, r.told.limits.fuel)) in
      let bound = r.told.law.bound in let clock = r.clock in omega (arith, most, bound, clock, counted)

  same_count : (n : ℕ) → n ≡ slice_index s.words CLOCK → n ≡ length (bs ++ [])
  same_count n e = e ∙ (counted ∙ ap (λ (l : List Block). length l) (sym (append-nil bs)))

  elsewhere : (word n : ℕ) → word ≢ CLOCK → slice_index (set s.words word n) CLOCK ≡ length (bs ++ [])
  elsewhere word n ne = same_count _ (get_or-set_other s.words word CLOCK n 0 (λ e. ne (sym e)))

  unchanged : (word n : ℕ) → slice_index s.words word ≡ n → slice_index (set s.words word n) CLOCK ≡ length (bs ++ [])
  unchanged word n is = same_count _ (ap (λ (l : List ℕ). slice_index l CLOCK) (ap (λ (z : ℕ). set s.words word z) (sym is) ∙ set-get_or s.words word 0))

  counted_after : (o : Operation) → MayDo k s id v o → slice_index (after_operation k s id v o).words CLOCK ≡ length (bs ++ sealed_by v o)
  counted_after (claim t word q) may = elsewhere (slot_word t) _ (λ e. omega arith)
  counted_after (take i l) may = elsewhere (slot_word (threads k + i)) _ (λ e. omega arith)
  counted_after (miss word wanted found) may = unchanged word found may.0
  counted_after (commit stamp b q) may =
      let stamped : slice_index s.words CLOCK ≡ stamp = may.0 in
      let one : length (bs ++ sealed_block stamp v.worker b ∷ []) ≡ length bs + 1 = length-append bs (sealed_block stamp v.worker b ∷ []) in
      let small = low in
      let new : (stamp + 1) % 18446744073709551616 ≡ length (bs ++ sealed_block stamp v.worker b ∷ []) = omega (arith, stamped, counted, one, small) in
      get_or-set_same s.words CLOCK ((stamp + 1) % 18446744073709551616) 0 (omega (arith, r.words)) ∙ new
  counted_after (put q place) may = elsewhere (slot_word q.context.thread) _ (λ e. omega arith)
  counted_after (free l) may = elsewhere (slot_word (threads k + l.number)) _ (λ e. omega arith)
  counted_after (look t found) may = elsewhere (slot_word t) _ (λ e. omega arith)
  counted_after (stopped found) may = elsewhere 32 _ (λ e. omega arith)
  counted_after stop may = elsewhere 32 _ (λ e. omega arith)
  counted_after (line i c) may = elsewhere (line_word k i c) _ (let b = line_behind k i c in λ e. omega (arith, b, e))
  counted_after (reach slot) may = elsewhere (slot_word slot) _ (λ e. omega arith)
  counted_after (lay slot) may = elsewhere (slot_word slot) _ (λ e. omega arith)
  counted_after split may = same_count _ refl
  counted_after (join other w) may = same_count _ refl

  -- a block that stands there then did before, or the operation sealed it
  stamped_after : (o : Operation) → MayDo k s id v o → (i : ℕ) (b : Block) → get_elem? (bs ++ sealed_by v o) i ≡ some b → (get_elem? bs i ≡ some b) ⊎ ((b.stamp ≡ i) × IsHeld (DidSeal b) (after_operation k s id v o).views)
  stamped_after (commit stamp c q) may i b e = ⊎_elim (λ z. inl z)
      (λ (z : (i ≡ length bs) × (sealed_block stamp v.worker c ≡ b)). inr (
        sym (ap (λ (x : Block). x.stamp) z.1) ∙ (sym may.0 ∙ (counted ∙ sym z.0)),
        has_here (DidSeal b) (seal_grows b) (seal_gets b) s.views id v at live _ live (length v.sealed, at_last v.sealed (sealed_block stamp v.worker c) (length v.sealed) refl ∙ ap (λ (x : Block). some x) z.1),
      ))
      (at_end bs (sealed_block stamp v.worker c) b i e)
  stamped_after o may i b e = inl (in_none bs i b e)

module _ (k : HallTerms) (first : Hall) (begins : IsOpening k first) where
  counted_in : (order : List Made) → IsLegal k first order → slice_index (hall_after k first order).words CLOCK ≡ length (sealed_in order)
  counted_in [] legal = ap (λ (s : Hall). slice_index s.words CLOCK) begins.is ∙ get_or-replicate (words_of k) CLOCK 0 0 (omega arith)
  counted_in (m ∷ before) legal =
      counted_after k (hall_after k first before) (kept_by k first begins before legal.1) m.pass m.knew legal.0.pass legal.0.live (sealed_in before) (counted_in before legal.1) m.operation legal.0.may

  -- each block stands at its stamp, and is in the list of a live pass
  sealed_at : (order : List Made) → IsLegal k first order → (i : ℕ) (b : Block) → get_elem? (sealed_in order) i ≡ some b → (b.stamp ≡ i) × IsHeld (DidSeal b) (hall_after k first order).views
  sealed_at [] legal i b e = absurd (some-ne-none b (sym e))
  sealed_at (m ∷ before) legal i b e =
      let s : Hall = hall_after k first before in ⊎_elim
      (λ (was : get_elem? (sealed_in before) i ≡ some b). let h = sealed_at before legal.1 i b was in
      (h.0, held_after (DidSeal b) (seal_grows b) (seal_gets b) k s m.pass m.knew legal.0.pass legal.0.live m.operation legal.0.may h.1))
      (λ now. now)
      (stamped_after k s (kept_by k first begins before legal.1) m.pass m.knew legal.0.pass legal.0.live (sealed_in before) (counted_in before legal.1) m.operation legal.0.may i b e)

-- the history is what the order sealed
pub written : (k : HallTerms) (s : Hall) (d : IsOrdered k s) (r : KeptHall k s) → r.told.history ≡ sealed_in d.order
written k s d r =
    let count : slice_index s.words CLOCK ≡ length (sealed_in d.order) = ap (λ (z : Hall). slice_index z.words CLOCK) d.is ∙ counted_in k d.first d.opens d.order d.legal in
    let clock : slice_index s.words CLOCK ≡ length r.told.history = r.clock in
    sym (same_list (sealed_in d.order) r.told.history (sym count ∙ clock) (λ i b e.
    let h = sealed_at k d.first d.opens d.order d.legal i b e in
    let held : IsHeld (DidSeal b) s.views = subst (λ (z : Hall). IsHeld (DidSeal b) z.views) (sym d.is) h.1 in
    subst (λ (n : ℕ). get_elem? r.told.history n ≡ some b) h.0 ((r.passes held.id held.view held.pass).sealed held.has.0 b held.has.1)))

-- the pass with which all workers were joined is the only live one
pub sole_live : (k : HallTerms) (s : Hall) (r : KeptHall k s) (id : ℕ) (v : Knows) → get_elem? s.views id ≡ some v → v.spent ≡ false → HasAll k.workers v → (j : ℕ) (x : Knows) → get_elem? s.views j ≡ some x → x.spent ≡ false → v ≡ x
sole_live k s r id v at live all j x here lives = ⊎_elim
    (λ (z : x.worker ≡ v.worker). let same : j ≡ id = r.apart.apart j id x v here at lives live z in some-injective v x (sym at ∙ (ap (get_elem? s.views) (sym same) ∙ here)))
    (λ (z : (e : ℕ) × (get_elem? v.joined e ≡ some x.worker)). absurd (r.apart.joined id j z.0 v x at here lives z.1))
    (all x.worker (r.passes j x here).worker)

-- where its list shows no stop, the order has none
pub unstopped_by : (k : HallTerms) (s : Hall) (d : IsOrdered k s) (r : KeptHall k s) (id : ℕ) (v : Knows) → get_elem? s.views id ≡ some v → v.spent ≡ false → HasAll k.workers v → MadeNone v → has_stop d.order ≡ false
unstopped_by k s d r id v at live all none = by (has_stop d.order) refl
  where
    by : (b : Bool) → has_stop d.order ≡ b → b ≡ false
    by false e = refl
    by true e =
        let held : IsHeld DidStop s.views = subst (λ (z : Hall). IsHeld DidStop z.views) (sym d.is) (stop_held k d.first d.order d.legal e) in
        let same : v ≡ held.view = sole_live k s r id v at live all held.id held.view held.pass held.live in
        absurd (none held.has.0 (ap (λ (x : Knows). get_elem? x.calls held.has.0) same ∙ held.has.1))
