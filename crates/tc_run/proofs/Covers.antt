-- Who is in a line and was not given the lock is covered after one operation more: by the word of its slot, or by a pass that has it in hand.
use Rattle.std.proofs.Common.{◌≡◌, ◌≢◌, ◌⊎◌, inl, inr, ⊎_elim, ℕ, ◌+◌, ◌<◌, ◌==◌, ◌&&◌, ◌||◌, not, Bool, true, false, if◌then◌else◌, List, [], ◌∷◌, ◌++◌, set, slice_index, get_or-set_other, get_or-set_same, arith, refl, sym, ap, ◌∙◌, subst, eqb-true, eq-eqb, ne_eqb, Option, Some, None}
use Rattle.std.proofs.lemmas.Bool.{and_parts, eqb-false}
use mathlib.Core.Option.{some, some-injective}
use mathlib.Core.Logic.{dite}
use native.Mathlib.Decide.{ℕ_discrete}
use lib.ListN.{get_elem?}
use Rattle.atomic_table.proofs.Lists.{at_longer, set_else, set_here}
use Rattle.tc_isa.specs.Sets.{has}
use Rattle.tc_journal.specs.declared.block.Block.{Block}
use Rattle.tc_mutex_spec.proofs.ListLaws.{there}
use Rattle.tc_segment.specs.View.{LockView, sealed_block}
use Rattle.tc_context.specs.View.{PackageView, with_seal}
use Rattle.tc_queue.specs.declared.turn.Turn.{Turn}
use Rattle.tc_queue.specs.declared.turn.Entered.{Entered}
use Rattle.tc_queue.specs.declared.turn.Entered.TheVariants.{First, Behind}
use Rattle.tc_queue.specs.declared.turn.Leave.TheVariants.{Left}
use Rattle.tc_queue.specs.declared.turn.QueueCall.TheVariants.{Enter as Did_enter, Leave as Did_leave}
use Rattle.tc_core.specs.Core.{Core, is_free_lock, is_number, with_of}
use Rattle.tc_core.specs.Events.{custody_on, custody_past, entered as line_entered, freed, left_by_all, passed_to, taken_by}
use Rattle.tc_core.specs.Lines.{is_first, is_in_line, is_second, rest_of}
use Rattle.tc_core.specs.declared.place.Custody.{Custody}
use Rattle.tc_core.specs.declared.place.LockPlace.{LockPlace}
use Rattle.tc_core.specs.declared.place.LockPlace.TheVariants.{Loose, With}
use Rattle.tc_core.specs.declared.place.LockPlace.TheVariants as place
use Rattle.tc_core.specs.declared.place.Release.{Release}
use Rattle.tc_core.proofs.Standing.{is_out, line_below}
use Rattle.tc_told.proofs.Standing.{IsLockAt, Once, Rule, Stand}
use Rattle.tc_hall.specs.declared.board.HallTerms.{HallTerms}
use Rattle.tc_hall.specs.declared.board.Knows.{Knows}
use Rattle.tc_hall.specs.declared.board.PassCall.{PassCall}
use Rattle.tc_hall.specs.declared.board.PassCall.TheVariants.{Commit, Free, Line, Take}
use Rattle.tc_hall.specs.declared.board.TheConstants.{CLOCK, STOP}
use Rattle.tc_hall.specs.declared.place.Place.{Place}
use Rattle.tc_hall.specs.declared.place.Place.TheVariants.{Waiting}
use Rattle.tc_hall.specs.Effects.{Hall}
use Rattle.tc_hall.specs.Lines.{line_word}
use Rattle.tc_hall.specs.Order.{Operation, claim, take, miss, commit, put, free, line, look, stop, stopped, reach, lay, split, join, MayDo, MayFill, after_operation}
use Rattle.tc_hall.specs.Outline.{at_home}
use Rattle.tc_hall.specs.Places.{code_of, place_of, slot_word}
use Rattle.tc_hall.specs.Rule.{locked_in, locks, threads}
use Rattle.tc_hall.specs.Shown.{lock_in_slot}
use Rattle.tc_hall.specs.Standing.{Standing, StandsAs, ClaimsAs, EntersAs, FreesAs, IfWaiting, PutsAs, away, closed, entered, followed, is_of, kind_at, past, past_line, past_take, stand_if, standing_of, stands_in, turn_in}
use Rattle.tc_hall.specs.Steps.{IsFree, after_free, after_put, after_seal, after_take, dealt, fresh, given_of, gone, merged, put_call, with_call}
use Rattle.tc_hall.proofs.Cases.{some_or_none}
use Rattle.tc_hall.proofs.Moves as moves
use Rattle.tc_hall.proofs.Standing.{standing_last, stands_settled}
use Rattle.tc_hall.proofs.Telling.{place_codes}
use Rattle.tc_run.proofs.Queues.{turn_first}
use Rattle.tc_run.proofs.Hands.{asked, core_is, free_away, kept_at, once_at, ruled_at, set_stays, stands_at, state_at}
use Rattle.tc_run.proofs.Lifting.{none_asks, truth, waits_or_not}
use Rattle.tc_run.proofs.After.{either, if_not}
use Rattle.tc_run.proofs.Agree.{Agrees, IsCovered, in_hand_of, in_its_slot, Live, Run, Step, Waits, core_at, custody_at, hall_at, line_at, then_run, written_at, may_do}
use Rattle.tc_core.proofs.Quiet.{pick_mine}
use Rattle.tc_hall.proofs.Words.{line_behind}
use Rattle.tc_hall.proofs.Turns.{turn_second}

-- ---- what an operation changes

-- it writes the word of thread t
abbrev pub writes : ℕ → Operation → Bool
writes t (claim u word q) = u == t
writes t (put q place) = q.context.thread == t
writes t o = false

word_else : (k : HallTerms) (s : Hall) (id : ℕ) (v : Knows) (o : Operation) (t : ℕ) → t < threads k → writes t o ≡ false → MayDo k s id v o → slice_index (after_operation k s id v o).words (slot_word t) ≡ slice_index s.words (slot_word t)
word_else k s id v (claim u word q) t below out may = get_or-set_other s.words (slot_word u) (slot_word t) _ 0 (λ e. eqb-false u t out (omega arith))
word_else k s id v (put q place) t below out may = get_or-set_other s.words (slot_word q.context.thread) (slot_word t) _ 0 (λ e. eqb-false q.context.thread t out (omega arith))
word_else k s id v (take i l) t below out may = get_or-set_other s.words (slot_word (threads k + i)) (slot_word t) _ 0 (λ e. omega arith)
word_else k s id v (miss word wanted found) t below out may = set_stays s.words word found (slot_word t) may.0
word_else k s id v (commit stamp b q) t below out may = get_or-set_other s.words CLOCK (slot_word t) _ 0 (λ e. omega arith)
word_else k s id v (free l) t below out may = get_or-set_other s.words (slot_word (threads k + l.number)) (slot_word t) _ 0 (λ e. omega arith)
word_else k s id v (look u found) t below out may = set_stays s.words (slot_word u) found (slot_word t) may.1
word_else k s id v stop t below out may = get_or-set_other s.words STOP (slot_word t) _ 0 (λ e. omega arith)
word_else k s id v (stopped found) t below out may = set_stays s.words STOP found (slot_word t) may
word_else k s id v (line i c) t below out may = (let b = line_behind k i c in get_or-set_other s.words (line_word k i c) (slot_word t) _ 0 (λ e. omega arith))
word_else k s id v (reach slot) t below out may = set_stays s.words (slot_word slot) _ (slot_word t) refl
word_else k s id v (lay slot) t below out may = set_stays s.words (slot_word slot) _ (slot_word t) refl
word_else k s id v split t below out may = refl
word_else k s id v (join other w) t below out may = refl

-- another pass stays as it is, if it is not joined
view_stays : (k : HallTerms) (s : Hall) (id : ℕ) (v : Knows) (o : Operation) (j : ℕ) (x : Knows) → j ≢ id → ((w : Knows) → o ≢ join j w) → get_elem? s.views j ≡ some x → get_elem? (after_operation k s id v o).views j ≡ some x
view_stays k s id v split j x ne apart at = at_longer (set s.views id (dealt v)) (fresh v ∷ []) j x (set_else s.views id j (dealt v) ne ∙ at)
view_stays k s id v (join other w) j x ne apart at = set_else (set s.views id (merged v w)) other j gone (λ (e : j ≡ other). apart w (ap (λ (z : ℕ). join z w) (sym e))) ∙ (set_else s.views id j (merged v w) ne ∙ at)
view_stays k s id v (claim t word q) j x ne apart at = set_else s.views id j _ ne ∙ at
view_stays k s id v (take i l) j x ne apart at = set_else s.views id j _ ne ∙ at
view_stays k s id v (miss word wanted found) j x ne apart at = set_else s.views id j _ ne ∙ at
view_stays k s id v (commit stamp b q) j x ne apart at = set_else s.views id j _ ne ∙ at
view_stays k s id v (put q place) j x ne apart at = set_else s.views id j _ ne ∙ at
view_stays k s id v (free l) j x ne apart at = set_else s.views id j _ ne ∙ at
view_stays k s id v (look t found) j x ne apart at = set_else s.views id j _ ne ∙ at
view_stays k s id v stop j x ne apart at = set_else s.views id j _ ne ∙ at
view_stays k s id v (stopped found) j x ne apart at = set_else s.views id j _ ne ∙ at
view_stays k s id v (line i c) j x ne apart at = set_else s.views id j _ ne ∙ at
view_stays k s id v (reach slot) j x ne apart at = set_else s.views id j _ ne ∙ at
view_stays k s id v (lay slot) j x ne apart at = set_else s.views id j _ ne ∙ at

-- ---- who is out of a lock after it was out before

less_out : (inside rests was left first : Bool) → (rests ≡ true → was ≡ true) → (inside && (rests || left || not first)) ≡ true → (inside && (was || left || not first)) ≡ true
less_out false rests was left first more e = e
less_out true false true left first more e = refl
less_out true false false left first more e = e
less_out true true was left first more e = ap (λ (b : Bool). b || left || not first) (more refl)

taken_out : (x : Custody) (u t : ℕ) → is_out (taken_by x u) t ≡ true → is_out x t ≡ true
taken_out x u t e = less_out (is_in_line x.line t) false (is_free_lock x.place) x.left (is_first x.line t) (λ f. absurd (cc f)) e

-- a block gives no lock back
pub block_out : (w t i u : ℕ) (held : Bool) (release : Option Release) (next : Option ℕ) (x : Custody) → is_out (custody_past w t held release (custody_on next t i x)) u ≡ true → is_out x u ≡ true
block_out w t i u held release next x out = on next (past_block_out (custody_on next t i x) out)
  where
    past_block_out : (y : Custody) → is_out (custody_past w t held release y) u ≡ true → is_out y u ≡ true
    past_block_out y e = by (is_number (with_of y.place) t && not held) e
      where
        by : (b : Bool) → is_out (if b then record y { place = Loose w; last = release } else y) u ≡ true → is_out y u ≡ true
        by true f = less_out (is_in_line y.line u) false (is_free_lock y.place) y.left (is_first y.line u) (λ g. absurd (cc g)) f
        by false f = f

    on : (o : Option ℕ) → is_out (custody_on o t i x) u ≡ true → is_out x u ≡ true
    on None e = e
    on (Some j) e = by (i == j) e
      where
        by : (b : Bool) → is_out (if b then record x { place = With t } else x) u ≡ true → is_out x u ≡ true
        by true f = less_out (is_in_line x.line u) false (is_free_lock x.place) x.left (is_first x.line u) (λ g. absurd (cc g)) f
        by false f = f

passed_out : (us : List ℕ) (rests left rest : Bool) (t : ℕ) → Once us → (is_in_line (rest_of us) t && rest) ≡ true → (is_in_line us t && (rests || left || not (is_first us t))) ≡ true
passed_out [] rests left rest t once e = absurd (cc e)
passed_out (y ∷ us) rests left rest t once e = by (y == t) refl (and_parts (is_in_line us t) rest e).0
  where
    last : (b c : Bool) → (b || c || true) ≡ true
    last true c = refl
    last false true = refl
    last false false = refl

    by : (b : Bool) → (y == t) ≡ b → is_in_line us t ≡ true → ((b || is_in_line us t) && (rests || left || not b)) ≡ true
    by true same inside = (let f : false ≡ true = sym once.0 ∙ (ap (is_in_line us) (eqb-true y t same) ∙ inside) in let n : ⊥ = cc f in absurd n)
    by false other inside = ap (λ (b : Bool). b && (rests || left || true)) inside ∙ last rests left

freed_out : (inside rests left first : Bool) → left ≡ true → (inside && true) ≡ true → (inside && (rests || left || not first)) ≡ true
freed_out false rests left first was e = absurd (cc e)
freed_out true true left first was e = refl
freed_out true false true first was e = refl
freed_out true false false first was e = absurd (cc was)

in_else : (us : List ℕ) (u t : ℕ) → u ≢ t → is_in_line (us ++ u ∷ []) t ≡ is_in_line us t
in_else [] u t ne = ap (λ (b : Bool). b || false) (ne_eqb u t ne)
in_else (y ∷ us) u t ne = ap (λ (b : Bool). (y == t) || b) (in_else us u t ne)

entered_out : (us : List ℕ) (rests left : Bool) (u t : ℕ) → u ≢ t → (is_in_line (us ++ u ∷ []) t && (rests || left || not (is_first (us ++ u ∷ []) t))) ≡ true → (is_in_line us t && (rests || left || not (is_first us t))) ≡ true
entered_out [] rests left u t ne e = (let f : false ≡ true = sym (in_else [] u t ne) ∙ (and_parts _ _ e).0 in let n : ⊥ = cc f in absurd n)
entered_out (y ∷ us) rests left u t ne e = ap (λ (b : Bool). b && (rests || left || not (y == t))) (sym (in_else (y ∷ us) u t ne)) ∙ e

module _ (k : HallTerms) (r : Run k) (a : Agrees k r) (m : Step k r) where
  abbrev r' : Run k
  r' = then_run k r m

  abbrev v : Knows
  v = m.made.knew

  abbrev Is : Operation → Type 0
  Is o = m.made.operation ≡ o

  abbrev stood : ℕ → Standing
  stood j = standing_of j v.calls

  abbrev After : Operation → Hall
  After o = after_operation k (hall_at k r) m.made.pass v o

  abbrev pub Covered : Type 0
  Covered = (j t : ℕ) → j < locks k → is_out (custody_at k r' j) t ≡ true → IsCovered k r' j t

  -- each lock stays as it is; or each but lock i
  abbrev pub Same : Type 0
  Same = (j : ℕ) → j < locks k → custody_at k r' j ≡ custody_at k r j

  abbrev pub SameElse : ℕ → Type 0
  SameElse i = (j : ℕ) → j < locks k → i ≢ j → custody_at k r' j ≡ custody_at k r j

  live : Live k r m.made.pass v
  live = record { pass = m.may.pass; live = m.may.live }

  is_after : (o : Operation) → Is o → hall_at k r' ≡ After o
  is_after o is = ap (λ (z : Operation). After z) is

  pub here : (w : Knows) → get_elem? (set (hall_at k r).views m.made.pass w) m.made.pass ≡ some w
  here w = set_here (hall_at k r).views m.made.pass w (there (hall_at k r).views m.made.pass v v m.may.pass).0

  -- ---- in the hand of a pass

  own_hand : (o : Operation) (w : Knows) → Is o → get_elem? (After o).views m.made.pass ≡ some w → w.spent ≡ false → (j t : ℕ) (u : Turn) (before : Option Turn) → standing_of j w.calls ≡ entered u before → u.thread ≡ t → IsCovered k r' j t
  own_hand o w is at alive j t u before stands same = in_hand_of m.made.pass w u before record { pass = ap (λ (s : Hall). get_elem? s.views m.made.pass) (is_after o is) ∙ at; live = alive } stands same

  -- after one call more
  hand_past : (o : Operation) (w : Knows) (c : PassCall) → Is o → get_elem? (After o).views m.made.pass ≡ some w → w.spent ≡ false → w.calls ≡ v.calls ++ c ∷ []
      → (j t : ℕ) (u : Turn) (before : Option Turn) → stood j ≡ entered u before → past j c (entered u before) ≡ entered u before → u.thread ≡ t → IsCovered k r' j t
  hand_past o w c is at alive calls j t u before was stays same = own_hand o w is at alive j t u before (ap (standing_of j) calls ∙ (standing_last j v.calls c ∙ (ap (past j c) was ∙ stays))) same

  -- a pass that is joined has nobody in hand
  other_hand : (id j t : ℕ) (x : Knows) (u : Turn) (before : Option Turn) → id ≢ m.made.pass → j < locks k → Live k r id x → standing_of j x.calls ≡ entered u before → u.thread ≡ t → IsCovered k r' j t
  other_hand id j t x u before ne below its stands same = in_hand_of id x u before record { pass = view_stays k (hall_at k r) m.made.pass v m.made.operation id x ne joined its.pass; live = its.live } stands same
    where
      joined : (w : Knows) → m.made.operation ≢ join id w
      joined w is =
          let may = may_do k r m (join id w) is in
          let e : w ≡ x = some-injective w x (sym may.0 ∙ its.pass) in
          let c : away ≡ entered u before = sym (free_away k r a id j x its below (subst IsFree e may.3)) ∙ stands in
          let n : ⊥ = cc c in n

  -- ---- all of them

  -- what an operation must show: who is out was so before, or is covered now; so are those whose slot it writes, and those whom its own pass has in hand
  pub record Covers (o : Operation) : Type 0 where
    pub members : (j t : ℕ) → j < locks k → is_out (custody_at k r' j) t ≡ true → (is_out (custody_at k r j) t ≡ true) ⊎ IsCovered k r' j t
    pub slots : (j t : ℕ) → j < locks k → is_out (custody_at k r' j) t ≡ true → writes t o ≡ true → Waits k r t j → IsCovered k r' j t
    pub hands : (j t : ℕ) (u : Turn) (before : Option Turn) → j < locks k → is_out (custody_at k r' j) t ≡ true → stood j ≡ entered u before → u.thread ≡ t → IsCovered k r' j t

  covered_by : (o : Operation) → Is o → Covers o → Covered
  covered_by o is c j t below out = ⊎_elim (λ (was : is_out (custody_at k r j) t ≡ true). by was (a.covered j t below was)) (λ (z : IsCovered k r' j t). z) (c.members j t below out)
    where
      inside : is_out (custody_at k r j) t ≡ true → t < threads k
      inside was = line_below k.image.value (core_at k r) j t (stands_at k r a).lines (and_parts _ _ was).0

      word : is_out (custody_at k r j) t ≡ true → Waits k r t j → (b : Bool) → writes t o ≡ b → IsCovered k r' j t
      word was waits true e = c.slots j t below out e waits
      word was waits false e = in_its_slot (ap (λ (s : Hall). slice_index s.words (slot_word t)) (is_after o is) ∙ (word_else k (hall_at k r) m.made.pass v o t (inside was) e (may_do k r m o is) ∙ waits))

      by : is_out (custody_at k r j) t ≡ true → IsCovered k r j t → IsCovered k r' j t
      by was (in_its_slot waits) = word was waits (writes t o) refl
      by was (in_hand_of id x u before its stands same) = dite (ℕ_discrete id m.made.pass)
          (λ (own : id ≡ m.made.pass).
          let e : x ≡ v = some-injective x v (sym its.pass ∙ (ap (λ (z : ℕ). get_elem? (hall_at k r).views z) own ∙ m.may.pass)) in
          c.hands j t u before below out (ap (λ (z : Knows). standing_of j z.calls) (sym e) ∙ stands) same)
          (λ (ne : id ≢ m.made.pass). other_hand id j t x u before ne below its stands same)

  stays_out : (j t : ℕ) → custody_at k r' j ≡ custody_at k r j → is_out (custody_at k r' j) t ≡ true → is_out (custody_at k r j) t ≡ true
  stays_out j t still out = subst (λ (x : Custody). is_out x t ≡ true) still out

  -- ---- an operation that changes no lock

  -- it leaves the list of its pass
  pub kept_covered : (o : Operation) (w : Knows) → Is o → Same → ((t : ℕ) → writes t o ≡ false) → get_elem? (After o).views m.made.pass ≡ some w → w.spent ≡ false → w.calls ≡ v.calls → Covered
  kept_covered o w is still silent at alive calls = covered_by o is record {
    members = λ j t below out. inl (stays_out j t (still j below) out);
    slots = λ j t below out written waits. absurd (let f : false ≡ true = sym (silent t) ∙ written in let n : ⊥ = cc f in n);
    hands = λ j t u before below out was same. own_hand o w is at alive j t u before (ap (standing_of j) calls ∙ was) same;
  }

  -- or adds a call that is not of the standing
  pub called_covered : (o : Operation) (w : Knows) (c : PassCall) → Is o → Same → ((t : ℕ) → writes t o ≡ false) → get_elem? (After o).views m.made.pass ≡ some w → w.spent ≡ false → w.calls ≡ v.calls ++ c ∷ []
      → ((j : ℕ) (u : Turn) (before : Option Turn) → past j c (entered u before) ≡ entered u before) → Covered
  called_covered o w c is still silent at alive calls stays = covered_by o is record {
    members = λ j t below out. inl (stays_out j t (still j below) out);
    slots = λ j t below out written waits. absurd (let f : false ≡ true = sym (silent t) ∙ written in let n : ⊥ = cc f in n);
    hands = λ j t u before below out was same. hand_past o w c is at alive calls j t u before was (stays j u before) same;
  }

  -- a pass joins another only when it has nobody in hand
  pub join_covered : (other : ℕ) (w : Knows) → Is (join other w) → Same → Covered
  join_covered other w is still = covered_by (join other w) is record {
    members = λ j t below out. inl (stays_out j t (still j below) out);
    slots = λ j t below out written waits. absurd (let n : ⊥ = cc written in n);
    hands = λ j t u before below out was same. absurd (let c : away ≡ entered u before = sym (free_away k r a m.made.pass j v live below ((may_do k r m (join other w) is).4 r.lined)) ∙ was in let n : ⊥ = cc c in n);
  }

  pub put_covered : (q : PackageView) (place : Place) → Is (put q place) → Same → Covered
  put_covered q place is still = covered_by (put q place) is record {
    members = λ j t below out. inl (stays_out j t (still j below) out);
    slots = λ j t below out written waits. absurd (not_waiting j below (subst (λ (z : ℕ). Waits k r z j) (sym (eqb-true q.context.thread t written)) waits));
    hands = λ j t u before below out was same. dite (ℕ_discrete u.thread q.context.thread)
        (λ (own : u.thread ≡ q.context.thread). subst (IsCovered k r' j) (sym own ∙ same) (laid j u before own was))
        (λ (ne : u.thread ≢ q.context.thread). hand_past (put q place) w (put_call q place) is (here w) m.may.live refl j t u before was (if_not (u.thread == q.context.thread) away (entered u before) (ne_eqb u.thread q.context.thread ne)) same);
  }
    where
      w : Knows
      w = record (after_put v q place) { open_slot = None }

      may : MayFill k v q place
      may = may_do k r m (put q place) is

      place_now : (q.context.thread < threads k) × (slice_index (hall_at k r).words (slot_word q.context.thread) ≡ 512 + v.worker)
      place_now = (let o = moves.is_out k (hall_at k r) (kept_at k r) m.made.pass q.context.thread v _ live.pass may.may.has in (o.0, o.3))

      not_waiting : (j : ℕ) → j < locks k → Waits k r q.context.thread j → ⊥
      not_waiting j below waits = (let word = place_now.1 in let few = (kept_at k r).told.limits.locks in omega (arith, word, few, below, waits))

      -- its word is now that of one that waits
      now_waits : (j : ℕ) → place ≡ Waiting j → Waits k r' q.context.thread j
      now_waits j at =
          let low = place_now.0 in
          let size = (kept_at k r).words in
          ap (λ (s : Hall). slice_index s.words (slot_word q.context.thread)) (is_after (put q place) is)
          ∙ (get_or-set_same (hall_at k r).words (slot_word q.context.thread) (code_of place) 0 (omega (arith, low, size)) ∙ ap code_of at)

      laid : (j : ℕ) (u : Turn) (before : Option Turn) → u.thread ≡ q.context.thread → stood j ≡ entered u before → IsCovered k r' j q.context.thread
      laid j u before own was =
          let p = asked k r m.made.pass v (PutsAs v q place) live.pass may.stands in
          ⊎_elim
          (λ (x : (l : LockView) × (locked_in q j ≡ Some l)).
          let c : entered u before ≡ stands_in (turn_in q j) (has q.context.guest.held j) (kind_at j (given_of q)) =
          sym was ∙ (p.locks j x.0 x.1 ∙ ap (λ (o : Option LockView). stand_if o (stands_in (turn_in q j) (has q.context.guest.held j) (kind_at j (given_of q)))) x.1) in
          absurd (stands_settled (turn_in q j) u (has q.context.guest.held j) (kind_at j (given_of q)) before (sym c)))
          (λ (none : locked_in q j ≡ None). ⊎_elim
          (λ (at : place ≡ Waiting j). in_its_slot (now_waits j at))
          (λ (ne : place ≢ Waiting j). let c : false ≡ true = sym (p.others j none ne) ∙ (ap (is_of q.context.thread) was ∙ eq-eqb u.thread q.context.thread own) in let n : ⊥ = cc c in absurd n)
          (waits_or_not place j))
          (some_or_none (locked_in q j))

  -- ---- a claim: no turn has entered whose package is in hand

  settled : (t word : ℕ) (q : PackageView) → Is (claim t word q) → (j : ℕ) (u : Turn) (before : Option Turn) → stood j ≡ entered u before → ⊥
  settled t word q is j u before was = (asked k r m.made.pass v (ClaimsAs v t (place_of word)) live.pass (may_do k r m (claim t word q) is).stands).settled j u before was

  waited : (t word j : ℕ) (q : PackageView) → Is (claim t word q) → Waits k r t j → place_of word ≡ Waiting j
  waited t word j q is waits = ap place_of (sym (may_do k r m (claim t word q) is).found ∙ waits) ∙ place_codes (Waiting j)

  pub claim_covered : (t word : ℕ) (q : PackageView) → Is (claim t word q) → ((j : ℕ) → place_of word ≡ Waiting j → ⊥) → Same → Covered
  claim_covered t word q is plain still = covered_by (claim t word q) is record {
    members = λ j u below out. inl (stays_out j u (still j below) out);
    slots = λ j u below out written waits. absurd (plain j (waited t word j q is (subst (λ (z : ℕ). Waits k r z j) (sym (eqb-true t u written)) waits)));
    hands = λ j u x before below out was same. absurd (settled t word q is j x before was);
  }

  -- of one that waits: it is the first now
  pub pass_covered : (t word i run : ℕ) (q : PackageView) → Is (claim t word q) → place_of word ≡ Waiting i → custody_at k r' i ≡ passed_to (custody_at k r i) t run → SameElse i → Covered
  pass_covered t word i run q is at core still = covered_by (claim t word q) is record {
    members = λ j u below out. inl (dite (ℕ_discrete i j) (λ (same : i ≡ j). behind j u below (core_at_lock j same) out) (λ (ne : i ≢ j). stays_out j u (still j below ne) out));
    slots = λ j u below out written waits. absurd (first j below (subst (λ (z : ℕ). Waits k r z j) (sym (eqb-true t u written)) waits) (subst (λ (z : ℕ). is_out (custody_at k r' j) z ≡ true) (sym (eqb-true t u written)) out));
    hands = λ j u x before below out was same. absurd (settled t word q is j x before was);
  }
    where
      core_at_lock : (j : ℕ) → i ≡ j → custody_at k r' j ≡ passed_to (custody_at k r j) t run
      core_at_lock j same = subst (λ (z : ℕ). custody_at k r' z ≡ passed_to (custody_at k r z) t run) same core

      behind : (j u : ℕ) → j < locks k → custody_at k r' j ≡ passed_to (custody_at k r j) t run → is_out (custody_at k r' j) u ≡ true → is_out (custody_at k r j) u ≡ true
      behind j u below now out =
          let x : Custody = custody_at k r j in
          passed_out x.line (is_free_lock x.place) x.left (false || x.left || not (is_first (rest_of x.line) u)) u (subst Once (sym (a.lines j below).line) (once_at k r a j below)) (subst (λ (y : Custody). is_out y u ≡ true) now out)

      first : (j : ℕ) → j < locks k → Waits k r t j → is_out (custody_at k r' j) t ≡ true → ⊥
      first j below waits out =
          let x : Custody = custody_at k r j in
          let here : place_of word ≡ Waiting j = waited t word j q is waits in
          let same : i ≡ j = (let e : Waiting i ≡ Waiting j = sym at ∙ here in cc e) in
          let p = subst (IfWaiting v t) here (asked k r m.made.pass v (ClaimsAs v t (place_of word)) live.pass (may_do k r m (claim t word q) is).stands).waiting in
          let so = truth k r a m.made.pass v live j (followed p.own p.behind) below p.stands in
          let next : is_second x.line t ≡ true = subst (λ (z : ℕ). is_second x.line z ≡ true) p.thread (ap (λ (z : List ℕ). is_second z p.behind.thread) (a.lines j below).line ∙ turn_second (line_at k r j) p.behind so.3) in
          let c : false ≡ true = sym (none_asks (is_in_line (rest_of x.line) t) false x.left (is_first (rest_of x.line) t) refl so.1 next) ∙ subst (λ (y : Custody). is_out y t ≡ true) (core_at_lock j same) out in
          let n : ⊥ = cc c in n

  -- ---- a lock that is taken, or given back

  free_kept : (i : ℕ) → (custody_at k r i).place ≡ place.Free → (custody_at k r i).left ≡ false
  free_kept i = subst (λ (c : Core). (c.custody i).place ≡ place.Free → (c.custody i).left ≡ false) (core_is k r) (by _ _ _ ((written_at k r).core.custody i) ((ruled_at k r a).1.locks i))
    where
      by : (limit : ℕ) (bs : List Block) (at : ℕ → Stand) (x : Custody) → IsLockAt limit i bs at x → x.place ≡ place.Free → x.left ≡ false
      by limit bs at x is e = (subst (λ (p : LockPlace). Rule limit i bs at x p) e is.rule).0

  pub take_covered : (i : ℕ) (l : LockView) (u : Turn) → Is (take i l) → StandsAs v i (entered u None) → (custody_at k r i).place ≡ place.Free → custody_at k r' i ≡ taken_by (custody_at k r i) u.thread → SameElse i → Covered
  take_covered i l u is stands rests core still = covered_by (take i l) is record {
    members = λ j t below out. inl (dite (ℕ_discrete i j) (λ (same : i ≡ j). taken_out (custody_at k r j) u.thread t (subst (λ (x : Custody). is_out x t ≡ true) (now j same) out)) (λ (ne : i ≢ j). stays_out j t (still j below ne) out));
    slots = λ j t below out written waits. absurd (let n : ⊥ = cc written in n);
    hands = λ j t x before below out was same. dite (ℕ_discrete i j)
        (λ (e : i ≡ j). absurd (first j below e (subst (λ (z : ℕ). is_out (custody_at k r' j) z ≡ true) (sym (given x before t (subst (λ (z : ℕ). StandsAs v z (entered x before)) (sym e) was) same)) out)))
        (λ (ne : i ≢ j). hand_past (take i l) w (Take l.number) is (here w) m.may.live refl j t x before was (if_not (l.number == j) (past_take (entered x before)) (entered x before) (ne_eqb l.number j (λ (z : l.number ≡ j). ne (sym number ∙ z)))) same);
  }
    where
      w : Knows
      w = record (after_take v l) { open_slot = Some (threads k + i) }

      number : l.number ≡ i
      number = (state_at k (hall_at k r) (kept_at k r) i l at_home (may_do k r m (take i l) is).below (lock_in_slot (may_do k r m (take i l) is).slot refl)).0

      now : (j : ℕ) → i ≡ j → custody_at k r' j ≡ taken_by (custody_at k r j) u.thread
      now j same = subst (λ (z : ℕ). custody_at k r' z ≡ taken_by (custody_at k r z) u.thread) same core

      given : (x : Turn) (before : Option Turn) (t : ℕ) → stood i ≡ entered x before → x.thread ≡ t → u.thread ≡ t
      given x before t was same = (let e : entered u None ≡ entered x before = sym stands ∙ was in let f : u ≡ x = cc e in ap (λ (z : Turn). z.thread) f ∙ same)

      first : (j : ℕ) → j < locks k → i ≡ j → is_out (custody_at k r' j) u.thread ≡ true → ⊥
      first j below same out =
          let x : Custody = custody_at k r j in
          let so = truth k r a m.made.pass v live j (entered u None) below (subst (λ (z : ℕ). StandsAs v z (entered u None)) same stands) in
          let left : x.left ≡ false = free_kept j (subst (λ (z : ℕ). (custody_at k r z).place ≡ place.Free) same rests) in
          let ahead : is_first x.line u.thread ≡ true = ap (λ (z : List ℕ). is_first z u.thread) (a.lines j below).line ∙ turn_first (line_at k r j) u so.0 in
          let c : false ≡ true = sym (none_asks (is_in_line x.line u.thread) false x.left (is_first x.line u.thread) refl left ahead) ∙ subst (λ (y : Custody). is_out y u.thread ≡ true) (now j same) out in
          let n : ⊥ = cc c in n

  pub free_covered : (l : LockView) → Is (free l) → custody_at k r' l.number ≡ freed (custody_at k r l.number) → SameElse l.number → Covered
  free_covered l is core still = covered_by (free l) is record {
    members = λ j t below out. inl (dite (ℕ_discrete l.number j) (λ (same : l.number ≡ j). was_out j t below same out) (λ (ne : l.number ≢ j). stays_out j t (still j below ne) out));
    slots = λ j t below out written waits. absurd (let n : ⊥ = cc written in n);
    hands = λ j t u before below out was same. dite (ℕ_discrete l.number j)
        (λ (e : l.number ≡ j). let c : closed frees.0 ≡ entered u before = sym (stands j e) ∙ was in let n : ⊥ = cc c in absurd n)
        (λ (ne : l.number ≢ j). hand_past (free l) w (Free l.number) is (here w) m.may.live refl j t u before was (if_not (l.number == j) away (entered u before) (ne_eqb l.number j ne)) same);
  }
    where
      w : Knows
      w = record (after_free v l) { open_slot = None }

      frees : FreesAs v l.number
      frees = asked k r m.made.pass v (FreesAs v l.number) live.pass (may_do k r m (free l) is).2

      stands : (j : ℕ) → l.number ≡ j → StandsAs v j (closed frees.0)
      stands j same = subst (λ (z : ℕ). StandsAs v z (closed frees.0)) same frees.1

      was_out : (j t : ℕ) → j < locks k → l.number ≡ j → is_out (custody_at k r' j) t ≡ true → is_out (custody_at k r j) t ≡ true
      was_out j t below same out =
          let x : Custody = custody_at k r j in
          let so = truth k r a m.made.pass v live j (closed frees.0) below (stands j same) in
          freed_out (is_in_line x.line t) (is_free_lock x.place) x.left (is_first x.line t) so.1 (subst (λ (y : Custody). is_out y t ≡ true) (subst (λ (z : ℕ). custody_at k r' z ≡ freed (custody_at k r z)) same core) out)

  -- ---- a block: its call changes no standing of a turn that entered

  pub commit_covered : (stamp : ℕ) (b : Block) (q : PackageView) → Is (commit stamp b q) → ((j t : ℕ) → j < locks k → is_out (custody_at k r' j) t ≡ true → is_out (custody_at k r j) t ≡ true) → Covered
  commit_covered stamp b q is less = covered_by (commit stamp b q) is record {
    members = λ j t below out. inl (less j t below out);
    slots = λ j t below out written waits. absurd (let n : ⊥ = cc written in n);
    hands = λ j t u before below out was same. hand_past (commit stamp b q) w (Commit q.context.thread (sealed_block stamp v.worker b)) is (here w) m.may.live refl j t u before was (either (has b.held j) (entered u before)) same;
  }
    where
      w : Knows
      w = after_seal v (sealed_block stamp v.worker b) (with_seal stamp v.worker q)

  -- ---- calls on a line

  -- who enters is in hand
  pub enter_covered : (i : ℕ) (u : Turn) (e : Entered) → Is (line i (Did_enter u e)) → custody_at k r' i ≡ line_entered (custody_at k r i) u.thread → SameElse i → Covered
  enter_covered i u e is core still = covered_by (line i (Did_enter u e)) is record {
    members = λ j t below out. dite (ℕ_discrete i j)
        (λ (same : i ≡ j). dite (ℕ_discrete u.thread t) (λ (own : u.thread ≡ t). inr (subst (λ (z : ℕ). IsCovered k r' z t) same (entrant t own))) (λ (ne : u.thread ≢ t). inl (was_out j t same ne out)))
        (λ (ne : i ≢ j). inl (stays_out j t (still j below ne) out));
    slots = λ j t below out written waits. absurd (let n : ⊥ = cc written in n);
    hands = λ j t x before below out was same. dite (ℕ_discrete i j)
        (λ (z : i ≡ j). let c : away ≡ entered x before = sym (subst (λ (y : ℕ). StandsAs v y away) z enters) ∙ was in let n : ⊥ = cc c in absurd n)
        (λ (ne : i ≢ j). hand_past (line i (Did_enter u e)) w (Line i (Did_enter u e)) is (here w) m.may.live refl j t x before was (if_not (i == j) (past_line (Did_enter u e) (entered x before)) (entered x before) (ne_eqb i j ne)) same);
  }
    where
      w : Knows
      w = with_call v (Line i (Did_enter u e))

      enters : StandsAs v i away
      enters = (asked k r m.made.pass v (EntersAs v i u) live.pass (may_do k r m (line i (Did_enter u e)) is).3).stands

      now_stands : (e : Entered) → (before : Option Turn) × (past i (Line i (Did_enter u e)) (stood i) ≡ entered u before)
      now_stands First = (None, pick_mine i (entered u None) (stood i))
      now_stands (Behind b) = (Some b, pick_mine i (entered u (Some b)) (stood i))

      entrant : (t : ℕ) → u.thread ≡ t → IsCovered k r' i t
      entrant t own = (let s = now_stands e in own_hand (line i (Did_enter u e)) w is (here w) m.may.live i t u s.0 (standing_last i v.calls (Line i (Did_enter u e)) ∙ s.1) own)

      was_out : (j t : ℕ) → i ≡ j → u.thread ≢ t → is_out (custody_at k r' j) t ≡ true → is_out (custody_at k r j) t ≡ true
      was_out j t same ne out =
          let x : Custody = custody_at k r j in
          entered_out x.line (is_free_lock x.place) x.left u.thread t ne (subst (λ (y : Custody). is_out y t ≡ true) (subst (λ (z : ℕ). custody_at k r' z ≡ line_entered (custody_at k r z) u.thread) same core) out)

  -- a line that all have left has nobody
  pub leave_covered : (i : ℕ) (u : Turn) → Is (line i (Did_leave u Left)) → custody_at k r' i ≡ left_by_all (custody_at k r i) → SameElse i → Covered
  leave_covered i u is core still = covered_by (line i (Did_leave u Left)) is record {
    members = λ j t below out. inl (dite (ℕ_discrete i j)
        (λ (same : i ≡ j). let c : false ≡ true = subst (λ (y : Custody). is_out y t ≡ true) (subst (λ (z : ℕ). custody_at k r' z ≡ left_by_all (custody_at k r z)) same core) out in let n : ⊥ = cc c in absurd n)
        (λ (ne : i ≢ j). stays_out j t (still j below ne) out));
    slots = λ j t below out written waits. absurd (let n : ⊥ = cc written in n);
    hands = λ j t x before below out was same. hand_past (line i (Did_leave u Left)) w (Line i (Did_leave u Left)) is (here w) m.may.live refl j t x before was (either (i == j) (entered x before)) same;
  }
    where
      w : Knows
      w = with_call v (Line i (Did_leave u Left))
