-- A turn extends its thread's unfinished block, and a finished one moves into the base.
use Rattle.std.proofs.Common.{◌≡◌, ◌≢◌, ◌⊎◌, ℕ, ◌+◌, ◌<◌, Bool, true, false, refl, sym, ap, subst, ◌∙◌, arith, add-one, inl, inr}
use Rattle.std.specs.Prelude.{Option, Some, None}
use Rattle.std.proofs.lemmas.Bool.Decides.{eqb_tells}
use Rattle.tc_isa.specs.Registers.{Registers}
use Rattle.tc_elf.specs.Shown.{Shown}
use Rattle.tc_exec.specs.declared.outcome.Act.TheVariants.{Called}
use Rattle.tc_exec.specs.declared.outcome.Call.TheVariants.{Lock}
use Rattle.tc_journal.specs.Rule.{end_rule}
use Rattle.tc_turn.specs.Turn.{Thread, Mutex, next_lock, next_act, thread_after, outcome_of}
use Rattle.tc_turn.specs.Reads.{Covers}
use Rattle.tc_turn.proofs.Turns.{held_grows, act_takes}
use Rattle.tc_mutex_spec.specs.Machine.{State, can_turn, after}
use Rattle.tc_mutex_spec.specs.Locality.{Agree, Apart}
use Rattle.tc_mutex_spec.specs.Blocks.{reach, end_at}
use Rattle.tc_mutex_spec.proofs.Local.{after_thread, act_agree, turn_apart, turn_same, turn_agree, agree_trans}
use Rattle.tc_mutex_spec.proofs.BlocksAlike.{agree_within, apart_within, end_same}
use Rattle.tc_core.specs.Core.{is_number}
use Rattle.tc_core.proofs.Gathers.{is_with, Gathers}
use Rattle.tc_lemmas.proofs.Tests.{eq_self}

takes_next : (image : Shown) (d : Thread) (locks : ℕ → Mutex) (k : ℕ) (regs : Registers) → next_act image d locks ≡ Some (Called (Lock k) regs) → next_lock image d ≡ Some k
unfolding next_act
takes_next image d locks k regs e = act_takes image d _ k regs e

-- with a lock in or out of a thread's set

pub in_set : (o : Option ℕ) (t : ℕ) → o ≡ Some t → is_number o t ≡ true
in_set o t e = ap (λ x. is_number x t) e ∙ eq_self t

pub from_set : (o : Option ℕ) (t : ℕ) → is_number o t ≡ true → o ≡ Some t
from_set None t e = absurd (cc)
from_set (Some u) t e = elim (eqb_tells u t) [ inl h ↦ rw h.1 | inr h ↦ absurd (let f = h.0 in cc) ]

pub not_in : (o : Option ℕ) (t : ℕ) → o ≢ Some t → is_number o t ≡ false
not_in None t ne = refl
not_in (Some u) t ne = elim (eqb_tells u t) [ inl h ↦ absurd (ne (rw h.1)) | inr h ↦ h.0 ]

some_differ : (t u : ℕ) (o : Option ℕ) → o ≡ Some u → u ≢ t → o ≢ Some t
some_differ t u o e ne f = (let s : Some u ≡ Some t = sym e ∙ f in ne cc)

covers_more : (image : Shown) (set wide : ℕ → Bool) (d : Thread) → ((k : ℕ) → set k ≡ true → wide k ≡ true) → Covers image set d → Covers image wide d
covers_more image set wide d more covers = record { held = λ k h. more k (covers.held k h); next = λ k h. more k (covers.next k h) }

agree_sym : (t : ℕ) (set : ℕ → Bool) (a b : State) → Agree t set a b → Agree t set b a
agree_sym t set a b p = record { thread = sym p.thread; locks = λ k h. sym (p.locks k h) }

agree_less : (t : ℕ) (set small : ℕ → Bool) (a b : State) → ((k : ℕ) → small k ≡ true → set k ≡ true) → Agree t set a b → Agree t small a b
agree_less t set small a b less p = record { thread = p.thread; locks = λ k h. p.locks k (less k h) }

-- a turn

-- who has which lock, and how many turns are done, after a turn of t
pub record Extends (image : Shown) (m : State) (t : ℕ) (owned owned' : ℕ → Option ℕ) (done done' : ℕ → ℕ) : Type 0 where
  pub can : can_turn image m t ≡ true
  pub first : (k : ℕ) → next_lock image (m.threads t) ≡ Some k → (done t ≡ 0) × (owned k ≡ None) × (owned' k ≡ Some t)
  pub same : (k : ℕ) → next_lock image (m.threads t) ≢ Some k → owned' k ≡ owned k
  pub mine : done' t ≡ done t + 1
  pub other : (u : ℕ) → u ≢ t → done' u ≡ done u

-- whether the turn takes the lock
pub takes : (o : Option ℕ) (k : ℕ) → (o ≡ Some k) ⊎ (o ≢ Some k)
takes None k = inr (λ e. cc)
takes (Some j) k = elim (eqb_tells j k) [ inl h ↦ inl (rw h.1) | inr h ↦ inr (λ e. h.1 cc) ]

module _ (image : Shown) (m base : State) (t : ℕ) (owned owned' : ℕ → Option ℕ) (done done' : ℕ → ℕ) (g : Gathers image m base owned done) (x : Extends image m t owned owned' done done') where
  grows : (k u : ℕ) → owned k ≡ Some u → owned' k ≡ Some u
  grows k u e = elim (takes (next_lock image (m.threads t)) k) [
    | inl h ↦ absurd (let n = (x.first k h).1 in cc)
    | inr h ↦ x.same k h ∙ e
  ]

  from : State
  from = reach image base t (done t)

  covers_m : Covers image (is_with owned' t) (m.threads t)
  covers_m = record {
    held = λ k h. in_set (owned' k) t (grows k t (g.held t k h));
    next = λ k h. in_set (owned' k) t (x.first k h).2;
  }

  -- the lock that is taken is as it was in the base
  agree_wide : Agree t (is_with owned' t) from m
  unfolding from
  agree_wide = record {
    thread = (g.part t).thread;
    locks = λ k h. elim (takes (next_lock image (m.threads t)) k) [
      | inl e ↦ (let f = x.first k e in ap (λ n. (reach image base t n).locks k) f.0 ∙ sym (g.rest k f.1))
      | inr e ↦ (g.part t).locks k (in_set (owned k) t (sym (x.same k e) ∙ from_set (owned' k) t h))
    ];
  }

  covers_from : Covers image (is_with owned' t) (from.threads t)
  covers_from = subst (λ d. Covers image (is_with owned' t) d) (sym agree_wide.thread) covers_m

  after_agree : Agree t (is_with owned' t) (after image from t) (after image m t)
  after_agree = turn_agree image from m t (is_with owned' t) covers_from agree_wide

  apart_m : Apart t (is_with owned' t) m (after image m t)
  apart_m = turn_apart image m t (is_with owned' t) covers_m

  pub new_end : end_at image base t (done t) ≡ end_rule (outcome_of (next_act image (m.threads t) m.locks)) (done t + 1) (next_lock image ((after image m t).threads t))
  unfolding from
  new_end =
      let acts = act_agree image from m t (is_with owned' t) covers_from agree_wide in
      let nexts = ap (next_lock image) after_agree.thread in
      λ i. end_rule (outcome_of (acts i)) (done t + 1) (nexts i)

  -- another thread's locks are none of t's
  apart_set : (u k : ℕ) → u ≢ t → is_with owned' u k ≡ true → is_with owned' t k ≡ false
  apart_set u k ne h = not_in (owned' k) t (some_differ t u (owned' k) (from_set (owned' k) u h) ne)

  other_set : (u k : ℕ) → u ≢ t → is_with owned' u k ≡ true → is_with owned u k ≡ true
  other_set u k ne h = elim (takes (next_lock image (m.threads t)) k) [
    | inl e ↦ absurd (let s : Some t ≡ Some u = sym (x.first k e).2 ∙ from_set (owned' k) u h in ne cc)
    | inr e ↦ in_set (owned k) u (sym (x.same k e) ∙ from_set (owned' k) u h)
  ]

  more_set : (u k : ℕ) → is_with owned u k ≡ true → is_with owned' u k ≡ true
  more_set u k h = in_set (owned' k) u (grows k u (from_set (owned k) u h))

  part_mine : Agree t (is_with owned' t) (reach image base t (done' t)) (after image m t)
  unfolding from
  part_mine = subst (λ n. Agree t (is_with owned' t) (reach image base t n) (after image m t)) (sym (x.mine ∙ add-one (done t))) after_agree

  part_other : (u : ℕ) → u ≢ t → Agree u (is_with owned' u) (reach image base u (done' u)) (after image m t)
  part_other u ne =
      let p = g.part u in
      subst (λ n. Agree u (is_with owned' u) (reach image base u n) (after image m t)) (sym (x.other u ne)) (record {
        thread = p.thread ∙ sym (apart_m.threads u ne);
        locks = λ k h. p.locks k (other_set u k ne h) ∙ sym (apart_m.locks k (apart_set u k ne h));
      })

  held_mine : (k : ℕ) → ((after image m t).threads t).held k ≡ true → owned' k ≡ Some t
  held_mine k h =
      let b : (thread_after (m.threads t) (next_act image (m.threads t) m.locks)).held k ≡ true = (ap (λ (d : Thread). d.held k) (sym (after_thread image m t)) ∙ h) in
      elim (held_grows (m.threads t) (next_act image (m.threads t) m.locks) k b) [
        | inl e ↦ grows k t (g.held t k e)
        | inr e ↦ (x.first k (takes_next image (m.threads t) m.locks k e.0 e.1)).2
      ]

  none_before : (k : ℕ) → owned' k ≡ None → owned k ≡ None
  none_before k e = go (owned k) refl
    where
      go : (o : Option ℕ) → owned k ≡ o → owned k ≡ None
      go None h = h
      go (Some u) h = absurd (let f = grows k u h in cc)

  pub extended : ((k : ℕ) → k + 1 ≡ done t → end_at image base t k ≡ None) → Gathers image (after image m t) base owned' done'
  unfolding from
  extended open_end = record {
    part = λ u. elim (eqb_tells u t) [
      | inl e ↦ subst (λ v. Agree v (is_with owned' v) (reach image base v (done' v)) (after image m t)) (sym e.1) part_mine
      | inr e ↦ part_other u e.1
    ];
    rest = λ k e. apart_m.locks k (not_in (owned' k) t (λ f. cc)) ∙ g.rest k (none_before k e);
    held = λ u k h. elim (eqb_tells u t) [
      | inl e ↦ (let s : ((after image m t).threads t).held k ≡ true = subst (λ v. ((after image m t).threads v).held k ≡ true) e.1 h in held_mine k s ∙ ap Some (sym e.1))
      | inr e ↦ grows k u (g.held u k (ap (λ (d : Thread). d.held k) (sym (apart_m.threads u e.1)) ∙ h))
    ];
    covers = λ u k lt. elim (eqb_tells u t) [
      | inl e ↦ subst (λ v. Covers image (is_with owned' v) ((reach image base v k).threads v)) (sym e.1) (last_or (λ j. Covers image (is_with owned' t) ((reach image base t j).threads t)) (λ j l. covers_more image (is_with owned t) (is_with owned' t) _ (more_set t) (g.covers t j l)) covers_from k (mine_lt u k e.1 lt))
      | inr e ↦ covers_more image (is_with owned u) (is_with owned' u) _ (more_set u) (g.covers u k (other_lt u k e.1 lt))
    ];
    defined = λ u k lt. elim (eqb_tells u t) [
      | inl e ↦ subst (λ v. can_turn image (reach image base v k) v ≡ true) (sym e.1) (last_or (λ j. can_turn image (reach image base t j) t ≡ true) (g.defined t) (turn_same image from m t (is_with owned' t) covers_from agree_wide ∙ x.can) k (mine_lt u k e.1 lt))
      | inr e ↦ g.defined u k (other_lt u k e.1 lt)
    ];
    before = λ u k lt. elim (eqb_tells u t) [
      | inl e ↦ subst (λ v. end_at image base v k ≡ None) (sym e.1) (before_mine k (let l = mine_lt u (k + 1) e.1 lt in omega arith))
      | inr e ↦ g.before u k (other_lt u (k + 1) e.1 lt)
    ];
  }
    where
      mine_lt : (u k : ℕ) → u ≡ t → k < done' u → k < done t + 1
      mine_lt u k e lt = subst (λ n. k < n) x.mine (subst (λ v. k < done' v) e lt)

      other_lt : (u k : ℕ) → u ≢ t → k < done' u → k < done u
      other_lt u k ne lt = subst (λ n. k < n) (x.other u ne) lt

      last_or : (P : ℕ → Type 0) → ((j : ℕ) → j < done t → P j) → P (done t) → (k : ℕ) → k < done t + 1 → P k
      last_or P below here k lt = elim (eqb_tells k (done t)) [ inl e ↦ subst P (sym e.1) here | inr e ↦ below k (let ne : k ≢ done t = e.1 in omega arith) ]

      before_mine : (k : ℕ) → k < done t → end_at image base t k ≡ None
      before_mine k lt = elim (eqb_tells (k + 1) (done t)) [ inl e ↦ open_end k e.1 | inr e ↦ g.before t k (let ne : k + 1 ≢ done t = e.1 in omega arith) ]

-- a commit

-- t's block is over: it keeps the locks that it holds, and gives up no others than its own
pub record Ends (m : State) (t : ℕ) (owned owned' : ℕ → Option ℕ) (done done' : ℕ → ℕ) : Type 0 where
  pub keeps : (k u : ℕ) → owned' k ≡ Some u → owned k ≡ Some u
  pub others : (k u : ℕ) → u ≢ t → owned k ≡ Some u → owned' k ≡ Some u
  pub held : (k : ℕ) → (m.threads t).held k ≡ true → owned' k ≡ Some t
  pub mine : done' t ≡ 0
  pub other : (u : ℕ) → u ≢ t → done' u ≡ done u

module _ (image : Shown) (m base : State) (t : ℕ) (owned owned' : ℕ → Option ℕ) (done done' : ℕ → ℕ) (g : Gathers image m base owned done) (x : Ends m t owned owned' done done') where
  to : State
  to = reach image base t (done t)

  less_set : (u k : ℕ) → is_with owned' u k ≡ true → is_with owned u k ≡ true
  less_set u k h = in_set (owned k) u (x.keeps k u (from_set (owned' k) u h))

  still_set : (u k : ℕ) → u ≢ t → is_with owned u k ≡ true → is_with owned' u k ≡ true
  still_set u k ne h = in_set (owned' k) u (x.others k u ne (from_set (owned k) u h))

  apart_to : Apart t (is_with owned t) base to
  unfolding to
  apart_to = apart_within image (is_with owned t) base t (done t) (g.covers t) (done t) (omega arith)

  bases : (u : ℕ) → u ≢ t → Agree u (is_with owned u) base to
  bases u ne = record {
    thread = sym (apart_to.threads u ne);
    locks = λ k h. sym (apart_to.locks k (not_in (owned k) t (some_differ t u (owned k) (from_set (owned k) u h) ne)));
  }

  alike : (u : ℕ) → u ≢ t → (j : ℕ) → j < done u + 1 → Agree u (is_with owned u) (reach image base u j) (reach image to u j)
  alike u ne j lt = agree_within image (is_with owned u) base to u (done u) (g.covers u) (bases u ne) j lt

  other_lt : (u k : ℕ) → u ≢ t → k < done' u → k < done u
  other_lt u k ne lt = subst (λ n. k < n) (x.other u ne) lt

  mine_lt : {P : Type 0} (u k : ℕ) → u ≡ t → k < done' u → P
  mine_lt u k e lt = absurd (let z : k < 0 = subst (λ n. k < n) x.mine (subst (λ v. k < done' v) e lt) in omega arith)

  part_still : (u : ℕ) → u ≢ t → Agree u (is_with owned' u) (reach image to u (done' u)) m
  part_still u ne =
      subst (λ n. Agree u (is_with owned' u) (reach image to u n) m) (sym (x.other u ne))
      (agree_less u (is_with owned u) (is_with owned' u) _ m (less_set u)
      (agree_trans u (is_with owned u) (reach image to u (done u)) (reach image base u (done u)) m
      (agree_sym u (is_with owned u) _ _ (alike u ne (done u) (omega arith))) (g.part u)))

  rest_to : (k : ℕ) → owned' k ≡ None → m.locks k ≡ to.locks k
  unfolding to
  rest_to k e = go (owned k) refl
    where
      go : (o : Option ℕ) → owned k ≡ o → m.locks k ≡ to.locks k
      go None h = g.rest k h ∙ sym (apart_to.locks k (not_in (owned k) t (λ f. cc)))
      go (Some u) h = elim (eqb_tells u t) [
        | inl s ↦ sym ((g.part t).locks k (in_set (owned k) t (h ∙ ap Some s.1)))
        | inr s ↦ absurd (let f = x.others k u s.1 h in cc)
      ]

  pub committed : Gathers image m (reach image base t (done t)) owned' done'
  unfolding to
  committed = record {
    part = λ u. elim (eqb_tells u t) [
      | inl e ↦ subst (λ v. Agree v (is_with owned' v) (reach image to v (done' v)) m) (sym e.1)
          (subst (λ n. Agree t (is_with owned' t) (reach image to t n) m) (sym x.mine) (agree_less t (is_with owned t) (is_with owned' t) to m (less_set t) (g.part t)))
      | inr e ↦ part_still u e.1
    ];
    rest = rest_to;
    held = λ u k h. elim (eqb_tells u t) [
      | inl e ↦ x.held k (subst (λ v. (m.threads v).held k ≡ true) e.1 h) ∙ ap Some (sym e.1)
      | inr e ↦ x.others k u e.1 (g.held u k h)
    ];
    covers = λ u k lt. elim (eqb_tells u t) [
      | inl e ↦ mine_lt u k e.1 lt
      | inr e ↦ subst (λ d. Covers image (is_with owned' u) d) (alike u e.1 k (let l = other_lt u k e.1 lt in omega arith)).thread
          (covers_more image (is_with owned u) (is_with owned' u) _ (λ j. still_set u j e.1) (g.covers u k (other_lt u k e.1 lt)))
    ];
    defined = λ u k lt. elim (eqb_tells u t) [
      | inl e ↦ mine_lt u k e.1 lt
      | inr e ↦ (let l = other_lt u k e.1 lt in sym (turn_same image (reach image base u k) (reach image to u k) u (is_with owned u) (g.covers u k l) (alike u e.1 k (omega arith))) ∙ g.defined u k l)
    ];
    before = λ u k lt. elim (eqb_tells u t) [
      | inl e ↦ mine_lt u (k + 1) e.1 lt
      | inr e ↦ (let l = other_lt u (k + 1) e.1 lt in let l' : k < done u = omega arith in sym (end_same image (is_with owned u) base to u k (g.covers u k l') (alike u e.1 k (omega arith))) ∙ g.before u k l)
    ];
  }

  pub other_ends : (u k : ℕ) → u ≢ t → k + 1 ≡ done' u → end_at image (reach image base t (done t)) u k ≡ end_at image base u k
  unfolding to
  other_ends u k ne e =
      let l : k < done u = (let s = x.other u ne in omega arith) in
      sym (end_same image (is_with owned u) base to u k (g.covers u k l) (alike u ne k (omega arith)))

-- where no block is unfinished, the base is all
pub all_whole : (image : Shown) (m base : State) (owned : ℕ → Option ℕ) (done : ℕ → ℕ) → Gathers image m base owned done → ((t : ℕ) → done t ≡ 0) → base ≡ m
all_whole image m base owned done g zeros =
    let part : (t : ℕ) → Agree t (is_with owned t) base m = λ t. subst (λ n. Agree t (is_with owned t) (reach image base t n) m) (zeros t) (g.part t) in
    let locks : (k : ℕ) → base.locks k ≡ m.locks k = λ k. lock_at part k (owned k) refl in
    λ i. record { threads = λ t. (part t).thread i; locks = λ k. locks k i }
  where
    lock_at : ((t : ℕ) → Agree t (is_with owned t) base m) → (k : ℕ) → (o : Option ℕ) → owned k ≡ o → base.locks k ≡ m.locks k
    lock_at part k None h = sym (g.rest k h)
    lock_at part k (Some t) h = (part t).locks k (in_set (owned k) t h)
