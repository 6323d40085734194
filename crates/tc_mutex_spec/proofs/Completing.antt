-- From every state between blocks, further blocks lead to the end of every thread. They may all be of one worker, which goes on
-- with each thread whose block was cut, with each section taken.
use Rattle.std.proofs.Common.{◌≡◌, ℕ, zero, suc, ◌+◌, ◌<◌, ◌≤◌, Bool, true, false, not, ◌&&◌, ◌||◌, ◌==◌, List, [], ◌∷◌, ◌++◌, length, length-append, map, refl, sym, ap, subst, ◌∙◌, arith, inl, inr, append-nil, ◌⊎◌, filter}
use Rattle.std.specs.Prelude.{Option, Some, None, IfSome, All, nat_le, ◌*◌, ◌^◌, is_some, if◌then◌else◌}
use Rattle.std.specs.List.{range_with_len}
use Rattle.std.proofs.lemmas.Bool.Decides.{nat_tests, eqb_tells}
use Rattle.std.proofs.Math.Pow.{pow_mono}
use Rattle.std.proofs.lemmas.Nat.{mul-le}
use Rattle.std.proofs.lemmas.List.Elements.{All-nil, All-cons, All-head, All-tail, All-filter, filter-append}
use Rattle.tc_isa.specs.Sets.{has}
use Rattle.tc_elf.specs.Shown.{Shown}
use Rattle.tc_isa.specs.declared.limits.TheConstants.{MAX_FUEL, MAX_TURNS}
use Rattle.tc_elf.specs.declared.limits.TheConstants.{MAX_GUARDS, MAX_THREADS}
use Rattle.tc_journal.specs.Batch.{is_section, is_adopted, is_passed, is_lock, begins, ends_thread, ends_section, last_of, run_of, may_begin, may_go_on, allows_of, may_follow, ObeysAfter, passes_to, passes_on, PassesOnAfter}
use Rattle.tc_journal.specs.Handing.{of_worker, EachBehind, IsHandedOver, IsRunOn, IsStillAt, is_cut}
use Rattle.tc_journal.specs.History.{IsEnd, IsBlock, IsHistoryFrom, of_lock, of_thread}
use Rattle.tc_journal.specs.declared.block.Block.{Block}
use Rattle.tc_journal.specs.declared.block.End.{End}
use Rattle.tc_journal.specs.declared.block.End.TheVariants.{Wants, Unlocked, Slept, Cut, Exit, Fault, Spent}
use Rattle.tc_journal.specs.declared.block.Kind.{Kind}
use Rattle.tc_journal.specs.declared.block.Kind.TheVariants.{Start, On, Taken, Adopted, Granted}
use Rattle.tc_journal.proofs.Batching.{last_more}
use Rattle.tc_journal.proofs.Rows.{worker_of, last_own}
use Rattle.tc_turn.specs.Turn.{Thread, is_running, next_lock, next_act}
use Rattle.tc_turn.proofs.Turns.{next_known, goes_on}
use Rattle.tc_mutex_spec.specs.Machine.{State, start, is_open, can_turn, after}
use Rattle.tc_mutex_spec.specs.Blocks.{reach, end_at, Runs, locks_of_block, is_first, has_block, Stands, TellsAfter, owner_by, IsComplete}
use Rattle.tc_mutex_spec.specs.Progress.{CompleteHistory}
use Rattle.tc_mutex_spec.proofs.Holds.{can_thread, can_open, open_none}
use Rattle.tc_mutex_spec.proofs.Local.{after_thread}
use Rattle.tc_mutex_spec.proofs.Replaying.{record_takes}
use Rattle.tc_mutex_spec.proofs.BlockEnds.{left}
use Rattle.tc_mutex_spec.proofs.Going.{in_block}
use Rattle.tc_mutex_spec.proofs.Leaving.{block_next, block_cut, block_runs, block_releases}
use Rattle.tc_mutex_spec.proofs.Owners.{owner_after}
use Rattle.tc_mutex_spec.proofs.HeldSets.{set_below, set_is, set_small}
use Rattle.tc_mutex_spec.proofs.Placed.{ArePlaced, placed_reach, placed_start}
use Rattle.tc_mutex_spec.proofs.Sums.{below_last}
use Rattle.tc_mutex_spec.proofs.Progress.{IsSane, Reached, Goes, can_runs, reached, may_turn, start_sane, turns_sum, turn_left, turns_turn, first_turns, next_turn}
use Rattle.tc_lemmas.proofs.Tests.{eq_self}

-- ---- a thread that may take a turn has a block

-- after k turns of t none of them ended the block, and the next one is defined
record Begun (image : Shown) (m : State) (t k : ℕ) : Type 0 where
  defined : (j : ℕ) → j < suc k → can_turn image (reach image m t j) t ≡ true
  before : (j : ℕ) → j < k → end_at image m t j ≡ None

record HasRun (image : Shown) (m : State) (t : ℕ) : Type 0 where
  turns : ℕ
  end : End
  runs : Runs image m t turns end (reach image m t turns)

-- a turn that ends no block takes no lock next, so the next one is defined
next_defined : (image : Shown) (m : State) (t k : ℕ) → can_turn image (reach image m t k) t ≡ true → end_at image m t k ≡ None → can_turn image (reach image m t (suc k)) t ≡ true
next_defined image m t k can none =
    let from : State = reach image m t k in
    let d : Thread = from.threads t in
    let on = goes_on d (next_act image d from.locks) (k + 1) (next_lock image ((after image from t).threads t)) none in
    may_turn image (after image from t) t (can_thread image from t can)
    (ap (λ (x : Thread). is_running x.status) (after_thread image from t) ∙ ap is_running on.2 ∙ can_runs image from t can)
    (ap (λ o. is_open o (after image from t).locks) on.0)

begun_more : (image : Shown) (m : State) (t k : ℕ) → Begun image m t k → end_at image m t k ≡ None → Begun image m t (suc k)
begun_more image m t k b none = record {
  defined = λ j lt. elim (below_last j (suc k) lt) [
    | inl less ↦ b.defined j less
    | inr e ↦ subst (λ i. can_turn image (reach image m t i) t ≡ true) (sym e) (next_defined image m t k (b.defined k (omega arith)) none)
  ];
  before = λ j lt. elim (below_last j k lt) [ inl less ↦ b.before j less | inr e ↦ subst (λ i. end_at image m t i ≡ None) (sym e) none ];
}

begun_ends : (image : Shown) (m : State) (t k : ℕ) (end : End) → Begun image m t k → end_at image m t k ≡ Some end → HasRun image m t
begun_ends image m t k end b is = record {
  turns = suc k;
  end = end;
  runs = record {
    some = omega arith;
    defined = b.defined;
    before = λ j lt. b.before j (omega arith);
    ends = λ j e. (let same : k ≡ j = omega arith in subst (λ i. end_at image m t i ≡ Some end) same is);
    last = refl;
  };
}

begun_falls : (image : Shown) (m : State) (t k : ℕ) → Begun image m t k → left ((reach image m t (suc k)).threads t) < left ((reach image m t k).threads t)
begun_falls image m t k b =
    let from : State = reach image m t k in
    subst (λ x. left x < left (from.threads t)) (sym (after_thread image from t)) (turn_left image (from.threads t) from.locks (can_runs image from t (b.defined k (omega arith))))

run_from : (image : Shown) (m : State) (t n k : ℕ) → Begun image m t k → left ((reach image m t k).threads t) ≤ n → HasRun image m t
run_from image m t zero k b most = absurd (let f = begun_falls image m t k b in omega arith)
run_from image m t (suc n) k b most = go (end_at image m t k) refl (λ c l. run_from image m t n (suc k) c l)
  where
    go : (o : Option End) → end_at image m t k ≡ o → (Begun image m t (suc k) → left ((reach image m t (suc k)).threads t) ≤ n → HasRun image m t) → HasRun image m t
    go None is rec = rec (begun_more image m t k b is) (let f = begun_falls image m t k b in omega arith)
    go (Some end) is rec = begun_ends image m t k end b is

has_run : (image : Shown) (m : State) (t : ℕ) → can_turn image m t ≡ true → HasRun image m t
has_run image m t can = run_from image m t (left (m.threads t)) 0 (record { defined = λ j lt. (let e : 0 ≡ j = omega arith in subst (λ i. can_turn image (reach image m t i) t ≡ true) e can); before = λ j lt. absurd (omega arith) }) (omega arith)

-- ---- how the block is written

-- a section is taken
abbrev kind_of : Option ℕ → Bool → Kind
kind_of None true = On
kind_of None false = Start
kind_of (Some lock) seen = Taken

kind_section : (o : Option ℕ) (seen : Bool) → is_section (kind_of o seen) ≡ is_some o
kind_section None true = refl
kind_section None false = refl
kind_section (Some lock) seen = refl

kind_first : (o : Option ℕ) (seen : Bool) → is_section (kind_of o seen) ≡ false → is_first (kind_of o seen) ≡ not seen
kind_first None true e = refl
kind_first None false e = refl
kind_first (Some lock) seen e = absurd (cc)

kind_passed : (o : Option ℕ) (seen : Bool) → is_passed (kind_of o seen) ≡ false
kind_passed None true = refl
kind_passed None false = refl
kind_passed (Some lock) seen = refl

-- where the lock was given up a section may be taken, and its owner may go on with one
begins_anew : (k limit run : ℕ) (o : Option Block) → owner_by k o ≡ None → may_begin k limit o run Taken 0 ≡ true
begins_anew k limit run None e = refl
begins_anew k limit run (Some b) e = (elim (ends_section k b) as (λ v. (if v then None else Some b.thread) ≡ None → v ≡ true) [ true ↦ λ h. refl | false ↦ λ h. absurd (cc) ]) e

goes_further : (k t : ℕ) (o : Option Block) → owner_by k o ≡ Some t → may_go_on k o t ≡ true
goes_further k t None e = absurd (cc)
goes_further k t (Some b) e = (elim (ends_section k b) as (λ v. (if v then None else Some b.thread) ≡ Some t → (not v && (b.thread == t)) ≡ true) [
  | true ↦ λ h. absurd (cc)
  | false ↦ λ h. (let same : b.thread ≡ t = cc in ap (λ u. u == t) same ∙ eq_self t)
]) e

-- no block has more turns than one may have
turns_most : (image : Shown) (m to : State) (t n : ℕ) (e : End) → Runs image m t n e to → n ≤ MAX_TURNS
turns_most image m to t n e runs = go (nat_le n MAX_TURNS) refl
  where
    go : (b : Bool) → nat_le n MAX_TURNS ≡ b → n ≤ MAX_TURNS
    go true is = grind (arith, nat_tests)
    go false is = absurd (
        let more : 4095 + 1 < n = grind (arith, nat_tests) in
        let from : State = reach image m t 4095 in
        (goes_on (from.threads t) (next_act image (from.threads t) from.locks) (4095 + 1) (next_lock image ((after image from t).threads t)) (runs.before 4095 more)).1 refl)

-- what is ahead has small numbers: so many blocks may come, and each thread is at such a place
record IsSmall (image : Shown) (seen : List Block) (m : State) : Type 0 where
  threads : length image.entries ≤ MAX_THREADS
  placed : ArePlaced m
  stamps : length seen + turns_sum image m < 2 ^ 64

-- what holds behind the blocks that were seen: the last one of each lock tells its owner, and the thread of the last one may take a turn, if it was cut
record IsBetween (image : Shown) (seen : List Block) (m : State) : Type 0 where
  sane : IsSane image m
  owners : (k : ℕ) → (m.locks k).owner ≡ owner_by k (last_of (of_lock seen k))
  cut : IfSome (last_of (of_worker seen 0)) (λ p. p.end ≡ Cut → can_turn image m p.thread ≡ true)

module _ (image : Shown) (few : length image.guards ≤ MAX_GUARDS) (seen : List Block) (m : State) (here : IsBetween image seen m) (t : ℕ) (run : HasRun image m t) where
  abbrev set : ℕ → Bool
  set = locks_of_block (m.threads t).held (next_lock image (m.threads t))

  abbrev block : Block
  block = record {
    stamp = length seen;
    thread = t;
    turns = run.turns;
    held = set_below (length image.guards) set;
    kind = kind_of (next_lock image (m.threads t)) (has_block seen t);
    worker = 0;
    pc = (m.threads t).regs.pc;
    end = run.end;
  }

  abbrev to : State
  to = reach image m t run.turns

  set_known : (k : ℕ) → set k ≡ true → k < length image.guards
  set_known k e = elim (in_block (m.threads t).held (next_lock image (m.threads t)) k e) [ inl was ↦ here.sane.known t k was | inr took ↦ next_known image (m.threads t) k took ]

  block_stands : Stands image seen m block to
  block_stands = record {
    runs = run.runs;
    held = λ k. set_is (length image.guards) set (λ j e. set_known j e) k;
    pc = refl;
    section = kind_section (next_lock image (m.threads t)) (has_block seen t);
    first = kind_first (next_lock image (m.threads t)) (has_block seen t);
  }

  takes : (o : Option ℕ) → next_lock image (m.threads t) ≡ o → (k : ℕ) → begins k block ≡ is_lock o k
  takes o e k = ap (λ x. is_lock x k) (record_takes image m block (record {
    few = omega arith;
    small = λ j h. (let l = here.sane.known t j h in omega arith);
    held = block_stands.held;
    section = block_stands.section;
  }) ∙ e)

  goes_with : (k : ℕ) → (m.threads t).held k ≡ true → may_go_on k (last_of (of_lock seen k)) t ≡ true
  goes_with k h = goes_further k t (last_of (of_lock seen k)) (sym (here.owners k) ∙ (here.sane.owners t k).0 h)

  follows : (limit k : ℕ) → has block.held k ≡ true → may_follow k limit (of_lock seen k) block ≡ true
  unfolding may_follow allows_of
  follows limit k h = go (next_lock image (m.threads t)) refl (sym (block_stands.held k) ∙ h)
    where
      go : (o : Option ℕ) → next_lock image (m.threads t) ≡ o → locks_of_block (m.threads t).held o k ≡ true → (if begins k block then may_begin k limit (last_of (of_lock seen k)) (run_of k (of_lock seen k)) block.kind 0 else may_go_on k (last_of (of_lock seen k)) t) ≡ true
      go None e in_set = ap (λ v. if v then may_begin k limit (last_of (of_lock seen k)) (run_of k (of_lock seen k)) block.kind 0 else may_go_on k (last_of (of_lock seen k)) t) (takes None e k) ∙ goes_with k in_set
      go (Some lock) e in_set = elim (eqb_tells k lock) [
        | inl x ↦ (
            let free = open_none (next_lock image (m.threads t)) m.locks k (can_open image m t (run.runs.defined 0 run.runs.some)) (e ∙ ap Some (sym x.1)) in
            (λ i. if (takes (Some lock) e k ∙ x.0) i then may_begin k limit (last_of (of_lock seen k)) (run_of k (of_lock seen k)) (kind_of (e i) (has_block seen t)) 0 else may_go_on k (last_of (of_lock seen k)) t)
            ∙ begins_anew k limit (run_of k (of_lock seen k)) (last_of (of_lock seen k)) (sym (here.owners k) ∙ free))
        | inr x ↦ ap (λ v. if v then may_begin k limit (last_of (of_lock seen k)) (run_of k (of_lock seen k)) block.kind 0 else may_go_on k (last_of (of_lock seen k)) t) (takes (Some lock) e k ∙ x.0)
            ∙ goes_with k (sym (ap (λ v. v || (m.threads t).held k) x.0) ∙ in_set)
      ]

  -- its end names a lock of the image, if any
  end_is : (e : End) → run.end ≡ e → IsEnd e
  end_is (Wants k) e = (let l = next_known image (to.threads t) k (block_next image m to t run.turns run.end run.runs k e) in omega arith)
  end_is (Unlocked k) e = (let l = set_known k (block_releases image m to t run.turns run.end run.runs k e) in omega arith)
  end_is Slept e = tt
  end_is Cut e = tt
  end_is Exit e = tt
  end_is (Fault f) e = tt
  end_is Spent e = tt

  block_is : IsSmall image seen m → IsBlock block
  block_is small = record {
    stamp = (let l = small.stamps in omega arith);
    thread = (let l = can_thread image m t (run.runs.defined 0 run.runs.some) in let most = small.threads in omega arith);
    some_turns = (let l = run.runs.some in omega arith);
    most_turns = turns_most image m to t run.turns run.end run.runs;
    held = (let l = set_small (length image.guards) set in let below : 2 ^ length image.guards ≤ 2 ^ 32 = pow_mono few in omega (arith, l, below));
    worker = omega arith;
    pc = small.placed t;
    end = end_is run.end refl;
  }

  -- where it was cut, its thread may take a turn
  cut_goes : run.end ≡ Cut → can_turn image to t ≡ true
  cut_goes is =
      may_turn image to t (can_thread image m t (run.runs.defined 0 run.runs.some))
      (block_runs image m to t run.turns run.end run.runs ∙ ap (λ e. not (ends_thread e)) is)
      (ap (λ o. is_open o to.locks) (block_cut image m to t run.turns run.end run.runs is))

  came : Reached image m t run.turns
  came = reached image m t run.turns run.runs.defined here.sane

  between : IsBetween image (seen ++ block ∷ []) to
  between = record {
    sane = came.sane;
    owners = λ k. owner_after image k seen (block ∷ []) m to here.sane.owners (here.owners k) (to, block_stands, refl);
    cut = subst (λ o. IfSome o (λ p. p.end ≡ Cut → can_turn image to p.thread ≡ true)) (sym (last_own worker_of seen block 0 refl)) cut_goes;
  }

-- ---- blocks to the end

record Completes (image : Shown) (seen : List Block) (m : State) : Type 0 where
  rest : List Block
  last : State
  tells : TellsAfter image seen m rest last
  complete : IsComplete image last
  order : map (λ (b : Block). b.stamp) rest ≡ range_with_len (length seen) (length rest)
  numbers : IsSmall image seen m → IsHistoryFrom (length seen) rest
  workers : All (λ (b : Block). b.worker ≡ 0) rest
  taken : All (λ (b : Block). is_passed b.kind ≡ false) rest
  obeys : (limit k : ℕ) → ObeysAfter k limit (of_lock seen k) (of_lock rest k)
  runs_on : (w : ℕ) → EachBehind IsRunOn (of_worker seen w) (of_worker rest w)

-- a block more before what is ahead of those that a test picks
ahead_more : (test : Block → Bool) (P : List Block → List Block → Type 0) (seen rest : List Block) (b : Block)
    → (test b ≡ true → P (filter test seen ++ b ∷ []) (filter test rest) → P (filter test seen) (b ∷ filter test rest))
    → P (filter test (seen ++ b ∷ [])) (filter test rest) → P (filter test seen) (filter test (b ∷ rest))
ahead_more test P seen rest b first p = go (test b) refl (subst (λ bs. P bs (filter test rest)) (filter-append test seen (b ∷ [])) p)
  where
    go : (v : Bool) → test b ≡ v → P (filter test seen ++ (if v then b ∷ [] else [])) (filter test rest) → P (filter test seen) (if v then b ∷ filter test rest else filter test rest)
    go true e q = first e q
    go false e q = subst (λ bs. P bs (filter test rest)) (append-nil (filter test seen)) q

completes_more : (image : Shown) (few : length image.guards ≤ MAX_GUARDS) (seen : List Block) (m : State) (here : IsBetween image seen m) (t : ℕ) (run : HasRun image m t)
    → ((b : Block) → b.thread ≡ t → IsRunOn (last_of (of_worker seen 0)) b) → Completes image (seen ++ block image few seen m here t run ∷ []) (reach image m t run.turns) → Completes image seen m
completes_more image few seen m here t run next r =
    let b : Block = block image few seen m here t run in
    let more : length (seen ++ b ∷ []) ≡ length seen + 1 = length-append seen (b ∷ []) in
    let came = came image few seen m here t run in
    let behind : (w : ℕ) → (0 == w) ≡ true → IsRunOn (last_of (of_worker seen w)) b = λ w h. subst (λ v. IsRunOn (last_of (of_worker seen v)) b) (let e : 0 ≡ w = grind (arith, nat_tests) in e) (next b refl) in
    record {
      rest = b ∷ r.rest;
      last = r.last;
      tells = (reach image m t run.turns, block_stands image few seen m here t run, r.tells);
      complete = r.complete;
      order = ap (λ xs. length seen ∷ xs) (r.order ∙ ap (λ n. range_with_len n (length r.rest)) more);
      numbers = λ small. (
        block_is image few seen m here t run small,
        refl,
        subst (λ n. IsHistoryFrom n r.rest) more (r.numbers (record {
          threads = small.threads;
          placed = placed_reach image m t run.turns small.placed;
          stamps = (let l = small.stamps in let x = came.short in let some = run.runs.some in omega (arith, l, x, some, more));
        })),
      );
      workers = All-cons (λ (c : Block). c.worker ≡ 0) b r.rest refl r.workers;
      taken = All-cons (λ (c : Block). is_passed c.kind ≡ false) b r.rest (kind_passed (next_lock image (m.threads t)) (has_block seen t)) r.taken;
      obeys = λ limit k. ahead_more (λ c. has c.held k) (ObeysAfter k limit) seen r.rest b (λ h p. (follows image few seen m here t run limit k h, p)) (r.obeys limit k);
      runs_on = λ w. ahead_more (λ c. c.worker == w) (EachBehind IsRunOn) seen r.rest b (λ h p. (behind w h, p)) (r.runs_on w);
    }

completes_now : (image : Shown) (seen : List Block) (m : State) → IsComplete image m → Completes image seen m
completes_now image seen m over = record {
  rest = [];
  last = m;
  tells = refl;
  complete = over;
  order = refl;
  numbers = λ small. tt;
  workers = All-nil (λ (b : Block). b.worker ≡ 0);
  taken = All-nil (λ (b : Block). is_passed b.kind ≡ false);
  obeys = λ limit k. tt;
  runs_on = λ w. tt;
}

-- a thread that may take a turn, and is that of the last block if that was cut
record GoesBehind (image : Shown) (last : Option Block) (m : State) : Type 0 where
  thread : ℕ
  can : can_turn image m thread ≡ true
  behind : (b : Block) → b.thread ≡ thread → IsRunOn last b

cut_or : (e : End) → (e ≡ Cut) ⊎ (is_cut e ≡ false)
cut_or (Wants k) = inr refl
cut_or (Unlocked k) = inr refl
cut_or Slept = inr refl
cut_or Cut = inl refl
cut_or Exit = inr refl
cut_or (Fault f) = inr refl
cut_or Spent = inr refl

next_behind : (image : Shown) (last : Option Block) (m : State) → IfSome last (λ p. p.end ≡ Cut → can_turn image m p.thread ≡ true) → Goes image m ⊎ IsComplete image m → GoesBehind image last m ⊎ IsComplete image m
next_behind image last m cut (inr over) = inr over
next_behind image None m cut (inl g) = inl (record { thread = g.0; can = g.1; behind = λ b is. tt })
next_behind image (Some p) m cut (inl g) = inl (elim (cut_or p.end) [
  | inl was ↦ record { thread = p.thread; can = cut was; behind = λ b is was. is }
  | inr not ↦ record { thread = g.0; can = g.1; behind = λ b is was. absurd (let n : true ≡ false = sym (ap is_cut was) ∙ not in cc) }
])

completes_from : (image : Shown) → length image.guards ≤ MAX_GUARDS → (n : ℕ) (seen : List Block) (m : State) → IsBetween image seen m → turns_sum image m ≤ n → Completes image seen m
completes_from image few zero seen m here most = elim (next_behind image (last_of (of_worker seen 0)) m here.cut (next_turn image m here.sane few)) [
  | inl g ↦ absurd (let f = turns_turn image m g.thread (can_thread image m g.thread g.can) (can_runs image m g.thread g.can) in omega arith)
  | inr over ↦ completes_now image seen m over
]
completes_from image few (suc n) seen m here most = elim (next_behind image (last_of (of_worker seen 0)) m here.cut (next_turn image m here.sane few)) [
  | inl g ↦ (
      let run = has_run image m g.thread g.can in
      completes_more image few seen m here g.thread run g.behind
      (completes_from image few n (seen ++ block image few seen m here g.thread run ∷ []) (reach image m g.thread run.turns) (between image few seen m here g.thread run)
      (let x = (came image few seen m here g.thread run).short in let some = run.runs.some in omega (arith, x, some))))
  | inr over ↦ completes_now image seen m over
]

-- ---- what follows where no section is passed on, and one worker runs all

-- each block stands so behind the one before it, where it would behind each one like it
all_behind : (Stands : Option Block → Block → Type 0) (P : Block → Type 0) → ((o : Option Block) (b : Block) → IfSome o P → P b → Stands o b) → (before bs : List Block) → IfSome (last_of before) P → All P bs → EachBehind Stands before bs
all_behind Stands P each before [] last all = tt
all_behind Stands P each before (b ∷ bs) last all =
    let first = All-head P b bs all in
    (each (last_of before) b last first, all_behind Stands P each (before ++ b ∷ []) bs (subst (λ o. IfSome o P) (sym (last_more before b)) first) (All-tail P b bs all))

not_adopted : (kind : Kind) → is_passed kind ≡ false → is_adopted kind ≡ true → ⊥
not_adopted Start e f = cc
not_adopted On e f = cc
not_adopted Taken e f = cc
not_adopted Adopted e f = cc
not_adopted Granted e f = cc

still_at : (o : Option Block) (b : Block) → IfSome o (λ p. p.worker ≡ 0) → b.worker ≡ 0 → IsStillAt o b
still_at None b last e = tt
still_at (Some p) b last e = λ cut. e ∙ sym last

none_passed : (k : ℕ) (before bs : List Block) → All (λ (b : Block). is_passed b.kind ≡ false) bs → PassesOnAfter k before bs
unfolding passes_on
none_passed k before [] all = tt
none_passed k before (b ∷ bs) all = (first (begins k b) (last_of before), none_passed k (before ++ b ∷ []) bs (All-tail (λ (b : Block). is_passed b.kind ≡ false) b bs all))
  where
    first : (v : Bool) (o : Option Block) → (if v then passes_to o b.kind b.thread else true) ≡ true
    first false o = refl
    first true None = refl
    first true (Some p) = ap (λ v. not (v && (p.thread == b.thread))) (All-head (λ (b : Block). is_passed b.kind ≡ false) b bs all)

pub complete_history : (image : Shown) (fuel : ℕ) → length image.guards ≤ MAX_GUARDS → CompleteHistory image fuel
complete_history image fuel few =
    let r = completes_from image few (turns_sum image (start image fuel)) [] (start image fuel) (record { sane = start_sane image fuel; owners = λ k. refl; cut = tt }) (omega arith) in
    record {
      history = r.rest;
      last = r.last;
      tells = r.tells;
      complete = r.complete;
      order = r.order;
      numbers = λ sized. r.numbers (record {
        threads = sized.threads;
        placed = placed_start image fuel sized.entries;
        stamps = (let f = first_turns image fuel in let n = sized.threads in let x = sized.most_fuel in
            let most : length image.entries * (fuel + 1) ≤ MAX_THREADS * (MAX_FUEL + 1) = mul-le (length image.entries) (fuel + 1) MAX_THREADS (MAX_FUEL + 1) n (omega arith) in
            omega (arith, f, n, x, most));
      });
      workers = r.workers;
      taken = r.taken;
      obeys = r.obeys;
      passes = λ k. none_passed k [] (of_lock r.rest k) (All-filter (λ b. has b.held k) (λ (b : Block). is_passed b.kind ≡ false) r.rest r.taken);
      delegates = record {
        handed = λ w. all_behind IsHandedOver (λ b. is_passed b.kind ≡ false) (λ o b last e lock begin adopted. absurd (not_adopted b.kind e adopted)) [] (of_worker r.rest w) tt (All-filter (λ b. b.worker == w) (λ (b : Block). is_passed b.kind ≡ false) r.rest r.taken);
        runs_on = r.runs_on;
        stays = λ t. all_behind IsStillAt (λ b. b.worker ≡ 0) still_at [] (of_thread r.rest t) tt (All-filter (λ b. b.thread == t) (λ (b : Block). b.worker ≡ 0) r.rest r.workers);
      };
    }
