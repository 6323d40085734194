-- A package's block at the end of the history keeps the law.
use Rattle.std.proofs.Common.{◌≡◌, ◌≢◌, ◌⊎◌, ℕ, zero, suc, ◌+◌, ◌*◌, ◌^◌, ◌<◌, ◌≤◌, Bool, true, false, List, [], ◌∷◌, ◌++◌, length, get_or, refl, sym, ap, subst, ◌∙◌, arith, inl, inr, ⊎_elim, length-append, length-set, if◌then◌else◌}
use Rattle.std.specs.Prelude.{Option, Some, None, IfSome, is_some, nat_lt, All}
use Rattle.std.proofs.lemmas.Bool.Decides.{nat_tests}
use Rattle.std.proofs.lemmas.Nat.{mul-le}
use Rattle.std.proofs.lemmas.List.Sums.{sum_by-set, sum_by-le}
use mathlib.Core.Option.{some, some-injective, some-ne-none}
use lib.ListN.{get_elem?}
use Rattle.tc_isa.specs.Sets.{has}
use Rattle.tc_elf.specs.declared.limits.TheConstants.{MAX_THREADS}
use Rattle.tc_elf.specs.Shown.{Shown}
use Rattle.tc_journal.specs.Batch.{ends_section, last_of}
use Rattle.tc_journal.specs.History.{IsBlock, of_thread}
use Rattle.tc_journal.specs.declared.block.Block.{Block}
use Rattle.tc_journal.proofs.Histories.{IsHistory_push}
use Rattle.tc_turn.specs.Turn.{Thread, is_running, thread_at_start, no_thread}
use Rattle.tc_mutex_spec.specs.Machine.{State, start}
use Rattle.tc_mutex_spec.specs.Blocks.{Tells, end_after}
use Rattle.tc_mutex_spec.proofs.BlockEnds.{block_falls, left_falls}
use Rattle.tc_mutex_spec.proofs.Entries.{tells_end}
use Rattle.tc_mutex_spec.proofs.Owners.{no_owner}
use Rattle.tc_mutex_spec.proofs.Replaying.{turn_runs}
use Rattle.tc_segment.specs.View.{LockView, IsStrict, kept, with_journal, sealed_as, sealed_block, EndsSection}
use Rattle.tc_context.specs.Locks.{lock_in}
use Rattle.tc_context.specs.Whole.{thread_in, set_of}
use Rattle.tc_context.specs.View.{PackageView, Allows, bare, with_seal}
use Rattle.tc_context.specs.Ran.{DidRun}
use Rattle.tc_law.specs.History.{Follows, Grows}
use Rattle.tc_law.specs.Lawful.{IsPackageAfter, IsStateAfter, blocks_left, all_left, Lawful, IsLimited, IsAmong, with_package, with_states, AreFresh, AreStrict}
use Rattle.tc_mutex_spec.proofs.ListLaws.{there, set_at, same_list}
use Rattle.tc_mutex_spec.proofs.Histories.{filter_has, filter_from, stamp_at, thread_at}
use Rattle.tc_context.proofs.Moved.{map_some, some_map}
use Rattle.tc_context.proofs.Partway.{block_inside}
use Rattle.tc_context.proofs.Running.{sealed_at}
use Rattle.tc_law.proofs.Following.{holds_told, blocks_are, strict_still, grown, obeyed, thread_still, state_still, state_kept}
use Rattle.tc_lemmas.proofs.Lists.{something_at}

pub with_states-length : (slots : List (Option LockView)) (states : List LockView) → length (with_states slots states) ≡ length states
with_states-length [] states = refl
with_states-length (o ∷ slots) [] = refl
with_states-length (o ∷ slots) (l ∷ states) = ap suc (with_states-length slots states)

-- what is at a place after these lock states came
pub with_states-at : (slots : List (Option LockView)) (states : List LockView) (k : ℕ) (a : LockView) → get_elem? (with_states slots states) k ≡ some a
    → ((l : LockView) × (lock_in slots k ≡ Some l) × (kept l ≡ a)) ⊎ ((lock_in slots k ≡ None) × (get_elem? states k ≡ some a))
with_states-at [] states k a e = inr (refl, e)
with_states-at (o ∷ slots) [] k a e = absurd (some-ne-none a (sym e))
with_states-at (None ∷ slots) (l ∷ states) zero a e = inr (refl, e)
with_states-at (Some x ∷ slots) (l ∷ states) zero a e = inl (x, refl, some-injective (kept x) a e)
with_states-at (o ∷ slots) (l ∷ states) (suc k) a e = with_states-at slots states k a e

-- ---- the block at the end

none_some : (o : Option LockView) → o ≡ None → is_some o ≡ true → ⊥
none_some None e h = cc
none_some (Some l) e h = cc

opened_still : (stamp worker : ℕ) (x l : LockView) → l ≡ with_journal (sealed_as stamp worker) x → x.journal.opened ≡ None → (l.journal.opened ≡ None) × (l.journal.closed ≡ None)
opened_still stamp worker x l e none = (ap (λ (y : LockView). y.journal.opened) e ∙ none, ap (λ (y : LockView). y.journal.closed) e)

module _ (image : Shown) (fuel limit : ℕ) (h : List Block) (packages : List PackageView) (states : List LockView) (p v : PackageView)
    (limits : IsLimited image fuel) (law : Lawful image fuel limit h packages states) (here : IsAmong packages states p) (ran : DidRun image p v) where
  abbrev m : State
  m = end_after image fuel h

  was : IsPackageAfter image fuel h p.context.thread (bare p)
  was = law.packages_after p.context.thread (bare p) here.place

  follows : Follows image fuel limit h m p
  follows = record {
    thread = record { of = was.follows.of; number = refl; thread = was.follows.thread; log = was.follows.log };
    states = λ k l e. state_kept image fuel limit h m k l (kept l) refl (law.states_after k (kept l) (here.locks k l e)).follows;
  }

  short : length h < 2 ^ 64
  short = (let a = law.bound in let b : length image.entries * (fuel + 1) ≤ MAX_THREADS * 65537 = mul-le (length image.entries) (fuel + 1) MAX_THREADS 65537 limits.threads (omega (arith, limits.turns)) in omega (arith, a, b))

  module _ (worker : ℕ) (small : worker < 2 ^ 32) (allows : Allows v.context ran.block worker) where
    abbrev c : Block
    c = sealed_block (length h) worker ran.block

    abbrev h1 : List Block
    h1 = h ++ c ∷ []

    abbrev q : PackageView
    q = with_seal (length h) worker v

    abbrev last : (to : State) × Grows image fuel h m c to × Follows image fuel limit h1 to q
    last = grown image fuel limit h m p v law.tells follows ran (length h) worker

    grows : Grows image fuel h m c last.0
    grows = last.1

    abbrev m1 : State
    m1 = end_after image fuel h1

    end : last.0 ≡ m1
    end = tells_end image [] h1 (start image fuel) last.0 grows.tells

    after : Follows image fuel limit h1 m1 q
    after = subst (λ s. Follows image fuel limit h1 s q) end last.2

    grows_on : Grows image fuel h m c m1
    grows_on = subst (Grows image fuel h m c) end grows

    block : IsBlock c
    block = (let b = ran.bounds in record { stamp = short; thread = b.thread; some_turns = b.some_turns; most_turns = b.most_turns; held = b.held; worker = small; pc = b.pc; end = b.end })

    same : q.context.thread ≡ p.context.thread
    same = ran.runs.keeps.thread

    -- it is c's thread that moves
    mine : c.thread ≡ q.context.thread
    mine = ran.thread ∙ sym same

    package_at : (t : ℕ) (x : PackageView) → get_elem? (with_package q packages) t ≡ some x → IsPackageAfter image fuel h1 t x
    package_at t x e = ⊎_elim
        (λ (o : (t ≡ q.context.thread) × (bare q ≡ x)). subst (λ (z : ℕ × PackageView). IsPackageAfter image fuel h1 z.0 z.1) (λ i. (sym o.0 i, o.1 i))
        (record { follows = record { of = after.thread.of; number = refl; thread = after.thread.thread; log = after.thread.log }; settled = refl }))
        (λ (o : (t ≢ q.context.thread) × (get_elem? packages t ≡ some x)). let old = law.packages_after t x o.1 in
        record { follows = thread_still image fuel h m m1 c t x grows_on (λ f. o.0 (f ∙ mine)) old.follows; settled = old.settled })
        (set_at packages q.context.thread t (bare q) x e)

    -- a lock that isn't in the package is none of the block
    none_of : (k : ℕ) → lock_in q.context.locks k ≡ None → has c.held k ≡ false
    none_of k e = go (has ran.block.held k) refl
      where
        go : (w : Bool) → has ran.block.held k ≡ w → w ≡ false
        go false out = refl
        go true held =
            let old : set_of p.context k ≡ true = block_inside image (set_of p.context) (thread_in p.context) ran.covers k (sym (ran.held k) ∙ held) in
            let new : is_some (lock_in v.context.locks k) ≡ true = ran.runs.keeps.set k ∙ old in
            let there : is_some (lock_in q.context.locks k) ≡ true = ap is_some (sealed_at (length h) worker v.context.locks k) ∙ some_map (with_journal (sealed_as (length h) worker)) (lock_in v.context.locks k) ∙ new in
            absurd (none_some (lock_in q.context.locks k) e there)

    state_at : (k : ℕ) (a : LockView) → get_elem? (with_states q.context.locks states) k ≡ some a → IsStateAfter image fuel limit h1 k a
    state_at k a e = ⊎_elim
        (λ (o : (l : LockView) × (lock_in q.context.locks k ≡ Some l) × (kept l ≡ a)).
        let x = map_some (with_journal (sealed_as (length h) worker)) (lock_in v.context.locks k) o.0 (sym (sealed_at (length h) worker v.context.locks k) ∙ o.1) in
        let s = opened_still (length h) worker x.0 o.0 x.2 (ran.sound.stored k x.0 x.1).opened in
        subst (IsStateAfter image fuel limit h1 k) o.2 (record { follows = state_kept image fuel limit h1 m1 k (kept o.0) o.0 refl (after.states k o.0 o.1); opened = s.0; closed = s.1 }))
        (λ (o : (lock_in q.context.locks k ≡ None) × (get_elem? states k ≡ some a)). let old = law.states_after k a o.1 in
        record { follows = state_still image fuel limit h m m1 c k a grows_on (none_of k o.0) old.follows; opened = old.opened; closed = old.closed })
        (with_states-at q.context.locks states k a e)

    -- the block costs its thread fuel, or ends it
    falls : blocks_left (thread_in q.context) < blocks_left (thread_in p.context)
    falls =
        let before : thread_in p.context ≡ m.threads c.thread = was.follows.thread ∙ ap m.threads (sym ran.thread) in
        let behind : thread_in q.context ≡ m1.threads c.thread = after.thread.thread ∙ ap m1.threads (sym mine) in
        let less = left_falls (m.threads c.thread) (m1.threads c.thread) (ap is_running (turn_runs image m c.thread (grows_on.runs.defined 0 grows_on.runs.some))) (λ r. block_falls image m m1 c.thread c.turns c.end grows_on.runs r) in
        subst (λ (z : ℕ × ℕ). z.0 < z.1) (λ i. (blocks_left (sym behind i), blocks_left (sym before i))) less

    bound : length h1 + all_left (with_package q packages) ≤ length image.entries * (fuel + 1)
    bound =
        let at : get_elem? packages q.context.thread ≡ some (bare p) = ap (get_elem? packages) same ∙ here.place in
        let found = there packages q.context.thread (bare p) p at in
        let sum = sum_by-set (λ (x : PackageView). blocks_left (thread_in x.context)) packages q.context.thread (bare q) p found.0 in
        let old : blocks_left (thread_in (get_or packages q.context.thread p).context) ≡ blocks_left (thread_in p.context) = ap (λ (x : PackageView). blocks_left (thread_in x.context)) found.1 in
        let less = falls in let long = length-append h (c ∷ []) in let was_bound = law.bound in
        omega (arith, sum, old, less, long, was_bound)

    pub kept_lawful : Lawful image fuel limit h1 (with_package q packages) (with_states q.context.locks states)
    kept_lawful = record {
      history = IsHistory_push h c law.history block refl;
      tells = subst (Tells image fuel h1) end grows.tells;
      obeys = obeyed image fuel limit h m p v follows ran (length h) worker allows law.obeys;
      all_packages = length-set packages q.context.thread (bare q) ∙ law.all_packages;
      all_states = with_states-length q.context.locks states ∙ law.all_states;
      packages_after = package_at;
      states_after = state_at;
      bound = bound;
    }

pub appended : (image : Shown) (fuel limit : ℕ) (h : List Block) (packages : List PackageView) (states : List LockView) (p v : PackageView)
    → IsLimited image fuel → Lawful image fuel limit h packages states → IsAmong packages states p → (ran : DidRun image p v)
    → (worker : ℕ) → worker < 2 ^ 32 → Allows v.context ran.block worker
    → Lawful image fuel limit (h ++ sealed_block (length h) worker ran.block ∷ []) (with_package (with_seal (length h) worker v) packages) (with_states (with_seal (length h) worker v).context.locks states)
appended image fuel limit h packages states p v limits law here ran worker small allows = kept_lawful image fuel limit h packages states p v limits law here ran worker small allows

-- strict lock states stay strict
pub strict_states : (image : Shown) (packages : List PackageView) (states : List LockView) (p v : PackageView) → IsAmong packages states p → DidRun image p v
    → (stamp worker : ℕ) → AreStrict states → AreStrict (with_states (with_seal stamp worker v).context.locks states)
strict_states image packages states p v here ran stamp worker strict k a e = ⊎_elim
    (λ (o : (l : LockView) × (lock_in (with_seal stamp worker v).context.locks k ≡ Some l) × (kept l ≡ a)).
    let x = map_some (with_journal (sealed_as stamp worker)) (lock_in v.context.locks k) o.0 (sym (sealed_at stamp worker v.context.locks k) ∙ o.1) in
    subst (λ (l : LockView). IsStrict l) o.2 (ap (λ (l : LockView). l.journal.strict) x.2 ∙ strict_still image p v ran (λ j l f. strict j (kept l) (here.locks j l f)) k x.0 x.1))
    (λ (o : (lock_in (with_seal stamp worker v).context.locks k ≡ None) × (get_elem? states k ≡ some a)). strict k a o.1)
    (with_states-at (with_seal stamp worker v).context.locks states k a e)

-- ---- the logs determine the history

within : (image : Shown) (fuel limit : ℕ) (g h : List Block) (packages : List PackageView) (states others : List LockView) → Lawful image fuel limit g packages states → Lawful image fuel limit h packages others
    → (i : ℕ) (b : Block) → get_elem? g i ≡ some b → get_elem? h i ≡ some b
within image fuel limit g h packages states others one two i b e =
    let below = thread_at image [] g (start image fuel) (end_after image fuel g) one.tells i b e in
    let p = something_at packages b.thread (omega (arith, one.all_packages, below)) in
    let mine = filter_has b.thread g i b e refl in
    let log : of_thread g b.thread ≡ of_thread h b.thread = sym (one.packages_after b.thread p.0 p.1).follows.log ∙ (two.packages_after b.thread p.0 p.1).follows.log in
    let its = filter_from b.thread h mine.0 b (ap (λ (l : List Block). get_elem? l mine.0) (sym log) ∙ mine.1) in
    let stamp : its.0 ≡ i = (let x = stamp_at 0 h its.0 b two.history its.1 in let y = stamp_at 0 g i b one.history e in omega (arith, x, y)) in
    ap (get_elem? h) (sym stamp) ∙ its.1

pub one_history : (image : Shown) (fuel limit : ℕ) (g h : List Block) (packages : List PackageView) (states others : List LockView) → Lawful image fuel limit g packages states → Lawful image fuel limit h packages others → g ≡ h
one_history image fuel limit g h packages states others one two =
    same_list g h (within image fuel limit g h packages states others one two) (within image fuel limit h g packages others states two one)

-- ---- how long it is, and at the start

pub short_history : (image : Shown) (fuel limit : ℕ) (h : List Block) (packages : List PackageView) (states : List LockView) → IsLimited image fuel → Lawful image fuel limit h packages states → length h < 2 ^ 32
short_history image fuel limit h packages states limits law =
    let b : length image.entries * (fuel + 1) ≤ MAX_THREADS * 65537 = mul-le (length image.entries) (fuel + 1) MAX_THREADS 65537 limits.threads (omega (arith, limits.turns)) in
    let a = law.bound in omega (arith, a, b)

all_of : {A : Type 0} (P : A → Type 0) (xs : List A) → ((i : ℕ) (a : A) → get_elem? xs i ≡ some a → P a) → All P xs
all_of P xs f = λ k d lt. (let x = something_at xs k lt in subst P (sym (there xs k x.0 d x.1).1) (f k x.0 x.1))

pub fresh_lawful : (image : Shown) (fuel limit : ℕ) (packages : List PackageView) (states : List LockView) → AreFresh image fuel limit packages states → Lawful image fuel limit [] packages states
fresh_lawful image fuel limit packages states fresh = record {
  history = tt;
  tells = refl;
  obeys = λ k. tt;
  all_packages = fresh.all_packages;
  all_states = fresh.all_states;
  packages_after = λ t p e. (let f = fresh.packages_fresh t p e in record {
    follows = record { of = f.image_is; number = f.number; thread = f.thread ∙ sym (start_at t p e); log = f.log };
    settled = f.pending;
  });
  states_after = λ k l e. subst (IsStateAfter image fuel limit [] k) (sym (fresh.states_fresh k l e)) (record {
    follows = record { of = refl; number = refl; lock = refl; entries = refl; bound = refl };
    opened = refl;
    closed = refl;
  });
  bound =
      let each = all_of (λ (p : PackageView). blocks_left (thread_in p.context) ≤ fuel + 1) packages (λ t p e. omega (arith, ap blocks_left (fresh.packages_fresh t p e).thread)) in
      let sum = sum_by-le (λ (p : PackageView). blocks_left (thread_in p.context)) (fuel + 1) packages each in
      let many : length packages * (fuel + 1) ≡ length image.entries * (fuel + 1) = ap (λ n. n * (fuel + 1)) fresh.all_packages in
      omega (arith, sum, many);
}
  where
    start_at : (t : ℕ) (p : PackageView) → get_elem? packages t ≡ some p → (start image fuel).threads t ≡ thread_at_start image fuel t
    start_at t p e =
        let known = there packages t p p e in
        let all = fresh.all_packages in
        let below : nat_lt t (length image.entries) ≡ true = (let small : t < length image.entries = omega (arith, known.0, all) in grind (arith, nat_tests)) in
        ap (λ (b : Bool). if b then thread_at_start image fuel t else no_thread) below

-- ---- who owns what

pub rests_free : (image : Shown) (fuel limit : ℕ) (h : List Block) (packages : List PackageView) (states : List LockView) → Lawful image fuel limit h packages states
    → (k : ℕ) (l : LockView) → get_elem? states k ≡ some l → EndsSection k l → ((end_after image fuel h).locks k).owner ≡ None
rests_free image fuel limit h packages states law k l e rests =
    let blocks = blocks_are image fuel limit h (end_after image fuel h) k l (law.states_after k l e).follows in
    no_owner image fuel h (end_after image fuel h) k law.tells (subst (λ bs. IfSome (last_of bs) (λ x. ends_section k x ≡ true)) blocks rests)

pub held_owned : (image : Shown) (fuel limit : ℕ) (h : List Block) (packages : List PackageView) (states : List LockView) → Lawful image fuel limit h packages states
    → (t : ℕ) (p : PackageView) → get_elem? packages t ≡ some p → (k : ℕ) → has p.context.guest.held k ≡ true → ((end_after image fuel h).locks k).owner ≡ Some t
held_owned image fuel limit h packages states law t p e k held =
    (holds_told image fuel h (end_after image fuel h) law.tells t k).0 (ap (λ (d : Thread). d.held k) (sym (law.packages_after t p e).follows.thread) ∙ held)
