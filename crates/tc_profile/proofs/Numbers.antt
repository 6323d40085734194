-- What the numbers of a profile are to one another, and to the history.
use Rattle.std.proofs.Common.{◌≡◌, ℕ, zero, suc, ◌+◌, ◌<◌, ◌≤◌, ◌==◌, ◌&&◌, nat_lt, Bool, true, false, not, List, [], ◌∷◌, ◌++◌, length, refl, sym, ap, subst, ◌∙◌, arith, append-nil}
use Rattle.std.specs.Prelude.{Option, Some, None, All, option_map, filter, sum_by, if◌then◌else◌}
use Rattle.std.specs.List.{range_with_len}
use Rattle.std.proofs.lemmas.Bool.{and_parts}
use Rattle.std.proofs.lemmas.Bool.Decides.{nat_tests}
use Rattle.std.proofs.lemmas.List.Elements.{All-cons, All-head, All-nil, All-tail}
use Rattle.std.proofs.lemmas.List.Sums.{sum_by-cons}
use Rattle.tc_isa.specs.Sets.{has}
use Rattle.tc_journal.specs.Batch.{is_section, is_adopted, is_lock, is_only, top_below, unlocks, begins, last_of, may_adopt, may_begin, may_go_on, may_follow, allows_of, run_of, Obeys, ObeysAfter}
use Rattle.tc_journal.specs.History.{of_lock, of_thread}
use Rattle.tc_journal.specs.declared.block.Block.{Block}
use Rattle.tc_journal.specs.declared.block.Kind.{Kind}
use Rattle.tc_journal.specs.declared.block.Kind.TheVariants.{Start, On, Taken, Adopted, Granted}
use Rattle.tc_journal.proofs.Batching.{of_lock-more, run_from-more}
use Rattle.tc_profile.specs.Profile.{Placed, changes, each_placed, is_change, is_granted, is_other, is_taken, longest, lock_profile, of_kind, one_if, placed_behind, sections_placed, streak_with, thread_profile, worker_of}
use Rattle.tc_profile.proofs.Counting.{put}
use Rattle.tc_profile.proofs.Growing.{none_begun}

pub kept-front : {A : Type 0} (test : A → Bool) (x : A) (xs : List A) → length (filter test (x ∷ xs)) ≡ one_if (test x) + length (filter test xs)
kept-front test x xs = by (test x)
  where
    by : (v : Bool) → length (if v then x ∷ filter test xs else filter test xs) ≡ one_if v + length (filter test xs)
    by true = omega arith
    by false = omega arith

-- ---- sections

abbrev begun_at : ℕ → Placed → Bool
begun_at lock p = begins lock p.block

-- a block that begins a section is of such a kind
begun_is : (lock : ℕ) (b : Block) → begins lock b ≡ true → is_section b.kind ≡ true
begun_is lock b e = go (is_section b.kind) e
  where
    go : (v : Bool) → is_lock (if v then top_below 32 (has b.held) else None) lock ≡ true → v ≡ true
    go true e = refl
    go false e = absurd (cc)

-- as many sections as blocks of the lock that begin one
counted_from : (lock : ℕ) (before bs : List Block) → length (filter (begun_at lock) (placed_behind before bs)) ≡ length (filter (begins lock) (of_lock bs lock))
counted_from lock before [] = refl
counted_from lock before (b ∷ bs) = by (has b.held lock) refl (kept-front (begun_at lock) (put before b) (placed_behind (before ++ b ∷ []) bs) ∙ ap (λ n. one_if (begins lock b) + n) (counted_from lock (before ++ b ∷ []) bs))
  where
    by : (v : Bool) → has b.held lock ≡ v → length (filter (begun_at lock) (placed_behind before (b ∷ bs))) ≡ one_if (begins lock b) + length (filter (begins lock) (of_lock bs lock))
        → length (filter (begun_at lock) (placed_behind before (b ∷ bs))) ≡ length (filter (begins lock) (if v then b ∷ of_lock bs lock else of_lock bs lock))
    by true e all = all ∙ sym (kept-front (begins lock) b (of_lock bs lock))
    by false e all = all ∙ ap (λ v. one_if v + length (filter (begins lock) (of_lock bs lock))) (none_begun lock b e) ∙ omega arith

pub sections_are_begun : (h : List Block) (lock : ℕ) → (lock_profile h lock).sections ≡ length (filter (begins lock) (of_lock h lock))
sections_are_begun h lock = counted_from lock [] h

-- ---- kinds

one_kind : (k : Kind) → is_section k ≡ true → one_if (is_taken k) + one_if (is_adopted k) + one_if (is_granted k) ≡ 1
one_kind Start e = absurd (cc)
one_kind On e = absurd (cc)
one_kind Taken e = refl
one_kind Adopted e = refl
one_kind Granted e = refl

kind_front : (is_kind : Kind → Bool) (p : Placed) (ps : List Placed) → of_kind is_kind (p ∷ ps) ≡ one_if (is_kind p.block.kind) + of_kind is_kind ps
kind_front is_kind p ps = kept-front (λ (q : Placed). is_kind q.block.kind) p ps

abbrev all_kinds : List Placed → ℕ
all_kinds ps = of_kind is_taken ps + of_kind is_adopted ps + of_kind is_granted ps

-- with this one at the front, where it is so
abbrev with_first : Bool → Placed → List Placed → List Placed
with_first v p ps = if v then p ∷ ps else ps

kinds_front : (lock : ℕ) (p : Placed) (ps : List Placed) (v : Bool) → begun_at lock p ≡ v → all_kinds ps ≡ length ps → all_kinds (with_first v p ps) ≡ length (with_first v p ps)
kinds_front lock p ps true e rest = omega (arith, rest, one_kind p.block.kind (begun_is lock p.block e), kind_front is_taken p ps, kind_front is_adopted p ps, kind_front is_granted p ps)
kinds_front lock p ps false e rest = rest

kinds_of : (lock : ℕ) (ps : List Placed) → all_kinds (filter (begun_at lock) ps) ≡ length (filter (begun_at lock) ps)
kinds_of lock [] = refl
kinds_of lock (p ∷ ps) = kinds_front lock p (filter (begun_at lock) ps) (begun_at lock p) refl (kinds_of lock ps)

pub kinds : (h : List Block) (lock : ℕ) → (lock_profile h lock).taken + (lock_profile h lock).adopted + (lock_profile h lock).granted ≡ (lock_profile h lock).sections
kinds h lock = kinds_of lock (each_placed h)

-- ---- adopted sections

-- an adopted section that may follow is behind a streak below the limit, and of the worker of the block before it
may_be_adopted : (lock limit run worker : ℕ) (o : Option Block) (k : Kind) → is_adopted k ≡ true → may_begin lock limit o run k worker ≡ true → (run < limit) × (is_other (option_map worker_of o) worker ≡ false)
may_be_adopted lock limit run worker o Start a e = absurd (cc)
may_be_adopted lock limit run worker o On a e = absurd (cc)
may_be_adopted lock limit run worker o Taken a e = absurd (cc)
may_be_adopted lock limit run worker o Granted a e = absurd (cc)
may_be_adopted lock limit run worker None Adopted a e = absurd (cc)
may_be_adopted lock limit run worker (Some p) Adopted a e =
    let parts = and_parts (may_adopt p lock run limit) (p.worker == worker) e in
    let below : nat_lt run limit ≡ true = (and_parts (unlocks lock p.end && is_only p.held lock) (nat_lt run limit) parts.0).1 in
    (grind (arith, nat_tests), ap not parts.1)

adopted_behind : (lock limit : ℕ) (seen : List Block) (b : Block) → may_follow lock limit seen b ≡ true → begins lock b ≡ true → is_adopted b.kind ≡ true
    → (run_of lock seen < limit) × (is_other (option_map worker_of (last_of seen)) b.worker ≡ false)
unfolding may_follow allows_of
adopted_behind lock limit seen b follows begun adopted =
    may_be_adopted lock limit (run_of lock seen) b.worker (last_of seen) b.kind adopted
    (sym (ap (λ v. if v then may_begin lock limit (last_of seen) (run_of lock seen) b.kind b.worker else may_go_on lock (last_of seen) b.thread) begun) ∙ follows)

-- the streak behind the block is no longer than the limit
streak_few : (lock limit : ℕ) (seen : List Block) (b : Block) → may_follow lock limit seen b ≡ true → run_of lock seen ≤ limit → run_of lock (seen ++ b ∷ []) ≤ limit
streak_few lock limit seen b follows few =
    let next = run_from-more lock 0 seen b in
    let least = by (begins lock b) (is_adopted b.kind) refl refl in
    omega (arith, next, least)
  where
    by : (v a : Bool) → begins lock b ≡ v → is_adopted b.kind ≡ a → (if v then (if a then run_of lock seen + 1 else 0) else run_of lock seen) ≤ limit
    by true true begun adopted = omega (arith, (adopted_behind lock limit seen b follows begun adopted).0)
    by true false begun adopted = omega arith
    by false a begun adopted = few

-- what each section of a lock is whose blocks obey the limit: the streak with it is in the limit, and an adopted one is no change
record IsInLimit (lock limit : ℕ) (p : Placed) : Type 0 where
  pub streak : streak_with lock p ≤ limit
  pub change : is_adopted p.block.kind ≡ true → is_change lock p ≡ false

module _ (lock limit : ℕ) (before : List Block) (b : Block) (ps : List Placed) where
  abbrev with_it : List Block
  with_it = of_lock (before ++ b ∷ []) lock

  begun_in_limit : (v : Bool) → begins lock b ≡ v → run_of lock with_it ≤ limit → may_follow lock limit (of_lock before lock) b ≡ true → All (IsInLimit lock limit) ps → All (IsInLimit lock limit) (with_first v (put before b) ps)
  begun_in_limit true is here follows rest =
      All-cons (IsInLimit lock limit) (put before b) ps (record { streak = here; change = λ adopted. (adopted_behind lock limit (of_lock before lock) b follows is adopted).1 }) rest
  begun_in_limit false is here follows rest = rest

  one_in_limit : (bs : List Block) (v : Bool) → has b.held lock ≡ v → run_of lock (of_lock before lock) ≤ limit → ObeysAfter lock limit (of_lock before lock) (if v then b ∷ of_lock bs lock else of_lock bs lock)
      → (ObeysAfter lock limit with_it (of_lock bs lock) → run_of lock with_it ≤ limit → All (IsInLimit lock limit) ps) → All (IsInLimit lock limit) (with_first (begins lock b) (put before b) ps)
  one_in_limit bs true e few obeys rest =
      let same : with_it ≡ of_lock before lock ++ b ∷ [] = of_lock-more before b lock true e in
      let here : run_of lock with_it ≤ limit = subst (λ l. run_of lock l ≤ limit) (sym same) (streak_few lock limit (of_lock before lock) b obeys.0 few) in
      begun_in_limit (begins lock b) refl here obeys.0 (rest (subst (λ l. ObeysAfter lock limit l (of_lock bs lock)) (sym same) obeys.1) here)
  one_in_limit bs false e few obeys rest =
      let same : with_it ≡ of_lock before lock = of_lock-more before b lock false e ∙ append-nil (of_lock before lock) in
      subst (λ v. All (IsInLimit lock limit) (with_first v (put before b) ps)) (sym (none_begun lock b e))
      (rest (subst (λ l. ObeysAfter lock limit l (of_lock bs lock)) (sym same) obeys) (subst (λ l. run_of lock l ≤ limit) (sym same) few))

sections_in_limit : (lock limit : ℕ) (before bs : List Block) → ObeysAfter lock limit (of_lock before lock) (of_lock bs lock) → run_of lock (of_lock before lock) ≤ limit → All (IsInLimit lock limit) (filter (begun_at lock) (placed_behind before bs))
sections_in_limit lock limit before [] obeys few = All-nil (IsInLimit lock limit)
sections_in_limit lock limit before (b ∷ bs) obeys few =
    one_in_limit lock limit before b (filter (begun_at lock) (placed_behind (before ++ b ∷ []) bs)) bs (has b.held lock) refl few obeys (sections_in_limit lock limit (before ++ b ∷ []) bs)

in_limit : (h : List Block) (lock limit : ℕ) → Obeys lock limit (of_lock h lock) → All (IsInLimit lock limit) (sections_placed h lock)
in_limit h lock limit obeys = sections_in_limit lock limit [] h obeys (omega arith)

longest_few : (lock limit : ℕ) (ps : List Placed) → All (IsInLimit lock limit) ps → longest lock ps ≤ limit
longest_few lock limit [] all = omega arith
longest_few lock limit (p ∷ ps) all = omega (arith, (All-head (IsInLimit lock limit) p ps all).streak, longest_few lock limit ps (All-tail (IsInLimit lock limit) p ps all))

pub longest_within : (h : List Block) (lock limit : ℕ) → Obeys lock limit (of_lock h lock) → (lock_profile h lock).longest ≤ limit
longest_within h lock limit obeys = longest_few lock limit (sections_placed h lock) (in_limit h lock limit obeys)

-- ---- changes of worker

change_or : (c a : Bool) → (a ≡ true → c ≡ false) → one_if c + one_if a ≤ 1
change_or false true f = omega arith
change_or c false f = by c
  where
    by : (c : Bool) → one_if c + 0 ≤ 1
    by true = omega arith
    by false = omega arith
change_or true true f = absurd (let e = f refl in cc)

changes_few : (lock limit : ℕ) (ps : List Placed) → All (IsInLimit lock limit) ps → length (filter (is_change lock) ps) + of_kind is_adopted ps ≤ length ps
changes_few lock limit [] all = omega arith
changes_few lock limit (p ∷ ps) all =
    let here = change_or (is_change lock p) (is_adopted p.block.kind) (All-head (IsInLimit lock limit) p ps all).change in
    omega (arith, here, kept-front (is_change lock) p ps, kind_front is_adopted p ps, changes_few lock limit ps (All-tail (IsInLimit lock limit) p ps all))

later_few : (lock : ℕ) (ps : List Placed) → changes lock ps ≤ length (filter (is_change lock) ps)
later_few lock [] = omega arith
later_few lock (p ∷ ps) = omega (arith, kept-front (is_change lock) p ps)

pub changes_or_adopted : (h : List Block) (lock limit : ℕ) → Obeys lock limit (of_lock h lock) → (lock_profile h lock).changes + (lock_profile h lock).adopted ≤ (lock_profile h lock).sections
changes_or_adopted h lock limit obeys =
    let all = sections_placed h lock in
    omega (arith, later_few lock all, changes_few lock limit all (in_limit h lock limit obeys))

-- ---- threads

-- the blocks of the n threads from a on
abbrev blocks_in : List Block → ℕ → ℕ → ℕ
blocks_in h a n = sum_by (λ t. length (of_thread h t)) (range_with_len a n)

none_counted : (a n : ℕ) → blocks_in [] a n ≡ 0
none_counted a zero = refl
none_counted a (suc n) = none_counted (a + 1) n

-- a block of one of them is counted once, and of another not at all
one_counted : (b : Block) (h : List Block) (a n : ℕ) → blocks_in (b ∷ h) a n ≡ one_if (not (nat_lt b.thread a) && nat_lt b.thread (a + n)) + blocks_in h a n
one_counted b h a zero = by (nat_lt b.thread a) (nat_lt b.thread (a + 0)) (let e : a ≡ a + 0 = omega arith in ap (nat_lt b.thread) e)
  where
    by : (v w : Bool) → v ≡ w → 0 ≡ one_if (not v && w) + 0
    by true w e = refl
    by false true e = absurd (cc)
    by false false e = refl
one_counted b h a (suc n) =
    let here = kept-front (λ (c : Block). c.thread == a) b h in
    let rest = one_counted b h (a + 1) n in
    let tests : one_if (b.thread == a) + one_if (not (nat_lt b.thread (a + 1)) && nat_lt b.thread ((a + 1) + n)) ≡ one_if (not (nat_lt b.thread a) && nat_lt b.thread (a + suc n)) = grind (arith, nat_tests) in
    let whole : blocks_in (b ∷ h) a (suc n) ≡ length (of_thread (b ∷ h) a) + blocks_in (b ∷ h) (a + 1) n = sum_by-cons (λ t. length (of_thread (b ∷ h) t)) a (range_with_len (a + 1) n) in
    let others : blocks_in h a (suc n) ≡ length (of_thread h a) + blocks_in h (a + 1) n = sum_by-cons (λ t. length (of_thread h t)) a (range_with_len (a + 1) n) in
    omega (arith, here, rest, tests, whole, others)

all_counted : (h : List Block) (n : ℕ) → All (λ (b : Block). b.thread < n) h → blocks_in h 0 n ≡ length h
all_counted [] n known = none_counted 0 n
all_counted (b ∷ h) n known =
    let lt : b.thread < n = All-head (λ (c : Block). c.thread < n) b h known in
    let one : one_if (not (nat_lt b.thread 0) && nat_lt b.thread (0 + n)) ≡ 1 = grind (arith, nat_tests) in
    omega (arith, one_counted b h 0 n, one, all_counted h n (All-tail (λ (c : Block). c.thread < n) b h known))

pub threads_blocks : (h : List Block) (threads : ℕ) → All (λ (b : Block). b.thread < threads) h → sum_by (λ t. (thread_profile h t).blocks) (range_with_len 0 threads) ≡ length h
threads_blocks h threads known = all_counted h threads known
