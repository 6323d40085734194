-- The numbers of a history with one block more.
use Rattle.std.proofs.Common.{◌≡◌, ◌≢◌, ℕ, zero, suc, ◌+◌, ◌*◌, ◌^◌, ◌<◌, ◌≤◌, ◌-◌, ◌==◌, ◌&&◌, nat_lt, min, max, Bool, true, false, List, [], ◌∷◌, ◌++◌, map, length, length-append, refl, sym, ap, ◌∙◌, arith, append-nil, inl, inr}
use Rattle.std.specs.Prelude.{Option, Some, None, option_map, slice_get, filter, sum_by, if◌then◌else◌}
use Rattle.std.proofs.lemmas.Bool.Decides.{eqb_tells}
use Rattle.std.proofs.lemmas.List.{map-append, length-map}
use Rattle.std.proofs.lemmas.List.Sums.{sum_by_push}
use Rattle.tc_journal.proofs.Batching.{of_lock-more, run_from-more}
use Rattle.tc_isa.specs.Sets.{has}
use Rattle.tc_isa.specs.declared.limits.TheConstants.{MAX_TURNS}
use Rattle.tc_journal.specs.Batch.{is_section, is_adopted, top_below, is_lock, begins, run_of, last_of}
use Rattle.tc_journal.specs.History.{of_lock, of_thread}
use Rattle.tc_journal.specs.declared.block.Block.{Block}
use Rattle.tc_journal.specs.declared.block.Kind.{Kind}
use Rattle.tc_profile.specs.declared.tally.ThreadTally.{ThreadTally}
use Rattle.tc_profile.specs.Profile.{Placed, changes, changes_in, each_placed, greatest, home_worker, homes, is_change, is_granted, is_other, is_taken, longest, of_kind, one_if, profile_of_sections, sections_placed, streak_with, thread_profile, worker_of, worker_or_own}
use Rattle.tc_profile.specs.Tally.{home_in, last_in, lock_after, lock_tally, plus, tally_of, thread_after, thread_tally, with_last, with_section}
use Rattle.tc_profile.proofs.Counting.{last-push, filter-push, kept-push, kept-le, later_kept-push, later_kept-le, put, each_placed-push, each_placed-length, changes_in-push, changes_behind-le, run_from-le, greatest-push}

-- ---- a block that begins a section of a lock has the lock

top_held : (n lock : ℕ) (held : ℕ → Bool) → is_lock (top_below n held) lock ≡ true → held lock ≡ true
top_held zero lock held e = absurd (cc)
top_held (suc n) lock held e = go (held n) refl e (top_held n lock held)
  where
    go : (v : Bool) → held n ≡ v → is_lock (if v then Some n else top_below n held) lock ≡ true → (is_lock (top_below n held) lock ≡ true → held lock ≡ true) → held lock ≡ true
    go true h e rest = elim (eqb_tells lock n) [ inl s ↦ ap held s.1 ∙ h | inr s ↦ absurd (let f : true ≡ false = sym e ∙ s.0 in cc) ]
    go false h e rest = rest e

pub begins_held : (lock : ℕ) (b : Block) → begins lock b ≡ true → has b.held lock ≡ true
begins_held lock b e = go (is_section b.kind) e
  where
    go : (v : Bool) → is_lock (if v then top_below 32 (has b.held) else None) lock ≡ true → has b.held lock ≡ true
    go true e = top_held 32 lock (has b.held) e
    go false e = absurd (cc)

pub none_begun : (lock : ℕ) (b : Block) → has b.held lock ≡ false → begins lock b ≡ false
none_begun lock b out = go (begins lock b) refl
  where
    go : (v : Bool) → begins lock b ≡ v → v ≡ false
    go false e = refl
    go true e = (let f : true ≡ false = sym (begins_held lock b e) ∙ out in cc)

-- ---- counts in 64 bits

-- a count that is small goes on by one
plus_is : (v : Bool) (n : ℕ) → n < 2 ^ 33 → n + one_if v ≡ plus v n
plus_is true n small = omega arith
plus_is false n small = omega arith

-- ---- the sections of a lock

-- one more, where the block begins one
sections-push : (h : List Block) (b : Block) (lock : ℕ) (v : Bool) → begins lock b ≡ v → sections_placed (h ++ b ∷ []) lock ≡ sections_placed h lock ++ (if v then put h b ∷ [] else [])
sections-push h b lock v e =
    ap (filter (λ (p : Placed). begins lock p.block)) (each_placed-push h b)
    ∙ filter-push (λ (p : Placed). begins lock p.block) (each_placed h) (put h b)
    ∙ ap (λ w. sections_placed h lock ++ (if w then put h b ∷ [] else [])) e

sections-le : (h : List Block) (lock : ℕ) → length (sections_placed h lock) ≤ length h
sections-le h lock = omega (arith, kept-le (λ (p : Placed). begins lock p.block) (each_placed h), each_placed-length h)

-- ---- one block of the lock more

module _ (h : List Block) (b : Block) (lock : ℕ) (few : length h < 2 ^ 32) (held : has b.held lock ≡ true) where
  abbrev all : List Placed
  all = sections_placed h lock

  abbrev bs : List Block
  bs = of_lock h lock

  blocks : of_lock (h ++ b ∷ []) lock ≡ bs ++ b ∷ []
  blocks = of_lock-more h b lock true held

  few_blocks : length bs < 2 ^ 32
  few_blocks = omega (arith, few, kept-le (λ (c : Block). has c.held lock) h)

  few_sections : length all < 2 ^ 32
  few_sections = omega (arith, few, sections-le h lock)

  streak : (v : Bool) → begins lock b ≡ v → run_of lock (bs ++ b ∷ []) ≡ (if v then (if is_adopted b.kind then run_of lock bs + 1 else 0) else run_of lock bs)
  streak v e = run_from-more lock 0 bs b ∙ ap (λ w. if w then (if is_adopted b.kind then run_of lock bs + 1 else 0) else run_of lock bs) e

  last : option_map worker_of (last_of (bs ++ b ∷ [])) ≡ Some b.worker
  last = ap (option_map worker_of) (last-push bs b)

  -- it begins no section
  goes_on : begins lock b ≡ false → tally_of lock all (bs ++ b ∷ []) ≡ with_last b.worker (tally_of lock all bs)
  goes_on out = λ i. record { numbers = profile_of_sections lock all; streak = streak false out i; last = last i; home = last_in (homes all) }

  -- it begins one
  begins_one : begins lock b ≡ true → tally_of lock (all ++ put h b ∷ []) (bs ++ b ∷ []) ≡ with_last b.worker (with_section b (home_worker (put h b)) (tally_of lock all bs))
  begins_one is = λ i. record {
    numbers = record {
      sections = sections i;
      taken = kinds is_taken i;
      adopted = kinds is_adopted i;
      granted = kinds is_granted i;
      longest = long i;
      changes = change i;
      home = home i;
    };
    streak = streaks i;
    last = last i;
    home = last_home i;
  }
    where
      sections : length (all ++ put h b ∷ []) ≡ plus true (length all)
      sections = length-append all (put h b ∷ []) ∙ plus_is true (length all) (omega (arith, few_sections))

      kinds : (is_kind : Kind → Bool) → of_kind is_kind (all ++ put h b ∷ []) ≡ plus (is_kind b.kind) (of_kind is_kind all)
      kinds is_kind = kept-push (λ (p : Placed). is_kind p.block.kind) all (put h b) ∙ plus_is (is_kind b.kind) (of_kind is_kind all) (omega (arith, few_sections, kept-le (λ (p : Placed). is_kind p.block.kind) all))

      streaks : run_of lock (bs ++ b ∷ []) ≡ (if is_adopted b.kind then plus true (run_of lock bs) else 0)
      streaks = streak true is ∙ ap (λ n. if is_adopted b.kind then n else 0) (plus_is true (run_of lock bs) (omega (arith, run_from-le lock 0 bs, few_blocks)))

      long : longest lock (all ++ put h b ∷ []) ≡ max (longest lock all) (if is_adopted b.kind then plus true (run_of lock bs) else 0)
      long = ap (λ ns. greatest ns) (map-append (streak_with lock) all (put h b ∷ [])) ∙ greatest-push (map (streak_with lock) all) (streak_with lock (put h b)) ∙ ap (max (longest lock all)) (ap (run_of lock) blocks ∙ streaks)

      change : changes lock (all ++ put h b ∷ []) ≡ plus (nat_lt 0 (length all) && is_other (option_map worker_of (last_of bs)) b.worker) (changes lock all)
      change = later_kept-push (is_change lock) all (put h b) ∙ plus_is (nat_lt 0 (length all) && is_other (option_map worker_of (last_of bs)) b.worker) (changes lock all) (omega (arith, few_sections, later_kept-le (is_change lock) all))

      more_homes : homes (all ++ put h b ∷ []) ≡ homes all ++ home_worker (put h b) ∷ []
      more_homes = map-append home_worker all (put h b ∷ [])

      home : changes_in (homes (all ++ put h b ∷ [])) ≡ plus (is_other (last_in (homes all)) (home_worker (put h b))) (changes_in (homes all))
      home = ap changes_in more_homes ∙ changes_in-push (homes all) (home_worker (put h b))
          ∙ plus_is (is_other (last_in (homes all)) (home_worker (put h b))) (changes_in (homes all)) (omega (arith, few_sections, changes_behind-le None (homes all), length-map all home_worker))

      last_home : last_in (homes (all ++ put h b ∷ [])) ≡ Some (home_worker (put h b))
      last_home = ap last_in more_homes ∙ last-push (homes all) (home_worker (put h b))

  pub lock_grows : lock_tally (h ++ b ∷ []) lock ≡ lock_after lock b (home_worker (put h b)) (lock_tally h lock)
  lock_grows = by (begins lock b) refl
    where
      by : (v : Bool) → begins lock b ≡ v → tally_of lock (sections_placed (h ++ b ∷ []) lock) (of_lock (h ++ b ∷ []) lock) ≡ with_last b.worker (if v then with_section b (home_worker (put h b)) (tally_of lock all bs) else tally_of lock all bs)
      by true e = (λ i. tally_of lock (sections-push h b lock true e i) (blocks i)) ∙ begins_one e
      by false e = (λ i. tally_of lock ((sections-push h b lock false e ∙ append-nil all) i) (blocks i)) ∙ goes_on e

pub lock_stays : (h : List Block) (b : Block) (lock : ℕ) → has b.held lock ≡ false → lock_tally (h ++ b ∷ []) lock ≡ lock_tally h lock
lock_stays h b lock out =
    let blocks : of_lock (h ++ b ∷ []) lock ≡ of_lock h lock = of_lock-more h b lock false out ∙ append-nil (of_lock h lock) in
    let sections : sections_placed (h ++ b ∷ []) lock ≡ sections_placed h lock = sections-push h b lock false (none_begun lock b out) ∙ append-nil (sections_placed h lock) in
    λ i. tally_of lock (sections i) (blocks i)

-- ---- a thread

of_thread-push : (h : List Block) (b : Block) (t : ℕ) (v : Bool) → (b.thread == t) ≡ v → of_thread (h ++ b ∷ []) t ≡ of_thread h t ++ (if v then b ∷ [] else [])
of_thread-push h b t v e = filter-push (λ (c : Block). c.thread == t) h b ∙ ap (λ w. of_thread h t ++ (if w then b ∷ [] else [])) e

abbrev thread_tally_of : List Block → ThreadTally
thread_tally_of bs = record {
  numbers = record { blocks = length bs; turns = sum_by (λ (b : Block). b.turns) bs; moves = changes_in (map worker_of bs) };
  last = option_map worker_of (last_of bs);
}

last_worker : (bs : List Block) → last_in (map worker_of bs) ≡ option_map worker_of (last_of bs)
last_worker bs = ap (λ n. slice_get (map worker_of bs) (n - 1)) (length-map bs worker_of) ∙ go bs (length bs - 1)
  where
    go : (bs : List Block) (i : ℕ) → slice_get (map worker_of bs) i ≡ option_map worker_of (slice_get bs i)
    go [] i = refl
    go (x ∷ bs) zero = refl
    go (x ∷ bs) (suc i) = go bs i

one_more : (bs : List Block) (b : Block) → length bs < 2 ^ 32 → sum_by (λ (b : Block). b.turns) bs + b.turns < 2 ^ 60 → thread_tally_of (bs ++ b ∷ []) ≡ thread_after b (thread_tally_of bs)
one_more bs b few small = λ i. record { numbers = record { blocks = blocks i; turns = turns i; moves = moves i }; last = ap (option_map worker_of) (last-push bs b) i }
  where
    blocks : length (bs ++ b ∷ []) ≡ plus true (length bs)
    blocks = length-append bs (b ∷ []) ∙ plus_is true (length bs) (omega (arith, few))

    turns : sum_by (λ (b : Block). b.turns) (bs ++ b ∷ []) ≡ min (sum_by (λ (b : Block). b.turns) bs + b.turns) (2 ^ 64 - 1)
    turns = sum_by_push (λ (b : Block). b.turns) bs b ∙ omega arith

    moves : changes_in (map worker_of (bs ++ b ∷ [])) ≡ plus (is_other (option_map worker_of (last_of bs)) b.worker) (changes_in (map worker_of bs))
    moves = ap changes_in (map-append worker_of bs (b ∷ [])) ∙ changes_in-push (map worker_of bs) b.worker
        ∙ ap (λ o. changes_in (map worker_of bs) + one_if (is_other o b.worker)) (last_worker bs)
        ∙ plus_is (is_other (option_map worker_of (last_of bs)) b.worker) (changes_in (map worker_of bs)) (omega (arith, few, changes_behind-le None (map worker_of bs), length-map bs worker_of))

pub thread_grows : (h : List Block) (b : Block) → length h < 2 ^ 32 → b.turns ≤ MAX_TURNS → (thread_profile h b.thread).turns ≤ MAX_TURNS * length h → thread_tally (h ++ b ∷ []) b.thread ≡ thread_after b (thread_tally h b.thread)
thread_grows h b few short most =
    let same : (b.thread == b.thread) ≡ true = elim (eqb_tells b.thread b.thread) [ inl e ↦ e.0 | inr e ↦ absurd (e.1 refl) ] in
    ap thread_tally_of (of_thread-push h b b.thread true same)
    ∙ one_more (of_thread h b.thread) b (omega (arith, few, kept-le (λ (c : Block). c.thread == b.thread) h)) (omega (arith, few, short, most))

pub thread_stays : (h : List Block) (b : Block) (t : ℕ) → b.thread ≢ t → thread_tally (h ++ b ∷ []) t ≡ thread_tally h t
thread_stays h b t ne =
    let other : (b.thread == t) ≡ false = elim (eqb_tells b.thread t) [ inl e ↦ absurd (ne e.1) | inr e ↦ e.0 ] in
    ap thread_tally_of (of_thread-push h b t false other ∙ append-nil (of_thread h t))

pub home_is : (h : List Block) (b : Block) → home_in (thread_tally h b.thread).last b ≡ home_worker (put h b)
home_is h b = go (last_of (of_thread h b.thread))
  where
    go : (o : Option Block) → home_in (option_map worker_of o) b ≡ worker_or_own o b
    go None = refl
    go (Some a) = refl

abbrev sum : List Block → ℕ
sum bs = sum_by (λ (c : Block). c.turns) bs

pub turns_grow : (h : List Block) (b : Block) → b.turns ≤ MAX_TURNS → ((t : ℕ) → (thread_profile h t).turns ≤ MAX_TURNS * length h) → (t : ℕ) → (thread_profile (h ++ b ∷ []) t).turns ≤ MAX_TURNS * length (h ++ b ∷ [])
turns_grow h b short most t = by (b.thread == t) refl
  where
    long : length (h ++ b ∷ []) ≡ length h + 1
    long = length-append h (b ∷ [])

    by : (v : Bool) → (b.thread == t) ≡ v → sum (of_thread (h ++ b ∷ []) t) ≤ MAX_TURNS * length (h ++ b ∷ [])
    by true e = (let s : sum (of_thread (h ++ b ∷ []) t) ≡ sum (of_thread h t) + b.turns = ap sum (of_thread-push h b t true e) ∙ sum_by_push (λ (c : Block). c.turns) (of_thread h t) b in omega (arith, s, long, most t, short))
    by false e = (let s : sum (of_thread (h ++ b ∷ []) t) ≡ sum (of_thread h t) = ap sum (of_thread-push h b t false e ∙ append-nil (of_thread h t)) in omega (arith, s, long, most t))
