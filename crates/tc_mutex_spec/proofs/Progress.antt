-- Every run of ordinary mutexes is short, and can go on to the end of each thread.
use Rattle.std.proofs.Common.{◌≡◌, ◌⊎◌, ℕ, zero, suc, ◌+◌, ◌<◌, ◌≤◌, Bool, true, false, ◌&&◌, List, [], ◌∷◌, length, refl, sym, ap, subst, ◌∙◌, arith, inl, inr}
use Rattle.std.specs.Prelude.{Option, Some, None, nat_lt, if◌then◌else◌, option_and_then}
use Rattle.std.proofs.lemmas.Bool.Decides.{nat_tests, eqb_tells}
use Rattle.std.proofs.lemmas.Bool.{both_ways}
use Rattle.tc_elf.specs.Shown.{Shown}
use Rattle.tc_elf.specs.declared.limits.TheConstants.{MAX_GUARDS}
use Rattle.tc_turn.specs.Turn.{Thread, Mutex, thread_at_start, no_thread, is_running, next_lock, next_act, thread_after}
use Rattle.tc_turn.proofs.Turns.{held_known}
use Rattle.tc_mutex_spec.specs.Machine.{State, start, is_free, is_open, can_turn, after, turn, turns, IsHeldByOwner}
use Rattle.tc_mutex_spec.specs.Blocks.{reach, IsComplete}
use Rattle.tc_mutex_spec.specs.Progress.{Run, most_turns, CanRunOn}
use Rattle.tc_mutex_spec.proofs.Folding.{turn-defined}
use Rattle.tc_mutex_spec.proofs.Holds.{holds_after, holds_start, can_thread}
use Rattle.tc_mutex_spec.proofs.Local.{after_thread, turn_apart}
use Rattle.tc_mutex_spec.proofs.BlocksAlike.{covers_block}
use Rattle.tc_mutex_spec.proofs.Replaying.{turn_runs, next_above}
use Rattle.tc_mutex_spec.proofs.BlockEnds.{after_end, left, left_falls, turn_falls}
use Rattle.tc_mutex_spec.proofs.Sums.{sum_to, sums_one, sums_most, at_most, all_or}

-- ---- the turns that are left

abbrev pub turns_sum : Shown → State → ℕ
turns_sum image m = sum_to (λ u. left (m.threads u)) (length image.entries)

-- a turn takes one
pub turn_left : (image : Shown) (d : Thread) (locks : ℕ → Mutex) → is_running d.status ≡ true → left (thread_after d (next_act image d locks)) < left d
turn_left image d locks run = left_falls d (thread_after d (next_act image d locks)) run (turn_falls image d locks)

pub turns_turn : (image : Shown) (m : State) (t : ℕ) → t < length image.entries → is_running (m.threads t).status ≡ true → turns_sum image (after image m t) + 1 ≤ turns_sum image m
turns_turn image m t lt run =
    let d = m.threads t in
    let falls = turn_left image d m.locks run in
    let r = sums_one (λ u. left ((after image m t).threads u)) (λ u. left (m.threads u)) 1 0 t (length image.entries)
    (λ u ne. at_most _ _ (ap left ((turn_apart image m t _ (covers_block image d)).threads u ne)))
    (subst (λ x. left x + 1 ≤ left d + 0) (sym (after_thread image m t)) (omega (arith, falls)))
    lt in
    omega (arith, r)

pub first_turns : (image : Shown) (fuel : ℕ) → turns_sum image (start image fuel) ≤ most_turns image fuel
first_turns image fuel = sums_most (λ u. left ((start image fuel).threads u)) (fuel + 1) (length image.entries)
    (λ u. elim (nat_lt u (length image.entries)) as (λ b. left (if b then thread_at_start image fuel u else no_thread) ≤ fuel + 1) [ true ↦ omega arith | false ↦ omega arith ])

-- ---- what holds in every state that turns come to

pub record IsSane (image : Shown) (m : State) : Type 0 where
  pub owners : IsHeldByOwner m
  pub ends : (t k : ℕ) → is_running (m.threads t).status ≡ false → (m.threads t).held k ≡ false
  pub known : (t k : ℕ) → (m.threads t).held k ≡ true → k < length image.guards
  pub within : (t : ℕ) → is_running (m.threads t).status ≡ true → t < length image.entries

pub can_runs : (image : Shown) (m : State) (t : ℕ) → can_turn image m t ≡ true → is_running (m.threads t).status ≡ true
can_runs image m t can = ap is_running (turn_runs image m t can)

-- what holds of the turn's thread afterwards, and of each other thread as before
turned : (image : Shown) (m : State) (t : ℕ) (P : ℕ → Thread → Type 0) → P t ((after image m t).threads t) → (u : ℕ) → P u (m.threads u) → P u ((after image m t).threads u)
turned image m t P mine u other = elim (eqb_tells u t) [
  | inl e ↦ subst (λ v. P v ((after image m t).threads v)) (sym e.1) mine
  | inr e ↦ subst (P u) (sym ((turn_apart image m t _ (covers_block image (m.threads t))).threads u e.1)) other
]

pub sane_turn : (image : Shown) (m : State) (t : ℕ) → can_turn image m t ≡ true → IsSane image m → IsSane image (after image m t)
sane_turn image m t can s =
    let d = m.threads t in
    let at = sym (after_thread image m t) in
    record {
      owners = holds_after image m t can s.owners;
      ends = λ u k. turned image m t (λ v (x : Thread). is_running x.status ≡ false → x.held k ≡ false)
          (subst (λ (x : Thread). is_running x.status ≡ false → x.held k ≡ false) at (λ e. after_end d (next_act image d m.locks) (can_runs image m t can) e k)) u (s.ends u k);
      known = λ u k. turned image m t (λ v (x : Thread). x.held k ≡ true → k < length image.guards)
          (subst (λ (x : Thread). x.held k ≡ true → k < length image.guards) at (held_known image d m.locks (s.known t) k)) u (s.known u k);
      within = λ u. turned image m t (λ v (x : Thread). is_running x.status ≡ true → v < length image.entries) (λ h. can_thread image m t can) u (s.within u);
    }

turns_first : (image : Shown) (m n : State) (t : ℕ) (ts : List ℕ) → turns image m (t ∷ ts) ≡ Some n → (can_turn image m t ≡ true) × (turns image (after image m t) ts ≡ Some n)
unfolding turn
turns_first image m n t ts =
    elim (can_turn image m t) as (λ b. option_and_then (λ x. turns image x ts) (if b then Some (after image m t) else None) ≡ Some n → (b ≡ true) × (turns image (after image m t) ts ≡ Some n)) [
      | true ↦ λ e. (refl, e)
      | false ↦ λ e. absurd (cc)
    ]

-- and how many turns were left
pub record Came (image : Shown) (m : State) (ts : List ℕ) (n : State) : Type 0 where
  pub sane : IsSane image n
  pub short : length ts + turns_sum image n ≤ turns_sum image m

pub came : (image : Shown) (ts : List ℕ) (m n : State) → IsSane image m → turns image m ts ≡ Some n → Came image m ts n
came image [] m n s e = subst (Came image m []) (let same : m ≡ n = cc in same) (record { sane = s; short = omega arith })
came image (t ∷ ts) m n s e =
    let f = turns_first image m n t ts e in
    let r = came image ts (after image m t) n (sane_turn image m t f.0 s) f.1 in
    let l = turns_turn image m t (can_thread image m t f.0) (can_runs image m t f.0) in
    record { sane = r.sane; short = (let x = r.short in omega (arith, x, l)) }

pub start_sane : (image : Shown) (fuel : ℕ) → IsSane image (start image fuel)
start_sane image fuel = record {
  owners = holds_start image fuel;
  ends = λ t k e. (elim (nat_lt t (length image.entries)) as (λ b. (if b then thread_at_start image fuel t else no_thread).held k ≡ false) [ true ↦ refl | false ↦ refl ]);
  known = λ t k e. absurd (both_ways _ (elim (nat_lt t (length image.entries)) as (λ b. (if b then thread_at_start image fuel t else no_thread).held k ≡ false) [ true ↦ refl | false ↦ refl ]) e);
  within = λ t. go t (nat_lt t (length image.entries)) refl;
}
  where
    go : (t : ℕ) (b : Bool) → nat_lt t (length image.entries) ≡ b → is_running (if b then thread_at_start image fuel t else no_thread).status ≡ true → t < length image.entries
    go t true e h = grind (arith, nat_tests)
    go t false e h = absurd (cc)

-- after n turns of t
pub record Reached (image : Shown) (m : State) (t n : ℕ) : Type 0 where
  pub sane : IsSane image (reach image m t n)
  pub short : n + turns_sum image (reach image m t n) ≤ turns_sum image m

pub reached : (image : Shown) (m : State) (t n : ℕ) → ((k : ℕ) → k < n → can_turn image (reach image m t k) t ≡ true) → IsSane image m → Reached image m t n
reached image m t zero can s = record { sane = s; short = omega arith }
reached image m t (suc n) can s =
    let r = reached image m t n (λ k lt. can k (omega arith)) s in
    let here = can n (omega arith) in
    let falls = turns_turn image (reach image m t n) t (can_thread image (reach image m t n) t here) (can_runs image (reach image m t n) t here) in
    record { sane = sane_turn image (reach image m t n) t here r.sane; short = (let x = r.short in omega (arith, x, falls)) }

-- ---- somebody may take a turn

-- a thread that runs may, where it takes no lock that has an owner
pub may_turn : (image : Shown) (m : State) (t : ℕ) → t < length image.entries → is_running (m.threads t).status ≡ true → is_open (next_lock image (m.threads t)) m.locks ≡ true → can_turn image m t ≡ true
unfolding can_turn
may_turn image m t lt run open_lock = (let in_range : nat_lt t (length image.entries) ≡ true = grind (arith, nat_tests) in λ i. in_range i && (run i && open_lock i))

abbrev pub Goes : Shown → State → Type 0
Goes image m = (t : ℕ) × (can_turn image m t ≡ true)

-- a thread that runs takes a turn, or wants a lock that another one has
record IsBlocked (image : Shown) (m : State) (t : ℕ) : Type 0 where
  lock : ℕ
  owner : ℕ
  next : next_lock image (m.threads t) ≡ Some lock
  owns : (m.locks lock).owner ≡ Some owner

turns_or : (image : Shown) (m : State) (t : ℕ) → t < length image.entries → is_running (m.threads t).status ≡ true → Goes image m ⊎ IsBlocked image m t
turns_or image m t lt run = go (next_lock image (m.threads t)) refl
  where
    by_owner : (k : ℕ) → next_lock image (m.threads t) ≡ Some k → (o : Option ℕ) → (m.locks k).owner ≡ o → Goes image m ⊎ IsBlocked image m t
    by_owner k next None e = inl (t, may_turn image m t lt run (ap (λ o. is_open o m.locks) next ∙ ap is_free e))
    by_owner k next (Some u) e = inr (record { lock = k; owner = u; next = next; owns = e })

    go : (o : Option ℕ) → next_lock image (m.threads t) ≡ o → Goes image m ⊎ IsBlocked image m t
    go None next = inl (t, may_turn image m t lt run (ap (λ o. is_open o m.locks) next))
    go (Some k) next = by_owner k next (m.locks k).owner refl

held_runs : (image : Shown) (m : State) (u k : ℕ) → IsSane image m → (m.threads u).held k ≡ true → is_running (m.threads u).status ≡ true
held_runs image m u k s h = go (is_running (m.threads u).status) refl
  where
    go : (b : Bool) → is_running (m.threads u).status ≡ b → is_running (m.threads u).status ≡ true
    go true e = e
    go false e = absurd (both_ways _ (s.ends u k e) h)

-- who holds a lock wants a greater one alone
wants_above : (image : Shown) (m : State) (t j k : ℕ) → IsSane image m → length image.guards ≤ MAX_GUARDS → next_lock image (m.threads t) ≡ Some j → (m.threads t).held k ≡ true → k < j
wants_above image m t j k s few next h =
    (next_above image (m.threads t) (omega arith) (λ other x. (let l = s.known t other x in omega arith)) j next).1 k h

-- who holds lock k takes a turn, or wants one that is held, and is greater
holder_goes : (image : Shown) (m : State) → IsSane image m → length image.guards ≤ MAX_GUARDS → (n u k : ℕ) → length image.guards ≤ k + n → (m.threads u).held k ≡ true → Goes image m
holder_goes image m s few zero u k le h = absurd (let l = s.known u k h in omega arith)
holder_goes image m s few (suc n) u k le h = elim (turns_or image m u (s.within u (held_runs image m u k s h)) (held_runs image m u k s h)) [
  | inl g ↦ g
  | inr b ↦ holder_goes image m s few n b.owner b.lock (let above = wants_above image m u b.lock k s few b.next h in omega arith) ((s.owners b.owner b.lock).1 b.owns)
]

runs_goes : (image : Shown) (m : State) → IsSane image m → length image.guards ≤ MAX_GUARDS → (t : ℕ) → t < length image.entries → (b : Bool) → is_running (m.threads t).status ≡ b → Goes image m ⊎ (is_running (m.threads t).status ≡ false)
runs_goes image m s few t lt false e = inr e
runs_goes image m s few t lt true e = inl (elim (turns_or image m t lt e) [
  | inl g ↦ g
  | inr b ↦ holder_goes image m s few (length image.guards) b.owner b.lock (omega arith) ((s.owners b.owner b.lock).1 b.owns)
])

-- ---- the end

ends_more : (image : Shown) (m : State) (t : ℕ) → can_turn image m t ≡ true → CanRunOn image (after image m t) → CanRunOn image m
ends_more image m t can r = record {
  rest = t ∷ r.rest;
  last = r.last;
  leads = ap (option_and_then (λ n. turns image n r.rest)) (turn-defined image m t can) ∙ r.leads;
  complete = r.complete;
}

pub next_turn : (image : Shown) (m : State) → IsSane image m → length image.guards ≤ MAX_GUARDS → Goes image m ⊎ IsComplete image m
next_turn image m s few = all_or (λ t. is_running (m.threads t).status ≡ false) (length image.entries) (λ t lt. runs_goes image m s few t lt (is_running (m.threads t).status) refl)

ends_from : (image : Shown) → length image.guards ≤ MAX_GUARDS → (n : ℕ) (m : State) → IsSane image m → turns_sum image m ≤ n → CanRunOn image m
ends_from image few zero m s le = elim (next_turn image m s few) [
  | inl g ↦ absurd (let l = turns_turn image m g.0 (can_thread image m g.0 g.1) (can_runs image m g.0 g.1) in omega arith)
  | inr over ↦ record { rest = []; last = m; leads = refl; complete = over }
]
ends_from image few (suc n) m s le = elim (next_turn image m s few) [
  | inl g ↦ ends_more image m g.0 g.1 (ends_from image few n (after image m g.0) (sane_turn image m g.0 g.1 s) (let l = turns_turn image m g.0 (can_thread image m g.0 g.1) (can_runs image m g.0 g.1) in omega arith))
  | inr over ↦ record { rest = []; last = m; leads = refl; complete = over }
]

pub can_run_on : (r : Run) → length r.image.guards ≤ MAX_GUARDS → CanRunOn r.image r.last
can_run_on r few = (let c = came r.image r.turns (start r.image r.fuel) r.last (start_sane r.image r.fuel) r.leads in ends_from r.image few (turns_sum r.image r.last) r.last c.sane (omega arith))

pub run_few : (r : Run) → length r.turns ≤ most_turns r.image r.fuel
run_few r =
    (let c = came r.image r.turns (start r.image r.fuel) r.last (start_sane r.image r.fuel) r.leads in let l = c.short in let f = first_turns r.image r.fuel in omega (arith, l, f))
