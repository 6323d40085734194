-- One turn of the plain program is one of the machine.
use Rattle.std.proofs.Common.{◌≡◌, ℕ, ◌<◌, true, false, ◌==◌, List, set, length, get_or, refl, sym, ap, ◌∙◌, arith, inl, inr}
use Rattle.std.specs.Prelude.{slice_get, Option, Some, nat_lt, if◌then◌else◌}
use Rattle.std.specs.Option.{option_map}
use Rattle.std.proofs.lemmas.Bool.Decides.{nat_tests, eqb_tells}
use Rattle.std.proofs.lemmas.List.{length-set}
use Rattle.std.proofs.lemmas.Option.{slice_get-get_or, slice_get_past}
use Rattle.std.proofs.lemmas.Bool.{cases_lt}
use Rattle.tc_journal.proofs.Lists.{get-set_same, get-set_other}
use Rattle.tc_isa.specs.Sets.{has}
use Rattle.tc_elf.specs.Shown.{Shown}
use Rattle.tc_exec.specs.declared.outcome.Act.{Act}
use Rattle.tc_turn.specs.Turn.{Thread, Mutex, Guest, thread_of, next_act, thread_after, mutex_after}
use Rattle.tc_turn.specs.Reads.{Covers}
use Rattle.tc_turn.proofs.Turns.{leaves, next_known, held_known}
use Rattle.tc_mutex_spec.specs.Machine.{after}
use Rattle.tc_mutex_spec.specs.Slow.{Plain, thread_or, mutex_or, no_mutex, thread_at, mutex_at, state_of, Suits}
use Rattle.tc_mutex_spec.proofs.ListLaws.{get-set}

-- all locks of the image cover the turn of a thread that holds no other
covers_known : (image : Shown) (d : Thread) → ((k : ℕ) → d.held k ≡ true → k < length image.guards) → Covers image (λ k. nat_lt k (length image.guards)) d
covers_known image d held = record {
  held = λ k h. (let l = held k h in grind (arith, nat_tests));
  next = λ k e. (let l = next_known image d k e in grind (arith, nat_tests));
}

-- each lock after the turn, those past the last too
mutex_turned : (image : Shown) (t : ℕ) (d : Thread) (old new : List Mutex) (k : ℕ) → ((k : ℕ) → d.held k ≡ true → k < length image.guards) → length old ≡ length image.guards
    → slice_get new k ≡ option_map (mutex_after image t d.held (next_act image d (mutex_at old)) k) (slice_get old k)
    → mutex_at new k ≡ mutex_after image t d.held (next_act image d (mutex_at old)) k (mutex_at old k)
mutex_turned image t d old new k held long each =
    let f : Mutex → Mutex = mutex_after image t d.held (next_act image d (mutex_at old)) k in
    elim (cases_lt k (length old)) [
      | inl lt ↦ (let here = slice_get-get_or old k no_mutex lt in
          ap mutex_or (each ∙ ap (option_map f) here) ∙ ap (λ o. f (mutex_or o)) (sym here))
      | inr le ↦ (let past = slice_get_past old k le in
          let test : nat_lt k (length image.guards) ≡ false = grind (arith, nat_tests) in
          ap mutex_or (each ∙ ap (option_map f) past)
          ∙ sym (leaves image (λ k. nat_lt k (length image.guards)) t d (mutex_at old) k no_mutex (covers_known image d held) test)
          ∙ ap (λ o. f (mutex_or o)) (sym past))
    ]

-- the thread x takes its turn, and then each lock
pub record IsTurn (image : Shown) (s : Plain) (t : ℕ) (x y : Guest) (a : Option Act) (locks : List Mutex) : Type 0 where
  pub is_thread : t < length s.threads
  pub at : x ≡ get_or s.threads t x
  pub act : a ≡ next_act image (thread_at s.threads t) (mutex_at s.locks)
  pub thread : thread_of y ≡ thread_after (thread_of x) a
  pub each : (k : ℕ) → slice_get locks k ≡ option_map (mutex_after image t (has x.held) a k) (slice_get s.locks k)

here : (image : Shown) (s : Plain) (t : ℕ) (x y : Guest) (a : Option Act) (locks : List Mutex) → IsTurn image s t x y a locks → thread_at s.threads t ≡ thread_of x
here image s t x y a locks is = ap thread_or (slice_get-get_or s.threads t x is.is_thread ∙ ap Some (sym is.at))

pub turned : (image : Shown) (s : Plain) (t : ℕ) (x y : Guest) (a : Option Act) (locks : List Mutex) → Suits image s → IsTurn image s t x y a locks
    → state_of (record { threads = set s.threads t y; locks = locks }) ≡ after image (state_of s) t
unfolding after
turned image s t x y a locks suits is =
    let d : Thread = thread_at s.threads t in
    let x_is : d ≡ thread_of x = here image s t x y a locks is in
    let next : Option Act = next_act image d (mutex_at s.locks) in
    let thread : (k : ℕ) → thread_at (set s.threads t y) k ≡ (if k == t then thread_after d next else thread_at s.threads k) =
    λ k. ap thread_or (get-set s.threads t k y is.is_thread)
    ∙ (elim (k == t) as (λ b. thread_or (if b then Some y else slice_get s.threads k) ≡ (if b then thread_after d next else thread_at s.threads k)) [
      | true ↦ is.thread ∙ (λ i. thread_after (sym x_is i) (is.act i))
      | false ↦ refl
    ]) in
    let each : (k : ℕ) → slice_get locks k ≡ option_map (mutex_after image t d.held next k) (slice_get s.locks k) =
    λ k. is.each k ∙ (λ i. option_map (mutex_after image t (sym x_is i).held (is.act i) k) (slice_get s.locks k)) in
    let lock : (k : ℕ) → mutex_at locks k ≡ mutex_after image t d.held next k (mutex_at s.locks k) =
    λ k. mutex_turned image t d s.locks locks k (λ k h. suits.held t k h) suits.locks (each k) in
    λ i. record { threads = λ k. thread k i; locks = λ k. lock k i }

-- the program still has the image's threads and locks
pub suits_on : (image : Shown) (s : Plain) (t : ℕ) (x y : Guest) (a : Option Act) (locks : List Mutex) → Suits image s → IsTurn image s t x y a locks → length locks ≡ length s.locks
    → Suits image (record { threads = set s.threads t y; locks = locks })
suits_on image s t x y a locks suits is long = record {
  threads = length-set s.threads t y ∙ suits.threads;
  locks = long ∙ suits.locks;
  held = λ u k h. elim (eqb_tells u t) [
    | inl e ↦
        (let d : Thread = thread_at s.threads t in
        let now : thread_at (set s.threads t y) u ≡ thread_after d (next_act image d (mutex_at s.locks)) =
        ap (thread_at (set s.threads t y)) e.1 ∙ ap thread_or (get-set_same s.threads t y is.is_thread) ∙ is.thread ∙ (λ i. thread_after (sym (here image s t x y a locks is) i) (is.act i)) in
        held_known image d (mutex_at s.locks) (λ j g. suits.held t j g) k (ap (λ (d : Thread). d.held k) (sym now) ∙ h))
    | inr e ↦ suits.held u k (ap (λ o. (thread_or o).held k) (sym (get-set_other s.threads t u y e.1)) ∙ h)
  ];
}
