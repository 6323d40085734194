-- The threads of the plain program at the start.
use Rattle.std.proofs.Common.{◌≡◌, ℕ, true, false, map, refl, ◌∙◌, sym, ap, arith, inl, inr}
use Rattle.std.specs.Prelude.{nat_lt, if◌then◌else◌, unwrap_or, slice_get, List, Option, Some, None}
use Rattle.std.specs.List.{range_with_len}
use Rattle.std.specs.Option.{option_map}
use Rattle.std.proofs.lemmas.Bool.Decides.{nat_tests}
use Rattle.std.proofs.lemmas.Option.{slice_get-map}
use Rattle.std.proofs.lemmas.Bool.{cases_lt}
use Rattle.tc_elf.specs.Shown.{Shown}
use Rattle.tc_turn.specs.Turn.{Thread, Guest, thread_of, thread_at_start, no_thread}
use Rattle.tc_mutex_spec.specs.Slow.{thread_or, thread_at}
use Rattle.tc_mutex_spec.proofs.ListLaws.{made_get, made_past}

shown : (o : Option Guest) → thread_or o ≡ unwrap_or (option_map thread_of o) no_thread
shown None = refl
shown (Some g) = refl

pub start_each : (image : Shown) (fuel n : ℕ) (threads : List Guest) → map thread_of threads ≡ map (thread_at_start image fuel) (range_with_len 0 n)
    → (t : ℕ) → thread_at threads t ≡ (if nat_lt t n then thread_at_start image fuel t else no_thread)
start_each image fuel n threads made t =
    let f : ℕ → Thread = thread_at_start image fuel in
    shown (slice_get threads t)
    ∙ ap (λ o. unwrap_or o no_thread) (sym (slice_get-map thread_of threads t) ∙ ap (λ xs. slice_get xs t) made)
    ∙ elim (cases_lt t n) [
      | inl lt ↦ (let test : nat_lt t n ≡ true = grind (arith, nat_tests) in
          ap (λ o. unwrap_or o no_thread) (made_get f n t no_thread lt) ∙ sym (ap (λ b. if b then f t else no_thread) test))
      | inr le ↦ (let test : nat_lt t n ≡ false = grind (arith, nat_tests) in
          ap (λ o. unwrap_or o no_thread) (made_past f n t le) ∙ sym (ap (λ b. if b then f t else no_thread) test))
    ]
