-- How long the generator's code is.
use Rattle.std.proofs.Common.{◌≡◌, ℕ, zero, suc, ◌+◌, ◌*◌, ◌<◌, ◌≤◌, ◌++◌, length, ap, ◌∙◌, arith}
use Rattle.std.specs.List.{flat_map, range_with_len}
use Rattle.std.proofs.lemmas.List.{length-append}
use Rattle.std.proofs.lemmas.Bool.Decides.{nat_tests}
use Rattle.tc_build.specs.Code.{words_of, exit}
use Rattle.tc_build.specs.Generator.{round_code, thread_code, code_of, numbers_below}
use Rattle.tc_build.proofs.Coding.{words_of-append, length-words_of, flat_more}

-- a round has 18 words at most
length-round : (t r : ℕ) → length (round_code t r) ≤ 18
unfolding round_code
length-round t r = grind (arith, nat_tests)

length-rounds : (t a n : ℕ) → length (flat_map (round_code t) (range_with_len a n)) ≤ 18 * n
length-rounds t a zero = omega arith
length-rounds t a (suc n) =
    omega (arith, length-round t a, length-rounds t (a + 1) n, length-append (round_code t a) (flat_map (round_code t) (range_with_len (a + 1) n)))

length-thread : (rounds t : ℕ) → (3 ≤ length (thread_code rounds t)) × (length (thread_code rounds t) ≤ 18 * rounds + 3)
unfolding thread_code
length-thread rounds t =
    let more = length-append (flat_map (round_code t) (numbers_below rounds)) exit in
    let most = length-rounds t 0 rounds in
    (omega arith, omega arith)

-- the code of one thread more
pub code_more : (rounds t : ℕ) → code_of rounds (t + 1) ≡ code_of rounds t ++ words_of (thread_code rounds t)
unfolding code_of
code_more rounds t =
    ap words_of (flat_more (thread_code rounds) t) ∙ words_of-append (flat_map (thread_code rounds) (numbers_below t)) (thread_code rounds t)

-- each thread lengthens the code, and by no more than so many words
pub length-code_more : (rounds t : ℕ) → (length (code_of rounds t) < length (code_of rounds (t + 1))) × (length (code_of rounds (t + 1)) ≤ length (code_of rounds t) + (18 * rounds + 3))
length-code_more rounds t =
    let whole = ap length (code_more rounds t) in
    let parts = length-append (code_of rounds t) (words_of (thread_code rounds t)) in
    let words = length-words_of (thread_code rounds t) in
    let thread = length-thread rounds t in
    (omega arith, omega arith)

-- each of the four threads begins within the code
pub record AllBegin (rounds : ℕ) : Type 0 where
  pub first : length (code_of rounds 0) < length (code_of rounds 4)
  pub second : length (code_of rounds 1) < length (code_of rounds 4)
  pub third : length (code_of rounds 2) < length (code_of rounds 4)
  pub fourth : length (code_of rounds 3) < length (code_of rounds 4)

pub all_begin : (rounds : ℕ) → AllBegin rounds
all_begin rounds =
    let one = length-code_more rounds 0 in
    let two = length-code_more rounds 1 in
    let three = length-code_more rounds 2 in
    let four = length-code_more rounds 3 in
    record { first = omega arith; second = omega arith; third = omega arith; fourth = omega arith }
