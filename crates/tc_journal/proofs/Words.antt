-- The words of a printed line, told apart again.
use Rattle.std.proofs.Common.{◌≡◌, ℕ, ◌+◌, ◌^◌, ◌<◌, ◌==◌, Bool, true, false, not, ◌&&◌, List, [], ◌∷◌, ◌++◌, length, take, drop, refl, ap, ◌∙◌, append-nil, arith}
use Rattle.std.specs.Prelude.{decimal}
use Rattle.std.specs.List.{list_all, position_or_len, flat_map}
use Rattle.std.specs.Str.Parse.{AllDigits}
use Rattle.std.proofs.lemmas.Bool.Decides.{nat_tests}
use Rattle.std.proofs.lemmas.Fmt.{decimal_is_IsNumeral}
use Rattle.std.proofs.lemmas.Str.Parse.{digit_from_value}
use Rattle.std.proofs.lemmas.Grind.{common_steps}
use Rattle.std.proofs.lemmas.List.Folds.{list_all-append}
use Rattle.std.proofs.lemmas.List.{take_at, take_all}
use Rattle.std.proofs.Math.Seq.{drop-append-add}
use Rattle.tc_journal.proofs.Sets.{AreLocks}
use Rattle.tc_journal.specs.Line.{comma_text, numbers_text}
use Rattle.tc_journal.specs.Spelling.{before, behind}

-- no byte of the word is this one
abbrev pub lacks : ℕ → List ℕ → Bool
lacks stop word = list_all (λ c. not (c == stop)) word

lacked : (stop : ℕ) (word rest : List ℕ) → lacks stop word ≡ true → position_or_len (λ c. c == stop) (word ++ stop ∷ rest) ≡ length word
lacked stop [] rest h = grind (arith, nat_tests)
lacked stop (c ∷ cs) rest h = grind (arith, nat_tests, common_steps, lacked stop cs rest)

missed : (stop : ℕ) (word : List ℕ) → lacks stop word ≡ true → position_or_len (λ c. c == stop) word ≡ length word
missed stop [] h = refl
missed stop (c ∷ cs) h = grind (arith, nat_tests, common_steps, missed stop cs)

-- a word that ends at such a byte
pub split-at : (stop : ℕ) (word rest : List ℕ) → lacks stop word ≡ true → (before stop (word ++ stop ∷ rest) ≡ word) × (behind stop (word ++ stop ∷ rest) ≡ rest)
unfolding before behind
split-at stop word rest h =
    let place = lacked stop word rest h in (
      ap (λ n. take n (word ++ stop ∷ rest)) place ∙ take_at word (stop ∷ rest) (length word) refl,
      ap (λ n. drop (n + 1) (word ++ stop ∷ rest)) place ∙ drop-append-add word (stop ∷ rest) 1,
    )

-- a word that nothing follows
pub split-all : (stop : ℕ) (word : List ℕ) → lacks stop word ≡ true → (before stop word ≡ word) × (behind stop word ≡ [])
unfolding before behind
split-all stop word h =
    let place = missed stop word h in
    (ap (λ n. take n word) place ∙ take_all (length word) word (omega arith), ap (λ n. drop (n + 1) word) place ∙ grind (arith, common_steps))

pub lacks-append : (stop : ℕ) (word more : List ℕ) → lacks stop word ≡ true → lacks stop more ≡ true → lacks stop (word ++ more) ≡ true
lacks-append stop word more h k = list_all-append (λ c. not (c == stop)) word more ∙ ap (λ b. b && lacks stop more) h ∙ k

digits_lack : (stop : ℕ) (word : List ℕ) → stop < 48 → AllDigits 10 word → lacks stop word ≡ true
digits_lack stop [] low d = refl
digits_lack stop (c ∷ cs) low d =
    let digit = digit_from_value c d.0 in
    let rest : lacks stop cs ≡ true = digits_lack stop cs low d.1 in
    let other : (c == stop) ≡ false = grind (arith, nat_tests, digit) in
    ap (λ b. not b && lacks stop cs) other ∙ rest

-- a number is written in digits alone
pub lacks-decimal : (stop n : ℕ) → stop < 48 → n < 2 ^ 64 → lacks stop (decimal n) ≡ true
lacks-decimal stop n low small = digits_lack stop (decimal n) low (decimal_is_IsNumeral n small).0.1

-- numbers with commas between them
abbrev pub commas : List ℕ → List ℕ
commas [] = []
commas (n ∷ ns) = decimal n ++ flat_map comma_text ns

-- the number at the front is before the first comma, and the others are behind it
pub split-commas : (n : ℕ) (ns : List ℕ) → n < 2 ^ 64 → (before 44 (commas (n ∷ ns)) ≡ decimal n) × (behind 44 (commas (n ∷ ns)) ≡ commas ns)
unfolding comma_text
split-commas n [] small = (let alone = split-all 44 (decimal n) (lacks-decimal 44 n (omega arith) small) in rw (append-nil (decimal n)) alone)
split-commas n (m ∷ ms) small = split-at 44 (decimal n) (commas (m ∷ ms)) (lacks-decimal 44 n (omega arith) small)

lacks-others : (stop : ℕ) (ns : List ℕ) → stop < 44 → AreLocks ns → lacks stop (flat_map comma_text ns) ≡ true
unfolding comma_text
lacks-others stop [] low small = refl
lacks-others stop (n ∷ ns) low small =
    let comma : (44 == stop) ≡ false = grind (arith, nat_tests) in
    let first = small.0 in
    let rest : lacks stop (flat_map comma_text ns) ≡ true = lacks-others stop ns low small.1 in
    let number : lacks stop (decimal n) ≡ true = lacks-decimal stop n (omega arith) (omega arith) in
    ap (λ b. not b && lacks stop (decimal n ++ flat_map comma_text ns)) comma ∙ lacks-append stop (decimal n) (flat_map comma_text ns) number rest

-- a list of locks is one word
pub lacks-numbers_text : (ns : List ℕ) → AreLocks ns → lacks 32 (numbers_text ns) ≡ true
lacks-numbers_text [] small = refl
lacks-numbers_text (n ∷ ns) small =
    let first = small.0 in
    lacks-append 32 (decimal n) (flat_map comma_text ns) (lacks-decimal 32 n (omega arith) (omega arith)) (lacks-others 32 ns (omega arith) (grind (arith, common_steps)))
