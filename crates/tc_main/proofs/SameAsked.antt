-- The same words ask for one thing.
use Rattle.std.proofs.Common.{◌≡◌, ℕ, suc, ◌+◌, ◌≤◌, ◌<◌, ◌==◌, ◌^◌, List, [], ◌∷◌, get_or, drop, length, refl, sym, ap, ◌∙◌, arith}
use Rattle.std.specs.Prelude.{decimal, if◌then◌else◌}
use Rattle.std.proofs.lemmas.Fmt.{decimal_injective}
use mathlib.Core.HLevel.{is_prop→PathP}
use Rattle.std.proofs.Math.Bridge.{le_prop}
use Rattle.tc_elf.specs.declared.limits.TheConstants.{MAX_FILE}
use Rattle.tc_isa.specs.declared.limits.TheConstants.{MAX_BATCH, MAX_FUEL, MAX_WORKERS}
use Rattle.tc_isa.specs.declared.options.Options.{Options}
use Rattle.tc_main.specs.Words.{AskFor, FileAndHistory, GuestFile, IsWithinLimits, Needs, Nothing, needs_of, option_words, spelling}
use Rattle.tc_main.specs.declared.policy.Policy.TheVariants.{Entry, Nodes}
use Rattle.tc_main.specs.declared.words.Command.{Command}
use Rattle.tc_main.specs.declared.words.Command.TheVariants.{Run, Generate, Demo, Replay, Profile}

-- the word at a place
abbrev word_at : ℕ → List (List ℕ) → List ℕ
word_at i words = get_or words i []

small_number : (n m most : ℕ) → most < 2 ^ 64 → n ≤ most → m ≤ most → decimal n ≡ decimal m → n ≡ m
small_number n m most small le le_too e = decimal_injective n m (omega (arith, small, le)) (omega (arith, small, le_too)) e

-- options with the same numbers are the same
same_numbers : (a b : Options) → a.workers ≡ b.workers → a.fuel ≡ b.fuel → a.limit ≡ b.limit → a ≡ b
same_numbers a b workers fuel limit = λ i. record {
  workers = workers i;
  fuel = fuel i;
  limit = limit i;
  some_workers = is_prop→PathP (λ j. 1 ≤ workers j) (λ j. le_prop) a.some_workers b.some_workers i;
  most_workers = is_prop→PathP (λ j. workers j ≤ MAX_WORKERS) (λ j. le_prop) a.most_workers b.most_workers i;
  some_fuel = is_prop→PathP (λ j. 1 ≤ fuel j) (λ j. le_prop) a.some_fuel b.some_fuel i;
  most_fuel = is_prop→PathP (λ j. fuel j ≤ MAX_FUEL) (λ j. le_prop) a.most_fuel b.most_fuel i;
  most_adopted = is_prop→PathP (λ j. limit j ≤ MAX_BATCH) (λ j. le_prop) a.most_adopted b.most_adopted i;
}

-- and so are those with the same words
pub same_options : (a b : Options) → option_words a ≡ option_words b → a ≡ b
same_options a b e = same_numbers a b
    (small_number a.workers b.workers MAX_WORKERS (omega arith) a.most_workers b.most_workers (ap (word_at 0) e))
    (small_number a.fuel b.fuel MAX_FUEL (omega arith) a.most_fuel b.most_fuel (ap (word_at 1) e))
    (small_number a.limit b.limit MAX_BATCH (omega arith) a.most_adopted b.most_adopted (ap (word_at 2) e))

-- ---- what is needed

-- the first letter of the first word and its length tell the forms apart
key : List (List ℕ) → ℕ
key [] = 0
key ([] ∷ words) = 0
key ((c ∷ cs) ∷ words) = c + suc (length cs)

-- what is needed, as words: none, one that is empty, or those of the file's size and the options
abbrev needs_words : Needs → List (List ℕ)
needs_words Nothing = []
needs_words GuestFile = [] ∷ []
needs_words (FileAndHistory size o) = decimal size ∷ option_words o

-- and these, by the words that ask
needed_by : List (List ℕ) → List (List ℕ)
needed_by words = if key words == 117 then [] ∷ [] else if key words == 115 then [] ∷ [] else if key words == 120 then drop 1 words else if key words == 119 then drop 1 words else []

needed_by_spelling : (asked : Command) → needs_words (needs_of asked) ≡ needed_by (spelling asked)
unfolding needed_by key
needed_by_spelling (Run Entry o) = refl
needed_by_spelling (Run (Nodes nodes bound) o) = refl
needed_by_spelling (Generate rounds) = refl
needed_by_spelling (Demo rounds o) = refl
needed_by_spelling (Replay size o) = refl
needed_by_spelling (Profile size o) = refl

abbrev HasSize : Needs → Type 0
HasSize Nothing = Unit {0}
HasSize GuestFile = Unit {0}
HasSize (FileAndHistory size o) = size ≤ MAX_FILE

has_size : (asked : Command) → IsWithinLimits asked → HasSize (needs_of asked)
has_size (Run order o) within = tt
has_size (Generate rounds) within = tt
has_size (Demo rounds o) within = tt
has_size (Replay size o) within = within.1
has_size (Profile size o) within = within.1

same_needs : (a b : Needs) → HasSize a → HasSize b → needs_words a ≡ needs_words b → a ≡ b
same_needs Nothing Nothing small small_too e = refl
same_needs Nothing GuestFile small small_too e = absurd (omega (arith, ap length e))
same_needs Nothing (FileAndHistory m p) small small_too e = absurd (omega (arith, ap length e))
same_needs GuestFile Nothing small small_too e = absurd (omega (arith, ap length e))
same_needs GuestFile GuestFile small small_too e = refl
same_needs GuestFile (FileAndHistory m p) small small_too e = absurd (omega (arith, ap length e))
same_needs (FileAndHistory n o) Nothing small small_too e = absurd (omega (arith, ap length e))
same_needs (FileAndHistory n o) GuestFile small small_too e = absurd (omega (arith, ap length e))
same_needs (FileAndHistory n o) (FileAndHistory m p) small small_too e =
    let size : n ≡ m = small_number n m MAX_FILE (omega arith) small small_too (ap (word_at 0) e) in
    let options : o ≡ p = same_options o p (ap (drop 1) e) in
    λ i. FileAndHistory (size i) (options i)

-- the same words never need two things
pub one_needs : (words : List (List ℕ)) (a b : Command) → AskFor words a → AskFor words b → needs_of a ≡ needs_of b
one_needs words a b x y =
    same_needs (needs_of a) (needs_of b) (has_size a x.0) (has_size b y.0) (needed_by_spelling a ∙ ap needed_by (sym x.1 ∙ y.1) ∙ sym (needed_by_spelling b))
