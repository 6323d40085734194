-- The generator's guest: four threads over four locks, as long as is asked for. Its code has no
-- branch, and all that it changes under a lock are sums.
use Rattle.std.specs.Prelude.{ℕ, ◌+◌, ◌*◌, ◌%◌, ◌==◌, if◌then◌else◌, List, [], ◌∷◌, ◌++◌, length, map}
use Rattle.std.specs.List.{flat_map, range_with_len}
use Rattle.tc_isa.specs.declared.instr.Instr.{Instr}
use Rattle.tc_isa.specs.declared.instr.Instr.TheVariants.{Lui}
use Rattle.tc_elf.specs.Shown.{Shown}
use Rattle.tc_build.specs.Build.{word_bytes, built}
use Rattle.tc_build.specs.Described.{described}
use Rattle.tc_build.specs.Code.{words_of, lock, unlock, sleep, exit, addition, negated}

-- ---- rounds

-- increments the count of sections of lock a, in the first word of its guard
abbrev pub count : ℕ → List Instr
count a = lock a ++ addition (16 * a) 1 ++ unlock a

-- moves an amount from the second word of one guard to that of the next, with both locks held
abbrev pub transfer : ℕ → ℕ → ℕ → List Instr
transfer a b amount =
    lock a ++ lock b
    ++ addition (16 * a + 4) (negated amount) ++ addition (16 * b + 4) amount
    ++ unlock a ++ unlock b

-- increments the count of sections of lock a, and sleeps in the section
abbrev pub nap : ℕ → ℕ → List Instr
nap a blocks = lock a ++ addition (16 * a) 1 ++ sleep blocks ++ unlock a

-- what thread t does in round r
unfoldable pub round_code : ℕ → ℕ → List Instr
round_code t r =
    let a = (t + 2 * r) % 3 in
    let phase = (t + r) % 4 in
    if phase == 0 then count a
    else if phase == 1 then transfer a (a + 1) (1 + (t + r) % 9)
    else if phase == 2 then nap a (r % 4)
    else sleep (r % 4)

-- ---- the guest

-- the numbers 0 to n - 1
abbrev pub numbers_below : ℕ → List ℕ
numbers_below n = range_with_len 0 n

-- thread t: the address of the data in x5, the rounds, and the end
unfoldable pub thread_code : ℕ → ℕ → List Instr
thread_code rounds t = Lui 5 0x20000 ∷ flat_map (round_code t) (numbers_below rounds) ++ exit

-- the code of the first so many threads, one behind another
unfoldable pub code_of : ℕ → ℕ → List ℕ
code_of rounds threads = words_of (flat_map (thread_code rounds) (numbers_below threads))

-- thread t begins after the code of those before it, with the argument 0
abbrev pub entry : ℕ → ℕ → ℕ × ℕ
entry rounds t = (0x00100000 + 4 * length (code_of rounds t), 0)

abbrev pub entries : ℕ → List (ℕ × ℕ)
entries rounds = map (entry rounds) (0 ∷ 1 ∷ 2 ∷ 3 ∷ [])

-- guard L: 16 bytes from the start of the data plus 16 L on
abbrev pub guards : List (ℕ × ℕ)
guards = (0x00020000, 16) ∷ (0x00020010, 16) ∷ (0x00020020, 16) ∷ (0x00020030, 16) ∷ []

-- the initial words of each guard: no section, and an amount of 1,000
abbrev pub guard_words : List ℕ
guard_words = 0 ∷ 1000 ∷ 0 ∷ 0 ∷ []

abbrev pub fill : List ℕ
fill = flat_map word_bytes (guard_words ++ guard_words ++ guard_words ++ guard_words)

-- the image, and the file that it is built as
abbrev pub generated : ℕ → Shown
generated rounds = described (code_of rounds 4) (entries rounds) fill guards

abbrev pub generated_file : ℕ → List ℕ
generated_file rounds = built (code_of rounds 4) (entries rounds) fill guards
