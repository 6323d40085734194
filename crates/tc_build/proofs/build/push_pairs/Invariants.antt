use Rattle.std.proofs.Common.{◌≡◌, ◌++◌, ◌<◌, ℕ, get_or, take}
use Rattle.std.specs.List.{flat_map}
use Rattle.tc_build.specs.Build.{word_bytes, pair_words, AreWords}
use Rattle.tc_build.proofs.build.push_pairs.Given as goal

abbrev pub invariant-loop-pair : goal.invariant-loop-pair
invariant-loop-pair l =
    (l.file.items ≡ l.fn.file.items ++ flat_map word_bytes (flat_map pair_words (take l.pair-index l.pairs)))
    × ((k : ℕ) → k < l.pair-index → AreWords (get_or l.pairs k (0, 0)))
