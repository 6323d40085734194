-- What `run` wants is a report.
use Rattle.std.proofs.Common.{◌≡◌, ℕ, List, drop, length, refl, sym, ap, ◌∙◌, subst, arith}
use Rattle.tc_io.specs.Stream.{Stream}
use Rattle.tc_isa.specs.declared.options.Options.{Options}
use Rattle.tc_main.specs.Own.{run_words}
use Rattle.tc_main.specs.Top.{HasRead, IsReport, IsTextOf, IsWanted, ReadsAll}
use Rattle.tc_main.specs.Words.{GuestFile, Needs, needs_of, spelling}
use Rattle.tc_main.specs.declared.policy.Policy.TheVariants.{Entry, Nodes}
use Rattle.tc_main.specs.declared.words.Command.{Command}
use Rattle.tc_main.specs.declared.words.Command.TheVariants.{Run, Generate, Demo, Replay, Profile}
use Rattle.tc_main.proofs.SameAsked.{same_options}

-- the words of a run ask for nothing else
other_words : (n : ℕ) (words : List (List ℕ)) (o : Options) → length words ≡ n → ¬ (n ≡ 4) → words ≡ run_words o → ⊥
other_words n words o is other e = let four : length words ≡ 4 = ap (λ (ws : List (List ℕ)). length ws) e in other (sym is ∙ four)

same_report : (o : Options) (asked : Command) (bytes text : List ℕ) → spelling asked ≡ run_words o → IsTextOf asked bytes text → (needs_of asked ≡ GuestFile) × IsReport o bytes text
same_report o (Run Entry p) bytes text e made = (refl, subst (λ (q : Options). IsReport q bytes text) (same_options p o (ap (drop 1) e)) made)
same_report o (Run (Nodes nodes bound) p) bytes text e made = absurd (other_words 6 (spelling (Run (Nodes nodes bound) p)) o refl (λ (f : 6 ≡ 4). omega (arith, f)) e)
same_report o (Generate rounds) bytes text e made = absurd (other_words 2 (spelling (Generate rounds)) o refl (λ (f : 2 ≡ 4). omega (arith, f)) e)
same_report o (Demo rounds p) bytes text e made = absurd (other_words 3 (spelling (Demo rounds p)) o refl (λ (f : 3 ≡ 4). omega (arith, f)) e)
same_report o (Replay size p) bytes text e made = absurd (other_words 5 (spelling (Replay size p)) o refl (λ (f : 5 ≡ 4). omega (arith, f)) e)
same_report o (Profile size p) bytes text e made = absurd (other_words 5 (spelling (Profile size p)) o refl (λ (f : 5 ≡ 4). omega (arith, f)) e)

-- it is that of the file that was read
pub report_wanted : (o : Options) (before now : Stream) (text : List ℕ) → IsWanted (run_words o) before now text → (bytes : List ℕ) × ReadsAll GuestFile before now bytes × IsReport o bytes text
report_wanted o before now text w =
    let is = same_report o w.asked w.bytes text (sym w.asks.1) w.made in
    (w.bytes, subst (λ (needs : Needs). HasRead needs before now w.bytes) is.0 w.read, is.1)
