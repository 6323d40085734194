-- What a replay comes to: its report, its profile, or what is wrong.
use Rattle.std.proofs.Common.{◌≡◌, ℕ, ◌<◌, ◌≤◌, ◌^◌, ◌++◌, List, map, length, take, drop, inl, refl, sym, ap, subst, ◌∙◌, arith}
use Rattle.std.specs.Prelude.{Some, option_map}
use Rattle.tc_isa.specs.declared.options.Options.{Options}
use Rattle.tc_elf.specs.Loading.{subset}
use Rattle.tc_elf.specs.Refused.{refusal_number}
use Rattle.tc_elf.specs.declared.refusal.Refusal.{Refusal}
use Rattle.tc_elf.specs.Shown.{Shown}
use Rattle.tc_journal.specs.History.{IsHistory}
use Rattle.tc_journal.specs.Line.{history_text}
use Rattle.tc_journal.specs.declared.block.Block.{Block}
use Rattle.tc_mutex_spec.specs.Blocks.{IsComplete, end_after}
use Rattle.tc_segment.specs.View.{LockView, kept}
use Rattle.tc_context.specs.View.{PackageView, bare}
use Rattle.tc_law.specs.Lawful.{Lawful}
use Rattle.tc_law.proofs.Lawful.{short_history}
use Rattle.tc_replay.specs.Rejected.{IsCompleteRun}
use Rattle.tc_replay.specs.Taken.{CheckerView, HasTaken, HasWhatItTook}
use Rattle.tc_replay.specs.declared.reason.Rejected.{Rejected}
use Rattle.tc_report.specs.Legal.{results_after}
use Rattle.tc_report.specs.Report.{head_text, report_text, tail_text}
use Rattle.tc_main.specs.Refusals.{named, refusal_of, short_input}
use Rattle.tc_main.specs.Top.{Rejects, refused_line, rejected_line}
use Rattle.tc_main.specs.Ends.{Verdict}
use Rattle.tc_main.specs.Words.{AskFor, FileAndHistory, GuestFile, Needs, Nothing, Reads, most_of, needs_of}
use Rattle.tc_main.specs.Wrong.{IsWrong, IsWrongFile, IsWrongInput, IsWrongText}
use Rattle.tc_main.specs.declared.policy.Policy.{Policy}
use Rattle.tc_main.specs.declared.status.Status.{Status}
use Rattle.tc_main.specs.declared.status.Status.TheVariants.{Refused}
use Rattle.tc_main.specs.declared.status.Status.TheVariants as status
use Rattle.tc_main.specs.declared.words.Command.{Command}
use Rattle.tc_main.specs.declared.words.Command.TheVariants.{Run}
use Rattle.tc_main.specs.declared.wrong.Wrong.{Wrong}
use Rattle.tc_main.specs.declared.wrong.Wrong.TheVariants.{Short, File, History, OutOfMemory}
use Rattle.tc_main.specs.Accepted.{CanAllBeAdded}
use Rattle.tc_main.proofs.Addable.{addable}
use Rattle.tc_main.proofs.Refusing.{of_file, short}
use Rattle.tc_report.proofs.Outcomes.{outcome, told}

-- ---- what is wrong

-- a guest's file that is refused stands at the front of the bytes
pub file_wrong : (size : ℕ) (o : Options) (bytes : List ℕ) (w : Wrong) → size ≤ length bytes → IsWrongFile (take size bytes) w → IsWrongInput size o bytes w
file_wrong size o bytes Short enough wrong = absurd wrong
file_wrong size o bytes (File reason) enough wrong = (enough, wrong)
file_wrong size o bytes (History r) enough wrong = absurd wrong
file_wrong size o bytes OutOfMemory enough wrong = tt

-- what is no history's text stands behind it
pub text_wrong : (size : ℕ) (o : Options) (bytes : List ℕ) (w : Wrong) (image : Shown) → size ≤ length bytes → subset (take size bytes) image → IsWrongText (drop size bytes) w → IsWrongInput size o bytes w
text_wrong size o bytes Short image enough guest wrong = absurd wrong
text_wrong size o bytes (File reason) image enough guest wrong = absurd wrong
text_wrong size o bytes (History r) image enough guest wrong = inl (record { image = image; enough = enough; guest = guest; reason = wrong.0; line = wrong.1 })
text_wrong size o bytes OutOfMemory image enough guest wrong = tt

-- the same for what is asked of a history
pub asked_wrong : (asked : Command) (size : ℕ) (o : Options) (bytes : List ℕ) (w : Wrong) → needs_of asked ≡ FileAndHistory size o → length bytes ≤ most_of (FileAndHistory size o) → IsWrongInput size o bytes w → IsWrong asked bytes w
asked_wrong asked size o bytes Short is few wrong = subst (λ n. refusal_of n bytes ≡ Some short_input) (sym is) (short (FileAndHistory size o) bytes few wrong)
asked_wrong asked size o bytes (File reason) is few wrong =
    subst (λ n. refusal_of n bytes ≡ Some (named reason)) (sym is) (of_file (FileAndHistory size o) bytes few wrong.0 ∙ ap (option_map named) wrong.1.0)
asked_wrong asked size o bytes (History r) is few wrong = subst (λ n. Rejects n bytes r) (sym is) wrong
asked_wrong asked size o bytes OutOfMemory is few wrong = tt

-- ---- what is told

module _ (v : CheckerView) (image : Shown) (o : Options) (h : List Block) (of : v.image ≡ image) (made : v.terms ≡ o) (taken : v.taken ≡ h) where
  pub law_of : (packages : List PackageView) (states : List LockView) → Lawful v.image v.terms.fuel v.terms.limit v.taken (map bare packages) (map kept states) → Lawful image o.fuel o.limit h (map bare packages) (map kept states)
  law_of packages states law = subst (λ (x : Shown × Options × List Block). Lawful x.0 x.1.fuel x.1.limit x.2 (map bare packages) (map kept states)) (λ i. (of i, made i, taken i)) law

pub report_told : (image : Shown) (o : Options) (h : List Block) (packages : List PackageView) (states : List LockView) → Lawful image o.fuel o.limit h (map bare packages) (map kept states)
    → IsComplete image (end_after image o.fuel h) → report_text image o (results_after image o.fuel h) ≡ head_text image o ++ history_text h ++ tail_text image packages states
report_told image o h packages states law complete = told image o.fuel h packages states (outcome image o h packages states law complete) o

-- the blocks that a checker has taken are no more than a profile counts, and each can be added to one
pub few_taken : (v : CheckerView) (h : List Block) → HasWhatItTook v → HasTaken v h → length h < 2 ^ 32
few_taken v h keeps taken =
    let has = keeps taken.on in
    subst (λ (l : List Block). length l < 2 ^ 32) taken.taken (short_history v.image v.terms.fuel v.terms.limit v.taken (map bare v.packages) has.0 has.1.limits has.1.law)

pub addable_taken : (v : CheckerView) (image : Shown) (o : Options) (h : List Block) → HasWhatItTook v → HasTaken v h → IsCompleteRun image o h → CanAllBeAdded image h
addable_taken v image o h keeps taken run = addable image o.fuel h (end_after image o.fuel h) run.tells (subst (λ (l : List Block). IsHistory l) taken.taken (keeps taken.on).1.law.history)

-- ---- what is answered

-- the answer to what is wrong is the verdict
pub answer_short : (asked : Command) (bytes : List ℕ) (s : Status) → IsWrong asked bytes Short → s ≡ Refused 17 → Verdict asked bytes (refused_line short_input) s
answer_short asked bytes s wrong is = subst (Verdict asked bytes (refused_line short_input)) (sym is) (short_input, wrong, refl, refl)

pub answer_file : (asked : Command) (bytes : List ℕ) (s : Status) (reason : Refusal) → IsWrong asked bytes (File reason) → s ≡ Refused (refusal_number reason) → Verdict asked bytes (refused_line (named reason)) s
answer_file asked bytes s reason wrong is = subst (Verdict asked bytes (refused_line (named reason))) (sym is) (named reason, wrong, refl, refl)

pub answer_history : (asked : Command) (bytes : List ℕ) (s : Status) (r : Rejected) → IsWrong asked bytes (History r) → s ≡ status.Rejected r → Verdict asked bytes (rejected_line r) s
answer_history asked bytes s r wrong is = subst (Verdict asked bytes (rejected_line r)) (sym is) (wrong, refl)

-- what is wrong with a guest's file alone
pub run_wrong : (order : Policy) (o : Options) (bytes : List ℕ) (w : Wrong) → length bytes ≤ most_of GuestFile → IsWrongFile bytes w → IsWrong (Run order o) bytes w
run_wrong order o bytes Short few wrong = absurd wrong
run_wrong order o bytes (File reason) few wrong = of_file GuestFile bytes few (omega arith) ∙ ap (option_map named) wrong.0
run_wrong order o bytes (History r) few wrong = absurd wrong
run_wrong order o bytes OutOfMemory few wrong = tt

-- where the words ask for nothing that is read, nothing is needed for it
pub unread_needs : (words : List (List ℕ)) (asked : Command) → AskFor words asked → ¬ Reads words → needs_of asked ≡ Nothing
unread_needs words asked asks other = go (needs_of asked) refl
  where
    go : (n : Needs) → needs_of asked ≡ n → n ≡ Nothing
    go Nothing is = refl
    go GuestFile is = absurd (other (GuestFile, record { asked = asked; asks = asks; needs_are = is; some = λ e. absurd (cc) }))
    go (FileAndHistory size o) is = absurd (other (FileAndHistory size o, record { asked = asked; asks = asks; needs_are = is; some = λ e. absurd (cc) }))
