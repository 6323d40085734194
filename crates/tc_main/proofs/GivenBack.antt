-- A history that is given back is accepted, and its replay has the report of it.
use Rattle.std.proofs.Common.{◌≡◌, ℕ, ◌<◌, ◌≤◌, ◌++◌, Bool, true, false, List, [], map, get_or, length, length-append, refl, sym, ap, subst, ◌∙◌, inl, inr, arith}
use Rattle.std.specs.List.{range_with_len}
use Rattle.std.proofs.Math.Seq.{take-append_seam, drop-append_seam}
use Rattle.std.proofs.lemmas.Bool.{cases_lt}
use Rattle.tc_io.specs.Causes.{Rose}
use Rattle.tc_io.specs.Stream.{Stream}
use Rattle.tc_isa.specs.Sets.{has}
use Rattle.tc_isa.specs.declared.options.Options.{Options}
use Rattle.tc_elf.specs.Loading.{subset}
use Rattle.tc_elf.specs.Shown.{Shown}
use Rattle.tc_journal.specs.Batch.{Obeys}
use Rattle.tc_journal.specs.History.{IsHistory, of_lock}
use Rattle.tc_journal.specs.Line.{history_text}
use Rattle.tc_journal.specs.declared.block.Block.{Block}
use Rattle.tc_mutex_spec.specs.Machine.{start}
use Rattle.tc_mutex_spec.specs.Blocks.{IsComplete, Tells, end_after}
use Rattle.tc_mutex_spec.proofs.Entries.{tells_end}
use Rattle.tc_replay.specs.Rejected.{IsCompleteRun}
use Rattle.tc_report.specs.Legal.{IsLegalRun, finished_in, guarded_in, results_after}
use Rattle.tc_report.specs.Report.{report_text}
use Rattle.tc_report.specs.Results.{Results}
use Rattle.tc_main.specs.Replayed.{HasHistory}
use Rattle.tc_main.specs.RoundTrip.{IsGivenBack}
use Rattle.tc_main.specs.Top.{CanBeDone, HasRead, IsTextOf, IsWanted, ReadsAll}
use Rattle.tc_main.specs.Words.{AskFor, FileAndHistory, GuestFile, Needs, Nothing, needs_of}
use Rattle.tc_main.specs.declared.words.Command.{Command}
use Rattle.tc_main.specs.declared.words.Command.TheVariants.{Run, Generate, Demo, Replay, Profile}
use Rattle.tc_main.proofs.Addable.{addable}
use Rattle.tc_main.proofs.Merging.{filter_none}
use Rattle.tc_main.proofs.Refusing.{loaded}
use Rattle.tc_main.proofs.SameAsked.{one_needs}
use Rattle.tc_main.proofs.Statuses.{all_of, same_blocks, same_guest}

-- ---- a legal run is a complete one

module _ (image : Shown) (o : Options) (results : Results) (legal : IsLegalRun image o results) where
  end : legal.last ≡ end_after image o.fuel results.history
  end = tells_end image [] results.history (start image o.fuel) legal.last legal.tells

  -- a lock that is none of the image's has no block
  none_past : (k : ℕ) → length image.guards ≤ k → of_lock results.history k ≡ []
  none_past k past = filter_none (λ (b : Block). has b.held k) results.history (λ i b e. none (has b.held k) ((addable image o.fuel results.history legal.last legal.tells legal.history i b e).locks k))
    where
      none : (v : Bool) → (v ≡ true → k < length image.guards) → v ≡ false
      none true known = absurd (omega (arith, past, known refl))
      none false known = refl

  pub complete_run : IsCompleteRun image o results.history
  complete_run = record {
    tells = subst (Tells image o.fuel results.history) end legal.tells;
    complete = subst (IsComplete image) end legal.complete;
    obeys = λ k. elim (cases_lt k (length image.guards)) [
      | inl known ↦ legal.obeys k known
      | inr past ↦ subst (Obeys k o.limit) (sym (none_past k past)) tt
    ];
    workers = legal.workers;
  }

  pub results_are : results ≡ results_after image o.fuel results.history
  results_are i = record {
    history = results.history;
    threads = (legal.threads ∙ ap (λ m. map (finished_in m) (range_with_len 0 (length image.entries))) end) i;
    locks = (legal.locks ∙ ap (λ m. map (guarded_in image m) (range_with_len 0 (length image.guards))) end) i;
  }

-- ---- words that ask for a replay ask for nothing else

one_replay : (words : List (List ℕ)) (size : ℕ) (o : Options) (asked : Command) → AskFor words (Replay size o) → AskFor words asked → asked ≡ Replay size o
one_replay words size o asked asks other = same asked other (one_needs words asked (Replay size o) other asks)
  where
    first : List (List ℕ) → ℕ
    first words = length (get_or words 0 [])

    size_of : Needs → ℕ
    size_of Nothing = 0
    size_of GuestFile = 0
    size_of (FileAndHistory n p) = n

    options_of : Needs → Options
    options_of Nothing = o
    options_of GuestFile = o
    options_of (FileAndHistory n p) = p

    same : (asked : Command) → AskFor words asked → needs_of asked ≡ FileAndHistory size o → asked ≡ Replay size o
    same (Run order p) other e = absurd (cc)
    same (Generate rounds) other e = absurd (cc)
    same (Demo rounds p) other e = absurd (cc)
    same (Replay n p) other e = λ i. Replay (size_of (e i)) (options_of (e i))
    same (Profile n p) other e = absurd (omega (arith, ap first (sym asks.1 ∙ other.1)))

-- ---- the history of a complete run, given back

module _ (words : List (List ℕ)) (o : Options) (file : List ℕ) (image : Shown) (h : List Block) (before now : Stream) (guest : subset file image) (history : IsHistory h) (run : IsCompleteRun image o h)
    (given : IsGivenBack words o file h before) where
  abbrev bytes : List ℕ
  bytes = file ++ history_text h

  is : HasHistory (length file) bytes image h
  is = record {
    enough = omega (arith, length-append file (history_text h));
    guest = subst (λ f. subset f image) (sym (take-append_seam file (history_text h))) guest;
    text = record { history = history; lines = drop-append_seam file (history_text h) };
  }

  pub can : ¬ Rose before now → CanBeDone words before now
  can quiet = record {
    asked = Replay (length file) o;
    asks = given.asks;
    input = record {
      bytes = bytes;
      told = given.told;
      fine = loaded (FileAndHistory (length file) o) bytes given.few is.enough is.guest.0;
      accepted = record { image = image; history = h; is = is; run = run };
      quiet = quiet;
    };
  }

  pub report_again : (again : List ℕ) → IsWanted words before now again → again ≡ report_text image o (results_after image o.fuel h)
  report_again again wanted =
      let asked : wanted.asked ≡ Replay (length file) o = one_replay words (length file) o wanted.asked given.asks wanted.asks in
      let read : ReadsAll (FileAndHistory (length file) o) before now wanted.bytes = subst (λ a. HasRead (needs_of a) before now wanted.bytes) asked wanted.read in
      let all : bytes ≡ wanted.bytes = all_of before.bytes now.bytes bytes wanted.bytes given.told read.read.takes.taken read.read.end in
      let made : IsTextOf (Replay (length file) o) bytes again = subst (λ (x : Command × List ℕ). IsTextOf x.0 x.1 again) (λ i. (asked i, sym all i)) wanted.made in
      let image_is : made.run.image ≡ image = same_guest (length file) bytes made.run.image image made.run.history h made.run.is is in
      let history_is : made.run.history ≡ h = same_blocks (length file) bytes made.run.image image made.run.history h made.run.is is in
      made.printed ∙ (λ i. report_text (image_is i) o (results_after (image_is i) o.fuel (history_is i)))
