-- Which status the program ends with, by what was asked and what the source told.
use Rattle.std.proofs.Common.{◌≡◌, ◌≢◌, ◌⊎◌, ◌≤◌, ◌++◌, ℕ, List, Option, Some, None, length, drop, refl, sym, ap, ◌∙◌, subst, inl, inr, append-nil, length-append, arith}
use Rattle.std.proofs.lemmas.Bool.{cases_lt}
use Rattle.std.proofs.lemmas.Option.{same_Some, none-some}
use Rattle.std.specs.Io.KnownBytes.{Consumes, IsAtEnd}
use Rattle.tc_io.specs.Causes.{Rose}
use Rattle.tc_io.specs.Stream.{Stream}
use Rattle.tc_isa.specs.declared.options.Options.{Options}
use Rattle.tc_elf.specs.Shown.{Shown}
use Rattle.tc_journal.specs.declared.block.Block.{Block}
use Rattle.tc_replay.specs.Rejected.{IsCompleteRun, IsRejected as IsRejectedAt}
use Rattle.tc_replay.specs.declared.reason.Rejected.{Rejected as Rejection}
use Rattle.tc_replay.proofs.Telling.{run_accepted}
use Rattle.tc_replay.proofs.Wrong.{one_rejection, never_both}
use Rattle.tc_main.specs.Refusals.{NamedRefusal, refusal_of}
use Rattle.tc_main.specs.Words.{AskFor, AskForNothing, AskToRead, FileAndHistory, GuestFile, Needs, Nothing, Reads, most_of, needs_of}
use Rattle.tc_main.specs.Replayed.{HasHistory, HasRun, IsRejection}
use Rattle.tc_main.specs.Top.{Accepts, CanBeDone, FailsToRead, HasFile, HasInput, HasRead, IsRefusedFor, IsRejectedFor, IsTextOf, IsWanted, MustRefuse, ReadsAll, ReadsEnough, Rejects}
use Rattle.tc_main.specs.Ends.{Ends}
use Rattle.tc_main.specs.declared.status.Status.{Status}
use Rattle.tc_main.specs.declared.status.Status.TheVariants.{Done, Usage, ReadFault, Refused, WriteFault, OutOfMemory, Rejected}
use Rattle.tc_main.specs.declared.words.Command.{Command}
use Rattle.tc_main.specs.declared.words.Command.TheVariants.{Run, Generate, Demo, Replay, Profile}
use Rattle.tc_main.proofs.OneReading.{never_wrong, one_history, one_line}
use Rattle.tc_main.proofs.Refusing.{large, read_whole, rejection_fine, text_fine}
use Rattle.tc_main.proofs.SameAsked.{one_needs}

-- ---- a history is accepted, or it is rejected so

-- the same guest and the same history stand in the same bytes
module _ (size : ℕ) (bytes : List ℕ) (image other : Shown) (h g : List Block) (a : HasHistory size bytes image h) (b : HasHistory size bytes other g) where
  pub same_guest : image ≡ other
  same_guest = a.guest.1 ∙ sym b.guest.1

  pub same_blocks : h ≡ g
  same_blocks = one_history (drop size bytes) h g a.text b.text

module _ (size : ℕ) (o : Options) (bytes : List ℕ) where
  pub never : (r : Rejection) → HasRun size o bytes → IsRejection size o bytes r → ⊥
  never r ran (inl text) = never_wrong (drop size bytes) ran.history r.line ran.is.text text.line
  never r ran (inr wrong) =
      let run : IsCompleteRun wrong.image o wrong.history = subst (λ (x : Shown × List Block). IsCompleteRun x.0 o x.1)
      (λ i. (same_guest size bytes ran.image wrong.image ran.history wrong.history ran.is wrong.is i, same_blocks size bytes ran.image wrong.image ran.history wrong.history ran.is wrong.is i)) ran.run in
      never_both wrong.image o wrong.history r.line r.reason wrong.rejected (run_accepted wrong.image o wrong.history run)

  same_place : (r s : Rejection) → r.line ≡ s.line → r.reason ≡ s.reason → r ≡ s
  same_place r s line reason = λ i. record { line = line i; reason = reason i }

  pub one : (r s : Rejection) → IsRejection size o bytes r → IsRejection size o bytes s → r ≡ s
  one r s (inl a) (inl b) = same_place r s (one_line (drop size bytes) r.line s.line a.line b.line) (a.reason ∙ sym b.reason)
  one r s (inl a) (inr b) = absurd (never_wrong (drop size bytes) b.history r.line b.is.text a.line)
  one r s (inr a) (inl b) = absurd (never_wrong (drop size bytes) a.history s.line a.is.text b.line)
  one r s (inr a) (inr b) =
      let there : IsRejectedAt b.image o b.history r.line r.reason = subst (λ (x : Shown × List Block). IsRejectedAt x.0 o x.1 r.line r.reason)
      (λ i. (same_guest size bytes a.image b.image a.history b.history a.is b.is i, same_blocks size bytes a.image b.image a.history b.history a.is b.is i)) a.rejected in
      let same = one_rejection b.image o b.history r.line s.line r.reason s.reason there b.rejected in
      same_place r s same.0 same.1

-- so it is of what is needed
pub never_both_needed : (needs : Needs) (bytes : List ℕ) (r : Rejection) → Accepts needs bytes → Rejects needs bytes r → ⊥
never_both_needed Nothing bytes r accepted rejected = rejected
never_both_needed GuestFile bytes r accepted rejected = rejected
never_both_needed (FileAndHistory size o) bytes r accepted rejected = never size o bytes r accepted rejected

pub one_needed : (needs : Needs) (bytes : List ℕ) (r s : Rejection) → Rejects needs bytes r → Rejects needs bytes s → r ≡ s
one_needed Nothing bytes r s a b = absurd a
one_needed GuestFile bytes r s a b = absurd a
one_needed (FileAndHistory size o) bytes r s a b = one size o bytes r s a b

-- of a history a text is made only where it is accepted
text_accepts : (asked : Command) (bytes text : List ℕ) → IsTextOf asked bytes text → Accepts (needs_of asked) bytes
text_accepts (Run order o) bytes text made = tt
text_accepts (Generate rounds) bytes text made = tt
text_accepts (Demo rounds o) bytes text made = tt
text_accepts (Replay size o) bytes text made = made.run
text_accepts (Profile size o) bytes text made = made.0

-- nothing is rejected where nothing is needed
pub never_unread : (needs : Needs) (bytes : List ℕ) (r : Rejection) → Rejects needs bytes r → needs ≢ Nothing
never_unread Nothing bytes r rejected e = rejected
never_unread GuestFile bytes r rejected e = rejected
never_unread (FileAndHistory size o) bytes r rejected e = absurd (cc)

-- ---- sources that tell their bytes

-- with a source that tells its bytes, what was read to the end is all of them
pub all_of : (before now : Option (List ℕ)) (bytes read : List ℕ) → before ≡ Some bytes → Consumes before now read → IsAtEnd now → bytes ≡ read
all_of None now bytes read e taken end = cc
all_of (Some b) None bytes read e taken end = absurd taken
all_of (Some b) (Some n) bytes read e taken end = same_Some bytes b (sym e) ∙ taken ∙ ap (λ t. read ++ t) end ∙ append-nil read

-- what was read is no more than it has
no_more : (before now : Option (List ℕ)) (bytes read : List ℕ) → before ≡ Some bytes → Consumes before now read → length read ≤ length bytes
no_more None now bytes read e taken = cc
no_more (Some b) None bytes read e taken = absurd taken
no_more (Some b) (Some n) bytes read e taken = omega (arith, ap length (same_Some bytes b (sym e) ∙ taken), length-append read n)

-- the words ask for something for which this is needed, and the source tells that it has these bytes
module _ (words : List (List ℕ)) (before now had has : Stream) (needs : Needs) (asks : AskToRead words needs) (bytes : List ℕ) (told : before.bytes ≡ Some bytes) where
  -- what was read of them is refused as they are
  same_refused : (read : List ℕ) → ReadsEnough needs before now read → refusal_of needs read ≡ refusal_of needs bytes
  same_refused read enough = elim (cases_lt (most_of needs) (length read)) [
    | inl many ↦ large needs read many ∙ sym (large needs bytes (omega (arith, many, no_more before.bytes now.bytes bytes read told enough.read.taken)))
    | inr few ↦ ap (refusal_of needs) (sym (all_of before.bytes now.bytes bytes read told enough.read.taken (enough.end few)))
  ]

  needs_are : (other : Command) → AskFor words other → needs_of other ≡ needs
  needs_are other asked = one_needs words other asks.asked asked asks.asks ∙ asks.needs_are

  -- with this the call refused them
  refused_as : (r : NamedRefusal) → IsRefusedFor words before now r → refusal_of needs bytes ≡ Some r
  refused_as r h =
      let is : h.needs ≡ needs = sym h.asks.needs_are ∙ needs_are h.asks.asked h.asks.asks in
      let read : ReadsEnough needs before now h.bytes = subst (λ n. ReadsEnough n before now h.bytes) is h.read in
      sym (same_refused h.bytes read) ∙ sym (ap (λ n. refusal_of n h.bytes) is) ∙ h.refused

  -- what was asked for isn't nothing
  something : AskForNothing words → ⊥
  something nothing = nothing asks.asked asks.asks

  -- where a read failed, the faults rose
  risen_by : FailsToRead words before now → Rose before now
  risen_by fails = omega (arith, fails.2.fault.next)

  -- what was read whole is all bytes
  module _ (asked : Command) (read : List ℕ) (asks_too : AskFor words asked) (has_read : HasRead (needs_of asked) before now read) where
    whole : ReadsAll needs before now read
    whole = read_whole needs before now read asks.some (subst (λ n. HasRead n before now read) (needs_are asked asks_too) has_read)

    same_bytes : read ≡ bytes
    same_bytes = sym (all_of before.bytes now.bytes bytes read told whole.read.takes.taken whole.read.end)

    few : length read ≤ most_of (needs_of asked)
    few = subst (λ n. length read ≤ most_of n) (sym (needs_are asked asks_too)) whole.few

    fine : refusal_of (needs_of asked) read ≡ None → refusal_of needs bytes ≡ None
    fine = subst (λ (x : Needs × List ℕ). refusal_of x.0 x.1 ≡ None) (λ i. (needs_are asked asks_too i, same_bytes i))

  -- so a text was made of bytes that are not refused
  made_of : (text : List ℕ) → IsWanted words before now text → refusal_of needs bytes ≡ None
  made_of text w = fine w.asked w.bytes w.asks w.read (text_fine w.asked w.bytes text (few w.asked w.bytes w.asks w.read) w.made)

  -- and so was a rejection
  rejected_fine : (r : Rejection) → IsRejectedFor words before now r → refusal_of needs bytes ≡ None
  rejected_fine r w = fine w.asked w.bytes w.asks w.read (rejection_fine (needs_of w.asked) w.bytes r (few w.asked w.bytes w.asks w.read) w.rejected)

  -- a history in them
  pub rejected_of : (r : Rejection) → IsRejectedFor words before now r → Rejects needs bytes r
  rejected_of r w = subst (λ (x : Needs × List ℕ). Rejects x.0 x.1 r) (λ i. (needs_are w.asked w.asks i, same_bytes w.asked w.bytes w.asks w.read i)) w.rejected

  pub accepted_of : (text : List ℕ) → IsWanted words before now text → Accepts needs bytes
  accepted_of text w = subst (λ (x : Needs × List ℕ). Accepts x.0 x.1) (λ i. (needs_are w.asked w.asks i, same_bytes w.asked w.bytes w.asks w.read i)) (text_accepts w.asked w.bytes text w.made)

  -- a file that is not refused is run, and a history that is not rejected is told
  pub does : refusal_of needs bytes ≡ None → Accepts needs bytes → ¬ Rose before now → ¬ Rose had has → (s : Status) → Ends words before now had has s → (s ≡ Done) ⊎ (s ≡ OutOfMemory)
  does nothing accepted reads writes Done h = inl refl
  does nothing accepted reads writes Usage h = absurd (something h.0)
  does nothing accepted reads writes ReadFault h = absurd (reads (risen_by h.0))
  does nothing accepted reads writes (Refused k) h = absurd (none-some h.0 (sym nothing ∙ refused_as h.0 h.2))
  does nothing accepted reads writes WriteFault h = absurd (writes (omega (arith, h.2.fault.next)))
  does nothing accepted reads writes OutOfMemory h = inr refl
  does nothing accepted reads writes (Rejected r) h = absurd (never_both_needed needs bytes r accepted (rejected_of r h.0))

  -- bytes that are to be refused are refused by their number alone
  refuses_bytes : (r : NamedRefusal) → refusal_of needs bytes ≡ Some r → ¬ Rose before now → (s : Status) → Ends words before now had has s → (s ≡ Refused r.number) ⊎ (s ≡ OutOfMemory)
  refuses_bytes r bad reads Done h = absurd (none-some r (sym (made_of h.0 h.1) ∙ bad))
  refuses_bytes r bad reads Usage h = absurd (something h.0)
  refuses_bytes r bad reads ReadFault h = absurd (reads (risen_by h.0))
  refuses_bytes r bad reads (Refused k) h = inl (ap Refused (h.1 ∙ ap (λ (n : NamedRefusal). n.number) (same_Some h.0 r (sym (refused_as h.0 h.2) ∙ bad))))
  refuses_bytes r bad reads WriteFault h = absurd (none-some r (sym (made_of h.0 h.1) ∙ bad))
  refuses_bytes r bad reads OutOfMemory h = inr refl
  refuses_bytes r bad reads (Rejected t) h = absurd (none-some r (sym (rejected_fine t h.0) ∙ bad))

  -- a history that is to be rejected is rejected so
  rejects_bytes : (r : Rejection) → length bytes ≤ most_of needs → Rejects needs bytes r → ¬ Rose before now → (s : Status) → Ends words before now had has s → (s ≡ Rejected r) ⊎ (s ≡ OutOfMemory)
  rejects_bytes r small bad reads Done h = absurd (never_both_needed needs bytes r (accepted_of h.0 h.1) bad)
  rejects_bytes r small bad reads Usage h = absurd (something h.0)
  rejects_bytes r small bad reads ReadFault h = absurd (reads (risen_by h.0))
  rejects_bytes r small bad reads (Refused k) h = absurd (none-some h.0 (sym (rejection_fine needs bytes r small bad) ∙ refused_as h.0 h.2))
  rejects_bytes r small bad reads WriteFault h = absurd (never_both_needed needs bytes r (accepted_of h.0 h.1) bad)
  rejects_bytes r small bad reads OutOfMemory h = inr refl
  rejects_bytes r small bad reads (Rejected t) h = inl (ap Rejected (one_needed needs bytes t r (rejected_of t h.0) bad))

only_usage : (words : List (List ℕ)) (before now had has : Stream) → AskForNothing words → (s : Status) → Ends words before now had has s → (s ≡ Usage) ⊎ (s ≡ OutOfMemory)
only_usage words before now had has nothing Done h = absurd (nothing h.1.asked h.1.asks)
only_usage words before now had has nothing Usage h = inl refl
only_usage words before now had has nothing ReadFault h = absurd (nothing h.0.1.asked h.0.1.asks)
only_usage words before now had has nothing (Refused k) h = absurd (nothing h.2.asks.asked h.2.asks.asks)
only_usage words before now had has nothing WriteFault h = absurd (nothing h.1.asked h.1.asks)
only_usage words before now had has nothing OutOfMemory h = inr refl
only_usage words before now had has nothing (Rejected r) h = absurd (nothing h.0.asked h.0.asks)

-- what needs nothing of the source is done
does_alone : (words : List (List ℕ)) (before now had has : Stream) → ¬ Reads words → ¬ AskForNothing words → ¬ Rose had has → (s : Status) → Ends words before now had has s → (s ≡ Done) ⊎ (s ≡ OutOfMemory)
does_alone words before now had has other something writes Done h = inl refl
does_alone words before now had has other something writes Usage h = absurd (something h.0)
does_alone words before now had has other something writes ReadFault h = absurd (other (h.0.0, h.0.1))
does_alone words before now had has other something writes (Refused k) h = absurd (other (h.2.needs, h.2.asks))
does_alone words before now had has other something writes WriteFault h = absurd (writes (omega (arith, h.2.fault.next)))
does_alone words before now had has other something writes OutOfMemory h = inr refl
does_alone words before now had has other something writes (Rejected r) h =
    absurd (other (needs_of h.0.asked, record { asked = h.0.asked; asks = h.0.asks; needs_are = refl; some = never_unread (needs_of h.0.asked) h.0.bytes r h.0.rejected }))

-- what can be done is done
pub completes : (words : List (List ℕ)) (before now had has : Stream) (s : Status) → Ends words before now had has s → CanBeDone words before now → ¬ Rose had has → (s ≡ Done) ⊎ (s ≡ OutOfMemory)
completes words before now had has s h can writes = by (needs_of can.asked) refl can.input
  where
    with_file : (needs : Needs) → needs_of can.asked ≡ needs → needs ≢ Nothing → HasFile needs before now → (s ≡ Done) ⊎ (s ≡ OutOfMemory)
    with_file needs is some file =
        does words before now had has needs (record { asked = can.asked; asks = can.asks; needs_are = is; some = some }) file.bytes file.told file.fine file.accepted file.quiet writes s h

    by : (needs : Needs) → needs_of can.asked ≡ needs → HasInput needs before now → (s ≡ Done) ⊎ (s ≡ OutOfMemory)
    by Nothing is input = does_alone words before now had has
        (λ reads. reads.1.some (sym reads.1.needs_are ∙ one_needs words reads.1.asked can.asked reads.1.asks can.asks ∙ is))
        (λ nothing. nothing can.asked can.asks) writes s h
    by GuestFile is file = with_file GuestFile is (λ e. absurd (cc)) file
    by (FileAndHistory size o) is file = with_file (FileAndHistory size o) is (λ e. absurd (cc)) file

-- what is to be refused is refused
pub refuses : (words : List (List ℕ)) (before now had has : Stream) (s : Status) → Ends words before now had has s → (want : Status) → MustRefuse words before now want → (s ≡ want) ⊎ (s ≡ OutOfMemory)
refuses words before now had has s h Done must = absurd must
refuses words before now had has s h Usage must = only_usage words before now had has must s h
refuses words before now had has s h ReadFault must = absurd must
refuses words before now had has s h (Refused k) must =
    subst (λ n. (s ≡ Refused n) ⊎ (s ≡ OutOfMemory)) (sym must.1.2)
    (refuses_bytes words before now had has must.0.needs must.0.asks must.0.bytes must.0.told must.1.0 must.1.1 must.0.quiet s h)
refuses words before now had has s h WriteFault must = absurd must
refuses words before now had has s h OutOfMemory must = absurd must
refuses words before now had has s h (Rejected r) must =
    rejects_bytes words before now had has must.0.needs must.0.asks must.0.bytes must.0.told r must.1 must.2 must.0.quiet s h
