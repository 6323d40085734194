-- Which bytes are refused.
use Rattle.std.proofs.Common.{◌≡◌, ◌≢◌, ℕ, ◌<◌, ◌≤◌, Bool, nat_lt, if◌then◌else◌, List, length, Option, Some, None, inl, inr, refl, sym, ap, ◌∙◌, arith}
use Rattle.std.specs.Prelude.{option_map}
use Rattle.std.proofs.lemmas.Bool.{le-ltb, lt-ltb}
use Rattle.std.proofs.lemmas.Option.{none-some}
use Rattle.tc_io.specs.Stream.{Stream}
use Rattle.tc_main.specs.Refusals.{NamedRefusal, file_refusal, least_of, named, refusal_of, short_input, too_large}
use Rattle.tc_main.specs.Top.{HasRead, IsTextOf, ReadsAll, ReadsEnough, Rejects}
use Rattle.tc_main.specs.Words.{FileAndHistory, GuestFile, Needs, Nothing, most_of, needs_of}
use Rattle.tc_main.specs.declared.words.Command.{Command}
use Rattle.tc_main.specs.declared.words.Command.TheVariants.{Run, Generate, Demo, Replay, Profile}
use Rattle.tc_replay.specs.declared.reason.Rejected.{Rejected}

module _ (needs : Needs) (bytes : List ℕ) where
  -- what is refused where they are not too many
  abbrev behind : Option NamedRefusal
  behind = if nat_lt (length bytes) (least_of needs) then Some short_input else option_map named (file_refusal needs bytes)

  pub large : most_of needs < length bytes → refusal_of needs bytes ≡ Some too_large
  large many = ap (λ (b : Bool). if b then Some too_large else behind) (lt-ltb (most_of needs) (length bytes) many)

  few_enough : length bytes ≤ most_of needs → refusal_of needs bytes ≡ behind
  few_enough few = ap (λ (b : Bool). if b then Some too_large else behind) (le-ltb (most_of needs) (length bytes) few)

  pub short : length bytes ≤ most_of needs → length bytes < least_of needs → refusal_of needs bytes ≡ Some short_input
  short few less =
      few_enough few ∙ ap (λ (b : Bool). if b then Some short_input else option_map named (file_refusal needs bytes)) (lt-ltb (length bytes) (least_of needs) less)

  -- bytes that are neither too many nor too few are refused as their file is
  pub of_file : length bytes ≤ most_of needs → least_of needs ≤ length bytes → refusal_of needs bytes ≡ option_map named (file_refusal needs bytes)
  of_file few enough =
      few_enough few ∙ ap (λ (b : Bool). if b then Some short_input else option_map named (file_refusal needs bytes)) (le-ltb (length bytes) (least_of needs) enough)

  pub loaded : length bytes ≤ most_of needs → least_of needs ≤ length bytes → file_refusal needs bytes ≡ None → refusal_of needs bytes ≡ None
  loaded few enough fine = of_file few enough ∙ ap (option_map named) fine

-- of bytes that are refused no text is made
pub text_fine : (asked : Command) (bytes text : List ℕ) → length bytes ≤ most_of (needs_of asked) → IsTextOf asked bytes text → refusal_of (needs_of asked) bytes ≡ None
text_fine (Run order o) bytes text few made = loaded GuestFile bytes few (omega arith) made.1.0
text_fine (Generate rounds) bytes text few made = loaded Nothing bytes few (omega arith) refl
text_fine (Demo rounds o) bytes text few made = loaded Nothing bytes few (omega arith) refl
text_fine (Replay size o) bytes text few made = loaded (FileAndHistory size o) bytes few made.run.is.enough made.run.is.guest.0
text_fine (Profile size o) bytes text few made = loaded (FileAndHistory size o) bytes few made.0.is.enough made.0.is.guest.0

-- and no history in them is rejected
pub rejection_fine : (needs : Needs) (bytes : List ℕ) (r : Rejected) → length bytes ≤ most_of needs → Rejects needs bytes r → refusal_of needs bytes ≡ None
rejection_fine Nothing bytes r few rejected = absurd rejected
rejection_fine GuestFile bytes r few rejected = absurd rejected
rejection_fine (FileAndHistory size o) bytes r few (inl text) = loaded (FileAndHistory size o) bytes few text.enough text.guest.0
rejection_fine (FileAndHistory size o) bytes r few (inr wrong) = loaded (FileAndHistory size o) bytes few wrong.is.enough wrong.is.guest.0

-- ---- what is read

-- what is needed and is not nothing is read whole
pub has_read : (needs : Needs) (before now : Stream) (bytes : List ℕ) → needs ≢ Nothing → ReadsAll needs before now bytes → HasRead needs before now bytes
has_read Nothing before now bytes some read = absurd (some refl)
has_read GuestFile before now bytes some read = read
has_read (FileAndHistory size o) before now bytes some read = read

pub read_whole : (needs : Needs) (before now : Stream) (bytes : List ℕ) → needs ≢ Nothing → HasRead needs before now bytes → ReadsAll needs before now bytes
read_whole Nothing before now bytes some read = absurd (some refl)
read_whole GuestFile before now bytes some read = read
read_whole (FileAndHistory size o) before now bytes some read = read

pub enough : (needs : Needs) (before now : Stream) (bytes : List ℕ) → needs ≢ Nothing → HasRead needs before now bytes → ReadsEnough needs before now bytes
enough needs before now bytes some read =
    let all = read_whole needs before now bytes some read in
    record { read = all.read.takes; most = omega (arith, all.few); end = λ few. all.read.end }

-- where nothing is needed nothing is refused
pub refused_some : (needs : Needs) (before now : Stream) (bytes : List ℕ) (r : NamedRefusal) → HasRead needs before now bytes → refusal_of needs bytes ≡ Some r → needs ≢ Nothing
refused_some Nothing before now bytes r read refused e = none-some r (sym (loaded Nothing bytes (omega (arith, ap length read.1)) (omega arith) refl) ∙ refused)
refused_some GuestFile before now bytes r read refused e = absurd (cc)
refused_some (FileAndHistory size o) before now bytes r read refused e = absurd (cc)
