use Rattle.std.proofs.Common.{◌≡◌, ℕ, List, refl}
use Rattle.std.specs.Prelude.{Some}
use Rattle.tc_io.specs.Stream.{Stream}
use Rattle.tc_main.specs.Top.{IsRejectedFor, IsWanted}
use Rattle.tc_main.specs.Words.{AskToRead, Needs, needs_of}
use Rattle.tc_replay.specs.declared.reason.Rejected.{Rejected}
use Rattle.tc_main.proofs.Statuses.{accepted_of, never, never_both_needed, never_unread, one, one_needed, rejected_of}
use Rattle.tc_main.proofs.rejection.rejection.Goals as goal

-- what is rejected was read
module _ (words : List (List ℕ)) (before now later : Stream) (bytes : List ℕ) (r : Rejected) (told : before.bytes ≡ Some bytes) (a : IsRejectedFor words before now r) where
  abbrev needs : Needs
  needs = needs_of a.asked

  asks : AskToRead words needs
  asks = record { asked = a.asked; asks = a.asks; needs_are = refl; some = never_unread needs a.bytes r a.rejected }

  once : (s : Rejected) → IsRejectedFor words before later s → r ≡ s
  once s b = one_needed needs bytes r s
      (rejected_of words before now before before needs asks bytes told r a)
      (rejected_of words before later before before needs asks bytes told s b)

  no_text : (text : List ℕ) → IsWanted words before later text → ⊥
  no_text text wanted = never_both_needed needs bytes r
      (accepted_of words before later before before needs asks bytes told text wanted)
      (rejected_of words before now before before needs asks bytes told r a)

pub returns-clause-one : goal.returns-clause-one
returns-clause-one c = one

pub returns-clause-never : goal.returns-clause-never
returns-clause-never c = λ size o bytes r run rejected. never size o bytes r run rejected

pub returns-clause-once : goal.returns-clause-once
returns-clause-once c = λ words before now later bytes r s told a b. once words before now later bytes r told a s b

pub returns-clause-no_text : goal.returns-clause-no_text
returns-clause-no_text c = λ words before now later bytes text r told a wanted. no_text words before now later bytes r told a text wanted
