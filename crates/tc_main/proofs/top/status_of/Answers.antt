use Rattle.std.proofs.Common.{◌≡◌, List, ℕ, inl, inr, refl, arith}
use Rattle.tc_io.specs.Stream.{Stream}
use Rattle.tc_io.specs.Taken.{FailsAmid, Gives}
use Rattle.tc_main.specs.Ends.{Comes, Ends}
use Rattle.tc_main.specs.declared.status.Status.{Status}
use Rattle.tc_main.specs.declared.status.Status.TheVariants.{Done, Usage, ReadFault, Refused, WriteFault, OutOfMemory, Rejected}

module _ (words : List (List ℕ)) (before now had has : Stream) where
  -- an answer whose text was written whole keeps its status
  whole : (s : Status) → Comes words before now (Gives had has) s → Ends words before now had has s
  whole Done a = a
  whole Usage a = (a.0, a.1, inl a.2)
  whole ReadFault a = a
  whole (Refused k) a = (a.0, a.1, a.2, inl a.3)
  whole WriteFault a = absurd a
  whole OutOfMemory a = absurd a
  whole (Rejected r) a = (a.0, inl a.1)

  -- and so does one other than a wanted text that was cut; an empty text isn't cut
  cut : (s : Status) → (s ≡ Done → ⊥) → Comes words before now (FailsAmid had has) s → Ends words before now had has s
  cut Done other a = absurd (other refl)
  cut Usage other a = (a.0, a.1, inr a.2)
  cut ReadFault other a = absurd (omega (arith, a.1.short))
  cut (Refused k) other a = (a.0, a.1, a.2, inr a.3)
  cut WriteFault other a = absurd a
  cut OutOfMemory other a = absurd a
  cut (Rejected r) other a = (a.0, inr a.1)
