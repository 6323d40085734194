-- One step at a desk: the state before and after. In the files on steps k are the terms of the
-- hall, x is a step, q a package, i a lock's number and l its state, b the block that released it,
-- u and own are turns, cs are calls of the pass, and r is the answer.
use Rattle.std.specs.Prelude.{ℕ, List, Option}
use Rattle.tc_combiner.specs.Vocabulary.{DeskParts, PackageView, SeatView, Shown, HallTerms}
use Rattle.tc_combiner.specs.Change.{Change, change}
use Rattle.tc_combiner.specs.View.{DeskView, seat_at}

-- one step at the desk of this worker, in a run of this image: the package that it was given, current before it,
-- and how the seats and the package that is set aside changed. The seats are one seat, or all that a desk has
pub record DeskStep (Seats : Type 0) : Type 0 where
  pub image : Shown
  pub worker : ℕ
  pub given : PackageView
  pub seats : Change Seats
  pub aside : Change (Option PackageView)

-- the step that these parts of a desk made, in a hall with these terms
abbrev pub by_parts : {Seats : Type 0} → HallTerms → PackageView → Change Seats → Change DeskParts → DeskStep Seats
by_parts k q seats parts = record { image = k.image.value; worker = parts.old.pass.knows.worker; given = q; seats = seats; aside = change parts.old.aside parts.new.aside }

-- the step of a desk from d to e
abbrev pub by_desk : PackageView → DeskView → DeskView → DeskStep (List SeatView)
by_desk q d e = record { image = d.pass.knows.image; worker = d.pass.knows.worker; given = q; seats = change d.seats e.seats; aside = change d.aside e.aside }

-- at the seat of lock i alone
abbrev pub at_lock : ℕ → DeskStep (List SeatView) → DeskStep SeatView
at_lock i x = record { image = x.image; worker = x.worker; given = x.given; seats = change (seat_at x.seats.old i) (seat_at x.seats.new i); aside = x.aside }

-- at no seat
abbrev pub at_none : Change (Unit {0})
at_none = change tt tt

-- with this current package
abbrev pub with_package : {Seats : Type 0} → PackageView → DeskStep Seats → DeskStep Seats
with_package q x = record x { given = q }
