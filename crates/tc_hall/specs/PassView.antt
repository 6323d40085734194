-- What contracts see of a pass and of a hall.
use Rattle.std.specs.Prelude.{ℕ, List}
use Rattle.atomic_table.specs.Seated.{TableId}
use Rattle.tc_segment.specs.View.{LockView}
use Rattle.tc_context.specs.View.{PackageView}
use Rattle.tc_hall.specs.declared.board.Knows.{Knows}
use Rattle.tc_hall.specs.declared.board.HallTerms.{HallTerms}

pub record PassView : Type 0 where
  pub table : TableId
  pub seat : ℕ
  pub knows : Knows

pub record HallView : Type 0 where
  pub table : TableId
  pub terms : HallTerms

pub record ClosedView : Type 0 where
  pub packages : List PackageView
  pub locks : List LockView
