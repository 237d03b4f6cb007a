-- The laws of the crates below on which the headline and the causes of answers stand, as their functions ensure them.
use Rattle.vs_rows.specs.Tables.{Tables}
use Rattle.vs_log.specs.Laws.{AlwaysNewGtids, AlwaysOnePlace}
use Rattle.vs_frame.specs.Laws.{HasOneFrame, HasOneLength, PartIsNoFrame, PartIsNotTooLong, TooLongIsNoFrame}
use Rattle.vs_request.specs.Laws.{SaysOneThing}
use Rattle.vs_render.specs.Laws.{BodiesMakeFrames}
use Rattle.vs_model.specs.Laws.{DueGoesOn, StepsAreLegal, StopStays, TransactionsAreSteps}

pub record Laws : Type 0 where
  pub transactions : TransactionsAreSteps
  pub due : DueGoesOn
  pub stop : StopStays
  pub steps : StepsAreLegal
  pub new_gtids : AlwaysNewGtids Tables
  pub places : AlwaysOnePlace Tables
  pub requests : SaysOneThing
  pub part : PartIsNoFrame
  pub part_fits : PartIsNotTooLong
  pub too_long : TooLongIsNoFrame
  pub one_length : HasOneLength
  pub one_frame : HasOneFrame
  pub bodies : BodiesMakeFrames
