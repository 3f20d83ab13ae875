-- the examples are computed
use Rattle.std.specs.Prelude.{refl}
use Rattle.std.specs.Fmt.{digits}
use Rattle.sect_model.specs.Step.{step}
use Rattle.sect_model.specs.Refusals.{refusal_of}
use Rattle.sect_model.specs.Batch.{batch_of}
use Rattle.sect_model.specs.Settle.{settle}
use Rattle.sect_model.specs.Outcome.{outcome_of}
use Rattle.sect_model.specs.Allowed.{is_allowed}
use Rattle.sect_model.specs.Rules.{leaf_of}
use Rattle.sect_base.specs.Pattern.{meetings_overlap, some_below}
use Rattle.sect_base.specs.ClockText.{time_text}
use Rattle.sect_base.specs.MeetingText.{meeting_text}
use Rattle.sect_base.specs.WeekdayText.{days_text}
use Rattle.sect_base.specs.WeekText.{runs_from, weeks_text}
use Rattle.sect_shown.specs.Shown.{courses_of}
use Rattle.sect_shown.specs.Week.{slots_text}
use Rattle.sect_shown.proofs.examples.shown.Goals as goal

pub returns-clause-wanted : goal.returns-clause-wanted
unfolding step refusal_of batch_of settle outcome_of is_allowed leaf_of meetings_overlap some_below digits courses_of
returns-clause-wanted c = refl

pub returns-clause-no_course : goal.returns-clause-no_course
unfolding step refusal_of batch_of settle outcome_of is_allowed leaf_of meetings_overlap some_below digits courses_of
returns-clause-no_course c = refl

pub returns-clause-week : goal.returns-clause-week
unfolding step refusal_of batch_of settle outcome_of is_allowed leaf_of meetings_overlap some_below digits meeting_text days_text time_text weeks_text runs_from slots_text
returns-clause-week c = refl

pub returns-clause-unknown_student : goal.returns-clause-unknown_student
unfolding step refusal_of batch_of settle outcome_of is_allowed leaf_of meetings_overlap some_below digits
returns-clause-unknown_student c = refl
