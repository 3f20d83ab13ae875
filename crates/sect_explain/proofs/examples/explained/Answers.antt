-- the examples are computed
use Rattle.std.specs.Prelude.{refl}
use Rattle.std.specs.Fmt.{digits}
use Rattle.sect_model.specs.Step.{step}
use Rattle.sect_model.specs.Refusals.{refusal_of}
use Rattle.sect_model.specs.Batch.{batch_of}
use Rattle.sect_model.specs.Settle.{settle}
use Rattle.sect_model.specs.Outcome.{outcome_of}
use Rattle.sect_model.specs.Allowed.{is_allowed}
use Rattle.sect_model.specs.Rules.{leaf_of}
use Rattle.sect_base.specs.Pattern.{meetings_overlap, some_below}
use Rattle.sect_base.specs.ClockText.{time_text}
use Rattle.sect_base.specs.MeetingText.{meeting_text}
use Rattle.sect_base.specs.WeekdayText.{days_text}
use Rattle.sect_base.specs.WeekText.{runs_from, weeks_text}
use Rattle.sect_explain.specs.Explained.{indent}
use Rattle.sect_explain.proofs.examples.explained.Goals as goal

pub returns-clause-full_section : goal.returns-clause-full_section
unfolding step refusal_of batch_of settle outcome_of is_allowed leaf_of meetings_overlap some_below digits indent
returns-clause-full_section c = refl

pub returns-clause-overlapping : goal.returns-clause-overlapping
unfolding step refusal_of batch_of settle outcome_of is_allowed leaf_of meetings_overlap some_below digits indent meeting_text days_text time_text weeks_text runs_from
returns-clause-overlapping c = refl

pub returns-clause-days_of_a_reservation : goal.returns-clause-days_of_a_reservation
unfolding step refusal_of batch_of settle outcome_of is_allowed leaf_of meetings_overlap some_below digits indent
returns-clause-days_of_a_reservation c = refl

pub returns-clause-parents_without_a_place : goal.returns-clause-parents_without_a_place
unfolding step refusal_of batch_of settle outcome_of is_allowed leaf_of meetings_overlap some_below digits indent
returns-clause-parents_without_a_place c = refl

pub returns-clause-batch_with_a_substitute : goal.returns-clause-batch_with_a_substitute
unfolding step refusal_of batch_of settle outcome_of is_allowed leaf_of meetings_overlap some_below digits indent
returns-clause-batch_with_a_substitute c = refl

pub returns-clause-not_blocked : goal.returns-clause-not_blocked
unfolding step refusal_of batch_of settle outcome_of is_allowed leaf_of meetings_overlap some_below digits indent
returns-clause-not_blocked c = refl
