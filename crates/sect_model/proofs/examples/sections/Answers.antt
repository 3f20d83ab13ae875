-- the examples are computed
use Rattle.std.specs.Prelude.{refl}
use Rattle.sect_model.specs.Step.{step}
use Rattle.sect_model.specs.Refusals.{refusal_of}
use Rattle.sect_model.specs.Batch.{batch_of}
use Rattle.sect_model.specs.Settle.{settle}
use Rattle.sect_model.specs.Outcome.{outcome_of}
use Rattle.sect_model.specs.Allowed.{is_allowed}
use Rattle.sect_model.specs.Rules.{leaf_of}
use Rattle.sect_base.specs.Pattern.{meetings_overlap, some_below}
use Rattle.sect_model.proofs.examples.sections.Goals as goal

pub returns-clause-touching_and_overlapping : goal.returns-clause-touching_and_overlapping
unfolding step refusal_of batch_of settle outcome_of is_allowed leaf_of meetings_overlap some_below
returns-clause-touching_and_overlapping c = refl

pub returns-clause-weeks_apart : goal.returns-clause-weeks_apart
unfolding step refusal_of batch_of settle outcome_of is_allowed leaf_of meetings_overlap some_below
returns-clause-weeks_apart c = refl

pub returns-clause-overlap_permission : goal.returns-clause-overlap_permission
unfolding step refusal_of batch_of settle outcome_of is_allowed leaf_of meetings_overlap some_below
returns-clause-overlap_permission c = refl

pub returns-clause-free_time_below_a_rank : goal.returns-clause-free_time_below_a_rank
unfolding step refusal_of batch_of settle outcome_of is_allowed leaf_of meetings_overlap some_below
returns-clause-free_time_below_a_rank c = refl

pub returns-clause-ordinary_course : goal.returns-clause-ordinary_course
unfolding step refusal_of batch_of settle outcome_of is_allowed leaf_of meetings_overlap some_below
returns-clause-ordinary_course c = refl

pub returns-clause-parents : goal.returns-clause-parents
unfolding step refusal_of batch_of settle outcome_of is_allowed leaf_of meetings_overlap some_below
returns-clause-parents c = refl

pub returns-clause-parents_without_a_place : goal.returns-clause-parents_without_a_place
unfolding step refusal_of batch_of settle outcome_of is_allowed leaf_of meetings_overlap some_below
returns-clause-parents_without_a_place c = refl

pub returns-clause-third_subpart : goal.returns-clause-third_subpart
unfolding step refusal_of batch_of settle outcome_of is_allowed leaf_of meetings_overlap some_below
returns-clause-third_subpart c = refl

pub returns-clause-cancelled_section : goal.returns-clause-cancelled_section
unfolding step refusal_of batch_of settle outcome_of is_allowed leaf_of meetings_overlap some_below
returns-clause-cancelled_section c = refl

pub returns-clause-restriction : goal.returns-clause-restriction
unfolding step refusal_of batch_of settle outcome_of is_allowed leaf_of meetings_overlap some_below
returns-clause-restriction c = refl
