-- the examples are computed
use Rattle.std.specs.Prelude.{refl}
use Rattle.sect_model.specs.Step.{step}
use Rattle.sect_model.specs.Refusals.{refusal_of}
use Rattle.sect_model.specs.Batch.{batch_of}
use Rattle.sect_model.specs.Settle.{settle}
use Rattle.sect_model.specs.Outcome.{outcome_of}
use Rattle.sect_model.specs.Allowed.{is_allowed}
use Rattle.sect_model.specs.Rules.{leaf_of}
use Rattle.sect_base.specs.Pattern.{meetings_overlap, some_below}
use Rattle.sect_model.proofs.examples.limits.Goals as goal

pub returns-clause-full_section : goal.returns-clause-full_section
unfolding step refusal_of batch_of settle outcome_of is_allowed leaf_of meetings_overlap some_below
returns-clause-full_section c = refl

pub returns-clause-budget_at_the_boundary : goal.returns-clause-budget_at_the_boundary
unfolding step refusal_of batch_of settle outcome_of is_allowed leaf_of meetings_overlap some_below
returns-clause-budget_at_the_boundary c = refl

pub returns-clause-full_course : goal.returns-clause-full_course
unfolding step refusal_of batch_of settle outcome_of is_allowed leaf_of meetings_overlap some_below
returns-clause-full_course c = refl

pub returns-clause-full_offering : goal.returns-clause-full_offering
unfolding step refusal_of batch_of settle outcome_of is_allowed leaf_of meetings_overlap some_below
returns-clause-full_offering c = refl

pub returns-clause-full_configuration : goal.returns-clause-full_configuration
unfolding step refusal_of batch_of settle outcome_of is_allowed leaf_of meetings_overlap some_below
returns-clause-full_configuration c = refl

pub returns-clause-over_limit : goal.returns-clause-over_limit
unfolding step refusal_of batch_of settle outcome_of is_allowed leaf_of meetings_overlap some_below
returns-clause-over_limit c = refl

pub returns-clause-credits_in_all : goal.returns-clause-credits_in_all
unfolding step refusal_of batch_of settle outcome_of is_allowed leaf_of meetings_overlap some_below
returns-clause-credits_in_all c = refl
