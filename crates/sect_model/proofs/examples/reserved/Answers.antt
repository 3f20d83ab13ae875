-- the examples are computed
use Rattle.std.specs.Prelude.{refl}
use Rattle.sect_model.specs.Step.{step}
use Rattle.sect_model.specs.Refusals.{refusal_of}
use Rattle.sect_model.specs.Batch.{batch_of}
use Rattle.sect_model.specs.Settle.{settle}
use Rattle.sect_model.specs.Outcome.{outcome_of}
use Rattle.sect_model.specs.Allowed.{is_allowed}
use Rattle.sect_model.specs.Rules.{leaf_of}
use Rattle.sect_base.specs.Pattern.{meetings_overlap, some_below}
use Rattle.sect_model.proofs.examples.reserved.Goals as goal

pub returns-clause-reserved_space : goal.returns-clause-reserved_space
unfolding step refusal_of batch_of settle outcome_of is_allowed leaf_of meetings_overlap some_below
returns-clause-reserved_space c = refl

pub returns-clause-expiry_day : goal.returns-clause-expiry_day
unfolding step refusal_of batch_of settle outcome_of is_allowed leaf_of meetings_overlap some_below
returns-clause-expiry_day c = refl

pub returns-clause-before_the_first_day : goal.returns-clause-before_the_first_day
unfolding step refusal_of batch_of settle outcome_of is_allowed leaf_of meetings_overlap some_below
returns-clause-before_the_first_day c = refl

pub returns-clause-from_the_first_day : goal.returns-clause-from_the_first_day
unfolding step refusal_of batch_of settle outcome_of is_allowed leaf_of meetings_overlap some_below
returns-clause-from_the_first_day c = refl

pub returns-clause-reserved_offering : goal.returns-clause-reserved_offering
unfolding step refusal_of batch_of settle outcome_of is_allowed leaf_of meetings_overlap some_below
returns-clause-reserved_offering c = refl

pub returns-clause-reserved_configuration : goal.returns-clause-reserved_configuration
unfolding step refusal_of batch_of settle outcome_of is_allowed leaf_of meetings_overlap some_below
returns-clause-reserved_configuration c = refl

pub returns-clause-unlimited_reservation : goal.returns-clause-unlimited_reservation
unfolding step refusal_of batch_of settle outcome_of is_allowed leaf_of meetings_overlap some_below
returns-clause-unlimited_reservation c = refl

pub returns-clause-obligatory : goal.returns-clause-obligatory
unfolding step refusal_of batch_of settle outcome_of is_allowed leaf_of meetings_overlap some_below
returns-clause-obligatory c = refl

pub returns-clause-listed_sections : goal.returns-clause-listed_sections
unfolding step refusal_of batch_of settle outcome_of is_allowed leaf_of meetings_overlap some_below
returns-clause-listed_sections c = refl
