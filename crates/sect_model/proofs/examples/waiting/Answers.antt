-- the examples are computed
use Rattle.std.specs.Prelude.{refl}
use Rattle.sect_model.specs.Step.{step}
use Rattle.sect_model.specs.Refusals.{refusal_of}
use Rattle.sect_model.specs.Batch.{batch_of}
use Rattle.sect_model.specs.Settle.{settle}
use Rattle.sect_model.specs.Outcome.{outcome_of}
use Rattle.sect_model.specs.Allowed.{is_allowed}
use Rattle.sect_model.specs.Rules.{leaf_of}
use Rattle.sect_base.specs.Pattern.{meetings_overlap, some_below}
use Rattle.sect_model.proofs.examples.waiting.Goals as goal

pub returns-clause-waiting_chain : goal.returns-clause-waiting_chain
unfolding step refusal_of batch_of settle outcome_of is_allowed leaf_of meetings_overlap some_below
returns-clause-waiting_chain c = refl

pub returns-clause-least_ticket : goal.returns-clause-least_ticket
unfolding step refusal_of batch_of settle outcome_of is_allowed leaf_of meetings_overlap some_below
returns-clause-least_ticket c = refl

pub returns-clause-least_class : goal.returns-clause-least_class
unfolding step refusal_of batch_of settle outcome_of is_allowed leaf_of meetings_overlap some_below
returns-clause-least_class c = refl

pub returns-clause-new_day_places : goal.returns-clause-new_day_places
unfolding step refusal_of batch_of settle outcome_of is_allowed leaf_of meetings_overlap some_below
returns-clause-new_day_places c = refl
