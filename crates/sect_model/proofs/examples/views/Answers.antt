-- the examples are computed
use Rattle.std.specs.Prelude.{refl}
use Rattle.sect_model.specs.Step.{step}
use Rattle.sect_model.specs.Refusals.{refusal_of}
use Rattle.sect_model.specs.Batch.{batch_of}
use Rattle.sect_model.specs.Settle.{settle}
use Rattle.sect_model.specs.Outcome.{outcome_of}
use Rattle.sect_model.specs.Allowed.{is_allowed}
use Rattle.sect_model.specs.Rules.{leaf_of}
use Rattle.sect_base.specs.Pattern.{meetings_overlap, some_below}
use Rattle.sect_model.proofs.examples.views.Goals as goal

pub returns-clause-waiting_after_a_chain : goal.returns-clause-waiting_after_a_chain
unfolding step refusal_of batch_of settle outcome_of is_allowed leaf_of meetings_overlap some_below
returns-clause-waiting_after_a_chain c = refl

pub returns-clause-waiting_by_ticket : goal.returns-clause-waiting_by_ticket
unfolding step refusal_of batch_of settle outcome_of is_allowed leaf_of meetings_overlap some_below
returns-clause-waiting_by_ticket c = refl

pub returns-clause-open_places : goal.returns-clause-open_places
unfolding step refusal_of batch_of settle outcome_of is_allowed leaf_of meetings_overlap some_below
returns-clause-open_places c = refl

pub returns-clause-schedule_and_unmet : goal.returns-clause-schedule_and_unmet
unfolding step refusal_of batch_of settle outcome_of is_allowed leaf_of meetings_overlap some_below
returns-clause-schedule_and_unmet c = refl

pub returns-clause-good_after_a_chain : goal.returns-clause-good_after_a_chain
unfolding step refusal_of batch_of settle outcome_of is_allowed leaf_of meetings_overlap some_below
returns-clause-good_after_a_chain c = record { limits = refl; reservations = refl; together = refl; credits = refl; sound = refl }
