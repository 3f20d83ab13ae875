-- the examples are computed
use Rattle.std.specs.Prelude.{refl}
use Rattle.sect_model.specs.Step.{step}
use Rattle.sect_model.specs.Refusals.{refusal_of}
use Rattle.sect_model.specs.Batch.{batch_of}
use Rattle.sect_model.specs.Settle.{settle}
use Rattle.sect_model.specs.Outcome.{outcome_of}
use Rattle.sect_model.specs.Allowed.{is_allowed}
use Rattle.sect_model.specs.Rules.{leaf_of}
use Rattle.sect_base.specs.Pattern.{meetings_overlap, some_below}
use Rattle.sect_model.proofs.examples.moves.Goals as goal

pub returns-clause-swap : goal.returns-clause-swap
unfolding step refusal_of batch_of settle outcome_of is_allowed leaf_of meetings_overlap some_below
returns-clause-swap c = refl

pub returns-clause-swap_blocked : goal.returns-clause-swap_blocked
unfolding step refusal_of batch_of settle outcome_of is_allowed leaf_of meetings_overlap some_below
returns-clause-swap_blocked c = refl

pub returns-clause-swap_of_two : goal.returns-clause-swap_of_two
unfolding step refusal_of batch_of settle outcome_of is_allowed leaf_of meetings_overlap some_below
returns-clause-swap_of_two c = refl

pub returns-clause-batch_with_a_substitute : goal.returns-clause-batch_with_a_substitute
unfolding step refusal_of batch_of settle outcome_of is_allowed leaf_of meetings_overlap some_below
returns-clause-batch_with_a_substitute c = refl

pub returns-clause-batch_that_waits : goal.returns-clause-batch_that_waits
unfolding step refusal_of batch_of settle outcome_of is_allowed leaf_of meetings_overlap some_below
returns-clause-batch_that_waits c = refl

pub returns-clause-batch_named_twice : goal.returns-clause-batch_named_twice
unfolding step refusal_of batch_of settle outcome_of is_allowed leaf_of meetings_overlap some_below
returns-clause-batch_named_twice c = refl
