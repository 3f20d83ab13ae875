-- the examples are computed
use Rattle.std.specs.Prelude.{refl}
use Rattle.sect_model.specs.Step.{step}
use Rattle.sect_model.specs.Refusals.{refusal_of}
use Rattle.sect_model.specs.Batch.{batch_of}
use Rattle.sect_model.specs.Settle.{settle}
use Rattle.sect_model.specs.Outcome.{outcome_of}
use Rattle.sect_model.specs.Allowed.{is_allowed}
use Rattle.sect_model.specs.Rules.{leaf_of}
use Rattle.sect_base.specs.Pattern.{meetings_overlap, some_below}
use Rattle.sect_model.proofs.examples.refusals.Goals as goal

pub returns-clause-refused_students : goal.returns-clause-refused_students
unfolding step refusal_of batch_of settle outcome_of is_allowed leaf_of meetings_overlap some_below
returns-clause-refused_students c = refl

pub returns-clause-refused_rows : goal.returns-clause-refused_rows
unfolding step refusal_of batch_of settle outcome_of is_allowed leaf_of meetings_overlap some_below
returns-clause-refused_rows c = refl

pub returns-clause-refused_reservations : goal.returns-clause-refused_reservations
unfolding step refusal_of batch_of settle outcome_of is_allowed leaf_of meetings_overlap some_below
returns-clause-refused_reservations c = refl
