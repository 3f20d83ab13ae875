-- an option stands among the options
use Rattle.sect_rules.specs.Due.{place_of}
use Rattle.sect_rules.proofs.DueLemmas.{step-option}
use Rattle.sect_rules.proofs.due.step_at.Goals as goal

pub returns-clause-option : goal.returns-clause-option
returns-clause-option c = step-option (place_of c.args.due) c.args.i c.step_in.result c.step_in.ensures.value c.step_in.ensures.place
