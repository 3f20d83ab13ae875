-- an option stands among the options
use Rattle.sect_model.specs.Path.{options_at}
use Rattle.sect_moment.proofs.NthLemmas.{got-contained}
use Rattle.sect_rules.proofs.options.option.Goals as goal

pub returns-clause-option : goal.returns-clause-option
returns-clause-option g c = got-contained (options_at c.args.world.now.world c.args.mv.now c.args.path.now) c.args.i c.option_in.result c.option_in.ensures
