-- a section stands among the options
use Rattle.sect_model.specs.declared.pick.Pick.TheVariants.{Section}
use Rattle.sect_model.specs.Path.{options_at}
use Rattle.sect_rules.specs.Due.{config_place}
use Rattle.sect_search.proofs.OpenLemmas.{got-option}
use Rattle.sect_search.proofs.walk.section_at.Goals as goal

pub returns-clause-option : goal.returns-clause-option
returns-clause-option c =
    let at = config_place c.args.inside.now in
    got-option (λ row. Section row.now.id) (options_at at.world at.mv at.path) c.args.i c.section.result c.section.ensures.value
