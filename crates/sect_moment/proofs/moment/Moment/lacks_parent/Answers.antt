-- the row is what its id finds
use Rattle.std.proofs.Common.{sym, ◌∙◌, ap}
use Rattle.std.specs.Prelude.{not, false}
use Rattle.std.specs.Option.{option_map_or}
use Rattle.sect_model.specs.Choice.{has_parent}
use Rattle.sect_moment.proofs.moment.Moment.lacks_parent.Goals as goal

pub returns : goal.returns
returns c = c.lacks.ensures ∙ ap (λ s. option_map_or (λ row. not (has_parent c.args.sections.now row)) s false) (sym c.requires)
