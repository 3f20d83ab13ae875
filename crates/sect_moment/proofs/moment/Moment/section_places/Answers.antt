-- the row is what its id finds
use Rattle.std.proofs.Common.{sym, ◌∙◌, ap}
use Rattle.std.specs.Option.{option_and_then}
use Rattle.sect_catalog.specs.Catalogue.{places}
use Rattle.sect_moment.proofs.moment.Moment.section_places.Goals as goal

pub returns : goal.returns
returns c = c.limited.ensures ∙ ap (option_and_then (λ s. places s.limit)) (sym c.requires)
