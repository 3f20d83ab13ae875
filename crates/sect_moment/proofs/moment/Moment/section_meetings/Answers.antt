-- the row is what its id finds
use Rattle.std.proofs.Common.{sym, ◌∙◌, ap}
use Rattle.std.specs.Prelude.{[]}
use Rattle.std.specs.Option.{option_map_or}
use Rattle.sect_moment.proofs.moment.Moment.section_meetings.Goals as goal

pub returns : goal.returns
returns c = c.as_slice.ensures ∙ ap (λ s. option_map_or (λ s. s.meetings) s []) (sym c.requires)
