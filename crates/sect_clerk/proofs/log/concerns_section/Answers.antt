-- The section that is named.
use Rattle.std.proofs.Common.{ap, sym, ◌∙◌, true}
use Rattle.std.specs.Prelude.{Option}
use Rattle.std.specs.Option.{option_map_or}
use Rattle.sect_base.specs.declared.ids.SectionId.{SectionId}
use Rattle.sect_clerk.specs.Log.{concerns_section}
use Rattle.sect_clerk.proofs.log.concerns_section.Goals as goal

pub returns-in-Some : goal.returns-in-Some
returns-in-Some c = λ place.
    c.names_section.ensures place
    ∙ sym (ap (λ (o : Option SectionId). option_map_or (concerns_section (record { place = place; entry = c.args.entry.now; placed = c.args.placed.now })) o true) c.in-Some.is)
