-- One element's entries more.
use Rattle.std.proofs.Common.{◌∙◌, ap, ◌++◌, ◌∷◌, []}
use Rattle.sect_catalog.specs.Place.{section_entry}
use Rattle.sect_catalog.proofs.PlacedLemmas.{noted}
use Rattle.sect_catalog.proofs.place.note_subpart.Goals as goal

pub loop-section-preserved : goal.loop-section-preserved
loop-section-preserved c = noted (section_entry c.args.at) c.as_slice-row-items.result.now c.loop-section.section c.row-item.result c.push.new.self.items c.loop-section.entries.items c.push-in-loop-section.new.self.items c.loop-section-test.true c.row-item.is c.loop-section.invariant (c.in_ok-push-2.ensures.items ∙ ap (λ id. c.loop-section.entries.items ++ (id, record c.args.at { section = c.loop-section.section }) ∷ []) c.key-in-loop-section.ensures)
