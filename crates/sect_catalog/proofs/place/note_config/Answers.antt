-- One element's entries more.
use Rattle.sect_catalog.specs.Place.{subpart_entries}
use Rattle.sect_catalog.proofs.PlacedLemmas.{noted}
use Rattle.sect_catalog.proofs.place.note_config.Goals as goal

pub loop-subpart-preserved : goal.loop-subpart-preserved
loop-subpart-preserved c = noted (subpart_entries c.args.at) c.as_slice-row-items.result.now c.loop-subpart.subpart c.row-item.result c.push.new.self.items c.loop-subpart.entries.items c.note_subpart.new.entries.items c.loop-subpart-test.true c.row-item.is c.loop-subpart.invariant c.in_ok-note_subpart.ensures
