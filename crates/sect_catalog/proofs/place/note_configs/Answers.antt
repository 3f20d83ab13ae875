-- One element's entries more.
use Rattle.sect_catalog.specs.Place.{config_entries}
use Rattle.sect_catalog.proofs.PlacedLemmas.{noted}
use Rattle.sect_catalog.proofs.place.note_configs.Goals as goal

pub loop-number-preserved : goal.loop-number-preserved
loop-number-preserved c = noted (config_entries c.args.at) c.args.configs.now c.loop-number.number c.index-configs-number.result c.args.entries.now.items c.loop-number.entries.items c.note_config.new.entries.items c.loop-number-test.true c.index-configs-number.is c.loop-number.invariant c.in_ok-note_config.ensures
