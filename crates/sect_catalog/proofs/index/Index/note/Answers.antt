-- One entry more.
use Rattle.std.proofs.Common.{get_or}
use Rattle.std.proofs.lemmas.List.{get_or_default}
use Rattle.sect_catalog.specs.Place.{Entry, at_row}
use Rattle.sect_catalog.proofs.IndexLemmas.{notes-more}
use Rattle.sect_catalog.proofs.index.Index.note.Goals as goal

pub loop-entry-preserved : goal.loop-entry-preserved
loop-entry-preserved c =
    let d : Entry = ((0, 0), at_row 0) in
    let e : Entry = get_or c.args.entries.now c.loop-entry.entry-index d in
    notes-more c.args.self.now c.loop-entry.self c.note_one.new.self c.args.entries.now c.loop-entry.entry-index e c.loop-entry-test.true
    (get_or_default c.args.entries.now c.loop-entry.entry-index d e c.loop-entry-test.true) c.loop-entry.invariant c.in_ok-note_one.ensures.ok
