-- What stands behind the others stands.
use Rattle.sect_wait.proofs.IndexLemmas.{note-has, note-keeps}
use Rattle.sect_wait.proofs.tickets.note.Goals as goal

pub returns-clause-kept : goal.returns-clause-kept
returns-clause-kept c = note-keeps c.args.index.now c.put.new.index c.args.number c.args.ticket c.put.result c.put.ensures.ok c.put.ensures.err

pub returns-clause-noted : goal.returns-clause-noted
returns-clause-noted c = note-has c.args.index.now c.put.new.index c.args.number c.args.ticket c.put.result c.put.ensures.ok
