-- What the command opens is marked, also by what is left of it.
use Rattle.sect_machine.proofs.OpeningLemmas.{acted-others, marks-left}
use Rattle.sect_machine.proofs.stepping.all_marked_act.Goals as goal

pub returns-clause-others : goal.returns-clause-others
returns-clause-others g c =
    let w = c.args.world.now.world in
    let v = c.act.new.world.world in
    let q = c.args.queue.now.queue in
    let p = c.act.new.queue.queue in
    let command = c.args.command.now in
    let left = c.act.new.command in
    let reply = c.in_ok-reply.reply in
    acted-others w v q p c.args.undo.now.backs c.act.new.undo.backs command reply c.args.marks.now c.mark_before.new.marks c.mark_after.new.marks c.requires.kept c.requires.fits
    c.in_ok-reply.ensures.acted c.in_ok-reply.ensures.recorded c.requires.others c.in_ok-mark_before.ensures
    (marks-left v c.mark_before.new.marks.spent c.act.new.undo.backs command left reply p.entries c.mark_before.new.marks c.mark_after.new.marks c.in_ok-reply.ensures.left c.in_ok-mark_after.ensures)
