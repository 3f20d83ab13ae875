-- one change after the other
use Rattle.sect_space.proofs.Steps.{since-both}
use Rattle.sect_wait.proofs.TouchedLemmas.{place-seek}
use Rattle.sect_wait.proofs.place.place_in_world.Goals as goal

pub returns-clause-since : goal.returns-clause-since
returns-clause-since c =
    since-both c.args.world.now.world c.give_up.new.world.world c.enrol.new.world.world c.args.undo.now.backs c.give_up.new.undo.backs c.enrol.new.undo.backs
    c.give_up.ensures.since c.enrol.ensures.since

pub returns-clause-only : goal.returns-clause-only
returns-clause-only c =
    place-seek c.args.world.now.world c.give_up.new.world.world c.args.candidate.now c.args.queue.now.queue.entries c.args.marks.now c.give_up.new.marks c.enrol.new.marks c.args.opened.now.courses.items
    c.give_up.new.opened.courses.items c.enrol.new.opened.courses.items c.enrol.result c.in_ok-give_up.ensures.ok c.in_ok-give_up.ensures.only c.enrol.ensures.only
