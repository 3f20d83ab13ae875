-- An entry less has the others of all.
use Rattle.sect_wait.proofs.OpenedLemmas.{left-others}
use Rattle.sect_wait.proofs.place.place.Goals as goal

pub returns-clause-others : goal.returns-clause-others
returns-clause-others c =
    left-others c.place_in_world.new.world.world c.args.queue.now.queue c.leave.new.self.queue c.place_in_world.new.marks c.place_in_world.new.opened c.args.candidate.now.ticket
    c.in_ok-leave.ensures.ok c.in_ok-place_in_world.ensures.others
