-- What the index tells of the student are these tickets.
use Rattle.std.specs.Prelude.{◌==◌}
use Rattle.std.proofs.Common.{ap, option_copied, subst}
use Rattle.sect_wait.specs.Indexed.{AreTold}
use Rattle.sect_wait.proofs.queue.Queue.waiting_ticket.Goals as goal

pub least_shared-requires : goal.least_shared-requires
least_shared-requires c = subst (AreTold (λ e. c.args.student.0 == e.student.0) c.args.self.now.queue.entries) (ap option_copied c.in-Some.is) c.of_student.ensures
