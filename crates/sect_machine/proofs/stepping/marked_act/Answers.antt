-- What a drop opened is told, and what any other command opens is marked.
use Rattle.sect_wait.proofs.MarkLemmas.{on-ok}
use Rattle.sect_wait.proofs.OpenedLemmas.{all-but}
use Rattle.sect_machine.proofs.stepping.marked_act.Goals as goal

pub returns-in_default : goal.returns-in_default
returns-in_default g c = record {
  acted = c.all_marked_act.ensures.acted;
  tracked = c.all_marked_act.ensures.tracked;
  others = on-ok c.all_marked_act.result
      (all-but c.all_marked_act.new.world.world c.all_marked_act.new.queue.queue.entries c.all_marked_act.new.marks c.args.opened.now) c.all_marked_act.ensures.others;
}
