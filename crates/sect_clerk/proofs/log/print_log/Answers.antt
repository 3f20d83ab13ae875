-- One entry more.
use Rattle.std.proofs.Common.{refl}
use Rattle.sect_machine.specs.Standing.{state_in}
use Rattle.sect_once.specs.History.{history}
use Rattle.sect_tell.proofs.Verified.{acted_more}
use Rattle.sect_clerk.proofs.Entries.{told_more}
use Rattle.sect_clerk.proofs.log.print_log.Goals as goal

pub loop-place-preserved : goal.loop-place-preserved
loop-place-preserved g c = record {
  state = acted_more (history c.args.desk.now.log) c.loop-place.place c.in_ok-entry.entry (state_in c.loop-place.machine) (state_in c.loop-place.machine)
      (state_in c.print_next.new.machine) c.loop-place.invariant.state refl c.in_ok-print_next.ensures.state c.in_ok-entry.ensures;
  text = told_more c.args.log (history c.args.desk.now.log) c.loop-place.place c.in_ok-entry.entry (state_in c.loop-place.machine) c.args.into.now.items
      c.loop-place.into.items c.print_next.new.into.items c.loop-place.invariant.state c.in_ok-entry.ensures c.loop-place.invariant.text c.in_ok-print_next.ensures.text;
}
