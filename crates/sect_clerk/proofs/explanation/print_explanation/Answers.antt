-- The machine stands before the entry at the place.
use Rattle.std.proofs.Common.{arith}
use Rattle.sect_machine.specs.Standing.{state_in}
use Rattle.sect_once.specs.History.{history}
use Rattle.sect_tell.proofs.Verified.{replied_in}
use Rattle.sect_clerk.proofs.Explained.{said_at, said_behind}
use Rattle.sect_clerk.proofs.explanation.print_explanation.Goals as goal

pub print_entry-requires : goal.print_entry-requires
print_entry-requires g c = record {
  replied = replied_in (state_in c.in_ok-machine.machine) (history c.args.desk.now.log) c.args.place c.in_ok-entry.entry c.in_ok-machine.ensures
      c.requires.sound.legal.replies c.in_ok-entry.ensures;
}

pub returns-in_ok-print_entry : goal.returns-in_ok-print_entry
returns-in_ok-print_entry g c =
    said_at (history c.args.desk.now.log) c.args.place (state_in c.in_ok-machine.machine) c.in_ok-entry.entry c.args.into.now.items c.print_entry.new.into.items
    c.in_ok-machine.ensures c.in_ok-entry.ensures c.in_ok-print_entry.ensures

pub returns-in_ok-print_unknown : goal.returns-in_ok-print_unknown
returns-in_ok-print_unknown g c =
    said_behind (history c.args.desk.now.log) c.args.place c.args.into.now.items c.print_unknown.new.into.items (omega (arith, c.if-place-acted.false, c.acted.ensures))
    c.in_ok-print_unknown.ensures.text
