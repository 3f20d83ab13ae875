use Rattle.sect_journal.proofs.Keeps.{halts_if_torn, halts_unchanged}
use Rattle.sect_journal.proofs.Done.{shut_done}
use Rattle.sect_journal.proofs.Windows.{closed_window}
use Rattle.sect_journal.proofs.journal.Journal.settle.Goals as goal

pub returns-then-not-self-clause-moments : goal.returns-then-not-self-clause-moments
returns-then-not-self-clause-moments g c =
    rw (← c.self.view_is) ((halts_unchanged (g.D.Disk.told c.self.inside.disk) c.self.inside.spans.items c.self.inside.gate c.self.inside.torn c.self.invariant.1).stays)

pub invariant_of-self : goal.invariant_of-self
invariant_of-self g c =
    (c.self.invariant.0, (halts_if_torn (g.D.Disk.told c.self.inside.disk) (g.D.Disk.told c.write_through.new.disk) c.self.inside.spans.items c.self.inside.gate c.self.inside.torn c.if-not-self.false c.self.invariant.1 c.in_err-write_through.ensures.err).kept, closed_window (g.D.Disk.told c.write_through.new.disk) c.close.new.self.place c.close.new.self.bytes.items c.close.ensures)

pub returns-in_err-write_through-clause-rows : goal.returns-in_err-write_through-clause-rows
returns-in_err-write_through-clause-rows g c =
    rw (← c.self.view_is) ((halts_if_torn (g.D.Disk.told c.self.inside.disk) (g.D.Disk.told c.write_through.new.disk) c.self.inside.spans.items c.self.inside.gate c.self.inside.torn c.if-not-self.false c.self.invariant.1 c.in_err-write_through.ensures.err).rows)

pub returns-in_err-write_through-clause-moments : goal.returns-in_err-write_through-clause-moments
returns-in_err-write_through-clause-moments g c =
    rw (← c.self.view_is) ((halts_if_torn (g.D.Disk.told c.self.inside.disk) (g.D.Disk.told c.write_through.new.disk) c.self.inside.spans.items c.self.inside.gate c.self.inside.torn c.if-not-self.false c.self.invariant.1 c.in_err-write_through.ensures.err).stays)

pub invariant_of-self-2 : goal.invariant_of-self-2
invariant_of-self-2 g c =
    (c.self.invariant.0, (shut_done (g.D.Disk.told c.self.inside.disk) (g.D.Disk.told c.write_through.new.disk) c.self.inside.spans.items c.self.inside.gate c.self.inside.torn c.if-not-self.false c.self.invariant.1 c.in_ok-write_through.ensures.ok).kept, closed_window (g.D.Disk.told c.write_through.new.disk) c.close.new.self.place c.close.new.self.bytes.items c.close.ensures)

pub returns-clause-rows : goal.returns-clause-rows
returns-clause-rows g c =
    rw (← c.self.view_is) ((shut_done (g.D.Disk.told c.self.inside.disk) (g.D.Disk.told c.write_through.new.disk) c.self.inside.spans.items c.self.inside.gate c.self.inside.torn c.if-not-self.false c.self.invariant.1 c.in_ok-write_through.ensures.ok).rows)

pub returns-clause-moments : goal.returns-clause-moments
returns-clause-moments g c =
    rw (← c.self.view_is) ((shut_done (g.D.Disk.told c.self.inside.disk) (g.D.Disk.told c.write_through.new.disk) c.self.inside.spans.items c.self.inside.gate c.self.inside.torn c.if-not-self.false c.self.invariant.1 c.in_ok-write_through.ensures.ok).stays)
