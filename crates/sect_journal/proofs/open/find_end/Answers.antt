use Rattle.std.proofs.Common.{◌+◌, ◌≤◌, ◌∙◌, subst, sym, arith}
use Rattle.sect_journal.specs.Windows.{IsWindow}
use Rattle.sect_journal.specs.Opening.{GateIs, ReadsTo, EndsWithin}
use Rattle.sect_journal.proofs.Gates.{reads_on}
use Rattle.sect_journal.proofs.open.find_end.Goals as goal

pub loop-window-preserved : goal.loop-window-preserved
loop-window-preserved g c =
    let told = g.D.Disk.told c.args.disk.now in
    let i = c.loop-window.invariant in
    let gate = c.loop-window.gate in
    let n = c.in-Open.length in
    let fits : gate + 9 + n ≤ c.args.size = subst (λ found. EndsWithin c.loop-window.gate c.args.size found) c.in-Open.is c.in_ok-read_gate.ensures.fits in
    let found = subst (λ found. GateIs (g.D.Disk.told c.args.disk.now) c.loop-window.gate found) c.in-Open.is (subst (λ t. GateIs t c.loop-window.gate c.in_ok-read_gate.field-0) i.same c.in_ok-read_gate.ensures.found) in
    record {
      same = c.read_gate.ensures.same ∙ i.same;
      faults = omega (arith, i.faults, c.read_gate.ensures.cause.later);
      size = i.size;
      within = omega arith;
      window = subst (λ t. IsWindow t c.read_gate.new.window.place c.read_gate.new.window.bytes.items) (c.read_gate.ensures.same ∙ i.same) c.in_ok-read_gate.ensures.window;
      reads = subst (λ l. ReadsTo (g.D.Disk.told c.args.disk.now) l (c.loop-window.gate + (9 + c.in-Open.length))) (sym c.in_ok-push-in-Open.ensures.items)
          (reads_on (g.D.Disk.told c.args.disk.now) c.loop-window.spans.items c.loop-window.gate c.args.size c.in-Open.length c.requires.size fits i.reads found);
    }
