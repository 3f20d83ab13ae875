use Rattle.std.proofs.Common.{◌≡◌, length, subst, sym, arith}
use Rattle.sect_journal.specs.Disk.{Reads}
use Rattle.sect_journal.specs.Opening.{GateIs}
use Rattle.sect_journal.proofs.Gates.{gate_found}
use Rattle.sect_journal.proofs.gate.read_gate.Goals as goal

pub returns-clause-found : goal.returns-clause-found
returns-clause-found g c =
    let long : length c.read_at.new.into ≡ 9 = omega arith in
    let reads = subst (λ k. Reads (g.D.Disk.told c.args.disk.now) c.args.gate k c.in_ok-count.count c.read_at.new.into) long c.in_ok-count.ensures.bytes in
    let h = gate_found (g.D.Disk.told c.args.disk.now) c.args.gate c.args.size c.in_ok-count.count c.read_at.new.into c.requires.size c.requires.within reads in
    subst (λ found. GateIs (g.D.Disk.told c.args.disk.now) c.args.gate found) (sym c.gate_in.ensures) h
