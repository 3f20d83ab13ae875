use Rattle.std.proofs.Common.{◌≡◌, ◌∙◌, ◌-◌, ap, length, min, take, drop, subst, arith}
use Rattle.sect_journal.specs.Windows.{Reaches}
use Rattle.sect_journal.proofs.Windows.{window_reads}
use Rattle.sect_journal.proofs.window.Window.read_at.Goals as goal

pub returns-clause-bytes : goal.returns-clause-bytes
returns-clause-bytes g c =
    let same : length c.args.into.now ≡ length c.copy_out.new.into = omega arith in
    window_reads (g.D.Disk.told c.args.disk.now) c.reach.new.self.place c.args.at (length c.copy_out.new.into) c.copy_out.result c.reach.new.self.bytes.items c.copy_out.new.into c.reach.ensures.window c.in_ok-reach.ensures.place
    (subst (λ k. Reaches (g.D.Disk.told c.args.disk.now) c.reach.new.self.place c.reach.new.self.bytes.items c.args.at k) same c.in_ok-reach.ensures.reaches)
    (c.copy_out.ensures.count ∙ ap (λ l. min (length c.copy_out.new.into) (length l - (c.args.at - c.reach.new.self.place))) c.deref.ensures.value)
    (c.copy_out.ensures.bytes ∙ ap (λ l. take c.copy_out.result (drop (c.args.at - c.reach.new.self.place) l)) c.deref.ensures.value)
