use Rattle.std.proofs.Common.{◌∷◌, [], length, map, ap, ◌∙◌}
use Rattle.sect_journal.proofs.Keeps.{halts_unless_torn, halts_staging}
use Rattle.sect_journal.proofs.Done.{stage_done, stage_bound, some_mapped}
use Rattle.sect_journal.proofs.Windows.{closed_window}
use Rattle.sect_journal.proofs.journal.Journal.stage.Goals as goal

pub invariant_of-self : goal.invariant_of-self
invariant_of-self g c =
    (c.self.invariant.0, (halts_unless_torn (g.D.Disk.told c.self.inside.disk) (g.D.Disk.told c.write_through.new.disk) (length c.args.text.now) c.self.inside.spans.items c.self.inside.gate c.self.inside.torn (ap (λ s. s.torn) c.self.view_is ∙ c.requires.rest) c.self.invariant.1 c.in_err-write_through.ensures.err).kept, closed_window (g.D.Disk.told c.write_through.new.disk) c.close.new.self.place c.close.new.self.bytes.items c.close.ensures)

pub returns-in_err-write_through-clause-rows : goal.returns-in_err-write_through-clause-rows
returns-in_err-write_through-clause-rows g c =
    rw (← c.self.view_is) ((halts_unless_torn (g.D.Disk.told c.self.inside.disk) (g.D.Disk.told c.write_through.new.disk) (length c.args.text.now) c.self.inside.spans.items c.self.inside.gate c.self.inside.torn (ap (λ s. s.torn) c.self.view_is ∙ c.requires.rest) c.self.invariant.1 c.in_err-write_through.ensures.err).rows)

pub returns-in_err-write_through-clause-moments : goal.returns-in_err-write_through-clause-moments
returns-in_err-write_through-clause-moments g c =
    rw (← c.self.view_is) (halts_staging (g.D.Disk.told c.self.inside.disk) (g.D.Disk.told c.write_through.new.disk) (length c.args.text.now) c.self.inside.spans.items c.self.inside.gate c.self.inside.torn (map (λ row. row.now) c.args.rows.now ∷ []) (ap (λ s. s.torn) c.self.view_is ∙ c.requires.rest) c.self.invariant.1 c.in_err-write_through.ensures.err)

pub invariant_of-self-2 : goal.invariant_of-self-2
invariant_of-self-2 g c =
    (c.self.invariant.0, (stage_done (g.D.Disk.told c.self.inside.disk) (g.D.Disk.told c.write_through.new.disk) (map (λ row. row.now) c.args.rows.now) c.args.text.now c.self.inside.spans.items c.self.inside.gate c.self.inside.torn (ap (λ s. s.torn) c.self.view_is ∙ c.requires.rest) (some_mapped (λ row. row.now) c.args.rows.now c.requires.some) c.requires.text c.in_ok-write_through.ensures.bound c.self.invariant.1 c.in_ok-write_through.ensures.ok).kept, closed_window (g.D.Disk.told c.write_through.new.disk) c.close.new.self.place c.close.new.self.bytes.items c.close.ensures)

pub returns-clause-loose : goal.returns-clause-loose
returns-clause-loose g c =
    ((stage_done (g.D.Disk.told c.self.inside.disk) (g.D.Disk.told c.write_through.new.disk) (map (λ row. row.now) c.args.rows.now) c.args.text.now c.self.inside.spans.items c.self.inside.gate c.self.inside.torn (ap (λ s. s.torn) c.self.view_is ∙ c.requires.rest) (some_mapped (λ row. row.now) c.args.rows.now c.requires.some) c.requires.text c.in_ok-write_through.ensures.bound c.self.invariant.1 c.in_ok-write_through.ensures.ok).loose)

pub returns-clause-rows : goal.returns-clause-rows
returns-clause-rows g c =
    rw (← c.self.view_is) ((stage_done (g.D.Disk.told c.self.inside.disk) (g.D.Disk.told c.write_through.new.disk) (map (λ row. row.now) c.args.rows.now) c.args.text.now c.self.inside.spans.items c.self.inside.gate c.self.inside.torn (ap (λ s. s.torn) c.self.view_is ∙ c.requires.rest) (some_mapped (λ row. row.now) c.args.rows.now c.requires.some) c.requires.text c.in_ok-write_through.ensures.bound c.self.invariant.1 c.in_ok-write_through.ensures.ok).rows_are)

pub returns-clause-moments : goal.returns-clause-moments
returns-clause-moments g c =
    rw (← c.self.view_is) ((stage_done (g.D.Disk.told c.self.inside.disk) (g.D.Disk.told c.write_through.new.disk) (map (λ row. row.now) c.args.rows.now) c.args.text.now c.self.inside.spans.items c.self.inside.gate c.self.inside.torn (ap (λ s. s.torn) c.self.view_is ∙ c.requires.rest) (some_mapped (λ row. row.now) c.args.rows.now c.requires.some) c.requires.text c.in_ok-write_through.ensures.bound c.self.invariant.1 c.in_ok-write_through.ensures.ok).stays)

pub returns-clause-bound : goal.returns-clause-bound
returns-clause-bound g c =
    rw (← c.self.view_is) (stage_bound (map (λ row. row.now) c.args.rows.now) c.args.text.now c.self.inside.gate c.requires.text c.in_ok-write_through.ensures.bound)
