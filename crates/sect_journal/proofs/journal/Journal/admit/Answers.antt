use Rattle.std.proofs.Common.{◌≡◌, ◌<◌, ◌^◌, ◌++◌, ◌∷◌, [], map, ap, ◌∙◌, arith, subst, sym, false}
use Rattle.sect_journal.specs.Standing.{IsKept, rows_at, loose_at, where_told, gate_behind}
use Rattle.sect_journal.proofs.Keeps.{halts_if_torn, on_err_of}
use Rattle.sect_journal.proofs.Done.{admit_done}
use Rattle.sect_journal.proofs.Windows.{closed_window}
use Rattle.sect_journal.proofs.journal.Journal.admit.Goals as goal

pub invariant_of-self : goal.invariant_of-self
invariant_of-self g c =
    (c.self.invariant.0, (halts_if_torn (g.D.Disk.told c.self.inside.disk) (g.D.Disk.told c.write_through.new.disk) c.self.inside.spans.items c.self.inside.gate c.self.inside.torn (ap (λ s. s.torn) c.self.view_is ∙ c.requires.torn) c.self.invariant.1 c.in_err-write_through.ensures.err).kept, closed_window (g.D.Disk.told c.write_through.new.disk) c.close.new.self.place c.close.new.self.bytes.items c.close.ensures)

pub returns-in_err-write_through-clause-same_rows : goal.returns-in_err-write_through-clause-same_rows
returns-in_err-write_through-clause-same_rows g c =
    rw (← c.self.view_is) (on_err_of c.from_residual.result ((halts_if_torn (g.D.Disk.told c.self.inside.disk) (g.D.Disk.told c.write_through.new.disk) c.self.inside.spans.items c.self.inside.gate c.self.inside.torn (ap (λ s. s.torn) c.self.view_is ∙ c.requires.torn) c.self.invariant.1 c.in_err-write_through.ensures.err).rows))

pub returns-in_err-write_through-clause-same_loose : goal.returns-in_err-write_through-clause-same_loose
returns-in_err-write_through-clause-same_loose g c =
    rw (← c.self.view_is) (on_err_of c.from_residual.result ((halts_if_torn (g.D.Disk.told c.self.inside.disk) (g.D.Disk.told c.write_through.new.disk) c.self.inside.spans.items c.self.inside.gate c.self.inside.torn (ap (λ s. s.torn) c.self.view_is ∙ c.requires.torn) c.self.invariant.1 c.in_err-write_through.ensures.err).loose))

pub returns-in_err-write_through-clause-moments : goal.returns-in_err-write_through-clause-moments
returns-in_err-write_through-clause-moments g c =
    rw (← c.self.view_is) ((halts_if_torn (g.D.Disk.told c.self.inside.disk) (g.D.Disk.told c.write_through.new.disk) c.self.inside.spans.items c.self.inside.gate c.self.inside.torn (ap (λ s. s.torn) c.self.view_is ∙ c.requires.torn) c.self.invariant.1 c.in_err-write_through.ensures.err).stays)

pub invariant_of-self-2 : goal.invariant_of-self-2
invariant_of-self-2 g c =
    let rows = map (λ row. row.now) c.args.rows.now in
    let done = (admit_done (g.D.Disk.told c.self.inside.disk) (g.D.Disk.told c.write_through.new.disk) (map (λ row. row.now) c.args.rows.now) c.self.inside.spans.items c.self.inside.gate c.self.inside.torn (ap (λ s. s.torn) c.self.view_is ∙ c.requires.torn)
    (subst (λ s. s.loose ≡ where_told (g.D.Disk.told s.disk) (map (λ row. row.now) c.args.rows.now ∷ [])) (sym c.self.view_is) c.requires.rows) c.self.invariant.1 c.in_ok-write_through.ensures.ok) in
    let noted = c.push_spans-self-inside.ensures in (
      omega (arith, noted.gate, subst (λ s. gate_behind s.gate rows < 2 ^ 62) (sym c.self.view_is) c.requires.bound),
      subst (λ k. IsKept (g.D.Disk.told c.write_through.new.disk) c.push_spans-self-inside.new.spans.items k false) (sym noted.gate) (subst (λ l. IsKept (g.D.Disk.told c.write_through.new.disk) l (gate_behind c.self.inside.gate rows) false) (sym noted.spans) done.kept),
      closed_window (g.D.Disk.told c.write_through.new.disk) c.close.new.self.place c.close.new.self.bytes.items c.close.ensures,
    )

pub returns-clause-rows : goal.returns-clause-rows
returns-clause-rows g c =
    let rows = map (λ row. row.now) c.args.rows.now in
    let done = (admit_done (g.D.Disk.told c.self.inside.disk) (g.D.Disk.told c.write_through.new.disk) (map (λ row. row.now) c.args.rows.now) c.self.inside.spans.items c.self.inside.gate c.self.inside.torn (ap (λ s. s.torn) c.self.view_is ∙ c.requires.torn)
    (subst (λ s. s.loose ≡ where_told (g.D.Disk.told s.disk) (map (λ row. row.now) c.args.rows.now ∷ [])) (sym c.self.view_is) c.requires.rows) c.self.invariant.1 c.in_ok-write_through.ensures.ok) in
    rw (← c.self.view_is) (subst (λ l. rows_at (g.D.Disk.told c.write_through.new.disk) l ≡ rows_at (g.D.Disk.told c.self.inside.disk) c.self.inside.spans.items ++ where_told (g.D.Disk.told c.self.inside.disk) rows) (sym c.push_spans-self-inside.ensures.spans) done.rows_are)

pub returns-clause-loose : goal.returns-clause-loose
returns-clause-loose g c =
    let done = (admit_done (g.D.Disk.told c.self.inside.disk) (g.D.Disk.told c.write_through.new.disk) (map (λ row. row.now) c.args.rows.now) c.self.inside.spans.items c.self.inside.gate c.self.inside.torn (ap (λ s. s.torn) c.self.view_is ∙ c.requires.torn)
    (subst (λ s. s.loose ≡ where_told (g.D.Disk.told s.disk) (map (λ row. row.now) c.args.rows.now ∷ [])) (sym c.self.view_is) c.requires.rows) c.self.invariant.1 c.in_ok-write_through.ensures.ok) in
    subst (λ k. loose_at (g.D.Disk.told c.write_through.new.disk) k false ≡ []) (sym c.push_spans-self-inside.ensures.gate) done.loose

pub returns-clause-moments : goal.returns-clause-moments
returns-clause-moments g c =
    rw (← c.self.view_is) ((admit_done (g.D.Disk.told c.self.inside.disk) (g.D.Disk.told c.write_through.new.disk) (map (λ row. row.now) c.args.rows.now) c.self.inside.spans.items c.self.inside.gate c.self.inside.torn (ap (λ s. s.torn) c.self.view_is ∙ c.requires.torn)
    (subst (λ s. s.loose ≡ where_told (g.D.Disk.told s.disk) (map (λ row. row.now) c.args.rows.now ∷ [])) (sym c.self.view_is) c.requires.rows) c.self.invariant.1 c.in_ok-write_through.ensures.ok).stays)
