-- a new row is empty, and found
use Rattle.std.proofs.Common.{◌∙◌, sym, ap, refl, ◌≡◌, None}
use Rattle.std.specs.Option.{is_some}
use Rattle.sect_base.specs.Table.{value_at}
use Rattle.sect_weeks.specs.Rows.{place_of, row_of}
use Rattle.sect_weeks.proofs.RowLemmas.{none-of, none-row, row-added, keeps-added, known-added}
use Rattle.sect_weeks.proofs.weeks.Weeks.add_row.Goals as goal

pub returns-clause-keeps : goal.returns-clause-keeps
returns-clause-keeps c =
    let t = c.args.self.now in
    let fresh : place_of t c.args.student.0 ≡ None = none-of (place_of t c.args.student.0) (ap is_some (sym c.place.ensures) ∙ sym c.is_some.ensures ∙ c.if-is_some.false) in
    keeps-added t (record { places = c.put.new.self; rows = c.push.new.self }) (record { student = c.args.student; calendar = c.empty.result; credits = 0 }) refl c.empty.ensures (none-row t.rows.items c.args.student.0 (value_at t.places c.args.student.0) fresh)
    (row-added t.rows.items c.push.new.self.items (λ q. value_at t.places q) (λ q. value_at c.put.new.self q) (record { student = c.args.student; calendar = c.empty.result; credits = 0 }) c.len-place.result
    c.in_ok-push.ensures.items (c.len-place.ensures ∙ t.rows.ok.0) c.in_ok-put.ensures.ok)

pub returns-clause-ok : goal.returns-clause-ok
returns-clause-ok c =
    let t = c.args.self.now in
    known-added (record { places = c.put.new.self; rows = c.push.new.self }) (record { student = c.args.student; calendar = c.empty.result; credits = 0 }) (row_of t c.args.student.0)
    (row-added t.rows.items c.push.new.self.items (λ q. value_at t.places q) (λ q. value_at c.put.new.self q) (record { student = c.args.student; calendar = c.empty.result; credits = 0 }) c.len-place.result
    c.in_ok-push.ensures.items (c.len-place.ensures ∙ t.rows.ok.0) c.in_ok-put.ensures.ok c.args.student.0)
