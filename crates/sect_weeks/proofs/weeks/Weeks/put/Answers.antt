-- the row at the place is the student's
use Rattle.std.proofs.Common.{◌∙◌, sym, refl}
use Rattle.std.specs.Vec.{with_item}
use Rattle.sect_base.specs.Table.{value_at}
use Rattle.sect_weeks.proofs.RowLemmas.{row-put, puts-from}
use Rattle.sect_weeks.proofs.weeks.Weeks.put.Goals as goal

pub returns-in-Some : goal.returns-in-Some
returns-in-Some c =
    let t = c.args.self.now in
    puts-from t (record { places = t.places; rows = with_item t.rows c.in-Some.place (record { student = c.args.student; calendar = c.args.calendar; credits = c.args.credits }) }) c.args.student.0 (record { student = c.args.student; calendar = c.args.calendar; credits = c.args.credits })
    (row-put t.rows.items (λ q. value_at t.places q) c.args.student.0 c.in-Some.place (record { student = c.args.student; calendar = c.args.calendar; credits = c.args.credits }) refl (sym c.place.ensures ∙ c.in-Some.is))
