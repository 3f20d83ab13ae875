-- the choice is taken in the row at the place, which is the student's
use Rattle.std.proofs.Common.{◌∙◌, sym, ap, subst, ◌≤◌, ◌*◌}
use Rattle.std.specs.Option.{option_map_or}
use Rattle.std.specs.Vec.{with_item}
use Rattle.sect_base.specs.Table.{value_at}
use Rattle.sect_base.specs.declared.ids.StudentId.{StudentId}
use Rattle.sect_weeks.proofs.RowLemmas.{row-at, owner-at, row-put}
use Rattle.sect_weeks.proofs.TakeLemmas.{takes-from}
use Rattle.sect_weeks.proofs.weeks.Weeks.enrolled.Goals as goal

pub take-requires : goal.take-requires
take-requires c =
    let t = c.args.self.now in
    let id = c.args.enrolment.now.student.0 in
    let is = sym c.place.ensures ∙ c.in-Some.is in
    subst (λ n. n ≤ 255 * 1000000000)
    (ap (λ o. option_map_or (λ r. r.credits) o 0) (row-at t.rows.items id c.in-Some.place (value_at t.places id) c.index_mut.result.now is c.index_mut.ensures.value))
    c.requires.bound

pub returns-in-Some : goal.returns-in-Some
returns-in-Some c =
    let t = c.args.self.now in
    let id = c.args.enrolment.now.student.0 in
    let is = sym c.place.ensures ∙ c.in-Some.is in
    let own =
    ap (λ (s : StudentId). s.0) c.take.ensures.student
    ∙ owner-at t.rows.items id c.in-Some.place (value_at t.places id) c.index_mut.result.now is c.index_mut.ensures.value in
    takes-from t (record { places = t.places; rows = with_item t.rows c.in-Some.place c.take.new.self }) c.args.catalogue.now.rows c.args.enrolment.now c.index_mut.result.now c.take.new.self
    (row-at t.rows.items id c.in-Some.place (value_at t.places id) c.index_mut.result.now is c.index_mut.ensures.value)
    (row-put t.rows.items (λ q. value_at t.places q) id c.in-Some.place c.take.new.self own is)
    c.take.ensures
