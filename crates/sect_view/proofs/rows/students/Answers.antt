-- The rising ids find the rows in order.
use Rattle.std.proofs.Common.{◌≡◌, ◌∙◌, ap, subst, IfOk}
use Rattle.sect_people.specs.Changes.{ids_of}
use Rattle.sect_view.specs.Found.{student_rows}
use Rattle.sect_view.proofs.RowLemmas.{students-by-id}
use Rattle.sect_view.proofs.rows.students.Goals as goal

pub returns : goal.returns
returns c =
    let w = c.args.world.now.world in
    subst (λ xs. IfOk c.students_of.result (λ rows. rows ≡ xs))
    (ap (student_rows w) (c.ids.ensures.value ∙ ap ids_of c.people.ensures) ∙ students-by-id w c.recall_kept.ensures)
    c.students_of.ensures
