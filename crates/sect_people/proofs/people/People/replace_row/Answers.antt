-- A write at the student's place is the change of that student's row.
use Rattle.std.proofs.Common.{◌∙◌, ap, sym, Some, refl, arith, slice_set, map}
use Rattle.std.specs.Option.{option_map}
use Rattle.sect_people.specs.Student.{find_student}
use Rattle.sect_people.specs.Changes.{with_row}
use Rattle.sect_people.specs.Index.{place_of}
use Rattle.sect_people.proofs.PlaceLemmas.{place-within}
use Rattle.sect_people.proofs.ChangeLemmas.{keeps-as, found, row-written, row-keeps}
use Rattle.sect_people.proofs.people.People.replace_row.Goals as goal

pub index_mut-requires : goal.index_mut-requires
index_mut-requires c =
    let i = c.self.inside in
    let w = place-within (λ s. s.row.id.0) i.students.items c.args.row.id.0 c.args.place (ap (λ ss. place_of (λ s. s.row.id.0) ss c.args.row.id.0) c.self.view_is ∙ c.requires) in
    omega (arith, w, i.students.ok.0)

pub invariant_of-self : goal.invariant_of-self
invariant_of-self c =
    let i = c.self.inside in
    let at = ap (λ ss. place_of (λ s. s.row.id.0) ss c.args.row.id.0) c.self.view_is ∙ c.requires in
    keeps-as
    (ap (slice_set i.students.items c.args.place) c.replace_row.ensures.replaced ∙ row-written i.students.items i.ids.items i.places.items c.self.invariant c.args.row.id c.args.place at c.index_mut.result.now c.index_mut.ensures.value c.args.row refl) refl refl
    (row-keeps c.args.row i.students.items i.ids.items i.places.items c.self.invariant)

pub returns-clause-given_back : goal.returns-clause-given_back
returns-clause-given_back c =
    let i = c.self.inside in
    let at = ap (λ ss. place_of (λ s. s.row.id.0) ss c.args.row.id.0) c.self.view_is ∙ c.requires in
    ap Some c.replace_row.ensures.given_back
    ∙ ap (option_map (λ s. s.row)) (sym (found i.students.items i.ids.items i.places.items c.self.invariant c.args.row.id c.args.place at c.index_mut.result.now c.index_mut.ensures.value))
    ∙ ap (λ ss. option_map (λ s. s.row) (find_student ss c.args.row.id)) c.self.view_is

pub returns-clause-replaced : goal.returns-clause-replaced
returns-clause-replaced c =
    let i = c.self.inside in
    let at = ap (λ ss. place_of (λ s. s.row.id.0) ss c.args.row.id.0) c.self.view_is ∙ c.requires in
    ap (slice_set i.students.items c.args.place) c.replace_row.ensures.replaced
    ∙ row-written i.students.items i.ids.items i.places.items c.self.invariant c.args.row.id c.args.place at c.index_mut.result.now c.index_mut.ensures.value c.args.row refl
    ∙ ap (λ ss. map (with_row c.args.row) ss) c.self.view_is
