-- The one enrolment stands at its place among those of its student.
use Rattle.std.proofs.Common.{◌≡◌, ◌∙◌, ◌+◌, ap, sym, not, length, Some}
use Rattle.std.specs.List.{filter, find, position}
use Rattle.sect_people.specs.Index.{rank}
use Rattle.sect_model.specs.declared.held.Enrolment.{Enrolment}
use Rattle.sect_model.specs.World.{is_in}
use Rattle.sect_model.proofs.ListLemmas.{found-passes}
use Rattle.sect_roster.proofs.InsertLemmas.{left-of}
use Rattle.sect_roster.proofs.SpotLemmas.{place-among, place-told, read-among}
use Rattle.sect_roster.specs.Rostered.{of_student}
use Rattle.sect_roster.proofs.OwnLemmas.{known-own}
use Rattle.sect_roster.proofs.roster.Roster.remove.Goals as goal

pub remove-requires : goal.remove-requires
remove-requires c =
    let key = λ (e : Enrolment). e.student.0 in
    let p = is_in c.args.student c.args.course in
    let es = c.self.inside.slots.items in
    let one : length (filter p es) ≡ 1 = ap (λ v. length (filter p v.items)) c.self.view_is ∙ c.requires in
    let known = known-own c.args.student c.args.course es one in
    place-among key p c.args.student.0 es known c.rows_of.result.now c.place_of-place.result c.rows_of.ensures c.place_of-place.ensures

pub returns-clause-enrolment : goal.returns-clause-enrolment
returns-clause-enrolment c =
    let key = λ (e : Enrolment). e.student.0 in
    let p = is_in c.args.student c.args.course in
    let es = c.self.inside.slots.items in
    let one : length (filter p es) ≡ 1 = ap (λ v. length (filter p v.items)) c.self.view_is ∙ c.requires in
    let known = known-own c.args.student c.args.course es one in
    c.remove.ensures.row ∙ read-among key p c.args.student.0 es known c.rows_of.result.now c.place_of-place.result c.rows_of.ensures c.place_of-place.ensures ∙ ap (λ v. find p v.items) c.self.view_is

pub returns-clause-place : goal.returns-clause-place
returns-clause-place c =
    let key = λ (e : Enrolment). e.student.0 in
    let p = is_in c.args.student c.args.course in
    let es = c.self.inside.slots.items in
    let one : length (filter p es) ≡ 1 = ap (λ v. length (filter p v.items)) c.self.view_is ∙ c.requires in
    let known = known-own c.args.student c.args.course es one in
    place-told key p c.args.student.0 es known c.rows_of.result.now c.place_of-place.result c.rows_of.ensures c.place_of-place.ensures ∙ ap (λ v. position p (of_student c.args.student.0 v.items)) c.self.view_is

pub returns-clause-rest : goal.returns-clause-rest
returns-clause-rest c =
    let key = λ (e : Enrolment). e.student.0 in
    let p = is_in c.args.student c.args.course in
    let es = c.self.inside.slots.items in
    let one : length (filter p es) ≡ 1 = ap (λ v. length (filter p v.items)) c.self.view_is ∙ c.requires in
    let known = known-own c.args.student c.args.course es one in
    let row : Some c.remove.result ≡ find p es = c.remove.ensures.row ∙ read-among key p c.args.student.0 es known c.rows_of.result.now c.place_of-place.result c.rows_of.ensures c.place_of-place.ensures in
    let less = c.remove.new.self.items in
    let left : less ≡ filter (λ e. not (p e)) es = left-of p es less (rank key (key c.remove.result) less + c.place_of-place.result) c.remove.result
    c.remove.ensures.back (found-passes p es c.remove.result (sym row)) one in
    λ i. record {
      items = (left ∙ ap (λ v. filter (λ e. not (p e)) v.items) c.self.view_is) i;
      rooms = (c.remove.ensures.rooms ∙ ap (λ v. v.rooms) c.self.view_is) i;
    }
