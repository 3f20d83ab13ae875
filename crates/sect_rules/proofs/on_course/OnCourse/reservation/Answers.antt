-- the reservations of the offering are the options, and none
use Rattle.std.specs.Prelude.{◌≡◌, slice_get, IfSome}
use Rattle.std.specs.Option.{option_map}
use Rattle.std.proofs.Common.{◌∙◌, ap, subst}
use Rattle.sect_model.specs.declared.pick.Pick.TheVariants.{Reservation as by_reservation}
use Rattle.sect_model.specs.Path.{options_at, reservation_options}
use Rattle.sect_moment.specs.Found.{IsChosen, id_of}
use Rattle.sect_rules.specs.Wanted.{OnCourse, course_path}
use Rattle.sect_rules.proofs.DueLemmas.{at-want}
use Rattle.sect_rules.proofs.FoundLemmas.{each-chosen}
use Rattle.sect_rules.proofs.on_course.OnCourse.reservation.Goals as goal

pub returns-clause-value : goal.returns-clause-value
returns-clause-value c =
    let s = c.self.inside in
    let v : OnCourse = record { wanted = s.wanted.now; course = s.course } in
    subst (λ v. option_map (λ row. by_reservation (id_of row)) c.get.result ≡ slice_get (options_at v.wanted.world v.wanted.mv (course_path v)) c.args.i) c.self.view_is
    (c.get.ensures.value ∙ ap (λ rows. slice_get (reservation_options rows) c.args.i) c.self.invariant.1
    ∙ ap (λ xs. slice_get xs c.args.i) (at-want v.wanted.world v.wanted.mv (course_path v) v.wanted.want c.recall_want.ensures))

pub returns-clause-row : goal.returns-clause-row
returns-clause-row c =
    let s = c.self.inside in
    subst (λ v. IfSome c.get.result (IsChosen v.wanted.world)) c.self.view_is
    (each-chosen s.wanted.now.world s.rows c.get.result c.self.invariant.2 c.get.ensures.among)
