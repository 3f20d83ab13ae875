-- the rules on a reservation, in the world at the choices
use Rattle.std.specs.Prelude.{◌≡◌, Some, None, option_copied}
use Rattle.std.specs.Option.{option_and_then}
use Rattle.std.proofs.Common.{◌∙◌, ap, sym, subst}
use Rattle.sect_model.specs.declared.pick.Pick.TheVariants.{Reservation as by_reservation}
use Rattle.sect_model.specs.World.{reservation_of}
use Rattle.sect_model.specs.Rules.{leaf_of, first_broken, reservation_rules}
use Rattle.sect_moment.specs.Completed.{opened}
use Rattle.sect_moment.specs.Found.{IsChosen, id_of}
use Rattle.sect_moment.specs.Ground.{IsGround, IsGroundOf}
use Rattle.sect_rules.specs.Wanted.{OnCourse, course_path, met}
use Rattle.sect_rules.proofs.AtLemmas.{reservation-at}
use Rattle.sect_rules.proofs.DueLemmas.{ground-met, reservation-leaf, reservation-none}
use Rattle.sect_rules.proofs.on_course.OnCourse.broken.Goals as goal

pub reservation_rule-requires : goal.reservation_rule-requires
reservation_rule-requires c =
    let s = c.self.inside in
    let v : OnCourse = record { wanted = s.wanted.now; course = s.course } in
    let ground = option_copied c.ground.result in
    let h : IsGroundOf (met v.wanted) (Some v.course) ground = subst (λ v. IsGroundOf (met v.wanted) (Some v.course) ground) (sym c.self.view_is) c.ground.ensures in
    subst (λ m. IsGround m.at v.course c.in-Some.ground.now) (sym c.moment-moment.ensures) (ground-met v c.recall_want.ensures ground h c.in-Some.ground.now (ap option_copied c.in-Some.is))

pub returns-in-Some : goal.returns-in-Some
returns-in-Some c =
    let s = c.self.inside in
    let v : OnCourse = record { wanted = s.wanted.now; course = s.course } in
    let ground = option_copied c.ground.result in
    let h : IsGroundOf (met v.wanted) (Some v.course) ground = subst (λ v. IsGroundOf (met v.wanted) (Some v.course) ground) (sym c.self.view_is) c.ground.ensures in
    let id = id_of c.args.row in
    let row : option_copied c.args.row ≡ option_and_then (reservation_of (met v.wanted)) id
    = subst (λ v. IsChosen v.wanted.world c.args.row) (sym c.self.view_is) c.requires
    ∙ reservation-at v.wanted.world v.wanted.mv (opened v.wanted.done) id in
    subst (λ v. c.reservation_rule.result ≡ leaf_of v.wanted.world v.wanted.mv (course_path v) (by_reservation id)) c.self.view_is
    (c.reservation_rule.ensures
    ∙ ap (λ m. first_broken (reservation_rules m.at m.student c.in-Some.ground.now.offering.now v.course (option_copied c.args.row))) c.moment-moment.ensures
    ∙ reservation-leaf v c.recall_want.ensures ground h id (option_copied c.args.row) c.in-Some.ground.now row (ap option_copied c.in-Some.is))

pub returns-in-None : goal.returns-in-None
returns-in-None c =
    let s = c.self.inside in
    let v : OnCourse = record { wanted = s.wanted.now; course = s.course } in
    let ground = option_copied c.ground.result in
    let h : IsGroundOf (met v.wanted) (Some v.course) ground = subst (λ v. IsGroundOf (met v.wanted) (Some v.course) ground) (sym c.self.view_is) c.ground.ensures in
    subst (λ v. None ≡ leaf_of v.wanted.world v.wanted.mv (course_path v) (by_reservation (id_of c.args.row))) c.self.view_is
    (reservation-none v c.recall_want.ensures ground h (id_of c.args.row) (ap option_copied c.in-None.is))
