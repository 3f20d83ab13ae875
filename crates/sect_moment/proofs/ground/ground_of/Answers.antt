-- the course and its offering are found together, and the offering by its id too
use Rattle.std.proofs.Common.{◌≡◌, ◌∙◌, ap, sym, Some}
use Rattle.std.specs.Option.{option_map}
use Rattle.sect_catalog.specs.Catalogue.{find_course, offering_of_course}
use Rattle.sect_model.specs.World.{offering_of}
use Rattle.sect_model.specs.Allowed.{reservations_of, restrictions_of}
use Rattle.sect_moment.proofs.CourseLemmas.{itself}
use Rattle.sect_moment.proofs.GroundLemmas.{of-course}
use Rattle.sect_moment.proofs.IdLemmas.{offering-member}
use Rattle.sect_moment.proofs.ground.ground_of.Goals as goal

pub returns : goal.returns
returns c =
    let w = c.args.world.now.world in
    let g = c.ground_in.result in
    let id = c.in_ok-course.field-0 in
    let checked = c.recall_kept.ensures.rows_pass in
    let found : c.course.result ≡ Some (c.in_ok-offering.offering, c.in_ok-offering.row) = c.in_ok-offering.was in
    let its : offering_of w id ≡ Some g.offering.now
    = sym (ap (λ k. offering_of_course k.rows id) c.catalogue.ensures) ∙ sym c.course.ensures.offering ∙ ap (option_map (λ f. f.0.now)) found ∙ ap (λ o. Some o) (sym c.ground_in.ensures.offering) in
    of-course w c.args.course id g c.in_ok-course.was its
    (record {
      course = sym (ap (λ k. find_course k.rows id) c.catalogue.ensures) ∙ sym c.course.ensures.course ∙ ap (option_map (λ f. f.1.now)) found ∙ ap (λ x. Some x) (sym c.ground_in.ensures.course);
      offering = itself w checked g.offering.now (offering-member w checked id g.offering.now its);
      reservations = c.ground_in.ensures.reservations ∙ ap (λ o. reservations_of w o.id) (sym c.ground_in.ensures.offering);
      restrictions = c.ground_in.ensures.restrictions ∙ ap (λ o. restrictions_of w o.id) (sym c.ground_in.ensures.offering);
    })
