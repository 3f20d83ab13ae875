-- The offering of a course, with what stands beside it.
use Rattle.std.specs.Prelude.{◌≡◌, Option, Some}
use Rattle.std.specs.Option.{option_map, option_and_then}
use Rattle.sect_catalog.specs.Catalogue.{find_offering, find_course}
use Rattle.sect_model.specs.Data.{CourseId}
use Rattle.sect_model.specs.World.{World, offering_of}
use Rattle.sect_model.specs.Allowed.{reservations_of, restrictions_of}
use Rattle.sect_moment.specs.declared.ground.Ground.{Ground}

-- the course's row and the offering's are those that their ids find, and the reservations and the restrictions are the offering's
pub record IsGround (w : World) (id : CourseId) (g : Ground) : Type 0 where
  pub course : find_course w.catalogue.rows id ≡ Some g.course.now
  pub offering : find_offering w.catalogue.rows g.offering.now.id ≡ Some g.offering.now
  pub reservations : g.reservations.now ≡ reservations_of w g.offering.now.id
  pub restrictions : g.restrictions.now ≡ restrictions_of w g.offering.now.id

-- the ground is that of the course decided on, if one was, and its offering is the one that its id finds
pub record IsGroundOf (w : World) (id : Option CourseId) (ground : Option Ground) : Type 0 where
  pub course : option_map (λ g. g.course.now) ground ≡ option_and_then (find_course w.catalogue.rows) id
  pub offering : option_map (λ g. g.offering.now) ground ≡ option_and_then (offering_of w) id
  pub found : option_and_then (λ g. find_offering w.catalogue.rows g.offering.now.id) ground ≡ option_map (λ g. g.offering.now) ground
  pub reservations : option_map (λ g. g.reservations.now) ground ≡ option_map (λ o. reservations_of w o.id) (option_and_then (offering_of w) id)
  pub restrictions : option_map (λ g. g.restrictions.now) ground ≡ option_map (λ o. restrictions_of w o.id) (option_and_then (offering_of w) id)
