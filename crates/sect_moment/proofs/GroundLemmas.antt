-- What is found of an offering is what the definitions give.
use Rattle.std.specs.Prelude.{◌≡◌, [], Option, Some, None}
use Rattle.std.specs.Option.{option_map, option_map_or, option_and_then}
use Rattle.std.proofs.Common.{sym, ◌∙◌, ap, subst}
use Rattle.sect_catalog.specs.Catalogue.{find_course}
use Rattle.sect_model.specs.Data.{CourseId, ConfigId, OfferingRow}
use Rattle.sect_model.specs.World.{World, offering_of}
use Rattle.sect_model.specs.Choice.{config_in, subparts_of}
use Rattle.sect_model.specs.Allowed.{reservations_of, restrictions_of}
use Rattle.sect_moment.specs.declared.ground.Ground.{Ground}
use Rattle.sect_moment.specs.Ground.{IsGround, IsGroundOf}

some-same : {X : Type 0} (x y : X) → Some x ≡ Some y → x ≡ y
some-same x y e = cc

-- where there is no ground, the course has no offering
pub no-offering : (w : World) (course : CourseId) (at : Option CourseId) (ground : Option Ground) → at ≡ Some course → ground ≡ None → IsGroundOf w at ground → offering_of w course ≡ None
no-offering w course at ground e f h = sym ((subst (λ x. IsGroundOf w (Some course) x) f (subst (λ x. IsGroundOf w x ground) e h)).offering)

module _ (w : World) (course : CourseId) (at : Option CourseId) (ground : Option Ground) (g : Ground) (e : at ≡ Some course) (f : ground ≡ Some g) (h : IsGroundOf w at ground) where
  whole : IsGroundOf w (Some course) (Some g)
  whole = subst (λ x. IsGroundOf w (Some course) x) f (subst (λ x. IsGroundOf w x ground) e h)

  -- the ground has the offering of the course
  pub its-offering : offering_of w course ≡ Some g.offering.now
  its-offering = sym whole.offering

  -- and what stands beside it
  pub its-ground : IsGround w course g
  its-ground = record {
    course = sym whole.course;
    offering = whole.found;
    reservations = some-same g.reservations.now (reservations_of w g.offering.now.id) (whole.reservations ∙ ap (option_map (λ o. reservations_of w o.id)) its-offering);
    restrictions = some-same g.restrictions.now (restrictions_of w g.offering.now.id) (whole.restrictions ∙ ap (option_map (λ o. restrictions_of w o.id)) its-offering);
  }

-- and the other way, where the course has this offering
pub of-course : (w : World) (at : Option CourseId) (course : CourseId) (g : Ground) → at ≡ Some course → offering_of w course ≡ Some g.offering.now → IsGround w course g → IsGroundOf w at (Some g)
of-course w at course g e f h =
    let its : option_and_then (offering_of w) at ≡ Some g.offering.now = ap (option_and_then (offering_of w)) e ∙ f in record {
      course = sym (ap (option_and_then (find_course w.catalogue.rows)) e ∙ h.course);
      offering = sym its;
      found = h.offering;
      reservations = ap (λ rows. Some rows) h.reservations ∙ sym (ap (option_map (λ o. reservations_of w o.id)) its);
      restrictions = ap (λ rows. Some rows) h.restrictions ∙ sym (ap (option_map (λ o. restrictions_of w o.id)) its);
    }

-- the subparts of a configuration, by the offering's row
pub its-subparts : (w : World) (course : CourseId) (config : ConfigId) (o : OfferingRow) → offering_of w course ≡ Some o → option_map_or (λ g. g.subparts) (config_in o config) [] ≡ subparts_of w course config
its-subparts w course config o h = λ i. option_map_or (λ g. g.subparts) (option_and_then (λ o. config_in o config) (sym h i)) []

-- none, where there is no offering
pub no-subparts : (w : World) (course : CourseId) (config : ConfigId) → offering_of w course ≡ None → [] ≡ subparts_of w course config
no-subparts w course config h = λ i. option_map_or (λ g. g.subparts) (option_and_then (λ o. config_in o config) (sym h i)) []
