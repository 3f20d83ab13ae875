-- What is found of a world is found at the choices too: only the roster differs.
use Rattle.std.specs.Prelude.{◌≡◌, true, List, Option}
use Rattle.std.specs.Option.{option_and_then}
use Rattle.std.proofs.Common.{sym, ◌∙◌, ap, subst}
use Rattle.sect_model.specs.Data.{StudentId, CourseId, ReservationId, ConfigId, SectionId, Choice, Move, ConfigRow, SectionRow}
use Rattle.sect_model.specs.World.{World, reservation_of}
use Rattle.sect_model.specs.Path.{Path}
use Rattle.sect_model.specs.Rules.{world_at}
use Rattle.sect_moment.specs.Moment.{moved}
use Rattle.sect_moment.specs.declared.ground.Ground.{Ground}
use Rattle.sect_moment.specs.Found.{IsConfig, IsSection}
use Rattle.sect_moment.specs.Ground.{IsGroundOf}
use Rattle.sect_moment.specs.Standing.{own_section}
use Rattle.sect_moment.proofs.MomentLemmas.{world-moved}

ground-moved : (w : World) (st : StudentId) (give : List CourseId) (done : List Choice) (course : Option CourseId) (ground : Option Ground)
    → IsGroundOf w course ground → IsGroundOf (moved w st give done) course ground
ground-moved w st give done course ground h = record { course = h.course; offering = h.offering; found = h.found; reservations = h.reservations; restrictions = h.restrictions }

module _ (w : World) (mv : Move) (p : Path) where
  at-choices : moved w mv.student mv.give p.done ≡ world_at w mv p
  at-choices = sym (world-moved w mv p)

  pub ground-at : (course : Option CourseId) (ground : Option Ground) → IsGroundOf w course ground → IsGroundOf (world_at w mv p) course ground
  ground-at course ground h = subst (λ v. IsGroundOf v course ground) at-choices (ground-moved w mv.student mv.give p.done course ground h)

  pub config-at : (course : Option CourseId) (row : ConfigRow) → IsConfig w course row → IsConfig (world_at w mv p) course row
  config-at course row h = subst (λ v. IsConfig v course row) at-choices h

  pub section-at : (row : SectionRow) → IsSection w row → IsSection (world_at w mv p) row
  section-at row h = subst (λ v. IsSection v row) at-choices h

  pub reservation-at : (id : Option ReservationId) → option_and_then (reservation_of w) id ≡ option_and_then (reservation_of (world_at w mv p)) id
  reservation-at id = ap (λ v. option_and_then (reservation_of v) id) at-choices

  pub own-at : (course : CourseId) (config : ConfigId) (sections : List SectionId) (section : SectionId)
      → own_section w course config sections section ≡ true → own_section (world_at w mv p) course config sections section ≡ true
  own-at course config sections section h = ap (λ v. own_section v course config sections section) (world-moved w mv p) ∙ h
