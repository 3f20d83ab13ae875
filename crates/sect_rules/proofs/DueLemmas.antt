-- The options and the leaf of a path whose want is known.
use Rattle.std.specs.Prelude.{◌≡◌, ℕ, List, [], Option, Some, None, slice_get, Contains, IfSome, refl}
use Rattle.std.specs.Option.{option_map, option_map_or, option_and_then}
use Rattle.std.proofs.Common.{sym, ◌∙◌, ap, subst}
use Rattle.sect_model.specs.Data.{CourseId, ReservationId, ConfigId, SectionId, OfferingRow, Want, Move, Reservation}
use Rattle.sect_model.specs.declared.pick.Pick.{Pick}
use Rattle.sect_model.specs.declared.pick.Pick.TheVariants.{Reservation as picks_reservation, Config as picks_config, Section as picks_section}
use Rattle.sect_model.specs.World.{World, offering_of, reservation_of}
use Rattle.sect_model.specs.Path.{Path, options_at, options_for, want_at}
use Rattle.sect_model.specs.Rules.{leaf_of, first_broken, rules_on, reservation_rules, config_rules, section_rules, world_at}
use Rattle.sect_moment.specs.declared.ground.Ground.{Ground}
use Rattle.sect_moment.specs.Completed.{opened}
use Rattle.sect_moment.specs.Ground.{IsGround, IsGroundOf}
use Rattle.sect_moment.proofs.GroundLemmas.{its-offering, its-ground, no-offering}
use Rattle.sect_moment.proofs.NthLemmas.{got-contained}
use Rattle.sect_rules.specs.declared.due.Step.{Step}
use Rattle.sect_rules.specs.Due.{place_at, pick_at}
use Rattle.sect_rules.specs.Place.{Place}
use Rattle.sect_rules.specs.Wanted.{OnCourse, met, course_path, joined_path, config_path}

-- the options for the want are the path's
pub at-want : (w : World) (mv : Move) (p : Path) (want : Want) → want_at mv p ≡ Some want → options_for w want p.course p.reservation p.config p.sections ≡ options_at w mv p
at-want w mv p want h = sym (ap (λ x. option_map_or (λ want. options_for w want p.course p.reservation p.config p.sections) x []) h)

-- the first rule for the want is the leaf
pub leaf-want : (w : World) (mv : Move) (p : Path) (pick : Pick) (want : Want) → want_at mv p ≡ Some want → first_broken (rules_on (world_at w mv p) mv.student want p pick) ≡ leaf_of w mv p pick
unfolding leaf_of
leaf-want w mv p pick want h = sym (ap (λ x. option_map_or (λ want. first_broken (rules_on (world_at w mv p) mv.student want p pick)) x None) h)

-- an option stands among the options
pub step-option : (at : Place) (i : ℕ) (r : Option Step) → option_map pick_at r ≡ slice_get (options_at at.world at.mv at.path) i → IfSome r (λ step. place_at step ≡ at)
    → IfSome r (λ step. Contains (options_at (place_at step).world (place_at step).mv (place_at step).path) (pick_at step))
step-option at i None e h = tt
step-option at i (Some step) e h =
    subst (λ q. Contains (options_at q.world q.mv q.path) (pick_at step)) (sym h) (got-contained (options_at at.world at.mv at.path) i (Some (pick_at step)) e)

-- what is said of the offering that the ground has, and where there is none
module _ {X : Type 0} (f : OfferingRow → List X) (w : World) (course : CourseId) (ground : Option Ground) (h : IsGroundOf w (Some course) ground) where
  on-ground : (g : Ground) → ground ≡ Some g → f g.offering.now ≡ option_map_or f (offering_of w course) []
  on-ground g e = λ i. option_map_or f (sym (its-offering w course (Some course) ground g refl e h) i) []

  off-ground : ground ≡ None → [] ≡ option_map_or f (offering_of w course) []
  off-ground e = λ i. option_map_or f (sym (no-offering w course (Some course) ground refl e h) i) []

-- the leaves behind a course
module _ (v : OnCourse) (known : want_at v.wanted.mv (opened v.wanted.done) ≡ Some v.wanted.want) (ground : Option Ground) (h : IsGroundOf (met v.wanted) (Some v.course) ground) where
  pub ground-met : (g : Ground) → ground ≡ Some g → IsGround (met v.wanted) v.course g
  ground-met g e = its-ground (met v.wanted) v.course (Some v.course) ground g refl e h

  pub offering-met : (g : Ground) → ground ≡ Some g → offering_of (met v.wanted) v.course ≡ Some g.offering.now
  offering-met g e = its-offering (met v.wanted) v.course (Some v.course) ground g refl e h

  module _ (id : Option ReservationId) where
    abbrev its : Option Reservation
    its = option_and_then (reservation_of (met v.wanted)) id

    pub reservation-leaf : (r : Option Reservation) (g : Ground) → r ≡ its → ground ≡ Some g
        → first_broken (reservation_rules (met v.wanted) v.wanted.mv.student g.offering.now v.course r) ≡ leaf_of v.wanted.world v.wanted.mv (course_path v) (picks_reservation id)
    reservation-leaf r g e f =
        (λ i. first_broken (reservation_rules (met v.wanted) v.wanted.mv.student g.offering.now v.course (e i)))
        ∙ ap first_broken (on-ground (λ o. reservation_rules (met v.wanted) v.wanted.mv.student o v.course its) (met v.wanted) v.course ground h g f)
        ∙ leaf-want v.wanted.world v.wanted.mv (course_path v) (picks_reservation id) v.wanted.want known

    pub reservation-none : ground ≡ None → None ≡ leaf_of v.wanted.world v.wanted.mv (course_path v) (picks_reservation id)
    reservation-none f =
        ap first_broken (off-ground (λ o. reservation_rules (met v.wanted) v.wanted.mv.student o v.course its) (met v.wanted) v.course ground h f)
        ∙ leaf-want v.wanted.world v.wanted.mv (course_path v) (picks_reservation id) v.wanted.want known

    module _ (config : ConfigId) where
      pub config-leaf : (r : Option Reservation) (g : Ground) → r ≡ its → ground ≡ Some g
          → first_broken (config_rules (met v.wanted) v.wanted.mv.student g.offering.now v.course r config) ≡ leaf_of v.wanted.world v.wanted.mv (joined_path (record { on = v; id = id })) (picks_config config)
      config-leaf r g e f =
          (λ i. first_broken (config_rules (met v.wanted) v.wanted.mv.student g.offering.now v.course (e i) config))
          ∙ ap first_broken (on-ground (λ o. config_rules (met v.wanted) v.wanted.mv.student o v.course its config) (met v.wanted) v.course ground h g f)
          ∙ leaf-want v.wanted.world v.wanted.mv (joined_path (record { on = v; id = id })) (picks_config config) v.wanted.want known

      pub config-none : ground ≡ None → None ≡ leaf_of v.wanted.world v.wanted.mv (joined_path (record { on = v; id = id })) (picks_config config)
      config-none f =
          ap first_broken (off-ground (λ o. config_rules (met v.wanted) v.wanted.mv.student o v.course its config) (met v.wanted) v.course ground h f)
          ∙ leaf-want v.wanted.world v.wanted.mv (joined_path (record { on = v; id = id })) (picks_config config) v.wanted.want known

      module _ (sections : List SectionId) (section : SectionId) where
        abbrev inside : Path
        inside = config_path (record { by = record { on = v; id = id }; config = config; sections = sections })

        pub section-leaf : (r : Option Reservation) (g : Ground) → r ≡ its → ground ≡ Some g
            → first_broken (section_rules (met v.wanted) v.wanted.mv.student v.wanted.want g.offering.now v.course r config sections section)
            ≡ leaf_of v.wanted.world v.wanted.mv inside (picks_section section)
        section-leaf r g e f =
            (λ i. first_broken (section_rules (met v.wanted) v.wanted.mv.student v.wanted.want g.offering.now v.course (e i) config sections section))
            ∙ ap first_broken (on-ground (λ o. section_rules (met v.wanted) v.wanted.mv.student v.wanted.want o v.course its config sections section) (met v.wanted) v.course ground h g f)
            ∙ leaf-want v.wanted.world v.wanted.mv inside (picks_section section) v.wanted.want known

        pub section-none : ground ≡ None → None ≡ leaf_of v.wanted.world v.wanted.mv inside (picks_section section)
        section-none f =
            ap first_broken (off-ground (λ o. section_rules (met v.wanted) v.wanted.mv.student v.wanted.want o v.course its config sections section) (met v.wanted) v.course ground h f)
            ∙ leaf-want v.wanted.world v.wanted.mv inside (picks_section section) v.wanted.want known
