-- Options stand in what was decided before, and a reservation names levels of its own offering alone.
use Rattle.std.specs.Prelude.{◌≡◌, ℕ, ◌<◌, ◌≤◌, Bool, true, false, not, ◌&&◌, ◌||◌, ◌==◌, nat_le, List, [], ◌∷◌, ◌++◌, length, map, filter, flat_map, Option, Some, None, Contains, refl}
use Rattle.std.specs.List.{list_any, list_all}
use Rattle.std.specs.Option.{option_map_or, option_and_then, is_some}
use Rattle.std.proofs.Common.{sym, ◌∙◌, ap, subst, arith}
use Rattle.std.proofs.lemmas.Bool.{eqb-true, eq-eqb}
use Rattle.std.proofs.lemmas.Option.{slice_get_within}
use Rattle.sect_base.specs.declared.limit.Level.TheVariants.{Config as at_config, Section as at_section}
use Rattle.sect_catalog.specs.Catalogue.{find_offering}
use Rattle.sect_catalog.specs.Fault.{are_checked}
use Rattle.sect_people.specs.Order.{sorted_by}
use Rattle.sect_model.specs.Data.{CourseId, ReservationId, ConfigId, SectionId, OfferingRow, ConfigRow, SubpartRow, SectionRow, Want, Move, Reservation}
use Rattle.sect_model.specs.declared.pick.Pick.{Pick}
use Rattle.sect_model.specs.declared.pick.Pick.TheVariants.{Course, Reservation as by_reservation, Config, Section}
use Rattle.sect_model.specs.World.{World, offering_of}
use Rattle.sect_model.specs.Choice.{subparts_of, config_in}
use Rattle.sect_model.specs.Space.{names}
use Rattle.sect_model.specs.Allowed.{reservations_of}
use Rattle.sect_model.specs.Kept.{has_config, has_place_in, is_place, lists_own, includes_fit}
use Rattle.sect_model.specs.Path.{Path, reservation_options, config_options, section_options, options_for, options_at, next_subpart, want_at}
use Rattle.sect_model.proofs.Members
use Rattle.sect_model.proofs.Members.{Member, all-at, all-of, any-at, both-left, both-right, known-test, not_both}
use Rattle.sect_model.proofs.ListLemmas.{all-sorted, any-find, keys-known, contained, at_most}
use Rattle.sect_model.proofs.TurnLemmas.{all-map, all-append, all-true}
use Rattle.sect_model.proofs.CheckedLemmas.{sections_of, checked-size}
use Rattle.sect_moment.specs.Reserved.{are_own}
use Rattle.sect_moment.specs.Standing.{own_config, own_section, stands_at, stands}
use Rattle.sect_moment.proofs.NthLemmas.{member-got}
use Rattle.sect_moment.proofs.IdLemmas.{offering-member, subpart-stands, one-of-config, one-of-section}

-- ---- options stand

module _ (w : World) where
  reservations-stand : (c : Option CourseId) (g : Option ConfigId) (ss : List SectionId) (rs : List Reservation) → list_all (stands_at w c g ss) (reservation_options rs) ≡ true
  reservations-stand c g ss rs =
      all-append (stands_at w c g ss) (part (λ r. r.must) ++ part (λ r. not r.must)) (by_reservation None ∷ [])
      ∙ (λ i. (all-append (stands_at w c g ss) (part (λ r. r.must)) (part (λ r. not r.must)) ∙ (λ j. each (λ r. r.must) j && each (λ r. not r.must) j)) i && true)
    where
      part : (Reservation → Bool) → List Pick
      part p = map (λ r. by_reservation (Some r.id)) (sorted_by (λ r. r.id.0) (filter p rs))

      each : (p : Reservation → Bool) → list_all (stands_at w c g ss) (part p) ≡ true
      each p = all-map (λ r. by_reservation (Some r.id)) (stands_at w c g ss) (sorted_by (λ r. r.id.0) (filter p rs)) ∙ all-true (sorted_by (λ r. r.id.0) (filter p rs))

  configs-stand : (c : CourseId) (ss : List SectionId) (x : Option OfferingRow) → offering_of w c ≡ x → list_all (stands_at w (Some c) None ss) (config_options x) ≡ true
  configs-stand c ss None e = refl
  configs-stand c ss (Some o) e =
      all-map (λ g. Config g.id) (stands_at w (Some c) None ss) (sorted_by (λ g. g.id.0) o.configs)
      ∙ (λ i. list_all (λ g. option_map_or (λ o. is_some (config_in o g.id)) (e i) false) (sorted_by (λ g. g.id.0) o.configs))
      ∙ all-sorted (λ g. g.id.0) (λ g. is_some (config_in o g.id)) o.configs
      ∙ (λ i. list_all (λ g. any-find (λ y. y.id.0 == g.id.0) o.configs i) o.configs)
      ∙ keys-known (λ g. g.id.0) o.configs

  sections-stand : (c : CourseId) (g : ConfigId) (ss : List SectionId) (x : Option SubpartRow) → next_subpart w c g ss ≡ x → list_all (stands_at w (Some c) (Some g) ss) (section_options x) ≡ true
  sections-stand c g ss None e = refl
  sections-stand c g ss (Some p) e =
      all-map (λ s. Section s.id) (stands_at w (Some c) (Some g) ss) (sorted_by (λ s. s.id.0) p.sections)
      ∙ (λ i. list_all (λ s. option_map_or (λ p. list_any (λ x. x.id.0 == s.id.0) p.sections) (e i) false) (sorted_by (λ s. s.id.0) p.sections))
      ∙ all-sorted (λ s. s.id.0) (λ s. list_any (λ x. x.id.0 == s.id.0) p.sections) p.sections
      ∙ keys-known (λ s. s.id.0) p.sections

  for-stand : (want : Want) (c : Option CourseId) (r : Option (Option ReservationId)) (g : Option ConfigId) (ss : List SectionId) → list_all (stands_at w c g ss) (options_for w want c r g ss) ≡ true
  for-stand want None r g ss = all-map Course (stands_at w None g ss) want.courses ∙ all-true want.courses
  for-stand want (Some c) None g ss = reservations-stand (Some c) g ss (option_map_or (λ o. reservations_of w o.id) (offering_of w c) [])
  for-stand want (Some c) (Some r) None ss = configs-stand c ss (offering_of w c) refl
  for-stand want (Some c) (Some r) (Some g) ss = sections-stand c g ss (next_subpart w c g ss) refl

  at-stand : (p : Path) (x : Option Want) → list_all (stands w p) (option_map_or (λ want. options_for w want p.course p.reservation p.config p.sections) x []) ≡ true
  at-stand p None = refl
  at-stand p (Some want) = for-stand want p.course p.reservation p.config p.sections

  -- each option stands in what was decided before it
  pub option-stands : (mv : Move) (p : Path) (pick : Pick) → Contains (options_at w mv p) pick → stands w p pick ≡ true
  option-stands mv p pick h = contained (stands w p) (options_at w mv p) pick h (at-stand p (want_at mv p))

-- ---- own levels

module _ (w : World) (checked : are_checked w.catalogue.rows ≡ true) where
  -- the offering that a reservation names is the one that has what it lists
  same-offering : (o x : OfferingRow) (r : Reservation) → find_offering w.catalogue.rows r.offering ≡ Some x → x ≡ o → r.offering.0 == o.id.0 ≡ true
  same-offering o x r e f =
      let m = Members.find-member (λ o. o.id.0 == r.offering.0) w.catalogue.rows x e in
      eq-eqb r.offering.0 o.id.0 (sym (eqb-true x.id.0 r.offering.0 m.1) ∙ ap (λ y. y.id.0) f)

  row-of : (r : Reservation) (x : OfferingRow) → find_offering w.catalogue.rows r.offering ≡ Some x → Member w.catalogue.rows x
  row-of r x e = (Members.find-member (λ o. o.id.0 == r.offering.0) w.catalogue.rows x e).0

  or-not : (a b : Bool) → (a ≡ true → b ≡ true) → not a || b ≡ true
  or-not true b h = h refl
  or-not false b h = refl

  some-of : {X : Type 0} (o : Option X) → is_some o ≡ true → (x : X) × (o ≡ Some x)
  some-of None h = absurd (not_both false h refl)
  some-of (Some x) h = (x, refl)

  pub config-own : (course : CourseId) (config : ConfigId) (o : OfferingRow) → list_all (λ r. includes_fit w r.offering r.includes) w.reservations ≡ true
      → offering_of w course ≡ Some o → own_config w course config ≡ true → are_own w o.id (at_config config) ≡ true
  config-own course config o fit e own =
      all-of (λ r. not (names r (at_config config)) || r.offering.0 == o.id.0) w.reservations
      (λ r m. or-not (names r (at_config config)) (r.offering.0 == o.id.0) (λ n. each r (all-at (λ r. includes_fit w r.offering r.includes) w.reservations fit r m) n))
    where
      has : is_some (config_in o config) ≡ true
      has = (λ i. option_map_or (λ o. is_some (config_in o config)) (sym e i) false) ∙ own

      each : (r : Reservation) → includes_fit w r.offering r.includes ≡ true → names r (at_config config) ≡ true → r.offering.0 == o.id.0 ≡ true
      each r f n =
          let x = known-test (lists_own r.includes) (find_offering w.catalogue.rows r.offering) f in
          let c = any-at (λ c. c.0 == config.0) r.includes.configs n in
          let h = all-at (has_config x.0) r.includes.configs (both-left (list_all (has_config x.0) r.includes.configs) _ x.2) c.0 c.1 in
          let a = any-at (λ g. g.id.0 == c.0.0) x.0.configs h in
          let g = some-of (config_in o config) has in
          let b = Members.find-member (λ g. g.id.0 == config.0) o.configs g.0 g.1 in
          same-offering o x.0 r x.1
          (one-of-config w.catalogue.rows checked x.0 o (row-of r x.0 x.1) (offering-member w checked course o e) a.0 g.0 a.1 b.0
          (eqb-true a.0.id.0 c.0.0 a.2 ∙ eqb-true c.0.0 config.0 c.2 ∙ sym (eqb-true g.0.id.0 config.0 b.1)))

  -- the section's row, in the sections of the offering
  section-row : (course : CourseId) (config : ConfigId) (sections : List SectionId) (section : SectionId) (o : OfferingRow) → offering_of w course ≡ Some o
      → own_section w course config sections section ≡ true → (a : SectionRow) × Member (sections_of o) a × (a.id.0 ≡ section.0)
  section-row course config sections section o e own =
      let p = known-test (λ p. list_any (λ s. s.id.0 == section.0) p.sections) (next_subpart w course config sections) own in
      let a = any-at (λ s. s.id.0 == section.0) p.0.sections p.2 in
      let s = subpart-stands w checked course config p.0 (member-got (subparts_of w course config) (length sections) p.0 p.1) in
      let same : s.0 ≡ o = some-same s.0 o (sym s.2 ∙ e) in (
        a.0,
        subst (λ x. Member (sections_of x) a.0) same
            (Members.member-of_flat_map (λ p. p.sections) (flat_map (λ g. g.subparts) s.0.configs) p.0 a.0
            (Members.member-of_flat_map (λ g. g.subparts) s.0.configs s.1 p.0 s.4 s.5) a.1),
        eqb-true a.0.id.0 section.0 a.2,
      )
    where
      some-same : {X : Type 0} (x y : X) → Some x ≡ Some y → x ≡ y
      some-same x y e = cc

  pub section-own : (course : CourseId) (config : ConfigId) (sections : List SectionId) (section : SectionId) (o : OfferingRow)
      → list_all (λ r. includes_fit w r.offering r.includes) w.reservations ≡ true
      → offering_of w course ≡ Some o → own_section w course config sections section ≡ true → are_own w o.id (at_section section) ≡ true
  section-own course config sections section o fit e own =
      all-of (λ r. not (names r (at_section section)) || r.offering.0 == o.id.0) w.reservations
      (λ r m. or-not (names r (at_section section)) (r.offering.0 == o.id.0) (λ n. each r (all-at (λ r. includes_fit w r.offering r.includes) w.reservations fit r m) n))
    where
      row : (a : SectionRow) × Member (sections_of o) a × (a.id.0 ≡ section.0)
      row = section-row course config sections section o e own

      each : (r : Reservation) → includes_fit w r.offering r.includes ≡ true → names r (at_section section) ≡ true → r.offering.0 == o.id.0 ≡ true
      each r f n =
          let x = known-test (lists_own r.includes) (find_offering w.catalogue.rows r.offering) f in
          let q = any-at (λ p. p.section.0 == section.0) r.includes.sections n in
          let h = all-at (has_place_in x.0) r.includes.sections (both-right (list_all (has_config x.0) r.includes.configs) _ x.2) q.0 q.1 in
          let p = any-at (is_place q.0) (flat_map (λ g. g.subparts) x.0.configs) h in
          let a = any-at (λ s. s.id.0 == q.0.section.0) p.0.sections (both-right (p.0.id.0 == q.0.subpart.0) _ p.2) in
          same-offering o x.0 r x.1
          (one-of-section w.catalogue.rows checked x.0 o (row-of r x.0 x.1) (offering-member w checked course o e) a.0 row.0
          (Members.member-of_flat_map (λ p. p.sections) (flat_map (λ g. g.subparts) x.0.configs) p.0 a.0 p.1 a.1) row.1
          (eqb-true a.0.id.0 q.0.section.0 a.2 ∙ eqb-true q.0.section.0 section.0 q.2 ∙ sym row.2))

  -- there is room for the section
  pub sections-few : (course : CourseId) (config : ConfigId) (sections : List SectionId) (section : SectionId) → own_section w course config sections section ≡ true → length sections < 6
  sections-few course config sections section own =
      let p = known-test (λ p. list_any (λ s. s.id.0 == section.0) p.sections) (next_subpart w course config sections) own in
      few (subparts-few course config) (slice_get_within (subparts_of w course config) (length sections) p.0 p.1)
    where
      few : {m n : ℕ} → n ≤ 6 → m < n → m < 6
      few h k = omega (arith, h, k)

      subparts-few : (course : CourseId) (config : ConfigId) → length (subparts_of w course config) ≤ 6
      subparts-few course config = by_offering (offering_of w course) refl
        where
          sized : OfferingRow → Bool
          sized o = list_all (λ g. nat_le 1 (length g.subparts) && nat_le (length g.subparts) 6) o.configs

          by_config : (o : OfferingRow) → sized o ≡ true → (x : Option ConfigRow) → config_in o config ≡ x → length (option_map_or (λ g. g.subparts) x []) ≤ 6
          by_config o h None f = omega arith
          by_config o h (Some g) f =
              at_most (length g.subparts) 6
              (both-right (nat_le 1 (length g.subparts)) _
              (all-at (λ g. nat_le 1 (length g.subparts) && nat_le (length g.subparts) 6) o.configs h g (Members.find-member (λ g. g.id.0 == config.0) o.configs g f).0))

          by_offering : (x : Option OfferingRow) → offering_of w course ≡ x → length (option_map_or (λ g. g.subparts) (option_and_then (λ o. config_in o config) x) []) ≤ 6
          by_offering None e = omega arith
          by_offering (Some o) e = by_config o (all-at sized w.catalogue.rows (checked-size w.catalogue.rows checked) o (offering-member w checked course o e)) (config_in o config) refl

-- ---- the room of a path

module _ (w : World) (mv : Move) (p : Path) (pick : Pick) (option : Contains (options_at w mv p) pick) where
  -- where there is an option, a want is left
  pub done-few : (n : ℕ) → length mv.take ≤ n → length p.done < n
  done-few n few = by_want (want_at mv p) refl
    where
      within : length p.done < length mv.take → length p.done < n
      within h = omega (arith, h, few)

      by_want : (x : Option Want) → want_at mv p ≡ x → length p.done < n
      by_want None e =
          absurd (not_both false
          (contained (λ pick. false) (option_map_or (λ want. options_for w want p.course p.reservation p.config p.sections) None []) pick
          (subst (λ x. Contains (option_map_or (λ want. options_for w want p.course p.reservation p.config p.sections) x []) pick) e option) refl) refl)
      by_want (Some want) e = within (slice_get_within mv.take (length p.done) want e)

-- where the next decision is a section, there is room for it
pub room : (w : World) → are_checked w.catalogue.rows ≡ true → (p : Path) (section : SectionId) → stands w p (Section section) ≡ true → length p.sections < 6
room w checked p section h = by_place p.course p.config h
  where
    by_place : (c : Option CourseId) (g : Option ConfigId) → option_map_or (λ c. option_map_or (λ g. own_section w c g p.sections section) g false) c false ≡ true → length p.sections < 6
    by_place None g h = absurd (not_both false h refl)
    by_place (Some c) None h = absurd (not_both false h refl)
    by_place (Some c) (Some g) h = sections-few w checked c g p.sections section h
