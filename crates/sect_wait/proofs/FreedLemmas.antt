-- An enrolment whose reservation lists nothing outside its choice frees no level.
use Rattle.std.specs.Prelude.{◌≡◌, Bool, true, false, not, ◌&&◌, ◌==◌, Option, Some, None, refl}
use Rattle.std.specs.List.{list_any, list_all}
use Rattle.std.specs.Option.{option_map_or, option_and_then, is_some}
use Rattle.std.proofs.Common.{sym, ◌∙◌, ap}
use Rattle.std.proofs.lemmas.Bool.{eqb-true, eq-eqb}
use Rattle.sect_base.specs.declared.limit.Level.TheVariants.{Course, Offering, Config, Section}
use Rattle.sect_catalog.specs.Catalogue.{places}
use Rattle.sect_reserve.specs.Audience.{active}
use Rattle.sect_model.specs.Data.{ReservationId, Level, Reservation}
use Rattle.sect_model.specs.declared.held.Enrolment.{Enrolment}
use Rattle.sect_model.specs.World.{World, offering_of, is_of, reservation_of, used_by}
use Rattle.sect_model.specs.Choice.{lists_section}
use Rattle.sect_model.specs.Counts.{is_at}
use Rattle.sect_model.specs.Space.{names}
use Rattle.sect_model.specs.GoodWorld.{reservation_fits}
use Rattle.sect_model.specs.Freer.{frees, frees_some, lists_only}
use Rattle.sect_model.proofs.Members
use Rattle.sect_model.proofs.Members.{all-at, both, both-left, both-right, not_both, not_true, known-test}
use Rattle.sect_model.proofs.FreerEnrol.{if-not}

module _ (w : World) (x : Enrolment) (fits : reservation_fits w x ≡ true) where
  of-its : (r : Reservation) (named : Option ReservationId) → option_map_or (λ id. option_map_or (λ r. is_of w r.offering x.choice.course) (reservation_of w id) false) named true ≡ true
      → option_and_then (reservation_of w) named ≡ Some r → is_of w r.offering x.choice.course ≡ true
  of-its r None h e = cc
  of-its r (Some id) h e = ap (λ p. option_map_or (λ r. is_of w r.offering x.choice.course) p false) (sym e) ∙ h

  names-at : (r : Reservation) → is_of w r.offering x.choice.course ≡ true → lists_only x.choice r ≡ true → (level : Level) → names r level ≡ true → is_at w level x ≡ true
  names-at r its only (Course id) n = absurd (not_both false n refl)
  names-at r its only (Offering id) n = ap (λ m. option_map_or (λ p. p.id.0 == m) (offering_of w x.choice.course) false) (sym (eqb-true r.offering.0 id.0 n)) ∙ its
  names-at r its only (Config id) n =
      let c = Members.any-at (λ c. c.0 == id.0) r.includes.configs n in
      eq-eqb x.choice.config.0 id.0 (sym (eqb-true c.0.0 x.choice.config.0 (all-at (λ c. c.0 == x.choice.config.0) r.includes.configs (both-left _ _ only) c.0 c.1)) ∙ eqb-true c.0.0 id.0 c.2)
  names-at r its only (Section id) n =
      let p = Members.any-at (λ p. p.section.0 == id.0) r.includes.sections n in
      ap (λ m. list_any (λ s. s.0 == m) x.choice.sections) (sym (eqb-true p.0.section.0 id.0 p.2))
      ∙ all-at (λ p. lists_section x.choice.sections p.section) r.includes.sections (both-right (list_all (λ c. c.0 == x.choice.config.0) r.includes.configs) _ only) p.0 p.1

  third : (a b c : Bool) → a && b && not c ≡ false → a ≡ true → b ≡ true → c ≡ true
  third a b true h p q = refl
  third a b false h p q = absurd (not_both (a && b && true) (both (a && b) true (both a b p q) refl) h)

  pub frees-none : frees_some w x.choice ≡ false → (level : Level) → frees w x level ≡ false
  frees-none none level = if-not (frees w x level) (λ t.
      let r = known-test (λ r. active r w.day && is_some (places r.limit) && names r level && not (is_at w level x)) (used_by w x.choice) t in
      let n = both-left _ (not (is_at w level x)) r.2 in
      let a = both-left _ (names r.0 level) n in
      let only = third (active r.0 w.day) (is_some (places r.0.limit)) (lists_only x.choice r.0)
      (sym (ap (λ p. option_map_or (λ r. active r w.day && is_some (places r.limit) && not (lists_only x.choice r)) p false) r.1) ∙ none)
      (both-left _ _ a) (both-right (active r.0 w.day) _ a) in
      not_both (is_at w level x)
      (names-at r.0 (of-its r.0 x.choice.reservation fits r.1) only level (both-right (active r.0 w.day && is_some (places r.0.limit)) _ n))
      (not_true _ (both-right (active r.0 w.day && is_some (places r.0.limit) && names r.0 level) _ r.2)))
