-- Numbers that are told of one enrolment more or less are the world's again.
use Rattle.std.specs.Prelude.{◌≡◌, ℕ, ◌+◌, ◌-◌, ◌≤◌, Bool, true, false, not, ◌&&◌, ◌==◌, cond, List, [], length, filter, Option, Some, None, refl}
use Rattle.std.specs.List.{list_all}
use Rattle.std.specs.Option.{option_map, option_map_or, is_some}
use Rattle.std.proofs.Common.{sym, ◌∙◌, ap, subst, arith}
use Rattle.std.proofs.lemmas.Bool.{eq-eqb}
use Rattle.std.proofs.lemmas.List.Sums.{length-filter, count_by-le-length}
use Rattle.sect_base.specs.declared.limit.Level.{Level}
use Rattle.sect_base.specs.declared.limit.Level.TheVariants.{Course, Offering, Config, Section}
use Rattle.sect_base.specs.declared.ids.OfferingId.{OfferingId}
use Rattle.sect_base.specs.declared.ids.ReservationId.{ReservationId}
use Rattle.sect_catalog.specs.declared.row.OfferingRow.{OfferingRow}
use Rattle.sect_catalog.specs.Catalogue.{find_offering, is_cancelled, has_course}
use Rattle.sect_people.specs.Student.{find_student}
use Rattle.sect_model.specs.declared.held.Enrolment.{Enrolment}
use Rattle.sect_model.specs.World.{World, offering_of, is_of, used_by, reservation_of}
use Rattle.sect_model.specs.Choice.{is_well_formed, config_of, one_of_each, parents_listed}
use Rattle.sect_model.specs.Counts.{is_at, count_of, counted_of, used_of, permits_over}
use Rattle.sect_model.specs.Allowed.{clash_within}
use Rattle.sect_model.specs.GoodWorld.{is_sound, reservation_fits}
use Rattle.sect_model.specs.Kept.{KeptWorld}
use Rattle.sect_model.proofs.Members
use Rattle.sect_model.proofs.Members.{both-left, not_both, known-test}
use Rattle.sect_model.proofs.Tests.{are_in_order}
use Rattle.sect_model.proofs.PathLemmas.{config-all}
use Rattle.sect_model.proofs.CheckedLemmas.{checked-order}
use Rattle.sect_model.proofs.SizeLemmas.{roster-is-small}
use Rattle.sect_model.proofs.Standing.{Standing, standing, course_known, config_known, section_known}
use Rattle.sect_numbers.specs.declared.tally.Turn.{Turn}
use Rattle.sect_numbers.specs.declared.tally.Turn.TheVariants.{In, Out}
use Rattle.sect_numbers.specs.declared.numbers.Numbers.{Numbers}
use Rattle.sect_numbers.specs.Tally.{counts_at, has_row, stepped, IsSmall, are_apart}
use Rattle.sect_numbers.specs.OneMore.{with_roster, IsMore, OneMore}
use Rattle.sect_numbers.specs.Numbers.{is_known, counts_in, uses_in, has_level, Told, is_by, Ready, Moves}
use Rattle.sect_numbers.proofs.MoreLemmas.{count-more, counted-more, used-more, holds-of, apart}

-- ---- numbers

stepped_in : (at over : Bool) (c d c' d' : ℕ) → c' ≡ cond at 1 0 + c → d' ≡ cond (at && not over) 1 0 + d
    → cond at (stepped In over (record { count = c; counted = d })) (record { count = c; counted = d }) ≡ record { count = c'; counted = d' }
stepped_in true true c d c' d' e f = let p : c + 1 ≡ c' = omega (arith, e) in let q : d + 0 ≡ d' = omega (arith, f) in λ i. record { count = p i; counted = q i }
stepped_in true false c d c' d' e f = let p : c + 1 ≡ c' = omega (arith, e) in let q : d + 1 ≡ d' = omega (arith, f) in λ i. record { count = p i; counted = q i }
stepped_in false over c d c' d' e f = let p : c ≡ c' = omega (arith, e) in let q : d ≡ d' = omega (arith, f) in λ i. record { count = p i; counted = q i }

stepped_out : (at over : Bool) (c d c' d' : ℕ) → c' ≡ cond at 1 0 + c → d' ≡ cond (at && not over) 1 0 + d
    → cond at (stepped Out over (record { count = c'; counted = d' })) (record { count = c'; counted = d' }) ≡ record { count = c; counted = d }
stepped_out true true c d c' d' e f = let p : c' - 1 ≡ c = omega (arith, e) in let q : d' - 0 ≡ d = omega (arith, f) in λ i. record { count = p i; counted = q i }
stepped_out true false c d c' d' e f = let p : c' - 1 ≡ c = omega (arith, e) in let q : d' - 1 ≡ d = omega (arith, f) in λ i. record { count = p i; counted = q i }
stepped_out false over c d c' d' e f = let p : c' ≡ c = omega (arith, e) in let q : d' ≡ d = omega (arith, f) in λ i. record { count = p i; counted = q i }

no_counted : (at : Bool) → 0 ≡ cond (at && not true) 1 0 + 0
no_counted true = refl
no_counted false = refl

-- ---- what an enrolment reads

of-option : {X : Type 0} (o : Option X) (has : X → Bool) → ((x : X) → o ≡ Some x → has x ≡ true) → option_map_or has o true ≡ true
of-option None has h = refl
of-option (Some x) has h = h x refl

pub by_id : {Y : Type 0} (f : OfferingId → Y) (o : Option OfferingRow) (d : Y) → option_map_or (λ r. f r.id) o d ≡ option_map_or f (option_map (λ r. r.id) o) d
by_id f None d = refl
by_id f (Some o) d = refl

five : (a b c d e : Bool) → a && b && c && d && e ≡ true → (a ≡ true) × (c ≡ true)
five true b true d e h = (refl, refl)
five true true false d e h = absurd (not_both false h refl)
five true false false d e h = absurd (not_both false h refl)
five false b c d e h = absurd (not_both false h refl)

-- a step is counted where the definition counts the enrolment
module _ (w : World) (e : Enrolment) (offering : Option OfferingId) (is : option_map (λ o. o.id) (offering_of w e.choice.course) ≡ offering) where
  at-offering : (id : OfferingId) → is_at w (Offering id) e ≡ option_map_or (λ o. o.0 == id.0) offering false
  at-offering id = by_id (λ o. o.0 == id.0) (offering_of w e.choice.course) false ∙ ap (λ o. option_map_or (λ o. o.0 == id.0) o false) is

  module _ (n m : Numbers) (turn : Turn) (over : Bool) (moves : Moves n m turn e offering over) where
    counts-moved : (level : Level) → counts_in m level ≡ cond (is_at w level e) (stepped turn over (counts_in n level)) (counts_in n level)
    counts-moved (Course id) = moves.course.counts id.0
    counts-moved (Offering id) =
        moves.its_offering.counts id.0
        ∙ ap (λ b. cond b (stepped turn over (counts_at n.offerings id.0)) (counts_at n.offerings id.0)) (sym (at-offering id))
    counts-moved (Config id) = moves.config.counts id.0
    counts-moved (Section id) = moves.sections.counts id.0

    rows-moved : (level : Level) → has_level m level ≡ has_level n level
    rows-moved (Course id) = moves.course.rows id.0
    rows-moved (Offering id) = moves.its_offering.rows id.0
    rows-moved (Config id) = moves.config.rows id.0
    rows-moved (Section id) = moves.sections.rows id.0

known-same : (w : World) (more : List Enrolment) (level : Level) → is_known (with_roster w more) level ≡ is_known w level
known-same w more (Course id) = refl
known-same w more (Offering id) = refl
known-same w more (Config id) = refl
known-same w more (Section id) = refl

-- ---- what the kept world tells of its enrolment

module _ (w : World) (more : List Enrolment) (e : Enrolment) (is_more : IsMore w.roster more e) (kept : KeptWorld (with_roster w more)) where
  sound-in : (is_well_formed w e.choice ≡ true) × (reservation_fits w e ≡ true)
  sound-in =
      five (is_well_formed w e.choice) (is_some (find_student w.students e.student)) (reservation_fits w e) (list_all (λ s. not (is_cancelled w.catalogue s)) e.choice.sections) (not (clash_within w e.choice))
      (holds-of w.roster more e is_more (is_sound (with_roster w more)) kept.good.sound)

  -- its sections differ
  pub apart-in : are_apart e.choice.sections ≡ true
  apart-in =
      let g = known-test (λ g. one_of_each g.subparts e.choice.sections) (config_of w e.choice.course e.choice.config) (both-left _ (parents_listed w e.choice.sections) sound-in.0) in
      apart w.catalogue.rows [] g.0.subparts e.choice.sections
      (config-all w (λ g. are_in_order w.catalogue.rows [] g.subparts) (checked-order w.catalogue.rows kept.rows_pass) e.choice.course e.choice.config g.0 g.1) g.2

-- ---- told again

module _ (w : World) (more : List Enrolment) (e : Enrolment) (offering : Option OfferingId) (over : Bool) (one : OneMore w more e offering over) where
  abbrev v : World
  v = with_roster w more

  counted-by : (level : Level) → counted_of v level ≡ cond (is_at w level e && not over) 1 0 + counted_of w level
  counted-by level = counted-more w more e one.is_more level ∙ ap (λ b. cond (is_at w level e && not b) 1 0 + counted_of w level) one.is_over

  pub told-in : (n m : Numbers) → Told n w → Moves n m In e offering over → Told m v
  told-in n m told moves = record {
    counts = λ level.
        counts-moved w e offering one.its_offering n m In over moves level
        ∙ ap (λ c. cond (is_at w level e) (stepped In over c) c) (told.counts level)
        ∙ stepped_in (is_at w level e) over (count_of w level) (counted_of w level) (count_of v level) (counted_of v level) (count-more w more e one.is_more level) (counted-by level);
    uses = λ id.
        moves.reservation.counts id.0
        ∙ ap (λ c. cond (is_by e id.0) (stepped In true c) c) (told.uses id)
        ∙ stepped_in (is_by e id.0) true (used_of w id) 0 (used_of v id) 0 (used-more w more e one.is_more id) (no_counted (is_by e id.0));
    levels = λ level k. rows-moved w e offering one.its_offering n m In over moves level ∙ told.levels level (sym (known-same w more level) ∙ k);
    reservations = λ id k. moves.reservation.rows id.0 ∙ told.reservations id k;
  }

  pub told-out : (n m : Numbers) → Told n v → Moves n m Out e offering over → Told m w
  told-out n m told moves = record {
    counts = λ level.
        counts-moved w e offering one.its_offering n m Out over moves level
        ∙ ap (λ c. cond (is_at w level e) (stepped Out over c) c) (told.counts level)
        ∙ stepped_out (is_at w level e) over (count_of w level) (counted_of w level) (count_of v level) (counted_of v level) (count-more w more e one.is_more level) (counted-by level);
    uses = λ id.
        moves.reservation.counts id.0
        ∙ ap (λ c. cond (is_by e id.0) (stepped Out true c) c) (told.uses id)
        ∙ stepped_out (is_by e id.0) true (used_of w id) 0 (used_of v id) 0 (used-more w more e one.is_more id) (no_counted (is_by e id.0));
    levels = λ level k. rows-moved w e offering one.its_offering n m Out over moves level ∙ told.levels level (known-same w more level ∙ k);
    reservations = λ id k. moves.reservation.rows id.0 ∙ told.reservations id k;
  }

  -- ---- rows, and room for one more

  sound : (is_well_formed w e.choice ≡ true) × (reservation_fits w e ≡ true)
  sound = sound-in w more e one.is_more one.kept

  stands : Standing w e.choice
  stands = standing w e.choice sound.0

  offering_known : (id : OfferingId) → offering ≡ Some id → is_some (find_offering w.catalogue.rows id) ≡ true
  offering_known id is =
      let o = stands.offering in
      let m = Members.find-member (λ o. has_course o e.choice.course) w.catalogue.rows o stands.is_its in
      let same : o.id ≡ id = Members_some o.id id (sym (ap (option_map (λ o. o.id)) stands.is_its) ∙ one.its_offering ∙ is) in
      Members.find-some (λ x. x.id.0 == id.0) w.catalogue.rows o m.0 (eq-eqb o.id.0 id.0 (ap (λ o. o.0) same))
    where
      Members_some : (a b : OfferingId) → Some a ≡ Some b → a ≡ b
      Members_some a b h = cc

  reservation_known : (r : Option ReservationId) → option_map_or (λ id. option_map_or (λ r. is_of w r.offering e.choice.course) (reservation_of w id) false) r true ≡ true
      → (has : ReservationId → Bool) → ((id : ReservationId) → is_some (reservation_of w id) ≡ true → has id ≡ true) → option_map_or has r true ≡ true
  reservation_known None h has k = refl
  reservation_known (Some id) h has k = let f = known-test (λ r. is_of w r.offering e.choice.course) (reservation_of w id) h in k id (ap is_some f.1)

  ready : (n : Numbers) → ((level : Level) → is_known w level ≡ true → has_level n level ≡ true) → ((id : ReservationId) → is_some (reservation_of w id) ≡ true → has_row n.uses id.0 ≡ true)
      → ((level : Level) → IsSmall (counts_in n level)) → ((id : ReservationId) → IsSmall (uses_in n id)) → Ready n e offering
  ready n levels reservations small small_uses = record {
    course = levels (Course e.choice.course) (course_known w e.choice stands);
    its_offering = of-option offering (λ o. has_row n.offerings o.0) (λ id is. levels (Offering id) (offering_known id is));
    config = levels (Config e.choice.config) (config_known w e.choice stands);
    sections = Members.all-of (λ s. has_row n.sections s.0) e.choice.sections (λ s m. levels (Section s) (section_known w e.choice stands s m));
    apart = apart-in w more e one.is_more one.kept;
    reservation = reservation_known e.choice.reservation sound.1 (λ id. has_row n.uses id.0) reservations;
    courses_small = λ q. small (Course (record { 0 = q }));
    offerings_small = λ q. small (Offering (record { 0 = q }));
    configs_small = λ q. small (Config (record { 0 = q }));
    sections_small = λ q. small (Section (record { 0 = q }));
    uses_small = λ q. small_uses (record { 0 = q });
  }

  small-part : (p : Enrolment → Bool) → length (filter p more) ≤ 1000000000
  small-part p = below (length (filter p more)) (length more) (subst (λ n. n ≤ length more) (sym (length-filter p more)) (count_by-le-length p more)) (roster-is-small v one.kept)
    where
      below : (a b : ℕ) → a ≤ b → b ≤ 1000000000 → a ≤ 1000000000
      below a b h k = omega (arith, h, k)

  fewer : (b : Bool) (c d : ℕ) → d ≡ cond b 1 0 + c → d ≤ 1000000000 → c ≤ 1000000000
  fewer true c d e h = omega (arith, e, h)
  fewer false c d e h = omega (arith, e, h)

  level-small : (level : Level) → (count_of v level ≤ 1000000000) × (counted_of v level ≤ 1000000000)
  level-small level = (small-part (is_at v level), small-part (λ e. is_at v level e && not (permits_over (used_by v e.choice))))

  use-small : (id : ReservationId) → used_of v id ≤ 1000000000
  use-small id = small-part (λ e. option_map_or (λ r. r.0 == id.0) e.choice.reservation false)

  zero-small : 0 ≤ 1000000000
  zero-small = omega arith

  pub ready-in : (n : Numbers) → Told n w → Ready n e offering
  ready-in n told =
      ready n told.levels told.reservations
      (λ level. subst IsSmall (sym (told.counts level)) (record {
        count = fewer (is_at w level e) (count_of w level) (count_of v level) (count-more w more e one.is_more level) (level-small level).0;
        counted = fewer (is_at w level e && not over) (counted_of w level) (counted_of v level) (counted-by level) (level-small level).1;
      }))
      (λ id. subst IsSmall (sym (told.uses id)) (record {
        count = fewer (is_by e id.0) (used_of w id) (used_of v id) (used-more w more e one.is_more id) (use-small id);
        counted = zero-small;
      }))

  pub ready-out : (n : Numbers) → Told n v → Ready n e offering
  ready-out n told =
      ready n (λ level k. told.levels level (known-same w more level ∙ k)) told.reservations
      (λ level. subst IsSmall (sym (told.counts level)) (record { count = (level-small level).0; counted = (level-small level).1 }))
      (λ id. subst IsSmall (sym (told.uses id)) (record { count = use-small id; counted = zero-small }))
