-- Each change keeps that the rows of reservations would pass their checks again.
use Rattle.std.specs.Prelude.{◌≡◌, ℕ, Bool, true, false, not, ◌&&◌, ◌||◌, ◌==◌, cond, List, [], ◌∷◌, ◌++◌, length, map, filter, find, nat_lt, Option, Some, None, refl}
use Rattle.std.specs.Bool.{then_some}
use Rattle.std.specs.List.{list_all, list_any}
use Rattle.std.specs.Option.{is_none, is_some, option_map, option_map_or, option_or}
use Rattle.std.proofs.Common.{sym, ◌∙◌, ap}
use Rattle.std.proofs.lemmas.List.Folds.{list_all-map}
use Rattle.sect_base.specs.Capped.{capped}
use Rattle.sect_base.specs.declared.limit.Cap.{Cap}
use Rattle.sect_base.specs.declared.limit.Limit.{Limit}
use Rattle.sect_catalog.specs.Catalogue.{find_offering, sections_in}
use Rattle.sect_catalog.specs.Limits.{capped_config, capped_course, capped_section, capped_subpart, with_limit}
use Rattle.sect_model.proofs.CapChange.{any-map}
use Rattle.sect_model.proofs.Members.{all-at, all-of, both-left, find-left, find-map, known-test, member-filter, not_both}
use Rattle.sect_model.proofs.PutLemmas.{all-put}
use Rattle.sect_model.specs.Change.{expire, put_limit, put_offering}
use Rattle.sect_model.specs.Data.{Audience, ConfigId, ConfigRow, OfferingRow, Reservation, ReservationId, SectionId, SubpartRow}
use Rattle.sect_model.specs.Allowed.{reservations_of}
use Rattle.sect_model.specs.Fits.{Fits, changed, lists_fit}
use Rattle.sect_model.specs.Kept.{has_place_in}
use Rattle.sect_model.specs.Refusals.{foreign_course, foreign_in, is_group, lists_config, section_fits, students_listed}
use Rattle.sect_model.specs.World.{World, reservation_of}
use Rattle.sect_model.specs.declared.change.Change.{Change}
use Rattle.sect_model.specs.declared.change.Change.TheVariants.{Offering, Student, Requests, Reserve, Unreserve, Expiry, Restrict, Unrestrict, Cap as new_cap, Cancelled, Day, Enrol, Leave}
use Rattle.sect_reserve.specs.declared.row.Audience.TheVariants.{Course, Curriculum, Group, Students}
use Rattle.sect_reserve.specs.declared.row.ReserveFault.TheVariants.{Foreign, NoGroup, TooMany as many_listed}
use Rattle.sect_reserve.specs.declared.row.Place.{Place}
use Rattle.sect_return.specs.Checked.{is_faultless, row_passes}

-- ---- another offering

passes_more : (w : World) (row : OfferingRow) (r : Reservation) → row_passes w r ≡ true → row_passes (put_offering w row) r ≡ true
passes_more w row r h =
    let f = known-test (is_faultless r) (find_offering w.catalogue.rows r.offering) h in
    ap (λ o. option_map_or (is_faultless r) o false) (find-left (λ o. o.id.0 == r.offering.0) w.catalogue.rows (row ∷ []) f.0 f.1) ∙ f.2

-- ---- another limit

map_map : {X Y Z : Type 0} (g : Y → Z) (f : X → Y) (xs : List X) → map g (map f xs) ≡ map (λ x. g (f x)) xs
map_map g f [] = refl
map_map g f (x ∷ xs) = ap (λ ys. g (f x) ∷ ys) (map_map g f xs)

any_same : {X : Type 0} (p q : X → Bool) (xs : List X) → ((x : X) → p x ≡ q x) → list_any p xs ≡ list_any q xs
any_same p q [] same = refl
any_same p q (x ∷ xs) same = λ i. same x i || any_same p q xs same i

pub find_same : {X : Type 0} (p q : X → Bool) (xs : List X) → ((x : X) → p x ≡ q x) → find p xs ≡ find q xs
find_same p q [] same = refl
find_same p q (x ∷ xs) same = λ i. cond (same x i) (Some x) (find_same p q xs same i)

any_append : {X : Type 0} (p : X → Bool) (xs ys : List X) → list_any p (xs ++ ys) ≡ (list_any p xs || list_any p ys)
any_append p [] ys = refl
any_append p (x ∷ xs) ys = ap (λ b. p x || b) (any_append p xs ys) ∙ sym (or_or (p x) (list_any p xs) (list_any p ys))
  where
    or_or : (a b c : Bool) → ((a || b) || c) ≡ (a || (b || c))
    or_or true b c = refl
    or_or false b c = refl

module _ (cap : Cap) (limit : Limit) where
  has_section : (section : SectionId) (ps : List SubpartRow)
      → list_any (λ s. s.id.0 == section.0) (sections_in (map (capped_subpart cap limit) ps)) ≡ list_any (λ s. s.id.0 == section.0) (sections_in ps)
  has_section section [] = refl
  has_section section (p ∷ ps) =
      any_append (λ s. s.id.0 == section.0) (map (capped_section cap limit) p.sections) (sections_in (map (capped_subpart cap limit) ps))
      ∙ (λ i. any-map (λ s. s.id.0 == section.0) (capped_section cap limit) p.sections i || has_section section ps i)
      ∙ sym (any_append (λ s. s.id.0 == section.0) p.sections (sections_in ps))

  fits_same : (o : OfferingRow) (configs : List ConfigId) (section : SectionId) → section_fits (with_limit cap limit o) configs section ≡ section_fits o configs section
  fits_same o configs section =
      any-map (λ g. lists_config configs g.id && list_any (λ s. s.id.0 == section.0) (sections_in g.subparts)) (capped_config cap limit) o.configs
      ∙ any_same _ (λ g. lists_config configs g.id && list_any (λ s. s.id.0 == section.0) (sections_in g.subparts)) o.configs (λ g. ap (λ b. lists_config configs g.id && b) (has_section section g.subparts))

  course_same : (o : OfferingRow) (audience : Audience) → foreign_course (with_limit cap limit o) audience ≡ foreign_course o audience
  course_same o (Course id) = ap (λ b. then_some (not b) id.0) (any-map (λ c. c.id.0 == id.0) (capped_course cap limit) o.courses)
  course_same o (Students ids) = refl
  course_same o (Group id) = refl
  course_same o (Curriculum area classes majors) = refl

  foreign_same : (o : OfferingRow) (audience : Audience) (configs : List ConfigId) (sections : List SectionId) → foreign_in (with_limit cap limit o) audience configs sections ≡ foreign_in o audience configs sections
  foreign_same o audience configs sections = λ i.
      option_or (option_map (λ c. c.0) (find (λ c. not (lists_config (map_map (λ (g : ConfigRow). g.id) (capped_config cap limit) o.configs i) c)) configs))
      (option_or (option_map (λ s. s.0) (find_same (λ s. not (section_fits (with_limit cap limit o) configs s)) (λ s. not (section_fits o configs s)) sections (λ s. ap not (fits_same o configs s)) i))
      (course_same o audience i))

  faultless_same : (r : Reservation) (o : OfferingRow) → is_faultless r (with_limit cap limit o) ≡ is_faultless r o
  faultless_same r o =
      let sections = map (λ (p : Place). p.section) r.includes.sections in
      ap (λ (foreign : Option ℕ).
      is_none (option_or (option_map Foreign foreign)
      (option_or (then_some (not true && is_group r.audience) NoGroup)
      (option_or (then_some (nat_lt 1000 (students_listed r.audience)) (many_listed (capped (students_listed r.audience))))
      (then_some (nat_lt 1200 (length sections)) (many_listed (capped (length sections)))))))) (foreign_same o r.audience r.includes.configs sections)

  passes_capped : (w : World) (r : Reservation) → row_passes (put_limit w cap limit) r ≡ row_passes w r
  passes_capped w r =
      ap (λ o. option_map_or (is_faultless r) o false) (find-map (λ o. o.id.0 == r.offering.0) (with_limit cap limit) w.catalogue.rows (λ o. refl))
      ∙ by (find_offering w.catalogue.rows r.offering)
    where
      by : (o : Option OfferingRow) → option_map_or (is_faultless r) (option_map (with_limit cap limit) o) false ≡ option_map_or (is_faultless r) o false
      by None = refl
      by (Some o) = faultless_same r o

-- ---- a new reservation

-- a row that has no fault has none but for its id
faultless_new : (in_use : Bool) (r : Reservation) (o : OfferingRow) → lists_fit r.id.0 in_use true r.audience r.includes o ≡ true → is_faultless r o ≡ true
faultless_new true r o h = absurd (not_both false h refl)
faultless_new false r o h = both-left _ (list_all (has_place_in o) r.includes.sections) h

passes_new : (w : World) (r : Reservation) (in_use : Bool) → option_map_or (lists_fit r.id.0 in_use true r.audience r.includes) (find_offering w.catalogue.rows r.offering) false ≡ true → row_passes w r ≡ true
passes_new w r in_use h =
    let f = known-test (lists_fit r.id.0 in_use true r.audience r.includes) (find_offering w.catalogue.rows r.offering) h in
    ap (λ o. option_map_or (is_faultless r) o false) f.1 ∙ faultless_new in_use r f.0 f.2

-- ---- another expiry

passes_expired : (w : World) (id : ReservationId) (expiry : Option ℕ) (r : Reservation) → row_passes w (expire id expiry r) ≡ row_passes w r
passes_expired w id expiry r = by (r.id.0 == id.0)
  where
    by : (b : Bool) → row_passes w (cond b (record r { expiry = expiry }) r) ≡ row_passes w r
    by true = refl
    by false = refl

-- ---- a change

abbrev pub Passes : World → Type 0
Passes w = list_all (row_passes w) w.reservations ≡ true

-- each change keeps it
pub passes_after : (w : World) (change : Change) → Fits w change → Passes w → Passes (changed w change)
passes_after w (Offering row) fits h = all-of (row_passes (put_offering w row)) w.reservations (λ r m. passes_more w row r (all-at (row_passes w) w.reservations h r m))
passes_after w (Student row) fits h = h
passes_after w (Requests student asks) fits h = h
passes_after w (Reserve r) fits h =
    all-put (λ x. x.offering.0) (row_passes w) r w.reservations (passes_new w r (is_some (reservation_of w r.id)) (both-left _ (nat_lt (length (reservations_of w r.offering)) 50) fits)) h
passes_after w (Unreserve id) fits h =
    all-of (row_passes w) (filter (λ r. not (r.id.0 == id.0)) w.reservations) (λ r m. all-at (row_passes w) w.reservations h r (member-filter (λ x. not (x.id.0 == id.0)) w.reservations r m).0)
passes_after w (Expiry id expiry) fits h =
    list_all-map (row_passes w) (expire id expiry) w.reservations
    ∙ all-of (λ r. row_passes w (expire id expiry r)) w.reservations (λ r m. passes_expired w id expiry r ∙ all-at (row_passes w) w.reservations h r m)
passes_after w (Restrict r) fits h = h
passes_after w (Unrestrict id) fits h = h
passes_after w (new_cap cap limit) fits h = all-of (row_passes (put_limit w cap limit)) w.reservations (λ r m. passes_capped cap limit w r ∙ all-at (row_passes w) w.reservations h r m)
passes_after w (Cancelled id) fits h = h
passes_after w (Day day) fits h = h
passes_after w (Enrol e) fits h = h
passes_after w (Leave student course) fits h = h
