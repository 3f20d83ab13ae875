-- A new offering, or a limit of an offering that isn't wanted, leaves the worlds to read the same.
use Rattle.std.specs.Prelude.{◌≡◌, Bool, true, false, ◌==◌, cond, List, [], ◌∷◌, ◌++◌, map, find, flat_map, Option, Some, None, refl}
use Rattle.std.specs.List.{list_any}
use Rattle.std.specs.Option.{option_map, option_map_or, is_some}
use Rattle.std.proofs.Common.{sym, ◌∙◌, ap, inl, inr}
use Rattle.std.proofs.lemmas.Bool.{eqb-true}
use Rattle.std.proofs.lemmas.List.{map-append}
use Rattle.sect_base.specs.declared.limit.Cap.TheVariants.{Course as cap_course, Config as cap_config, Section as cap_section}
use Rattle.sect_catalog.specs.Catalogue.{all_courses, all_sections, sections_in, find_course, find_section, has_course}
use Rattle.sect_catalog.specs.Limits.{with_limit, capped_course, capped_config, capped_subpart, capped_section}
use Rattle.sect_model.specs.Data.{Cap, Limit, CourseId, SectionId, OfferingRow}
use Rattle.sect_model.specs.declared.held.Enrolment.{Enrolment}
use Rattle.sect_model.specs.declared.held.Waiting.{Waiting}
use Rattle.sect_model.specs.declared.change.Change.TheVariants.{Offering as new_offering, Cap as new_cap}
use Rattle.sect_model.specs.World.{World, offering_of}
use Rattle.sect_model.specs.Fits.{Fits, changed}
use Rattle.sect_model.specs.Kept.{KeptWorld, entry_fits}
use Rattle.sect_model.specs.Freer.{has_cap, caps_wanted, SameHeld}
use Rattle.sect_model.proofs.Members
use Rattle.sect_model.proofs.Members.{Member, find-map}
use Rattle.sect_model.proofs.Limits.{same-course}
use Rattle.sect_model.proofs.Easy.{sound}
use Rattle.sect_model.proofs.CheckedLemmas.{flat-append, sections_of, row-by-row}
use Rattle.sect_model.proofs.Standing.{standing, course_known, section_known}
use Rattle.sect_model.proofs.CapChange.{offering-after, section-after}
use Rattle.sect_model.proofs.ChangeLemmas.{changes-keep}
use Rattle.sect_model.proofs.FreerLemmas.{member}
use Rattle.sect_model.proofs.FreerOfferings.{same-left}
use Rattle.sect_frame.specs.Frame.{ReadsSame}
use Rattle.sect_frame.proofs.PartLemmas.{same-reads}

-- ---- a new offering

-- a section that is known is found as before
pub section-longer : (rows : List OfferingRow) (row : OfferingRow) (id : SectionId) → is_some (find_section rows id) ≡ true → find_section (rows ++ row ∷ []) id ≡ find_section rows id
section-longer rows row id h =
    ap (find (λ s. s.id.0 == id.0)) (row-by-row (rows ++ row ∷ []) ∙ flat-append sections_of rows (row ∷ []) ∙ ap (λ xs. xs ++ flat_map sections_of (row ∷ [])) (sym (row-by-row rows)))
    ∙ same-left (λ s. s.id.0 == id.0) (all_sections rows) (flat_map sections_of (row ∷ [])) h

course-longer : (rows : List OfferingRow) (row : OfferingRow) (id : CourseId) → is_some (find_course rows id) ≡ true → find_course (rows ++ row ∷ []) id ≡ find_course rows id
course-longer rows row id h =
    ap (find (λ c. c.id.0 == id.0)) (flat-append (λ o. o.courses) rows (row ∷ []))
    ∙ same-left (λ c. c.id.0 == id.0) (all_courses rows) (all_courses (row ∷ [])) h

pub offering-reads : (w : World) (e : Waiting) (row : OfferingRow) → KeptWorld w → Fits w (new_offering row) → entry_fits w e ≡ true → ReadsSame w (changed w (new_offering row)) e
offering-reads w e row k fits known =
    same-reads w (changed w (new_offering row)) k (changes-keep w (new_offering row) k fits) refl e known reads refl
    (λ course o wanted its. record {
      row = Members.find-left (λ o. has_course o course) w.catalogue.rows (row ∷ []) o its;
      cancelled = λ s on. refl;
      reservations = refl;
      activity = λ r m. refl;
      restrictions = refl;
    })
  where
    reads : (y : Enrolment) → Member w.roster y → SameHeld w (changed w (new_offering row)) y.choice
    reads y m =
        let s = sound w k.good y m in
        let f = standing w y.choice s.well in
        record {
          offering = λ id. ap (λ x. option_map_or (λ o. o.id.0 == id.0) x false)
              (Members.find-left (λ o. has_course o y.choice.course) w.catalogue.rows (row ∷ []) f.offering f.is_its ∙ sym f.is_its);
          credits = ap (λ o. option_map_or (λ c. c.credits) o 0) (course-longer w.catalogue.rows row y.choice.course (course_known w y.choice f));
          meetings = λ id n. ap (λ o. option_map_or (λ s. s.meetings) o []) (section-longer w.catalogue.rows row id (section_known w y.choice f id (member y.choice.sections id n)));
          overlap = refl;
        }

-- ---- a limit

get-map : {X Y Z : Type 0} (get : Y → Z) (f : X → Y) (o : Option X) (d : Z) → option_map_or get (option_map f o) d ≡ option_map_or (λ x. get (f x)) o d
get-map get f None d = refl
get-map get f (Some x) d = refl

courses-after : (cap : Cap) (limit : Limit) (rows : List OfferingRow) → all_courses (map (with_limit cap limit) rows) ≡ map (capped_course cap limit) (all_courses rows)
courses-after cap limit [] = refl
courses-after cap limit (o ∷ os) =
    ap (λ cs. map (capped_course cap limit) o.courses ++ cs) (courses-after cap limit os)
    ∙ sym (map-append (capped_course cap limit) o.courses (all_courses os))

map-same : {X : Type 0} (f : X → X) (xs : List X) → ((x : X) → Member xs x → f x ≡ x) → map f xs ≡ xs
map-same f [] h = refl
map-same f (x ∷ xs) h = λ i. h x (inl refl) i ∷ map-same f xs (λ y m. h y (inr m)) i

-- a row that hasn't the course, configuration or section of the limit stays as it is
row-kept : (limit : Limit) (cap : Cap) (o : OfferingRow) → has_cap cap o ≡ false → with_limit cap limit o ≡ o
row-kept limit (cap_course id) o h = λ i. record o {
  courses = map-same (capped_course (cap_course id) limit) o.courses (λ c m j. record c { limit = cond (Members.none-at (λ c. c.id.0 == id.0) o.courses h c m j) limit c.limit }) i;
  configs = map-same (capped_config (cap_course id) limit) o.configs (λ g m j. record g {
    subparts = map-same (capped_subpart (cap_course id) limit) g.subparts (λ p n l. record p { sections = map-same (capped_section (cap_course id) limit) p.sections (λ s q. refl) l }) j;
  }) i;
}
row-kept limit (cap_config id) o h = λ i. record o {
  courses = map-same (capped_course (cap_config id) limit) o.courses (λ c m. refl) i;
  configs = map-same (capped_config (cap_config id) limit) o.configs (λ g m j. record g {
    limit = cond (Members.none-at (λ g. g.id.0 == id.0) o.configs h g m j) limit g.limit;
    subparts = map-same (capped_subpart (cap_config id) limit) g.subparts (λ p n l. record p { sections = map-same (capped_section (cap_config id) limit) p.sections (λ s q. refl) l }) j;
  }) i;
}
row-kept limit (cap_section id) o h = λ i. record o {
  courses = map-same (capped_course (cap_section id) limit) o.courses (λ c m. refl) i;
  configs = map-same (capped_config (cap_section id) limit) o.configs (λ g m j. record g {
    subparts = map-same (capped_subpart (cap_section id) limit) g.subparts (λ p n l. record p {
      sections = map-same (capped_section (cap_section id) limit) p.sections (λ s q t. record s {
        limit = cond (Members.none-at (λ s. s.id.0 == id.0) (sections_in (flat_map (λ g. g.subparts) o.configs)) h s
            (Members.member-of_flat_map (λ p. p.sections) (flat_map (λ g. g.subparts) o.configs) p s (Members.member-of_flat_map (λ g. g.subparts) o.configs g p m n) q) t) limit s.limit;
      }) l;
    }) j;
  }) i;
}

-- a wanted offering has nothing that no wanted offering has
pub wanted-none : (w : World) (e : Waiting) (test : OfferingRow → Bool) → list_any (λ c. option_map_or test (offering_of w c) false) e.want.courses ≡ false
    → (course : CourseId) (o : OfferingRow) → list_any (λ c. c.0 == course.0) e.want.courses ≡ true → offering_of w course ≡ Some o → test o ≡ false
wanted-none w e test h course o wanted its =
    let c = Members.any-at (λ c. c.0 == course.0) e.want.courses wanted in
    sym (ap (λ x. option_map_or test x false) (ap (λ d. offering_of w d) (same-course c.0 course (eqb-true c.0.0 course.0 c.2)) ∙ its))
    ∙ Members.none-at (λ c. option_map_or test (offering_of w c) false) e.want.courses h c.0 c.1

pub cap-reads : (w : World) (e : Waiting) (cap : Cap) (limit : Limit) → KeptWorld w → Fits w (new_cap cap limit) → entry_fits w e ≡ true → caps_wanted w e.want cap ≡ false
    → ReadsSame w (changed w (new_cap cap limit)) e
cap-reads w e cap limit k fits known away =
    same-reads w (changed w (new_cap cap limit)) k (changes-keep w (new_cap cap limit) k fits) refl e known reads refl
    (λ course o wanted its. record {
      row = offering-after cap limit w.catalogue.rows course ∙ ap (option_map (with_limit cap limit)) its ∙ ap Some (row-kept limit cap o (wanted-none w e (has_cap cap) away course o wanted its));
      cancelled = λ s on. refl;
      reservations = refl;
      activity = λ r m. refl;
      restrictions = refl;
    })
  where
    reads : (y : Enrolment) → Member w.roster y → SameHeld w (changed w (new_cap cap limit)) y.choice
    reads y m = record {
      offering = λ id.
          ap (λ x. option_map_or (λ o. o.id.0 == id.0) x false) (offering-after cap limit w.catalogue.rows y.choice.course)
          ∙ get-map (λ o. o.id.0 == id.0) (with_limit cap limit) (offering_of w y.choice.course) false;
      credits =
          ap (λ x. option_map_or (λ c. c.credits) x 0)
          (ap (find (λ c. c.id.0 == y.choice.course.0)) (courses-after cap limit w.catalogue.rows)
          ∙ find-map (λ c. c.id.0 == y.choice.course.0) (capped_course cap limit) (all_courses w.catalogue.rows) (λ c. refl))
          ∙ get-map (λ c. c.credits) (capped_course cap limit) (find_course w.catalogue.rows y.choice.course) 0;
      meetings = λ s n.
          ap (λ x. option_map_or (λ s. s.meetings) x []) (section-after cap limit w.catalogue.rows s)
          ∙ get-map (λ s. s.meetings) (capped_section cap limit) (find_section w.catalogue.rows s) [];
      overlap = refl;
    }
