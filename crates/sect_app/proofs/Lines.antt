-- What is read of a row has a text.
use Rattle.std.proofs.Common.{◌≡◌, ℕ, ◌==◌, true, false, Bool, List, [], ◌∷◌, length, Option, None, Some, Result, Ok, Err, refl, subst}
use Rattle.std.specs.Prelude.{codes, if◌then◌else◌}
use Rattle.std.specs.Str.{bytes_eq}
use Rattle.sect_base.specs.declared.ids.StudentId.{StudentId}
use Rattle.sect_base.specs.declared.limit.Limit.{Limit}
use Rattle.sect_catalog.specs.declared.row.CourseRow.{CourseRow}
use Rattle.sect_command.specs.declared.command.ReserveRow.{ReserveRow}
use Rattle.sect_tables.specs.Fields.{field_of, of_length}
use Rattle.sect_tables.specs.Lines.{ask_fields, ask_line, config_limit_of, course_fields, courses_of, first_of, free_fields, has_courses_of, has_limit_of, kind_fields, no_of, rank_of, reservation_fields, reservation_length, reservation_line, section_fields, section_line, student_fields, student_line}
use Rattle.sect_tables.specs.Told.{◌>>=◌, told}
use Rattle.sect_tables.specs.declared.line.Before.{Before}
use Rattle.sect_tables.specs.declared.line.SectionLine.{SectionLine}
use Rattle.sect_people.specs.declared.row.Ask.{Ask}
use Rattle.sect_people.specs.declared.row.StudentRow.{StudentRow}
use Rattle.sect_words.specs.Parts.{pieces}
use Rattle.sect_words.specs.Reading.{all_of}
use Rattle.sect_words.specs.ReadingWords.{audience_of, config_of, course_of, course_row_of, curriculum_of, day_of, flag_of, group_of, limit_of, list_of, meeting_of, offering_of, optional_of, reservation_of, section_of, student_of, subpart_of, u16_of}
use Rattle.sect_words.specs.Times.{term_meeting_of}
use Rattle.sect_read.specs.Fits.{FitsAsk, FitsConfig, FitsCourseRow, FitsDay, FitsLimit, FitsList, FitsOffering, FitsOptional, FitsReserveRow, FitsSectionRow, FitsStudent, FitsStudentRow, FitsSubpart}
use Rattle.sect_read.proofs.PartLaws.{exact_audience, exact_curriculum}
use Rattle.sect_read.proofs.Steps.{if_found}
use Rattle.sect_read.proofs.ValueLaws.{exact_config, exact_course, exact_day, exact_group, exact_limit, exact_meeting, exact_offering, exact_reservation, exact_section, exact_student, exact_subpart}
use Rattle.sect_read.proofs.WordLaws.{exact_u16}
use Rattle.sect_app.proofs.Values.{Sound, all_sound, course_row_sound, exact_sound, list_sound, optional_sound, term_meeting_sound}

-- a field's value, and what it leads to
field_step : {A B : Type 0} (number : ℕ) (o : Option A) (leads : A → Result B ℕ) (y : B) {G : Type 0} → (told number o >>= leads) ≡ Ok y
    → ((x : A) → o ≡ Some x → leads x ≡ Ok y → G) → G
field_step number (Some x) leads y e k = k x refl e
field_step number None leads y e k = absurd (cc)

-- what leads to a value, and what that leads to
then_step : {A B : Type 0} (r : Result A ℕ) (leads : A → Result B ℕ) (y : B) {G : Type 0} → (r >>= leads) ≡ Ok y → ((x : A) → r ≡ Ok x → leads x ≡ Ok y → G) → G
then_step (Ok x) leads y e k = k x refl e
then_step (Err number) leads y e k = absurd (cc)

length_found : {A : Type 0} (many : ℕ) (fields : List (List ℕ)) (line : Result A ℕ) (x : A) → of_length many fields line ≡ Ok x → line ≡ Ok x
length_found {A} many fields line x e = by (length fields == many) e
  where
    by : (b : Bool) → (if b then line else Err 0) ≡ Ok x → line ≡ Ok x
    by true e = e
    by false e = absurd (cc)

ok_is : {A E : Type 0} (x y : A) → ◌≡◌ {A = Result A E} (Ok x) (Ok y) → x ≡ y
ok_is x y e = cc

-- ---- offerings

-- the values of a section's row have texts
pub record FitsSectionLine (line : SectionLine) : Type 0 where
  pub offering : FitsOffering line.offering
  pub courses : FitsList FitsCourseRow line.courses
  pub config : FitsConfig line.config
  pub config_limit : FitsLimit line.config_limit
  pub subpart : FitsSubpart line.subpart
  pub section : FitsSectionRow line.section

courses_sound : (before : Option Before) → Sound (courses_of before) (FitsList FitsCourseRow)
courses_sound before text xs e = if_found (has_courses_of before text) (all_of course_row_of (pieces 43 text)) None xs e
    (λ b e. all_sound course_row_sound (pieces 43 text) xs e)
    (λ b e. absurd (cc))

config_limit_sound : (before : Option Before) (config : ℕ) → Sound (config_limit_of before config) FitsLimit
config_limit_sound before config text limit e = if_found (has_limit_of before config text) (limit_of text) None limit e
    (λ b e. exact_sound exact_limit text limit e)
    (λ b e. absurd (cc))

section_fields_fit : (term : Option ℕ) (before : Option Before) (fields : List (List ℕ)) (line : SectionLine) → section_fields term before fields ≡ Ok line → FitsSectionLine line
unfolding section_fields
section_fields_fit term before fields line e = field_step 1 (offering_of (field_of fields 1)) _ _ e (λ offering is1 e.
    field_step 2 (courses_of before (field_of fields 2)) _ _ e (λ courses is2 e.
    field_step 3 (config_of (field_of fields 3)) _ _ e (λ config is3 e.
    field_step 4 (config_limit_of before config.0 (field_of fields 4)) _ _ e (λ config_limit is4 e.
    field_step 5 (subpart_of (field_of fields 5)) _ _ e (λ subpart is5 e.
    field_step 6 (section_of (field_of fields 6)) _ _ e (λ id is6 e.
    field_step 7 (limit_of (field_of fields 7)) _ _ e (λ limit is7 e.
    field_step 8 (optional_of section_of (field_of fields 8)) _ _ e (λ parent is8 e.
    field_step 9 (list_of 43 (term_meeting_of term) (field_of fields 9)) _ _ e (λ meetings is9 e.
    subst FitsSectionLine (ok_is _ line e) (record {
      offering = exact_sound exact_offering (field_of fields 1) offering is1;
      courses = courses_sound before (field_of fields 2) courses is2;
      config = exact_sound exact_config (field_of fields 3) config is3;
      config_limit = config_limit_sound before config.0 (field_of fields 4) config_limit is4;
      subpart = exact_sound exact_subpart (field_of fields 5) subpart is5;
      section = (
        exact_sound exact_section (field_of fields 6) id is6,
        exact_sound exact_limit (field_of fields 7) limit is7,
        optional_sound (exact_sound exact_section) (field_of fields 8) parent is8,
        list_sound (term_meeting_sound term) 43 (field_of fields 9) meetings is9,
      );
    }))))))))))

pub section_line_fits : (term : Option ℕ) (before : Option Before) (fields : List (List ℕ)) (line : SectionLine) → section_line term before fields ≡ Ok line → FitsSectionLine line
unfolding section_line
section_line_fits term before fields line e = section_fields_fit term before fields line (length_found 9 fields _ line e)

-- ---- students

student_fields_fit : (fields : List (List ℕ)) (row : StudentRow) → student_fields fields ≡ Ok row → FitsStudentRow row
unfolding student_fields
student_fields_fit fields row e = field_step 1 (student_of (field_of fields 1)) _ _ e (λ id is1 e.
    field_step 2 (u16_of (field_of fields 2)) _ _ e (λ max_credits is2 e.
    field_step 3 (list_of 43 group_of (field_of fields 3)) _ _ e (λ groups is3 e.
    field_step 4 (list_of 59 curriculum_of (field_of fields 4)) _ _ e (λ curricula is4 e.
    subst FitsStudentRow (ok_is _ row e) (
      exact_sound exact_student (field_of fields 1) id is1,
      exact_sound exact_u16 (field_of fields 2) max_credits is2,
      list_sound (exact_sound exact_group) 43 (field_of fields 3) groups is3,
      list_sound (exact_sound exact_curriculum) 59 (field_of fields 4) curricula is4,
    )))))

pub student_line_fits : (fields : List (List ℕ)) (row : StudentRow) → student_line fields ≡ Ok row → FitsStudentRow row
unfolding student_line
student_line_fits fields row e = student_fields_fit fields row (length_found 4 fields _ row e)

-- ---- requests

course_fields_fit : (fields : List (List ℕ)) (ask : Ask) → course_fields fields ≡ Ok ask → FitsAsk ask
unfolding course_fields
course_fields_fit fields ask e = field_step 4 (list_of 43 course_of (field_of fields 4)) _ _ e (λ courses is4 e.
    field_step 5 (flag_of (field_of fields 5)) _ _ e (λ wait is5 e.
    field_step 6 (flag_of (field_of fields 6)) _ _ e (λ substitute is6 e.
    subst FitsAsk (ok_is _ ask e) (list_sound (exact_sound exact_course) 43 (field_of fields 4) courses is4))))

free_fields_fit : (fields : List (List ℕ)) (ask : Ask) → free_fields fields ≡ Ok ask → FitsAsk ask
unfolding free_fields
free_fields_fit fields ask e = field_step 4 (meeting_of (field_of fields 4)) _ _ e (λ meeting is4 e.
    field_step 5 (no_of (field_of fields 5)) _ _ e (λ wait is5 e.
    field_step 6 (no_of (field_of fields 6)) _ _ e (λ substitute is6 e.
    subst FitsAsk (ok_is _ ask e) (exact_sound exact_meeting (field_of fields 4) meeting is4))))

kind_fields_fit : (kind : List ℕ) (fields : List (List ℕ)) (ask : Ask) → kind_fields kind fields ≡ Ok ask → FitsAsk ask
kind_fields_fit kind fields ask e = by (bytes_eq kind (codes "course")) (bytes_eq kind (codes "free")) e
  where
    by : (course free : Bool) → (if course then course_fields fields else (if free then free_fields fields else Err 3)) ≡ Ok ask → FitsAsk ask
    by true free e = course_fields_fit fields ask e
    by false true e = free_fields_fit fields ask e
    by false false e = absurd (cc)

ask_fields_fit : (rank : ℕ) (fields : List (List ℕ)) (line : StudentId × Ask) → ask_fields rank fields ≡ Ok line → FitsStudent line.0 × FitsAsk line.1
unfolding ask_fields
ask_fields_fit rank fields line e = field_step 1 (student_of (field_of fields 1)) _ _ e (λ student is1 e.
    field_step 2 (rank_of rank (field_of fields 2)) _ _ e (λ place is2 e.
    then_step (kind_fields (field_of fields 3) fields) _ _ e (λ ask is3 e.
    subst (λ (l : StudentId × Ask). FitsStudent l.0 × FitsAsk l.1) (ok_is _ line e) (
      exact_sound exact_student (field_of fields 1) student is1,
      kind_fields_fit (field_of fields 3) fields ask is3,
    ))))

pub ask_line_fits : (rank : ℕ) (fields : List (List ℕ)) (line : StudentId × Ask) → ask_line rank fields ≡ Ok line → FitsStudent line.0 × FitsAsk line.1
unfolding ask_line
ask_line_fits rank fields line e = ask_fields_fit rank fields line (length_found 6 fields _ line e)

-- ---- reservations

first_sound : (has_first : Bool) (fields : List (List ℕ)) (first : Option ℕ) → first_of has_first fields ≡ Some first → FitsOptional FitsDay first
first_sound true fields first e = optional_sound (exact_sound exact_day) (field_of fields 11) first e
first_sound false fields first e = let same : None ≡ first = cc in subst (λ (o : Option ℕ). FitsOptional FitsDay o) same tt

reservation_fields_fit : (has_first : Bool) (fields : List (List ℕ)) (row : ReserveRow) → reservation_fields has_first fields ≡ Ok row → FitsReserveRow row
unfolding reservation_fields
reservation_fields_fit has_first fields row e = field_step 1 (reservation_of (field_of fields 1)) _ _ e (λ id is1 e.
    field_step 2 (offering_of (field_of fields 2)) _ _ e (λ offering is2 e.
    field_step 3 (audience_of (field_of fields 3)) _ _ e (λ audience is3 e.
    field_step 4 (limit_of (field_of fields 4)) _ _ e (λ limit is4 e.
    field_step 5 (optional_of day_of (field_of fields 5)) _ _ e (λ expiry is5 e.
    field_step 6 (list_of 43 config_of (field_of fields 6)) _ _ e (λ configs is6 e.
    field_step 7 (list_of 43 section_of (field_of fields 7)) _ _ e (λ sections is7 e.
    field_step 8 (flag_of (field_of fields 8)) _ _ e (λ over is8 e.
    field_step 9 (flag_of (field_of fields 9)) _ _ e (λ overlap is9 e.
    field_step 10 (flag_of (field_of fields 10)) _ _ e (λ must is10 e.
    field_step 11 (first_of has_first fields) _ _ e (λ first is11 e.
    subst FitsReserveRow (ok_is _ row e) (
      exact_sound exact_reservation (field_of fields 1) id is1,
      exact_sound exact_offering (field_of fields 2) offering is2,
      exact_sound exact_audience (field_of fields 3) audience is3,
      exact_sound exact_limit (field_of fields 4) limit is4,
      optional_sound (exact_sound exact_day) (field_of fields 5) expiry is5,
      first_sound has_first fields first is11,
      list_sound (exact_sound exact_config) 43 (field_of fields 6) configs is6,
      list_sound (exact_sound exact_section) 43 (field_of fields 7) sections is7,
    ))))))))))))

pub reservation_line_fits : (has_first : Bool) (fields : List (List ℕ)) (row : ReserveRow) → reservation_line has_first fields ≡ Ok row → FitsReserveRow row
unfolding reservation_line
reservation_line_fits has_first fields row e = reservation_fields_fit has_first fields row (length_found (reservation_length has_first) fields _ row e)
