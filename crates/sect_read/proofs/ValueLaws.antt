-- Ids, days, meetings and the other words are read exactly.
use Rattle.std.proofs.Common.{◌≡◌, ℕ, zero, suc, ◌==◌, ◌≤◌, false, List, [], ◌∷◌, map, length, append-nil, Option, None, Some, refl, ap, sym, ◌∙◌, subst, arith, decimal, lit<, inl}
use Rattle.std.specs.Prelude.{if◌then◌else◌}
use Rattle.std.specs.Str.{bytes_eq}
use Rattle.std.specs.Option.{option_map}
use Rattle.std.specs.List.{AllByRecursion}
use Rattle.std.proofs.lemmas.Bool.{eqb-true}
use Rattle.sect_base.specs.declared.ids.SectionId.{SectionId}
use Rattle.sect_base.specs.declared.limit.Limit.{Limit}
use Rattle.sect_base.specs.declared.limit.Limit.TheVariants.{Unlimited, Places}
use Rattle.sect_base.specs.declared.limit.Caller.{Caller}
use Rattle.sect_base.specs.declared.limit.Caller.TheVariants as callers
use Rattle.sect_base.specs.Pattern.{IsPattern}
use Rattle.sect_base.specs.MeetingText.{meeting_text}
use Rattle.sect_words.specs.Days.{day_text}
use Rattle.sect_words.specs.Parts.{joined, pieces}
use Rattle.sect_words.specs.Words.{dash, list_text, optional_text, limit_text, caller_text, sections_text, section_text, course_text, reservation_text, student_text, class_text, major_text}
use Rattle.sect_words.proofs.Dates.{has_day}
use Rattle.sect_read.specs.Fits.{Fits32, FitsDay, FitsList, FitsOptional, FitsLimit, FitsCaller, FitsSections, FitsCourse, FitsConfig, FitsSubpart, FitsSection, FitsOffering, FitsReservation, FitsRestriction, FitsStudent, FitsGroup, FitsArea, FitsClass, FitsMajor}
use Rattle.sect_words.specs.Reading.{◌>>=◌}
use Rattle.sect_words.specs.ReadingWords.{u32_of, day_of, meeting_of, list_of, optional_of, limit_of, caller_of, few_sections, sections_of, registrar, student_caller, course_of, course_id, config_of, config_id, subpart_of, subpart_id, section_of, section_id, offering_of, offering_id, reservation_of, reservation_id, restriction_of, restriction_id, student_of, student_id, group_of, group_id, area_of, area_id, class_of, class_id, major_of, major_id}
use Rattle.sect_read.proofs.Steps.{Exact, bind_found, if_found, same_word}
use Rattle.sect_words.proofs.Numbers.{exact_map}
pub use Rattle.sect_words.proofs.Values.{exact_day, exact_meeting, exact_tree}
use Rattle.sect_words.proofs.Pieces.{Lacks, joined_pieces, pieces_joined, some_pieces}
use Rattle.sect_read.proofs.Bytes.{NoDash, lacks_decimal, lacks_low, no_dash_decimal, no_dash_meeting, no_dash_date, meeting_all, each_text}
use Rattle.sect_read.proofs.WordLaws.{exact_u32, small32, exact_list, exact_optional}

pub exact_course : Exact course_of (λ id. decimal id.0) FitsCourse
exact_course = exact_map course_id (λ id. id.0) exact_u32 (λ n. refl) (λ id. refl)

pub exact_config : Exact config_of (λ id. decimal id.0) FitsConfig
exact_config = exact_map config_id (λ id. id.0) exact_u32 (λ n. refl) (λ id. refl)

pub exact_subpart : Exact subpart_of (λ id. decimal id.0) FitsSubpart
exact_subpart = exact_map subpart_id (λ id. id.0) exact_u32 (λ n. refl) (λ id. refl)

pub exact_section : Exact section_of (λ id. decimal id.0) FitsSection
exact_section = exact_map section_id (λ id. id.0) exact_u32 (λ n. refl) (λ id. refl)

pub exact_offering : Exact offering_of (λ id. decimal id.0) FitsOffering
exact_offering = exact_map offering_id (λ id. id.0) exact_u32 (λ n. refl) (λ id. refl)

pub exact_reservation : Exact reservation_of (λ id. decimal id.0) FitsReservation
exact_reservation = exact_map reservation_id (λ id. id.0) exact_u32 (λ n. refl) (λ id. refl)

pub exact_restriction : Exact restriction_of (λ id. decimal id.0) FitsRestriction
exact_restriction = exact_map restriction_id (λ id. id.0) exact_u32 (λ n. refl) (λ id. refl)

pub exact_student : Exact student_of (λ id. decimal id.0) FitsStudent
exact_student = exact_map student_id (λ id. id.0) exact_u32 (λ n. refl) (λ id. refl)

pub exact_group : Exact group_of (λ id. decimal id.0) FitsGroup
exact_group = exact_map group_id (λ id. id.0) exact_u32 (λ n. refl) (λ id. refl)

pub exact_area : Exact area_of (λ id. decimal id.0) FitsArea
exact_area = exact_map area_id (λ id. id.0) exact_u32 (λ n. refl) (λ id. refl)

pub exact_class : Exact class_of (λ id. decimal id.0) FitsClass
exact_class = exact_map class_id (λ id. id.0) exact_u32 (λ n. refl) (λ id. refl)

pub exact_major : Exact major_of (λ id. decimal id.0) FitsMajor
exact_major = exact_map major_id (λ id. id.0) exact_u32 (λ n. refl) (λ id. refl)

-- a number of 32 bits in a list
pub plain_id : (n : ℕ) → Fits32 n → Lacks 43 (decimal n)
plain_id n fits = lacks_decimal 43 n (inl (lit< tt)) (small32 n fits)

pub start_id : (n : ℕ) → Fits32 n → NoDash (decimal n)
start_id n fits = no_dash_decimal n (small32 n fits)

-- a text that begins with no `-` isn't `-`
pub not_dash : (text : List ℕ) → NoDash text → bytes_eq text dash ≡ false
not_dash text none = ap (λ (t : List ℕ). bytes_eq t dash) (sym (append-nil text)) ∙ none []

pub exact_courses : Exact (list_of 43 course_of) (list_text 43 course_text) (FitsList FitsCourse)
exact_courses = exact_list exact_course (λ id fits. plain_id id.0 fits) (λ id fits. start_id id.0 fits)

pub exact_sections_of : Exact (list_of 43 section_of) (list_text 43 section_text) (FitsList FitsSection)
exact_sections_of = exact_list exact_section (λ id fits. plain_id id.0 fits) (λ id fits. start_id id.0 fits)

pub exact_students : Exact (list_of 43 student_of) (list_text 43 student_text) (FitsList FitsStudent)
exact_students = exact_list exact_student (λ id fits. plain_id id.0 fits) (λ id fits. start_id id.0 fits)

pub exact_classs : Exact (list_of 43 class_of) (list_text 43 class_text) (FitsList FitsClass)
exact_classs = exact_list exact_class (λ id fits. plain_id id.0 fits) (λ id fits. start_id id.0 fits)

pub exact_majors : Exact (list_of 43 major_of) (list_text 43 major_text) (FitsList FitsMajor)
exact_majors = exact_list exact_major (λ id fits. plain_id id.0 fits) (λ id fits. start_id id.0 fits)

pub exact_optional_section : Exact (optional_of section_of) (optional_text section_text) (FitsOptional FitsSection)
exact_optional_section = exact_optional exact_section (λ id fits. not_dash (decimal id.0) (start_id id.0 fits))

pub exact_optional_reservation : Exact (optional_of reservation_of) (optional_text reservation_text) (FitsOptional FitsReservation)
exact_optional_reservation = exact_optional exact_reservation (λ id fits. not_dash (decimal id.0) (start_id id.0 fits))

pub exact_optional_course : Exact (optional_of course_of) (optional_text course_text) (FitsOptional FitsCourse)
exact_optional_course = exact_optional exact_course (λ id fits. not_dash (decimal id.0) (start_id id.0 fits))

-- ---- days and meetings

pub exact_optional_day : Exact (optional_of day_of) (optional_text day_text) (FitsOptional FitsDay)
exact_optional_day = exact_optional exact_day (λ day fits. not_dash (day_text day) (no_dash_date (day_text day) day (has_day day fits)))

pub exact_meetings : Exact (list_of 43 meeting_of) (list_text 43 meeting_text) (FitsList IsPattern)
exact_meetings = exact_list exact_meeting (λ p is. lacks_low 43 45 (meeting_text p) (lit< tt) (meeting_all p)) (λ p is. no_dash_meeting p)

-- ---- limits, callers and sections

limit_found : (word : List ℕ) (limit : Limit) → limit_of word ≡ Some limit → FitsLimit limit × (word ≡ limit_text limit)
unfolding limit_of
limit_found word limit e = if_found (bytes_eq word dash) (Some Unlimited) (option_map Places (u32_of word)) limit e
    (λ b e. let same : Unlimited ≡ limit = cc in subst (λ l. FitsLimit l × (word ≡ limit_text l)) same (tt, same_word word dash b))
    (λ b e. by (u32_of word) refl e)
  where
    by : (o : Option ℕ) → u32_of word ≡ o → option_map Places o ≡ Some limit → FitsLimit limit × (word ≡ limit_text limit)
    by None is e = absurd (cc)
    by (Some n) is e = let same : Places n ≡ limit = cc in subst (λ l. FitsLimit l × (word ≡ limit_text l)) same (exact_u32.found word n is)

limit_again : (limit : Limit) → FitsLimit limit → limit_of (limit_text limit) ≡ Some limit
unfolding limit_of
limit_again Unlimited fits = refl
limit_again (Places n) fits =
    ap (λ b. if b then Some Unlimited else option_map Places (u32_of (decimal n))) (not_dash (decimal n) (start_id n fits)) ∙ ap (option_map Places) (exact_u32.again n fits)

pub exact_limit : Exact limit_of limit_text FitsLimit
exact_limit = record { found = limit_found; again = limit_again }

registrar_by : (b : ℕ) (bs : List ℕ) (caller : Caller) (o : Option ℕ) → b ≡ 114 → u32_of bs ≡ o → option_map registrar o ≡ Some caller → FitsCaller caller × (b ∷ bs ≡ caller_text caller)
registrar_by b bs caller None letter is e = absurd (cc)
registrar_by b bs caller (Some n) letter is e =
    let same : registrar n ≡ caller = cc in
    let p = exact_u32.found bs n is in
    subst (λ c. FitsCaller c × (b ∷ bs ≡ caller_text c)) same (p.0, λ i. letter i ∷ p.1 i)

student_by : (b : ℕ) (bs : List ℕ) (caller : Caller) (o : Option ℕ) → b ≡ 115 → u32_of bs ≡ o → option_map student_caller o ≡ Some caller → FitsCaller caller × (b ∷ bs ≡ caller_text caller)
student_by b bs caller None letter is e = absurd (cc)
student_by b bs caller (Some n) letter is e =
    let same : student_caller n ≡ caller = cc in
    let p = exact_u32.found bs n is in
    subst (λ c. FitsCaller c × (b ∷ bs ≡ caller_text c)) same (p.0, λ i. letter i ∷ p.1 i)

caller_found : (word : List ℕ) (caller : Caller) → caller_of word ≡ Some caller → FitsCaller caller × (word ≡ caller_text caller)
unfolding caller_of
caller_found [] caller e = absurd (cc)
caller_found (b ∷ bs) caller e = if_found (b == 114) (option_map registrar (u32_of bs)) (if b == 115 then option_map student_caller (u32_of bs) else None) caller e
    (λ t e. registrar_by b bs caller (u32_of bs) (eqb-true b 114 t) refl e)
    (λ f e. if_found (b == 115) (option_map student_caller (u32_of bs)) None caller e
    (λ t e. student_by b bs caller (u32_of bs) (eqb-true b 115 t) refl e)
    (λ f e. absurd (cc)))

caller_again : (caller : Caller) → FitsCaller caller → caller_of (caller_text caller) ≡ Some caller
unfolding caller_of
caller_again (callers.Registrar n) fits = ap (option_map registrar) (exact_u32.again n fits)
caller_again (callers.Student id) fits = ap (option_map student_caller) (exact_u32.again id.0 fits)

pub exact_caller : Exact caller_of caller_text FitsCaller
exact_caller = record { found = caller_found; again = caller_again }

few_found : (n : ℕ) (words : List (List ℕ)) (ids : List SectionId) → few_sections n words ≡ Some ids → (length ids ≤ n) × AllByRecursion FitsSection ids × (words ≡ map section_text ids)
few_found n [] [] e = (omega arith, tt, refl)
few_found n [] (id ∷ ids) e = absurd (cc)
few_found zero (word ∷ words) ids e = absurd (cc)
few_found (suc n) (word ∷ words) ids e = bind_found (section_of word) _ _ e (λ id is e. bind_found (few_sections n words) _ _ e (λ more found e.
    let same : id ∷ more ≡ ids = cc in
    let p = exact_section.found word id is in
    let q = few_found n words more found in
    subst (λ all. (length all ≤ suc n) × AllByRecursion FitsSection all × (word ∷ words ≡ map section_text all)) same
    (omega (arith, q.0), (p.0, q.1), λ i. p.1 i ∷ q.2 i)))

few_again : (n : ℕ) (ids : List SectionId) → length ids ≤ n → AllByRecursion FitsSection ids → few_sections n (map section_text ids) ≡ Some ids
few_again n [] few fits = refl
few_again zero (id ∷ ids) few fits = absurd (omega (arith, few))
few_again (suc n) (id ∷ ids) few fits =
    ap (λ o. o >>= λ x. few_sections n (map section_text ids) >>= λ xs. Some (x ∷ xs)) (exact_section.again id fits.0)
    ∙ ap (λ o. o >>= λ xs. Some (id ∷ xs)) (few_again n ids (omega (arith, few)) fits.1)

sections_found : (word : List ℕ) (ids : List SectionId) → sections_of word ≡ Some ids → FitsSections ids × (word ≡ sections_text ids)
unfolding sections_of
sections_found word [] e = absurd (some_pieces 43 word (few_found 6 (pieces 43 word) [] e).2)
sections_found word (id ∷ ids) e =
    let p = few_found 6 (pieces 43 word) (id ∷ ids) e in
    ((omega arith, p.0, p.1), sym (joined_pieces 43 word) ∙ ap (joined 43) p.2)

sections_again : (ids : List SectionId) → FitsSections ids → sections_of (sections_text ids) ≡ Some ids
unfolding sections_of
sections_again [] fits = absurd (omega (arith, fits.0))
sections_again (id ∷ ids) fits =
    ap (few_sections 6) (pieces_joined 43 (section_text id) (map section_text ids) (plain_id id.0 fits.2.0) (each_text (λ byte. (byte == 43) ≡ false) section_text (λ x f. plain_id x.0 f) ids fits.2.1))
    ∙ few_again 6 (id ∷ ids) fits.1 fits.2

pub exact_sections : Exact sections_of sections_text FitsSections
exact_sections = record { found = sections_found; again = sections_again }
