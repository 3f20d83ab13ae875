-- A row of the table of offerings is read back.
use Rattle.std.proofs.Common.{◌≡◌, ◌==◌, ℕ, ◌<◌, ◌≤◌, true, false, List, [], ◌∷◌, length, Option, None, Some, Ok, refl, ap, ◌∙◌, decimal, lit<, arith}
use Rattle.std.specs.Option.{option_or}
use Rattle.std.specs.Prelude.{if◌then◌else◌}
use Rattle.csv.specs.Records.{field_at}
use Rattle.sect_base.specs.declared.limit.Limit.{Limit}
use Rattle.sect_base.specs.declared.limit.Limit.TheVariants.{Places, Unlimited}
use Rattle.sect_catalog.specs.declared.row.ConfigRow.{ConfigRow}
use Rattle.sect_catalog.specs.declared.row.CourseRow.{CourseRow}
use Rattle.sect_catalog.specs.declared.row.OfferingRow.{OfferingRow}
use Rattle.sect_catalog.specs.declared.row.SectionRow.{SectionRow}
use Rattle.sect_catalog.specs.declared.row.SubpartRow.{SubpartRow}
use Rattle.sect_tables.specs.Fields.{field_of}
use Rattle.sect_tables.specs.Lines.{config_limit_of, courses_of, has_courses_of, has_limit_of, section_fields, section_line}
use Rattle.sect_tables.specs.declared.line.Before.{Before}
use Rattle.sect_tables.specs.declared.line.SectionLine.{SectionLine}
use Rattle.sect_read.proofs.Bytes.{all_joined, lacks_low, meeting_all, no_dash_meeting}
use Rattle.sect_read.proofs.PartLaws.{no_colon}
use Rattle.sect_read.proofs.Steps.{word_back}
use Rattle.sect_read.proofs.ValueLaws.{exact_config, exact_course, exact_limit, exact_meeting, exact_offering, exact_optional_section, exact_section, exact_subpart, plain_id}
use Rattle.sect_read.proofs.WordLaws.{exact_between}
use Rattle.sect_read.specs.Fits.{Fits32, FitsConfig, FitsCourseRow, FitsLimit, FitsList, FitsOffering, FitsSectionRow, FitsSubpart}
use Rattle.sect_csv.specs.Tables.{section_fields as section_texts}
use Rattle.sect_base.specs.MeetingText.{meeting_text}
use Rattle.sect_base.specs.Pattern.{IsPattern, Pattern}
use Rattle.sect_words.proofs.Pieces.{Lacks, pieces_joined}
use Rattle.sect_words.specs.Parts.{pieces}
use Rattle.sect_words.specs.Reading.{all_of, whole}
use Rattle.sect_words.specs.ReadingWords.{config_of, course_parts_at, course_row_of, limit_of, list_of, offering_of, optional_of, section_of, subpart_of}
use Rattle.sect_words.specs.Times.{dated_of, term_meeting_of}
use Rattle.sect_words.specs.Words.{course_row_text, limit_text, list_text, optional_text, section_text}
use Rattle.sect_return.proofs.Told.{told_back}
use Rattle.sect_return.proofs.Words.{joined_back, list_back}

-- ---- courses

lacks_limit : (mark : ℕ) → (45 == mark) ≡ false → ((n : ℕ) → Fits32 n → Lacks mark (decimal n)) → (limit : Limit) → FitsLimit limit → Lacks mark (limit_text limit)
lacks_limit mark minus number Unlimited fits = (minus, tt)
lacks_limit mark minus number (Places n) fits = number n fits

few : (n : ℕ) → n ≤ 30 → Fits32 n
few n fits = omega (arith, fits)

parts_back : (c : CourseRow) → FitsCourseRow c → course_parts_at (decimal c.id.0 ∷ limit_text c.limit ∷ decimal c.credits ∷ []) ≡ Some (c, [])
unfolding course_parts_at
parts_back c fits =
    word_back exact_course c.id _ _ _ fits.0
    (word_back exact_limit c.limit _ _ _ fits.1
    (word_back (exact_between 0 30 (lit< tt)) c.credits _ _ _ (omega arith, fits.2) refl))

course_back : (c : CourseRow) → FitsCourseRow c → course_row_of (course_row_text c) ≡ Some c
course_back c fits =
    ap (λ parts. whole (course_parts_at parts))
    (pieces_joined 58 (decimal c.id.0) (limit_text c.limit ∷ decimal c.credits ∷ []) (no_colon c.id.0 fits.0)
    (lacks_limit 58 refl no_colon c.limit fits.1, (no_colon c.credits (few c.credits fits.2), tt)))
    ∙ ap whole (parts_back c fits)

no_plus : (c : CourseRow) → FitsCourseRow c → Lacks 43 (course_row_text c)
no_plus c fits = all_joined (λ byte. (byte == 43) ≡ false) 58 refl (decimal c.id.0 ∷ limit_text c.limit ∷ decimal c.credits ∷ [])
    (plain_id c.id.0 fits.0, (lacks_limit 43 refl plain_id c.limit fits.1, (plain_id c.credits (few c.credits fits.2), tt)))

-- courses of which there is one at least are read back
courses_back : (cs : List CourseRow) → 0 < length cs → FitsList FitsCourseRow cs → all_of course_row_of (pieces 43 (list_text 43 course_row_text cs)) ≡ Some cs
courses_back [] some fits = absurd (omega (arith, some))
courses_back (c ∷ cs) some fits = joined_back 43 course_row_of course_row_text FitsCourseRow course_back no_plus c cs fits

-- ---- meetings

-- a meeting is read back, with a term and without one
meeting_back : (term : Option ℕ) (p : Pattern) → IsPattern p → term_meeting_of term (meeting_text p) ≡ Some p
meeting_back None p is = exact_meeting.again p is
meeting_back (Some term) p is = ap (λ o. option_or o (dated_of term (meeting_text p))) (exact_meeting.again p is)

meetings_back : (term : Option ℕ) (ps : List Pattern) → FitsList IsPattern ps → list_of 43 (term_meeting_of term) (list_text 43 meeting_text ps) ≡ Some ps
meetings_back term ps fits = list_back 43 (term_meeting_of term) meeting_text IsPattern (meeting_back term) (λ p is. lacks_low 43 45 (meeting_text p) (lit< tt) (meeting_all p)) (λ p is. no_dash_meeting p) ps fits

-- ---- a row

-- what a section's row says
abbrev pub line_of : OfferingRow → ConfigRow → SubpartRow → SectionRow → SectionLine
line_of o g p s = record { offering = o.id; courses = o.courses; config = g.id; config_limit = g.limit; subpart = p.id; section = s }

-- the row before it has its courses, and the limit of its configuration
abbrev pub Goes : Option Before → OfferingRow → ConfigRow → Type 0
Goes before o g = (has_courses_of before (list_text 43 course_row_text o.courses) ≡ true) × (has_limit_of before g.id.0 (limit_text g.limit) ≡ true)

-- all but the sections of what a row says has a text
pub record FitsRow (o : OfferingRow) (g : ConfigRow) (p : SubpartRow) : Type 0 where
  pub offering : FitsOffering o.id
  pub some : 0 < length o.courses
  pub courses : FitsList FitsCourseRow o.courses
  pub config : FitsConfig g.id
  pub limit : FitsLimit g.limit
  pub subpart : FitsSubpart p.id

courses_there : (before : Option Before) (text : List ℕ) (cs : List CourseRow) → has_courses_of before text ≡ true → all_of course_row_of (pieces 43 text) ≡ Some cs → courses_of before text ≡ Some cs
courses_there before text cs has back = ap (λ b. if b then all_of course_row_of (pieces 43 text) else None) has ∙ back

limit_there : (before : Option Before) (config : ℕ) (text : List ℕ) (limit : Limit) → has_limit_of before config text ≡ true → limit_of text ≡ Some limit → config_limit_of before config text ≡ Some limit
limit_there before config text limit has back = ap (λ b. if b then limit_of text else None) has ∙ back

values_back : (term : Option ℕ) (before : Option Before) (o : OfferingRow) (g : ConfigRow) (p : SubpartRow) (s : SectionRow) → FitsRow o g p → FitsSectionRow s → Goes before o g
    → section_fields term before (section_texts o g p s) ≡ Ok (line_of o g p s)
unfolding section_fields field_of field_at
values_back term before o g p s row fits goes =
    told_back 1 (offering_of (decimal o.id.0)) o.id _ _ (exact_offering.again o.id row.offering)
    (told_back 2 (courses_of before (list_text 43 course_row_text o.courses)) o.courses _ _
    (courses_there before (list_text 43 course_row_text o.courses) o.courses goes.0 (courses_back o.courses row.some row.courses))
    (told_back 3 (config_of (decimal g.id.0)) g.id _ _ (exact_config.again g.id row.config)
    (told_back 4 (config_limit_of before g.id.0 (limit_text g.limit)) g.limit _ _ (limit_there before g.id.0 (limit_text g.limit) g.limit goes.1 (exact_limit.again g.limit row.limit))
    (told_back 5 (subpart_of (decimal p.id.0)) p.id _ _ (exact_subpart.again p.id row.subpart)
    (told_back 6 (section_of (decimal s.id.0)) s.id _ _ (exact_section.again s.id fits.0)
    (told_back 7 (limit_of (limit_text s.limit)) s.limit _ _ (exact_limit.again s.limit fits.1)
    (told_back 8 (optional_of section_of (optional_text section_text s.parent)) s.parent _ _ (exact_optional_section.again s.parent fits.2)
    (told_back 9 (list_of 43 (term_meeting_of term) (list_text 43 meeting_text s.meetings)) s.meetings _ _ (meetings_back term s.meetings fits.3) refl))))))))

-- a section's row is read back
pub section_back : (term : Option ℕ) (before : Option Before) (o : OfferingRow) (g : ConfigRow) (p : SubpartRow) (s : SectionRow) → FitsRow o g p → FitsSectionRow s → Goes before o g
    → section_line term before (section_texts o g p s) ≡ Ok (line_of o g p s)
unfolding section_line
section_back term before o g p s row fits goes = values_back term before o g p s row fits goes
