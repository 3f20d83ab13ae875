-- Reading what stands in one word.
use Rattle.std.specs.Prelude.{ℕ, zero, suc, ◌+◌, ◌^◌, ◌==◌, ◌&&◌, nat_lt, nat_le, Bool, true, false, List, [], ◌∷◌, if◌then◌else◌, Option, None, Some, decimal, codes}
use Rattle.std.specs.Option.{option_map}
use Rattle.std.specs.Str.{bytes_eq}
use Rattle.sect_base.specs.declared.ids.CourseId.{CourseId}
use Rattle.sect_base.specs.declared.ids.ConfigId.{ConfigId}
use Rattle.sect_base.specs.declared.ids.SectionId.{SectionId}
use Rattle.sect_base.specs.declared.ids.SubpartId.{SubpartId}
use Rattle.sect_base.specs.declared.ids.OfferingId.{OfferingId}
use Rattle.sect_base.specs.declared.ids.RestrictionId.{RestrictionId}
use Rattle.sect_base.specs.declared.ids.ReservationId.{ReservationId}
use Rattle.sect_base.specs.declared.ids.StudentId.{StudentId}
use Rattle.sect_base.specs.declared.ids.GroupId.{GroupId}
use Rattle.sect_base.specs.declared.ids.AreaId.{AreaId}
use Rattle.sect_base.specs.declared.ids.MajorId.{MajorId}
use Rattle.sect_base.specs.declared.ids.ClassId.{ClassId}
use Rattle.sect_base.specs.declared.choice.Choice.{Choice}
use Rattle.sect_base.specs.declared.choice.Curriculum.{Curriculum}
use Rattle.sect_base.specs.declared.limit.Limit.{Limit}
use Rattle.sect_base.specs.declared.limit.Limit.TheVariants.{Unlimited, Places}
use Rattle.sect_base.specs.declared.limit.Caller.{Caller}
use Rattle.sect_base.specs.declared.limit.Caller.TheVariants as callers
use Rattle.sect_base.specs.Tree.{Tree}
use Rattle.sect_base.specs.Pattern.{Pattern}
use Rattle.sect_base.specs.MeetingText.{meeting_text}
use Rattle.sect_command.specs.Reading.{tree_in}
use Rattle.sect_catalog.specs.declared.row.CourseRow.{CourseRow}
use Rattle.sect_reserve.specs.declared.row.Audience.{Audience}
use Rattle.sect_reserve.specs.declared.row.Audience.TheVariants as audiences
use Rattle.sect_words.specs.Parts.{pieces}
use Rattle.sect_words.specs.Days.{found_below, day_text}
use Rattle.sect_words.specs.Words.{dash}
use Rattle.sect_words.specs.Reading.{◌>>=◌, word_at, whole, all_of, number_with, begins, later_parts}

-- the number of at most `most` that is written in digits
unfoldable pub number_of : ℕ → List ℕ → Option ℕ
number_of most word = number_with decimal (most + 1) word

-- a number from `least` to `most`
unfoldable pub between_of : ℕ → ℕ → List ℕ → Option ℕ
between_of least most word = number_of most word >>= λ n. if nat_le least n then Some n else None

-- a number of 8 bits
abbrev pub u8_of : List ℕ → Option ℕ
u8_of = number_of 255

-- a number of 16 bits
abbrev pub u16_of : List ℕ → Option ℕ
u16_of = number_of 65535

-- a number of 32 bits
abbrev pub u32_of : List ℕ → Option ℕ
u32_of = number_of 4294967295

-- a number of 64 bits
abbrev pub u64_of : List ℕ → Option ℕ
u64_of = number_of 18446744073709551615

-- the day whose text it is
unfoldable pub day_of : List ℕ → Option ℕ
day_of word = number_with day_text 84006 word

-- the meeting with these parts, where it is one
abbrev pub pattern_with : ℕ → ℕ → ℕ → ℕ → Pattern
pattern_with days start slots weeks = record { days = days; start = start; slots = slots; weeks = weeks }

-- there is such a meeting, and this is its text
abbrev pub is_text_of : Pattern → List ℕ → Bool
is_text_of p word = nat_lt 0 p.days && nat_lt 0 p.slots && nat_le (p.start + p.slots) 288 && nat_lt 0 p.weeks && bytes_eq (meeting_text p) word

-- the meeting with these parts, where this is its text
abbrev pub pattern_if : List ℕ → ℕ → ℕ → ℕ → ℕ → Option Pattern
pattern_if word days start slots weeks = if is_text_of (pattern_with days start slots weeks) word then Some (pattern_with days start slots weeks) else None

-- the meeting whose text it is
unfoldable pub meeting_of : List ℕ → Option Pattern
meeting_of word = found_below (λ days. found_below (λ start. found_below (λ slots. found_below (pattern_if word days start slots) (2 ^ 60)) 289) 288) (2 ^ 7)

-- the id of a course with this number
abbrev pub course_id : ℕ → CourseId
course_id n = record { 0 = n }

-- the id of a configuration with this number
abbrev pub config_id : ℕ → ConfigId
config_id n = record { 0 = n }

-- the id of a subpart with this number
abbrev pub subpart_id : ℕ → SubpartId
subpart_id n = record { 0 = n }

-- the id of an offering with this number
abbrev pub offering_id : ℕ → OfferingId
offering_id n = record { 0 = n }

-- the id of a restriction with this number
abbrev pub restriction_id : ℕ → RestrictionId
restriction_id n = record { 0 = n }

-- the id of a section with this number
abbrev pub section_id : ℕ → SectionId
section_id n = record { 0 = n }

-- the id of a reservation with this number
abbrev pub reservation_id : ℕ → ReservationId
reservation_id n = record { 0 = n }

-- the id of a student with this number
abbrev pub student_id : ℕ → StudentId
student_id n = record { 0 = n }

-- the id of a group with this number
abbrev pub group_id : ℕ → GroupId
group_id n = record { 0 = n }

-- the id of an area with this number
abbrev pub area_id : ℕ → AreaId
area_id n = record { 0 = n }

-- the id of a class with this number
abbrev pub class_id : ℕ → ClassId
class_id n = record { 0 = n }

-- the id of a major with this number
abbrev pub major_id : ℕ → MajorId
major_id n = record { 0 = n }

-- the id of a course, which has 32 bits
abbrev pub course_of : List ℕ → Option CourseId
course_of word = option_map course_id (u32_of word)

-- the id of a configuration, which has 32 bits
abbrev pub config_of : List ℕ → Option ConfigId
config_of word = option_map config_id (u32_of word)

-- the id of a subpart, which has 32 bits
abbrev pub subpart_of : List ℕ → Option SubpartId
subpart_of word = option_map subpart_id (u32_of word)

-- the id of an offering, which has 32 bits
abbrev pub offering_of : List ℕ → Option OfferingId
offering_of word = option_map offering_id (u32_of word)

-- the id of a restriction, which has 32 bits
abbrev pub restriction_of : List ℕ → Option RestrictionId
restriction_of word = option_map restriction_id (u32_of word)

-- the id of a section, which has 32 bits
abbrev pub section_of : List ℕ → Option SectionId
section_of word = option_map section_id (u32_of word)

-- the id of a reservation, which has 32 bits
abbrev pub reservation_of : List ℕ → Option ReservationId
reservation_of word = option_map reservation_id (u32_of word)

-- the id of a student, which has 32 bits
abbrev pub student_of : List ℕ → Option StudentId
student_of word = option_map student_id (u32_of word)

-- the id of a group, which has 32 bits
abbrev pub group_of : List ℕ → Option GroupId
group_of word = option_map group_id (u32_of word)

-- the id of an area, which has 32 bits
abbrev pub area_of : List ℕ → Option AreaId
area_of word = option_map area_id (u32_of word)

-- the id of a class, which has 32 bits
abbrev pub class_of : List ℕ → Option ClassId
class_of word = option_map class_id (u32_of word)

-- the id of a major, which has 32 bits
abbrev pub major_of : List ℕ → Option MajorId
major_of word = option_map major_id (u32_of word)

-- the elements with the mark between each two, or none at `-`
unfoldable pub list_of : {X : Type 0} → ℕ → (List ℕ → Option X) → List ℕ → Option (List X)
list_of mark of word = if bytes_eq word dash then Some [] else all_of of (pieces mark word)

-- none at `-`
unfoldable pub optional_of : {X : Type 0} → (List ℕ → Option X) → List ℕ → Option (Option X)
optional_of of word = if bytes_eq word dash then Some None else option_map Some (of word)

-- unlimited at `-`
unfoldable pub limit_of : List ℕ → Option Limit
limit_of word = if bytes_eq word dash then Some Unlimited else option_map Places (u32_of word)

-- the registrar with this number
abbrev pub registrar : ℕ → Caller
registrar n = callers.Registrar n

-- the student with this number, as who calls
abbrev pub student_caller : ℕ → Caller
student_caller n = callers.Student (student_id n)

-- a caller: `r` or `s`, and an id
unfoldable pub caller_of : List ℕ → Option Caller
caller_of [] = None
caller_of (b ∷ bs) =
    if b == 114 then option_map registrar (u32_of bs) else (if b == 115 then option_map student_caller (u32_of bs) else None)

-- no byte stands there
abbrev pub is_nothing : List ℕ → Bool
is_nothing [] = true
is_nothing (b ∷ bs) = false

-- 1 for yes and 0 for no
abbrev pub flag_of : List ℕ → Option Bool
flag_of [] = None
flag_of (b ∷ bs) = if is_nothing bs then (if b == 49 then Some true else (if b == 48 then Some false else None)) else None

-- the parts of a course of an offering
unfoldable pub course_parts_at : List (List ℕ) → Option (CourseRow × List (List ℕ))
course_parts_at parts = do
  id ← word_at course_of parts
  limit ← word_at limit_of id.1
  credits ← word_at (between_of 0 30) limit.1
  Some (record { id = id.0; limit = limit.0; credits = credits.0 }, credits.1)

-- a course of an offering, `ID:LIMIT:CREDITS` with at most 30 credits
abbrev pub course_row_of : List ℕ → Option CourseRow
course_row_of word = whole (course_parts_at (pieces 58 word))

-- the parts of a curriculum
unfoldable pub curriculum_at : List (List ℕ) → Option (Curriculum × List (List ℕ))
curriculum_at parts = do
  area ← word_at area_of parts
  class ← word_at class_of area.1
  majors ← word_at (list_of 43 major_of) class.1
  Some (record { area = area.0; class = class.0; majors = majors.0 }, majors.1)

-- a curriculum, `AREA:CLASS:MAJORS`
abbrev pub curriculum_of : List ℕ → Option Curriculum
curriculum_of word = whole (curriculum_at (pieces 58 word))

-- the students that are named by their ids
unfoldable pub students_at : List (List ℕ) → Option (Audience × List (List ℕ))
students_at parts = do
  ids ← word_at (list_of 43 student_of) parts
  Some (audiences.Students ids.0, ids.1)

-- the students of a group
unfoldable pub group_audience_at : List (List ℕ) → Option (Audience × List (List ℕ))
group_audience_at parts = do
  id ← word_at group_of parts
  Some (audiences.Group id.0, id.1)

-- the students of an area, of one of the classes and of one of the majors
unfoldable pub study_at : List (List ℕ) → Option (Audience × List (List ℕ))
study_at parts = do
  area ← word_at area_of parts
  classes ← word_at (list_of 43 class_of) area.1
  majors ← word_at (list_of 43 major_of) classes.1
  Some (audiences.Curriculum area.0 classes.0 majors.0, majors.1)

-- the students enrolled in a course
unfoldable pub course_audience_at : List (List ℕ) → Option (Audience × List (List ℕ))
course_audience_at parts = do
  id ← word_at course_of parts
  Some (audiences.Course id.0, id.1)

-- the parts of an audience, by the first of them
unfoldable pub audience_at : List (List ℕ) → Option (Audience × List (List ℕ))
audience_at parts =
    if begins (codes "students") parts then students_at (later_parts parts) else
    (if begins (codes "group") parts then group_audience_at (later_parts parts) else
    (if begins (codes "curriculum") parts then study_at (later_parts parts) else
    (if begins (codes "course") parts then course_audience_at (later_parts parts) else None)))

-- an audience, its parts between colons
abbrev pub audience_of : List ℕ → Option Audience
audience_of word = whole (audience_at (pieces 58 word))

-- at most so many sections
abbrev pub few_sections : ℕ → List (List ℕ) → Option (List SectionId)
few_sections n [] = Some []
few_sections zero (part ∷ parts) = None
few_sections (suc n) (part ∷ parts) = section_of part >>= λ id. few_sections n parts >>= λ ids. Some (id ∷ ids)

-- one to six sections, joined by `+`
unfoldable pub sections_of : List ℕ → Option (List SectionId)
sections_of word = few_sections 6 (pieces 43 word)

-- the parts of a choice
unfoldable pub choice_at : List (List ℕ) → Option (Choice × List (List ℕ))
choice_at parts = do
  course ← word_at course_of parts
  reservation ← word_at (optional_of reservation_of) course.1
  config ← word_at config_of reservation.1
  sections ← word_at sections_of config.1
  Some (record { course = course.0; reservation = reservation.0; config = config.0; sections = sections.0 }, sections.1)

-- a choice, `COURSE/RESERVATION/CONFIG/SECTIONS`
abbrev pub choice_of : List ℕ → Option Choice
choice_of word = whole (choice_at (pieces 47 word))

-- the tree that nothing stands behind
abbrev pub whole_tree : Option (Tree × List ℕ) → Option Tree
whole_tree None = None
whole_tree (Some (tree, [])) = Some tree
whole_tree (Some (tree, byte ∷ bytes)) = None

-- the tree with at most 36 brackets round a leaf
unfoldable pub tree_of_word : List ℕ → Option Tree
tree_of_word word = whole_tree (tree_in 36 word)
