-- The texts of what stands in one word.
use Rattle.std.specs.Prelude.{ℕ, Bool, if◌then◌else◌, List, [], ◌∷◌, map, Option, Some, None, codes, decimal}
use Rattle.sect_base.specs.declared.ids.CourseId.{CourseId}
use Rattle.sect_base.specs.declared.ids.SectionId.{SectionId}
use Rattle.sect_base.specs.declared.ids.ReservationId.{ReservationId}
use Rattle.sect_base.specs.declared.ids.StudentId.{StudentId}
use Rattle.sect_base.specs.declared.ids.MajorId.{MajorId}
use Rattle.sect_base.specs.declared.ids.ClassId.{ClassId}
use Rattle.sect_base.specs.declared.choice.Choice.{Choice}
use Rattle.sect_base.specs.declared.choice.Curriculum.{Curriculum}
use Rattle.sect_base.specs.declared.limit.Limit.{Limit}
use Rattle.sect_base.specs.declared.limit.Limit.TheVariants.{Unlimited, Places}
use Rattle.sect_base.specs.declared.limit.Caller.{Caller}
use Rattle.sect_base.specs.declared.limit.Caller.TheVariants as callers
use Rattle.sect_catalog.specs.declared.row.CourseRow.{CourseRow}
use Rattle.sect_reserve.specs.declared.row.Audience.{Audience}
use Rattle.sect_reserve.specs.declared.row.Audience.TheVariants as audiences
use Rattle.sect_words.specs.Parts.{joined}

-- `-`, which stands for nothing
abbrev pub dash : List ℕ
dash = 45 ∷ []

-- the elements with the mark between each two, or `-` where there is none
abbrev pub list_text : {X : Type 0} → ℕ → (X → List ℕ) → List X → List ℕ
list_text mark text [] = dash
list_text mark text (x ∷ xs) = joined mark (map text (x ∷ xs))

-- the value, or `-` for none
abbrev pub optional_text : {X : Type 0} → (X → List ℕ) → Option X → List ℕ
optional_text text None = dash
optional_text text (Some x) = text x

-- 1 for yes and 0 for no
abbrev pub flag_text : Bool → List ℕ
flag_text flag = (if flag then 49 ∷ [] else 48 ∷ [])

-- the number of places, or `-` for unlimited
abbrev pub limit_text : Limit → List ℕ
limit_text Unlimited = dash
limit_text (Places n) = decimal n

-- the number of a course
abbrev pub course_text : CourseId → List ℕ
course_text id = decimal id.0

-- the number of a section
abbrev pub section_text : SectionId → List ℕ
section_text id = decimal id.0

-- the number of a reservation
abbrev pub reservation_text : ReservationId → List ℕ
reservation_text id = decimal id.0

-- the number of a student
abbrev pub student_text : StudentId → List ℕ
student_text id = decimal id.0

-- the number of a class
abbrev pub class_text : ClassId → List ℕ
class_text id = decimal id.0

-- the number of a major
abbrev pub major_text : MajorId → List ℕ
major_text id = decimal id.0

-- `r` and an id for a registrar, `s` and an id for a student
abbrev pub caller_text : Caller → List ℕ
caller_text (callers.Registrar n) = 114 ∷ decimal n
caller_text (callers.Student s) = 115 ∷ decimal s.0

-- a course of an offering, `ID:LIMIT:CREDITS`
abbrev pub course_row_text : CourseRow → List ℕ
course_row_text c = joined 58 (decimal c.id.0 ∷ limit_text c.limit ∷ decimal c.credits ∷ [])

-- a curriculum, `AREA:CLASS:MAJORS`
abbrev pub curriculum_text : Curriculum → List ℕ
curriculum_text c = joined 58 (decimal c.area.0 ∷ decimal c.class.0 ∷ list_text 43 major_text c.majors ∷ [])

-- the first major of a curriculum, or `-` where there is none
abbrev pub first_major_text : List MajorId → List ℕ
first_major_text [] = dash
first_major_text (id ∷ ids) = major_text id

-- `AREA:CLASS:MAJOR`, where the major is the first
abbrev pub curriculum_front : Curriculum → List ℕ
curriculum_front c = joined 58 (decimal c.area.0 ∷ decimal c.class.0 ∷ first_major_text c.majors ∷ [])

-- the parts of an audience
abbrev pub audience_parts : Audience → List (List ℕ)
audience_parts (audiences.Students ids) = codes "students" ∷ list_text 43 student_text ids ∷ []
audience_parts (audiences.Group id) = codes "group" ∷ decimal id.0 ∷ []
audience_parts (audiences.Curriculum area classes majors) =
    codes "curriculum" ∷ decimal area.0 ∷ list_text 43 class_text classes ∷ list_text 43 major_text majors ∷ []
audience_parts (audiences.Course id) = codes "course" ∷ decimal id.0 ∷ []

-- `students:IDS`, `group:ID`, `curriculum:AREA:CLASSES:MAJORS` or `course:ID`
abbrev pub audience_text : Audience → List ℕ
audience_text a = joined 58 (audience_parts a)

-- the sections of a choice, joined by `+`
abbrev pub sections_text : List SectionId → List ℕ
sections_text ids = joined 43 (map section_text ids)

-- `COURSE/RESERVATION/CONFIG/SECTIONS`
abbrev pub choice_text : Choice → List ℕ
choice_text c = joined 47 (decimal c.course.0 ∷ optional_text reservation_text c.reservation ∷ decimal c.config.0 ∷ sections_text c.sections ∷ [])
