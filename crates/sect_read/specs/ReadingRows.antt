-- Reading the rows that commands carry, from their words.
use Rattle.std.specs.Prelude.{ℕ, Bool, List, if◌then◌else◌, Option, None, Some, codes, ◌||◌}
use Rattle.sect_base.specs.declared.ids.CourseId.{CourseId}
use Rattle.sect_base.specs.declared.ids.ConfigId.{ConfigId}
use Rattle.sect_base.specs.declared.ids.SectionId.{SectionId}
use Rattle.sect_base.specs.declared.ids.GroupId.{GroupId}
use Rattle.sect_base.specs.declared.choice.Curriculum.{Curriculum}
use Rattle.sect_catalog.specs.declared.row.OfferingRow.{OfferingRow}
use Rattle.sect_catalog.specs.declared.row.CourseRow.{CourseRow}
use Rattle.sect_catalog.specs.declared.row.ConfigRow.{ConfigRow}
use Rattle.sect_catalog.specs.declared.row.SubpartRow.{SubpartRow}
use Rattle.sect_catalog.specs.declared.row.SectionRow.{SectionRow}
use Rattle.sect_people.specs.declared.row.StudentRow.{StudentRow}
use Rattle.sect_people.specs.declared.row.Ask.{Ask}
use Rattle.sect_people.specs.declared.row.Ask.TheVariants as asks
use Rattle.sect_words.specs.Reading.{◌>>=◌, word_at, key_at, mark_at, each_at, begins, later_parts}
use Rattle.sect_words.specs.ReadingWords.{
  between_of,
  u16_of,
  meeting_of,
  course_of,
  config_of,
  section_of,
  subpart_of,
  offering_of,
  student_of,
  group_of,
  list_of,
  optional_of,
  limit_of,
  curriculum_of,
}

abbrev pub section_starts : List (List ℕ) → Bool
section_starts parts = begins (codes "section") parts

unfoldable pub section_row_at : List (List ℕ) → Option (SectionRow × List (List ℕ))
section_row_at parts = do
  key ← key_at (codes "section") parts
  id ← word_at section_of key
  limit ← word_at limit_of id.1
  parent ← word_at (optional_of section_of) limit.1
  meetings ← word_at (list_of 43 meeting_of) parent.1
  Some (record { id = id.0; limit = limit.0; parent = parent.0; meetings = meetings.0 }, meetings.1)

abbrev pub subpart_starts : List (List ℕ) → Bool
subpart_starts parts = begins (codes "subpart") parts

unfoldable pub subpart_at : List (List ℕ) → Option (SubpartRow × List (List ℕ))
subpart_at parts = do
  key ← key_at (codes "subpart") parts
  id ← word_at subpart_of key
  sections ← each_at section_starts section_row_at id.1
  Some (record { id = id.0; sections = sections.0 }, sections.1)

abbrev pub config_starts : List (List ℕ) → Bool
config_starts parts = begins (codes "config") parts

unfoldable pub config_row_at : List (List ℕ) → Option (ConfigRow × List (List ℕ))
config_row_at parts = do
  key ← key_at (codes "config") parts
  id ← word_at config_of key
  limit ← word_at limit_of id.1
  subparts ← each_at subpart_starts subpart_at limit.1
  Some (record { id = id.0; limit = limit.0; subparts = subparts.0 }, subparts.1)

abbrev pub course_starts : List (List ℕ) → Bool
course_starts parts = begins (codes "course") parts

unfoldable pub course_row_at : List (List ℕ) → Option (CourseRow × List (List ℕ))
course_row_at parts = do
  key ← key_at (codes "course") parts
  id ← word_at course_of key
  limit ← word_at limit_of id.1
  credits ← word_at (between_of 0 30) limit.1
  Some (record { id = id.0; limit = limit.0; credits = credits.0 }, credits.1)

unfoldable pub offering_at : List (List ℕ) → Option (OfferingRow × List (List ℕ))
offering_at parts = do
  id ← word_at offering_of parts
  courses ← each_at course_starts course_row_at id.1
  configs ← each_at config_starts config_row_at courses.1
  Some (record { id = id.0; courses = courses.0; configs = configs.0 }, configs.1)

abbrev pub group_starts : List (List ℕ) → Bool
group_starts parts = begins (codes "group") parts

unfoldable pub group_at : List (List ℕ) → Option (GroupId × List (List ℕ))
group_at parts = key_at (codes "group") parts >>= word_at group_of

abbrev pub curriculum_starts : List (List ℕ) → Bool
curriculum_starts parts = begins (codes "curriculum") parts

unfoldable pub curriculum_word_at : List (List ℕ) → Option (Curriculum × List (List ℕ))
curriculum_word_at parts = key_at (codes "curriculum") parts >>= word_at curriculum_of

unfoldable pub student_row_at : List (List ℕ) → Option (StudentRow × List (List ℕ))
student_row_at parts = do
  id ← word_at student_of parts
  max ← key_at (codes "max") id.1
  credits ← word_at u16_of max
  groups ← each_at group_starts group_at credits.1
  curricula ← each_at curriculum_starts curriculum_word_at groups.1
  Some (record { id = id.0; max_credits = credits.0; groups = groups.0; curricula = curricula.0 }, curricula.1)

-- behind the key
unfoldable pub course_ask_at : List (List ℕ) → Option (Ask × List (List ℕ))
course_ask_at parts = do
  courses ← word_at (list_of 43 course_of) parts
  let wait = mark_at (codes "wait") courses.1
  let substitute = mark_at (codes "substitute") wait.1
  Some (asks.Course (record { courses = courses.0; wait = wait.0; substitute = substitute.0 }), substitute.1)

unfoldable pub free_ask_at : List (List ℕ) → Option (Ask × List (List ℕ))
free_ask_at parts = do
  meeting ← word_at meeting_of parts
  Some (asks.Free meeting.0, meeting.1)

abbrev pub ask_starts : List (List ℕ) → Bool
ask_starts parts = begins (codes "course") parts || begins (codes "free") parts

unfoldable pub ask_at : List (List ℕ) → Option (Ask × List (List ℕ))
ask_at parts =
    if begins (codes "course") parts then course_ask_at (later_parts parts) else
    (if begins (codes "free") parts then free_ask_at (later_parts parts) else None)

unfoldable pub config_id_at : List (List ℕ) → Option (ConfigId × List (List ℕ))
config_id_at parts = key_at (codes "config") parts >>= word_at config_of

unfoldable pub section_id_at : List (List ℕ) → Option (SectionId × List (List ℕ))
section_id_at parts = key_at (codes "section") parts >>= word_at section_of

abbrev pub give_starts : List (List ℕ) → Bool
give_starts parts = begins (codes "give") parts

unfoldable pub give_at : List (List ℕ) → Option (CourseId × List (List ℕ))
give_at parts = key_at (codes "give") parts >>= word_at course_of
