-- The fields of a row.
use Rattle.std.specs.Prelude.{ℕ, List, decimal}
use Rattle.sect_csv.specs.declared.field.Field.{Field}
use Rattle.sect_csv.specs.declared.field.Field.TheVariants.{Name, Number, Parent, Places, Flag, Date, Courses, Meets, Times, Groups, Curricula, Any, For, Configs, Sections}
use Rattle.sect_base.specs.MeetingText.{meeting_text}
use Rattle.sect_words.specs.Days.{day_text}
use Rattle.sect_words.specs.Words.{audience_text, course_row_text, course_text, curriculum_text, flag_text, limit_text, list_text, optional_text, section_text}

-- the text of a field; curricula are joined by semicolons, which are 59, and other lists by pluses
abbrev pub field_text : Field → List ℕ
field_text (Name name) = name.now
field_text (Number n) = decimal n
field_text (Parent id) = optional_text section_text id
field_text (Places limit) = limit_text limit
field_text (Flag flag) = flag_text flag
field_text (Date day) = optional_text day_text day
field_text (Courses rows) = list_text 43 course_row_text rows.now
field_text (Meets meeting) = meeting_text meeting
field_text (Times meetings) = list_text 43 meeting_text meetings.now
field_text (Groups ids) = list_text 43 (λ id. decimal id.0) ids.now
field_text (Curricula rows) = list_text 59 curriculum_text rows.now
field_text (Any ids) = list_text 43 course_text ids.now
field_text (For audience) = audience_text audience.now
field_text (Configs ids) = list_text 43 (λ id. decimal id.0) ids.now
field_text (Sections places) = list_text 43 (λ place. decimal place.section.0) places.now
