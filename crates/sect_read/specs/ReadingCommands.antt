-- Reading a command from its words.
use Rattle.std.specs.Prelude.{ℕ, Bool, true, false, ◌||◌, not, ◌==◌, List, [], ◌∷◌, if◌then◌else◌, Option, None, Some, codes}
use Rattle.std.specs.Str.{bytes_eq}
use Rattle.sect_base.specs.declared.ids.CourseId.{CourseId}
use Rattle.sect_base.specs.declared.ids.SectionId.{SectionId}
use Rattle.sect_base.specs.declared.choice.Want.{Want}
use Rattle.sect_base.specs.declared.limit.Cap.{Cap}
use Rattle.sect_base.specs.declared.limit.Cap.TheVariants as caps
use Rattle.sect_command.specs.declared.command.ReserveRow.{ReserveRow}
use Rattle.sect_command.specs.declared.command.RestrictRow.{RestrictRow}
use Rattle.sect_command.specs.declared.command.Command.{Command}
use Rattle.sect_command.specs.declared.command.Command.TheVariants as commands
use Rattle.sect_read.specs.declared.verb.Verb.{Verb}
use Rattle.sect_read.specs.declared.verb.Verb.TheVariants as verbs
use Rattle.sect_words.specs.Reading.{◌>>=◌, word_at, key_at, mark_at, each_at, begins, later_parts}
use Rattle.sect_words.specs.ReadingWords.{
  between_of,
  u64_of,
  day_of,
  course_of,
  config_of,
  section_of,
  reservation_of,
  restriction_of,
  student_of,
  list_of,
  optional_of,
  offering_of,
  audience_of,
  limit_of,
}
use Rattle.sect_read.specs.ReadingRows.{
  offering_at,
  student_row_at,
  ask_starts,
  ask_at,
  config_starts,
  config_id_at,
  section_starts,
  section_id_at,
  give_starts,
  give_at,
}

-- the first day, where one is named
unfoldable pub from_at : List (List ℕ) → Option (Option ℕ × List (List ℕ))
from_at parts = if begins (codes "from") parts then (word_at day_of (later_parts parts) >>= λ day. Some (Some day.0, day.1)) else Some (None, parts)

unfoldable pub reserve_at : List (List ℕ) → Option (ReserveRow × List (List ℕ))
reserve_at parts = do
  id ← word_at reservation_of parts
  offering ← word_at offering_of id.1
  audience ← word_at audience_of offering.1
  limit ← word_at limit_of audience.1
  expiry ← word_at (optional_of day_of) limit.1
  first ← from_at expiry.1
  configs ← each_at config_starts config_id_at first.1
  sections ← each_at section_starts section_id_at configs.1
  let over = mark_at (codes "over") sections.1
  let overlap = mark_at (codes "overlap") over.1
  let must = mark_at (codes "must") overlap.1
  Some (record { id = id.0; offering = offering.0; audience = audience.0; limit = limit.0; first = first.0; expiry = expiry.0; configs = configs.0; sections = sections.0; over = over.0; overlap = overlap.0; must = must.0 }, must.1)

unfoldable pub restrict_at : List (List ℕ) → Option (RestrictRow × List (List ℕ))
restrict_at parts = do
  id ← word_at restriction_of parts
  offering ← word_at offering_of id.1
  audience ← word_at audience_of offering.1
  configs ← each_at config_starts config_id_at audience.1
  sections ← each_at section_starts section_id_at configs.1
  Some (record { id = id.0; offering = offering.0; audience = audience.0; configs = configs.0; sections = sections.0 }, sections.1)

unfoldable pub course_cap_at : List (List ℕ) → Option (Cap × List (List ℕ))
course_cap_at parts = do
  id ← word_at course_of parts
  Some (caps.Course id.0, id.1)

unfoldable pub config_cap_at : List (List ℕ) → Option (Cap × List (List ℕ))
config_cap_at parts = do
  id ← word_at config_of parts
  Some (caps.Config id.0, id.1)

unfoldable pub section_cap_at : List (List ℕ) → Option (Cap × List (List ℕ))
section_cap_at parts = do
  id ← word_at section_of parts
  Some (caps.Section id.0, id.1)

-- a level and its id
unfoldable pub cap_at : List (List ℕ) → Option (Cap × List (List ℕ))
cap_at parts =
    if begins (codes "course") parts then course_cap_at (later_parts parts) else
    (if begins (codes "config") parts then config_cap_at (later_parts parts) else
    (if begins (codes "section") parts then section_cap_at (later_parts parts) else None))

-- what was read is taken where it isn't a default that may not be shown
abbrev pub shown_if : {X : Type 0} → Bool → X → Option X
shown_if good x = if good then Some x else None

-- a number behind its key, or the default where the key isn't there
unfoldable pub stated_at : List ℕ → ℕ → ℕ → Bool → List (List ℕ) → Option (ℕ × List (List ℕ))
stated_at key most default shown parts =
    if begins key parts then (word_at (between_of 1 most) (later_parts parts) >>= λ n. shown_if (shown || not (n.0 == default)) n) else Some (default, parts)

abbrev pub is_empty : List SectionId → Bool
is_empty [] = true
is_empty (id ∷ ids) = false

-- the only sections that are wanted, or none where they aren't named
unfoldable pub only_at : Bool → List (List ℕ) → Option (List SectionId × List (List ℕ))
only_at shown parts =
    if begins (codes "only") parts then (word_at (list_of 43 section_of) (later_parts parts) >>= λ ids. shown_if (shown || not (is_empty ids.0)) ids) else Some ([], parts)

unfoldable pub want_at : Bool → List (List ℕ) → Option (Want × List (List ℕ))
want_at shown parts = do
  courses ← word_at (list_of 43 course_of) parts
  only ← only_at shown courses.1
  rank ← stated_at (codes "rank") 21 21 shown only.1
  Some (record { courses = courses.0; only = only.0; rank = rank.0 }, rank.1)

abbrev pub take_starts : List (List ℕ) → Bool
take_starts parts = begins (codes "take") parts

unfoldable pub take_at : Bool → List (List ℕ) → Option (Want × List (List ℕ))
take_at shown parts = key_at (codes "take") parts >>= want_at shown

unfoldable pub optional_give_at : List (List ℕ) → Option (Option CourseId × List (List ℕ))
optional_give_at parts = if give_starts parts then (give_at parts >>= λ course. Some (Some course.0, course.1)) else Some (None, parts)

unfoldable pub offering_command_at : List (List ℕ) → Option (Command × List (List ℕ))
offering_command_at parts = do
  row ← offering_at parts
  Some (commands.Offering row.0, row.1)

unfoldable pub student_command_at : List (List ℕ) → Option (Command × List (List ℕ))
student_command_at parts = do
  row ← student_row_at parts
  Some (commands.Student row.0, row.1)

unfoldable pub requests_at : List (List ℕ) → Option (Command × List (List ℕ))
requests_at parts = do
  student ← word_at student_of parts
  asked ← each_at ask_starts ask_at student.1
  Some (commands.Requests student.0 asked.0, asked.1)

unfoldable pub reserve_command_at : List (List ℕ) → Option (Command × List (List ℕ))
reserve_command_at parts = do
  row ← reserve_at parts
  Some (commands.Reserve row.0, row.1)

unfoldable pub unreserve_at : List (List ℕ) → Option (Command × List (List ℕ))
unreserve_at parts = do
  id ← word_at reservation_of parts
  Some (commands.Unreserve id.0, id.1)

unfoldable pub expire_at : List (List ℕ) → Option (Command × List (List ℕ))
expire_at parts = do
  id ← word_at reservation_of parts
  expiry ← word_at (optional_of day_of) id.1
  Some (commands.Expire id.0 expiry.0, expiry.1)

unfoldable pub restrict_command_at : List (List ℕ) → Option (Command × List (List ℕ))
restrict_command_at parts = do
  row ← restrict_at parts
  Some (commands.Restrict row.0, row.1)

unfoldable pub unrestrict_at : List (List ℕ) → Option (Command × List (List ℕ))
unrestrict_at parts = do
  id ← word_at restriction_of parts
  Some (commands.Unrestrict id.0, id.1)

unfoldable pub set_limit_at : List (List ℕ) → Option (Command × List (List ℕ))
set_limit_at parts = do
  cap ← cap_at parts
  limit ← word_at limit_of cap.1
  Some (commands.SetLimit cap.0 limit.0, limit.1)

unfoldable pub cancel_at : List (List ℕ) → Option (Command × List (List ℕ))
cancel_at parts = do
  id ← word_at section_of parts
  Some (commands.Cancel id.0, id.1)

abbrev pub budget_at : Bool → List (List ℕ) → Option (ℕ × List (List ℕ))
budget_at shown parts = stated_at (codes "budget") 20000 2000 shown parts

unfoldable pub enrol_at : Bool → List (List ℕ) → Option (Command × List (List ℕ))
enrol_at shown parts = do
  student ← word_at student_of parts
  want ← want_at shown student.1
  budget ← budget_at shown want.1
  Some (commands.Enrol student.0 want.0 budget.0, budget.1)

unfoldable pub drop_at : List (List ℕ) → Option (Command × List (List ℕ))
drop_at parts = do
  student ← word_at student_of parts
  course ← word_at course_of student.1
  Some (commands.Drop student.0 course.0, course.1)

unfoldable pub swap_at : Bool → List (List ℕ) → Option (Command × List (List ℕ))
swap_at shown parts = do
  student ← word_at student_of parts
  given ← each_at give_starts give_at student.1
  taken ← each_at take_starts (take_at shown) given.1
  budget ← budget_at shown taken.1
  Some (commands.Swap student.0 given.0 taken.0 budget.0, budget.1)

unfoldable pub wait_at : Bool → List (List ℕ) → Option (Command × List (List ℕ))
wait_at shown parts = do
  student ← word_at student_of parts
  want ← want_at shown student.1
  give ← optional_give_at want.1
  class ← stated_at (codes "class") 9 5 shown give.1
  Some (commands.Wait student.0 want.0 give.0 class.0, class.1)

unfoldable pub unwait_at : List (List ℕ) → Option (Command × List (List ℕ))
unwait_at parts = do
  student ← word_at student_of parts
  ticket ← word_at u64_of student.1
  Some (commands.Unwait student.0 ticket.0, ticket.1)

unfoldable pub batch_at : List (List ℕ) → Option (Command × List (List ℕ))
batch_at parts = do
  students ← word_at (list_of 43 student_of) parts
  Some (commands.Batch students.0, students.1)

-- the word of a verb
abbrev pub verb_text : Verb → List ℕ
verb_text verbs.Offering = codes "offering"
verb_text verbs.Student = codes "student"
verb_text verbs.Requests = codes "requests"
verb_text verbs.Reserve = codes "reserve"
verb_text verbs.Unreserve = codes "unreserve"
verb_text verbs.Expire = codes "expire"
verb_text verbs.Restrict = codes "restrict"
verb_text verbs.Unrestrict = codes "unrestrict"
verb_text verbs.Limit = codes "limit"
verb_text verbs.Cancel = codes "cancel"
verb_text verbs.Enrol = codes "enrol"
verb_text verbs.Drop = codes "drop"
verb_text verbs.Swap = codes "swap"
verb_text verbs.Wait = codes "wait"
verb_text verbs.Unwait = codes "unwait"
verb_text verbs.Batch = codes "batch"

-- the verbs in the order of the commands
abbrev pub all_verbs : List Verb
all_verbs =
    verbs.Offering ∷ verbs.Student ∷ verbs.Requests ∷ verbs.Reserve ∷ verbs.Unreserve ∷ verbs.Expire ∷ verbs.Restrict ∷ verbs.Unrestrict
    ∷ verbs.Limit ∷ verbs.Cancel ∷ verbs.Enrol ∷ verbs.Drop ∷ verbs.Swap ∷ verbs.Wait ∷ verbs.Unwait ∷ verbs.Batch ∷ []

abbrev pub verb_among : List Verb → List ℕ → Option Verb
verb_among [] word = None
verb_among (verb ∷ verbs) word = if bytes_eq word (verb_text verb) then Some verb else verb_among verbs word

-- the verb of a word
unfoldable pub verb_of : List ℕ → Option Verb
verb_of word = verb_among all_verbs word

-- what stands behind a verb; a default may be written where it may be shown
abbrev pub arguments_at : Bool → Verb → List (List ℕ) → Option (Command × List (List ℕ))
arguments_at shown verbs.Offering parts = offering_command_at parts
arguments_at shown verbs.Student parts = student_command_at parts
arguments_at shown verbs.Requests parts = requests_at parts
arguments_at shown verbs.Reserve parts = reserve_command_at parts
arguments_at shown verbs.Unreserve parts = unreserve_at parts
arguments_at shown verbs.Expire parts = expire_at parts
arguments_at shown verbs.Restrict parts = restrict_command_at parts
arguments_at shown verbs.Unrestrict parts = unrestrict_at parts
arguments_at shown verbs.Limit parts = set_limit_at parts
arguments_at shown verbs.Cancel parts = cancel_at parts
arguments_at shown verbs.Enrol parts = enrol_at shown parts
arguments_at shown verbs.Drop parts = drop_at parts
arguments_at shown verbs.Swap parts = swap_at shown parts
arguments_at shown verbs.Wait parts = wait_at shown parts
arguments_at shown verbs.Unwait parts = unwait_at parts
arguments_at shown verbs.Batch parts = batch_at parts

unfoldable pub command_at : Bool → List (List ℕ) → Option (Command × List (List ℕ))
command_at shown parts = do
  verb ← word_at verb_of parts
  arguments_at shown verb.0 verb.1
