-- The command that a body says.
use Rattle.std.specs.Prelude.{◌≡◌, ℕ, true, if◌then◌else◌, List, [], ◌∷◌, Option, None, Some, is_some, codes, Result, Ok, Err, ⊤}
use Rattle.std.specs.Str.{bytes_eq, is_utf8}
use Rattle.serde_json.specs.Data.{Data}
use Rattle.serde_json.specs.Find.{as_object, as_str}
use Rattle.serde_json.specs.Read.{read}
use Rattle.sect_base.specs.declared.choice.Want.{Want}
use Rattle.sect_command.specs.declared.command.Command.{Command}
use Rattle.sect_command.specs.declared.command.Command.TheVariants as commands
use Rattle.sect_words.specs.Parts.{pieces}
use Rattle.sect_words.specs.Reading.{◌>>=◌, whole}
use Rattle.sect_read.specs.ReadingCommands.{command_at}
use Rattle.sect_read.specs.declared.fault.WireFault.{WireFault}
use Rattle.sect_read.specs.declared.fault.WireFault.TheVariants as wire
use Rattle.sect_wire.specs.declared.verbs.Verb.{Verb}
use Rattle.sect_wire.specs.declared.verbs.Verb.TheVariants as verbs
use Rattle.sect_wire.specs.Values.{course_in, section_in, student_in, u64_in, ranged, list_in, optional_in, required, optional, has_only}

-- the data of a text
abbrev pub data_of : List ℕ → Option Data
data_of text = if is_utf8 text then read text else None

-- the data, where it is an object
abbrev pub object_of : Data → Option Data
object_of d = if is_some (as_object d) then Some d else None

-- the object that a body is
abbrev pub object_in : List ℕ → Option Data
object_in body = data_of body >>= object_of

-- the verb of this name
abbrev pub verb_of : List ℕ → Option Verb
verb_of name =
    if bytes_eq name (codes "enrol") then Some verbs.Enrol else
    (if bytes_eq name (codes "drop") then Some verbs.Drop else
    (if bytes_eq name (codes "swap") then Some verbs.Swap else
    (if bytes_eq name (codes "wait") then Some verbs.Wait else
    (if bytes_eq name (codes "unwait") then Some verbs.Unwait else
    (if bytes_eq name (codes "line") then Some verbs.Line else None)))))

-- the verb that a value names
abbrev pub verb_in : Data → Option Verb
verb_in d = as_str d >>= verb_of

-- the members of a body with this verb
abbrev pub names_of : Verb → List (List ℕ)
names_of verbs.Enrol = codes "verb" ∷ codes "student" ∷ codes "courses" ∷ codes "only" ∷ codes "rank" ∷ codes "budget" ∷ []
names_of verbs.Drop = codes "verb" ∷ codes "student" ∷ codes "course" ∷ []
names_of verbs.Swap = codes "verb" ∷ codes "student" ∷ codes "give" ∷ codes "take" ∷ codes "budget" ∷ []
names_of verbs.Wait = codes "verb" ∷ codes "student" ∷ codes "courses" ∷ codes "only" ∷ codes "rank" ∷ codes "give" ∷ codes "class" ∷ []
names_of verbs.Unwait = codes "verb" ∷ codes "student" ∷ codes "ticket" ∷ []
names_of verbs.Line = codes "verb" ∷ codes "text" ∷ []

-- what is wanted: courses, the only sections, none by default, and a rank, 21 by default
unfoldable pub want_in : Data → Option Want
want_in d = do
  courses ← required (list_in course_in) (codes "courses") d
  only ← optional [] (list_in section_in) (codes "only") d
  rank ← optional 21 (ranged 21) (codes "rank") d
  Some (record { courses = courses; only = only; rank = rank })

-- the members of an element of `take`
abbrev pub take_names : List (List ℕ)
take_names = codes "courses" ∷ codes "only" ∷ codes "rank" ∷ []

-- an element of `take`
unfoldable pub take_in : Data → Option Want
take_in d = if has_only take_names d then want_in d else None

-- a budget, 2,000 by default
abbrev pub budget_in : Data → Option ℕ
budget_in d = optional 2000 (ranged 20000) (codes "budget") d

-- a student, a want and a budget
unfoldable pub enrol_in : Data → Option Command
enrol_in d = do
  student ← required student_in (codes "student") d
  want ← want_in d
  budget ← budget_in d
  Some (commands.Enrol student want budget)

-- a student and a course that is given up
unfoldable pub drop_in : Data → Option Command
drop_in d = do
  student ← required student_in (codes "student") d
  course ← required course_in (codes "course") d
  Some (commands.Drop student course)

-- a student, the courses that are given up, the wants that are taken, and a budget
unfoldable pub swap_in : Data → Option Command
swap_in d = do
  student ← required student_in (codes "student") d
  given ← required (list_in course_in) (codes "give") d
  taken ← required (list_in take_in) (codes "take") d
  budget ← budget_in d
  Some (commands.Swap student given taken budget)

-- a student, a want, the course that is given up when it comes, none by default, and a class, 5 by default
unfoldable pub wait_in : Data → Option Command
wait_in d = do
  student ← required student_in (codes "student") d
  want ← want_in d
  given ← optional None (optional_in course_in) (codes "give") d
  class ← optional 5 (ranged 9) (codes "class") d
  Some (commands.Wait student want given class)

-- a student and a ticket
unfoldable pub unwait_in : Data → Option Command
unwait_in d = do
  student ← required student_in (codes "student") d
  ticket ← required u64_in (codes "ticket") d
  Some (commands.Unwait student ticket)

-- the command that is written as on a line
abbrev pub written : List ℕ → Option Command
written text = whole (command_at true (pieces 32 text))

-- the value is a string that is a command's text
abbrev pub text_in : Data → Option Command
text_in d = as_str d >>= written

-- the command of a body with this verb, its members' names aside
abbrev pub arguments_in : Verb → Data → Option Command
arguments_in verbs.Enrol d = enrol_in d
arguments_in verbs.Drop d = drop_in d
arguments_in verbs.Swap d = swap_in d
arguments_in verbs.Wait d = wait_in d
arguments_in verbs.Unwait d = unwait_in d
arguments_in verbs.Line d = required text_in (codes "text") d

-- the command of a body with this verb
unfoldable pub command_with : Verb → Data → Option Command
command_with verb d = if has_only (names_of verb) d then arguments_in verb d else None

-- the value, or why there is none
abbrev pub or_cause : {X : Type 0} → ℕ → Option X → Result X ℕ
or_cause n None = Err n
or_cause n (Some x) = Ok x

-- what the next step gives of a value that is there
abbrev pub and_then : {X Y : Type 0} → Result X ℕ → (X → Result Y ℕ) → Result Y ℕ
and_then (Ok x) f = f x
and_then (Err n) f = Err n

-- the command of a body; 0 where it is no object, 1 where its verb is none, 2 where the rest isn't of its form
unfoldable pub command_of : List ℕ → Result Command ℕ
command_of body =
    and_then (or_cause 0 (object_in body)) (λ d.
    and_then (or_cause 1 (required verb_in (codes "verb") d)) (λ verb.
    or_cause 2 (command_with verb d)))

-- what was returned is this, unless memory ran out
abbrev pub Says : Result Command WireFault → Result Command ℕ → Type 0
Says (Ok c) read = read ≡ Ok c
Says (Err wire.BadLine) read = ⊥
Says (Err wire.UnknownVerb) read = ⊥
Says (Err (wire.BadBody n)) read = read ≡ Err n
Says (Err wire.Memory) read = ⊤
