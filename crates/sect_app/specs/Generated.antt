-- The commands that `make` generates, for a number of offerings with twenty students each.
use Rattle.std.specs.Prelude.{ℕ, zero, suc, ◌+◌, ◌-◌, ◌*◌, ◌/◌, ◌%◌, ◌^◌, min, false, List, [], ◌∷◌, ◌++◌, Some, None}
use Rattle.sect_base.specs.declared.limit.Limit.TheVariants.{Unlimited, Places}
use Rattle.sect_command.specs.declared.command.Command.{Command}
use Rattle.sect_command.specs.declared.command.Command.TheVariants as commands
use Rattle.sect_people.specs.declared.row.Ask.TheVariants.{Course as asks_course}
use Rattle.sect_model.specs.Data.{StudentId, Pattern, SectionRow, SubpartRow, Ask}

-- what is made of 0, of 1 and so on, of so many numbers in all
abbrev pub made_of : {A : Type 0} → (ℕ → A) → ℕ → List A
made_of make zero = []
made_of make (suc n) = made_of make n ++ make n ∷ []

-- the meeting of offering i on a weekday (0 is Monday): in weeks 1 to 15, from 08:00 plus 60 times (i mod 10) minutes, for 50 minutes
abbrev pub meeting_on : ℕ → ℕ → Pattern
meeting_on i weekday = record { days = 2 ^ weekday; start = 96 + 12 * (i % 10); slots = 10; weeks = 2 ^ 15 - 1 }

-- the sections of offering i's first subpart: k is 0 or 1
abbrev pub first_section : ℕ → ℕ → SectionRow
first_section i k =
    record { id = record { 0 = 4 * i - 3 + k }; limit = Places 9; parent = None; meetings = meeting_on i ((i + k) % 5) ∷ [] }

-- the sections of its second subpart, each with the section of the first that has its k as parent
abbrev pub second_section : ℕ → ℕ → SectionRow
second_section i k =
    record { id = record { 0 = 4 * i - 1 + k }; limit = Places 9; parent = Some (record { 0 = 4 * i - 3 + k }); meetings = meeting_on i ((i + k + 2) % 5) ∷ [] }

-- its subparts
abbrev pub subparts_of : ℕ → List SubpartRow
subparts_of i =
    record { id = record { 0 = 2 * i - 1 }; sections = first_section i 0 ∷ first_section i 1 ∷ [] }
    ∷ record { id = record { 0 = 2 * i }; sections = second_section i 0 ∷ second_section i 1 ∷ [] }
    ∷ []

-- offering i, with one course of 3 credits and one configuration, both unlimited
abbrev pub offering_command : ℕ → Command
offering_command i = commands.Offering (record {
  id = record { 0 = i };
  courses = record { id = record { 0 = i }; limit = Unlimited; credits = 3 } ∷ [];
  configs = record { id = record { 0 = i }; limit = Unlimited; subparts = subparts_of i } ∷ [];
})

-- student s, with at most 18 credits
abbrev pub student_command : ℕ → Command
student_command s = commands.Student (record { id = record { 0 = s }; max_credits = 18; groups = []; curricula = [] })

-- the student's request for the j-th course behind that of their number, counted round the n courses
abbrev pub ask_of : ℕ → ℕ → ℕ → Ask
ask_of n s j = asks_course (record { courses = record { 0 = (s + j) % n + 1 } ∷ []; wait = false; substitute = false })

-- the student's requests: three, or as many as there are courses
abbrev pub requests_command : ℕ → ℕ → Command
requests_command n s = commands.Requests (record { 0 = s }) (made_of (ask_of n s) (min 3 n))

-- the students of the batch with this number, from 0: a hundred in order of id, and of the last the rest
abbrev pub batch_students : ℕ → ℕ → List StudentId
batch_students n number = made_of (λ place. record { 0 = 100 * number + place + 1 }) (min 100 (20 * n - 100 * number))

abbrev pub batch_command : ℕ → ℕ → Command
batch_command n number = commands.Batch (batch_students n number)

-- how many batches there are
abbrev pub batches : ℕ → ℕ
batches n = (20 * n + 99) / 100

-- all commands, for n offerings
abbrev pub generated : ℕ → List Command
generated n =
    made_of (λ place. offering_command (place + 1)) n
    ++ (made_of (λ place. student_command (place + 1)) (20 * n)
    ++ (made_of (λ place. requests_command n (place + 1)) (20 * n) ++ made_of (batch_command n) (batches n)))
