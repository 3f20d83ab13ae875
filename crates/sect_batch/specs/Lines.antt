-- The lines of a batch so far, as they are kept.
use Rattle.std.specs.Prelude.{◌≡◌, ℕ, Bool, true, not, ◌&&◌, ◌||◌, ◌==◌, List, [], ◌∷◌, map, filter, take, count_by, Option, Some, None}
use Rattle.std.specs.List.{list_any, enumerate_from}
use Rattle.sect_base.specs.declared.choice.Choice.{Choice}
use Rattle.sect_base.specs.declared.ids.CourseId.{CourseId}
use Rattle.sect_base.specs.declared.ids.StudentId.{StudentId}
use Rattle.sect_command.specs.declared.reply.Line.{Line}
use Rattle.sect_command.specs.declared.reply.LineResult.{LineResult}
use Rattle.sect_command.specs.declared.reply.LineResult.TheVariants.{Met, Held, Blocked, Spent, Waiting, Skipped}
use Rattle.sect_people.specs.declared.row.CourseAsk.{CourseAsk}
use Rattle.sect_people.specs.declared.row.Ask.{Ask}
use Rattle.sect_people.specs.declared.row.Ask.TheVariants.{Course as asks_course, Free}
use Rattle.sect_model.specs.declared.change.Change.TheVariants.{Enrol}
use Rattle.sect_model.specs.declared.held.Enrolment.{Enrolment}
use Rattle.sect_model.specs.World.{World, enrol}
use Rattle.sect_model.specs.Fits.{Fits}
use Rattle.sect_model.specs.Batch.{Answered, Batched, answer_to, batch_asks, want_of, is_unmet, is_met}
use Rattle.sect_model.specs.Premises.{want_fits}
use Rattle.sect_batch.specs.declared.lines.Answer.{Answer}
use Rattle.sect_batch.specs.declared.lines.Mark.{Mark}
use Rattle.sect_batch.specs.declared.lines.Lines.{Lines}

-- the line of an answer
abbrev pub line_by : StudentId → ℕ → Answer → Line
line_by student rank answer = record { student = student; rank = rank; result = answer.result }

-- the mark of an answer
abbrev pub mark_by : StudentId → Answer → Mark
mark_by student answer = record {
  student = student;
  unmet = is_unmet answer.result && not (answer.substitute || answer.wait);
  met = is_met answer.result && answer.substitute;
}

-- a result, as the answer to a request
abbrev pub answer_by : LineResult → CourseAsk → Answer
answer_by result ask = record { result = result; wait = ask.wait; substitute = ask.substitute }

-- the mark of a line
abbrev pub mark_of : Answered → Mark
mark_of a = mark_by a.line.student (answer_by a.line.result a.ask)

-- later lines count the mark
abbrev pub is_counted : Mark → Bool
is_counted mark = mark.unmet || mark.met

-- whether one of the enrolments is in the course
abbrev pub has_course : List Enrolment → CourseId → Bool
has_course es course = list_any (λ e. e.choice.course.0 == course.0) es

-- how many of the student's marks are unmet
abbrev pub unmet_of : StudentId → List Mark → ℕ
unmet_of student marks = count_by (λ m. m.student.0 == student.0 && m.unmet) marks

-- how many of the student's marks are met
abbrev pub met_of : StudentId → List Mark → ℕ
met_of student marks = count_by (λ m. m.student.0 == student.0 && m.met) marks

-- the world and the lines kept are those of the batch so far, and so are the marks that count
pub record Tells (w : World) (l : Lines) (b : Batched) : Type 0 where
  pub world : w ≡ b.world
  pub lines : l.lines.items ≡ map (λ a. a.line) b.answered
  pub marks : l.marks.items ≡ filter is_counted (map mark_of b.answered)

-- where the line is met, its choice may be enrolled
abbrev pub MetFits : World → StudentId → LineResult → Type 0
MetFits w student (Met choice) = Fits w (Enrol (record { student = student; choice = choice }))
MetFits w student (Held course) = Unit {0}
MetFits w student (Blocked visits tree) = Unit {0}
MetFits w student Spent = Unit {0}
MetFits w student (Waiting ticket) = Unit {0}
MetFits w student Skipped = Unit {0}

-- a course request's want fits
abbrev pub ask_fits : World → Ask → Bool
ask_fits w (asks_course ask) = want_fits w (want_of ask 0)
ask_fits w (Free pattern) = true

-- what becomes of a request, nothing where it is a free time
abbrev pub answer_to_ask : Batched → StudentId → ℕ → Ask → Option Answer
answer_to_ask b student rank (asks_course ask) = Some (answer_by (answer_to b student rank ask) ask)
answer_to_ask b student rank (Free pattern) = None

-- the choice of a line that is met
abbrev pub choice_by : LineResult → Option Choice
choice_by (Met choice) = Some choice
choice_by (Held course) = None
choice_by (Blocked visits tree) = None
choice_by Spent = None
choice_by (Waiting ticket) = None
choice_by Skipped = None

-- the world where the student is enrolled by the choice, where there is one
abbrev pub taking : World → StudentId → Option Choice → World
taking w student (Some choice) = enrol w student choice
taking w student None = w

-- the choice, where there is one, may be enrolled
abbrev pub ChoiceFits : World → StudentId → Option Choice → Type 0
ChoiceFits w student (Some choice) = Fits w (Enrol (record { student = student; choice = choice }))
ChoiceFits w student None = Unit {0}

-- where the lines of the requests before one place are told, so are those before another
abbrev pub ToldOn : StudentId → List Ask → World → Lines → ℕ → World → Lines → ℕ → Type 0
ToldOn student asks w l from v m place =
    (b : Batched) → Tells w l (batch_asks b student (take from (enumerate_from 1 asks))) → Tells v m (batch_asks b student (take place (enumerate_from 1 asks)))

-- the choice of an answer's line
abbrev pub choice_in : Option Answer → Option Choice
choice_in (Some answer) = choice_by answer.result
choice_in None = None

-- the line of an answer, where there is one, was put behind the others, and has this choice
pub record IsPut (student : StudentId) (rank : ℕ) (answer : Option Answer) (l : Lines) (m : Lines) (choice : Option Choice) : Type 0 where
  pub same : choice ≡ choice_in answer
  pub told :
      (w : World) (b : Batched) (ask : Ask) → Tells w l b → answer ≡ answer_to_ask b student rank ask → Tells (taking w student choice) m (batch_asks b student ((rank, ask) ∷ []))
