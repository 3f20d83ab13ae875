-- Lines with the requests that they answer, and lines that wait.
use Rattle.std.specs.Prelude.{ℕ, ◌-◌, false, [], slice_get, Option, Some, None}
use Rattle.std.specs.Option.{option_map_or}
use Rattle.sect_people.specs.declared.row.Ask.TheVariants.{Course as asks_course, Free}
use Rattle.sect_command.specs.declared.reply.Line.{Line}
use Rattle.sect_command.specs.declared.reply.LineResult.TheVariants.{Waiting}
use Rattle.sect_model.specs.Data.{Ask, CourseAsk}
use Rattle.sect_model.specs.World.{World}
use Rattle.sect_model.specs.Batch.{Answered, asks_of, with_result}

-- a request for nothing, which doesn't wait
abbrev pub no_ask : CourseAsk
no_ask = record { courses = []; wait = false; substitute = false }

-- the request for courses; a free time asks for none
abbrev pub course_ask : Ask → CourseAsk
course_ask (asks_course ask) = ask
course_ask (Free pattern) = no_ask

-- the student's request at the line's position
abbrev pub ask_of : World → Line → CourseAsk
ask_of w line = option_map_or course_ask (slice_get (asks_of w line.student) (line.rank - 1)) no_ask

-- the line, with the student's request at its position
abbrev pub answered_of : World → Line → Answered
answered_of w line = record { line = line; ask = ask_of w line }

-- the line waits, where there is a ticket
abbrev pub waiting_line : Line → Option ℕ → Line
waiting_line line (Some ticket) = with_result line (Waiting ticket)
waiting_line line None = line
