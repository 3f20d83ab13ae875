-- A reply in words, where it blocks.
use Rattle.std.specs.Prelude.{ℕ, ◌-◌, Bool, true, false, cond, List, [], ◌++◌, Option, Some, None, slice_get, codes, decimal, flat_map}
use Rattle.std.specs.List.{list_any}
use Rattle.std.specs.Option.{option_and_then, option_map_or}
use Rattle.sect_base.specs.Tree.{Tree}
use Rattle.sect_people.specs.declared.row.Ask.TheVariants.{Course, Free}
use Rattle.sect_command.specs.declared.command.Command.{Command}
use Rattle.sect_command.specs.declared.reply.Line.{Line}
use Rattle.sect_command.specs.declared.reply.LineResult.{LineResult}
use Rattle.sect_command.specs.declared.reply.LineResult.TheVariants as results
use Rattle.sect_command.specs.declared.reply.Reply.{Reply}
use Rattle.sect_command.specs.declared.reply.Reply.TheVariants as replies
use Rattle.sect_model.specs.Batch.{asks_of, request_move}
use Rattle.sect_model.specs.Data.{Ask, Move, StudentId}
use Rattle.sect_model.specs.Refuted.{move_in}
use Rattle.sect_model.specs.World.{World}
use Rattle.sect_explain.specs.Explained.{explain_text}

-- the move that a request at a position asks for; none for a free time
abbrev pub move_of_ask : StudentId → ℕ → Ask → Option Move
move_of_ask student rank (Course ask) = Some (request_move student ask rank)
move_of_ask student rank (Free pattern) = None

-- the move that the request of a student at a position, from 1, asks for
abbrev pub requested : World → StudentId → ℕ → Option Move
requested w student rank = option_and_then (move_of_ask student rank) (slice_get (asks_of w student) (rank - 1))

-- the tree that refutes the move, in words, where there is a move
abbrev pub explain_move : World → Option Move → Tree → List ℕ
explain_move w mv tree = option_map_or (λ m. explain_text w m tree) mv []

-- `student ID rank P`, the request whose search is blocked
abbrev pub request_line : StudentId → ℕ → List ℕ
request_line student rank = codes "student " ++ (decimal student.0 ++ (codes " rank " ++ (decimal rank ++ codes "\n")))

-- why the request of a line found no place, where its search is blocked
abbrev pub explain_result : World → StudentId → ℕ → LineResult → List ℕ
explain_result w student rank (results.Blocked visits tree) = request_line student rank ++ explain_move w (requested w student rank) tree
explain_result w student rank _ = []

-- the search for a line is blocked
abbrev pub is_blocked_result : LineResult → Bool
is_blocked_result (results.Blocked visits tree) = true
is_blocked_result _ = false

-- the search for one of the lines is blocked
abbrev pub has_blocked : List Line → Bool
has_blocked lines = list_any (λ l. is_blocked_result l.result) lines

-- the lines whose searches are blocked, each with what is said of it
abbrev pub explain_lines : World → List Line → List ℕ
explain_lines w lines = flat_map (λ l. explain_result w l.student l.rank l.result) lines

-- what is said of a reply that doesn't block
abbrev pub unblocked_text : List ℕ
unblocked_text = codes "not blocked\n"

-- why there is no place, where the reply to the command in this world blocks; or that it doesn't block
abbrev pub reply_explained : World → Command → Reply → List ℕ
reply_explained w command (replies.Blocked visits tree) = explain_move w (move_in command) tree
reply_explained w command (replies.Batched lines) = cond (has_blocked lines) (explain_lines w lines) unblocked_text
reply_explained w command replies.Amended = unblocked_text
reply_explained w command (replies.Enrolled choice) = unblocked_text
reply_explained w command (replies.Dropped course) = unblocked_text
reply_explained w command (replies.Swapped choices) = unblocked_text
reply_explained w command (replies.Waiting ticket) = unblocked_text
reply_explained w command (replies.Placed ticket choice) = unblocked_text
reply_explained w command (replies.Spent budget) = unblocked_text
reply_explained w command (replies.Refused refusal) = unblocked_text
