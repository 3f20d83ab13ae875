-- That what is blocked is refuted: the tree covers, and there is no allowed move.
use Rattle.std.specs.Prelude.{◌≡◌, ℕ, false, List, [], ◌∷◌, Option, Some, None, IsTrue, ⊤}
use Rattle.std.specs.List.{enumerate_from}
use Rattle.sect_base.specs.Tree.{Tree}
use Rattle.sect_people.specs.declared.row.Ask.TheVariants.{Course as asks_course, Free}
use Rattle.sect_command.specs.declared.command.Command.{Command}
use Rattle.sect_command.specs.declared.command.Command.TheVariants.{Offering, Student, Requests, Reserve, Unreserve, Expire, Restrict, Unrestrict, SetLimit, Cancel, Enrol, Drop, Swap, Wait, Unwait, Batch}
use Rattle.sect_command.specs.declared.reply.LineResult.{LineResult}
use Rattle.sect_command.specs.declared.reply.LineResult.TheVariants.{Met, Held, Blocked, Spent, Waiting, Skipped}
use Rattle.sect_model.specs.Data.{StudentId, Choice, Move, Ask, CourseAsk}
use Rattle.sect_model.specs.World.{World}
use Rattle.sect_model.specs.Move.{is_allowed_move}
use Rattle.sect_model.specs.Covers.{covers}
use Rattle.sect_model.specs.Batch.{Batched, answer_to, add_line, batch_asks, asks_of, request_move}
use Rattle.sect_model.specs.Step.{enrol_move}

-- the tree covers the path with no decision, and no choices are an allowed move
abbrev pub Refuted : World → Move → Tree → Type 0
Refuted w mv tree = IsTrue (covers w mv tree) × ((choices : List Choice) → is_allowed_move w mv choices ≡ false)

-- the move that a command searches for
abbrev pub move_in : Command → Option Move
move_in (Enrol student want budget) = Some (enrol_move student want)
move_in (Swap student give take budget) = Some (record { student = student; give = give; take = take })
move_in (Offering row) = None
move_in (Student row) = None
move_in (Requests student asks) = None
move_in (Reserve row) = None
move_in (Unreserve id) = None
move_in (Expire id expiry) = None
move_in (Restrict row) = None
move_in (Unrestrict id) = None
move_in (SetLimit cap limit) = None
move_in (Cancel id) = None
move_in (Drop student course) = None
move_in (Wait student want give class) = None
move_in (Unwait student ticket) = None
move_in (Batch students) = None

-- where the result of a line is blocked, its request is refuted
abbrev pub RefutedResult : World → StudentId → CourseAsk → ℕ → LineResult → Type 0
RefutedResult w student ask rank (Met choice) = ⊤
RefutedResult w student ask rank (Held course) = ⊤
RefutedResult w student ask rank (Blocked visits tree) = Refuted w (request_move student ask rank) tree
RefutedResult w student ask rank Spent = ⊤
RefutedResult w student ask rank (Waiting ticket) = ⊤
RefutedResult w student ask rank Skipped = ⊤

-- each request of a student that is blocked is refuted, in the world before it
abbrev pub RefutedAsks : Batched → StudentId → List (ℕ × Ask) → Type 0
RefutedAsks b student [] = ⊤
RefutedAsks b student ((rank, Free pattern) ∷ asks) = RefutedAsks b student asks
RefutedAsks b student ((rank, asks_course ask) ∷ asks) =
    RefutedResult b.world student ask rank (answer_to b student rank ask)
    × RefutedAsks (add_line b student rank ask (answer_to b student rank ask)) student asks

-- each request of a batch that is blocked is refuted
abbrev pub RefutedBatch : Batched → List StudentId → Type 0
RefutedBatch b [] = ⊤
RefutedBatch b (student ∷ students) =
    RefutedAsks b student (enumerate_from 1 (asks_of b.world student))
    × RefutedBatch (batch_asks b student (enumerate_from 1 (asks_of b.world student))) students
