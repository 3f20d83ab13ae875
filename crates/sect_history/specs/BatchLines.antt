-- The lines of a batch, each in the world that those before it left.
use Rattle.std.specs.Prelude.{◌≡◌, ℕ, ◌+◌, List, [], ◌∷◌, slice_get, Some, ⊤}
use Rattle.sect_base.specs.Tree.{Tree}
use Rattle.sect_base.specs.declared.ids.StudentId.{StudentId}
use Rattle.sect_people.specs.declared.row.CourseAsk.{CourseAsk}
use Rattle.sect_people.specs.declared.row.Ask.TheVariants.{Course as asks_course}
use Rattle.sect_command.specs.declared.reply.Line.{Line}
use Rattle.sect_command.specs.declared.reply.LineResult.TheVariants.{Blocked}
use Rattle.sect_model.specs.World.{World}
use Rattle.sect_model.specs.Batch.{asks_of, request_move, world_after}
use Rattle.sect_model.specs.Refuted.{Refuted}
use Rattle.sect_history.specs.Changes.{SeatsLead}

-- the student's request at this position, from 1, is this one for a course
abbrev pub IsAskedAt : World → StudentId → ℕ → CourseAsk → Type 0
IsAskedAt w student rank ask = (n : ℕ) × (rank ≡ n + 1) × (slice_get (asks_of w student) n ≡ Some (asks_course ask))

-- a line in the world in which it acted
pub record IsGoodLine (w : World) (line : Line) : Type 0 where
  -- enrolments lead to the world behind it
  pub led : SeatsLead w (world_after w line.student line.result)
  -- where it is blocked, its tree refutes every choice of its request
  pub refuted : (visits : ℕ) (tree : Tree) → line.result ≡ Blocked visits tree
      → (ask : CourseAsk) × IsAskedAt w line.student line.rank ask × Refuted w (request_move line.student ask line.rank) tree

-- each line is good in the world that those before it left
abbrev pub AreGoodLines : World → List Line → Type 0
AreGoodLines w [] = ⊤
AreGoodLines w (line ∷ lines) = IsGoodLine w line × AreGoodLines (world_after w line.student line.result) lines
