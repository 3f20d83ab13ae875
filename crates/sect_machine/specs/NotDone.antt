-- Replies to commands that aren't done.
use Rattle.std.specs.Prelude.{⊤}
use Rattle.sect_command.specs.declared.reply.Reply.{Reply}
use Rattle.sect_command.specs.declared.reply.Reply.TheVariants.{Amended, Enrolled, Dropped, Swapped, Waiting, Placed, Batched, Blocked, Spent, Refused}

-- the command is refused or blocked, or its budget is spent
abbrev pub IsNotDone : Reply → Type 0
IsNotDone Amended = ⊥
IsNotDone (Enrolled choice) = ⊥
IsNotDone (Dropped course) = ⊥
IsNotDone (Swapped choices) = ⊥
IsNotDone (Waiting ticket) = ⊥
IsNotDone (Placed ticket choice) = ⊥
IsNotDone (Batched lines) = ⊥
IsNotDone (Blocked visits tree) = ⊤
IsNotDone (Spent budget) = ⊤
IsNotDone (Refused refusal) = ⊤
