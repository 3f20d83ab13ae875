-- What holds throughout a history of the machine.
use Rattle.std.specs.Prelude.{◌≡◌, ℕ, List, [], ◌∷◌, ◌++◌, Some}
use Rattle.sect_base.specs.Tree.{Tree}
use Rattle.sect_base.specs.declared.choice.Move.{Move}
use Rattle.sect_command.specs.declared.command.Command.{Command}
use Rattle.sect_command.specs.declared.reply.Line.{Line}
use Rattle.sect_command.specs.declared.reply.Reply.{Reply}
use Rattle.sect_command.specs.declared.reply.Reply.TheVariants.{Batched, Blocked}
use Rattle.sect_model.specs.World.{World}
use Rattle.sect_model.specs.Kept.{KeptState}
use Rattle.sect_model.specs.Step.{on_day}
use Rattle.sect_model.specs.Refuted.{Refuted, move_in}
use Rattle.sect_once.specs.declared.entry.Entry.{Entry}
use Rattle.sect_history.specs.Step.{state_of}
use Rattle.sect_history.specs.Changes.{CommandLeads}
use Rattle.sect_history.specs.BatchLines.{AreGoodLines}

-- the world in which the entry's command acted, behind these entries
abbrev pub world_at : List (Entry Command Reply) → Entry Command Reply → World
world_at front e = (on_day (state_of front) e.day).world

-- an entry behind these entries
pub record IsGoodAt (front : List (Entry Command Reply)) (e : Entry Command Reply) : Type 0 where
  -- its command leads from the world before it to the world behind it
  pub led : CommandLeads (state_of front).world e.day e.command (state_of (front ++ e ∷ [])).world
  -- where its reply is blocked, the tree refutes every choice of the command's move
  pub refuted : (visits : ℕ) (tree : Tree) → e.reply ≡ Blocked visits tree
      → (mv : Move) × (move_in e.command ≡ Some mv) × Refuted (world_at front e) mv tree
  -- the lines of a batch are good
  pub lines : (lines : List Line) → e.reply ≡ Batched lines → AreGoodLines (world_at front e) lines

-- at each front of the history the state is good: no limit is passed, and no two sections of a student overlap but where a used
-- reservation permits it; and each entry is good behind those before it
pub record IsGoodThroughout (entries : List (Entry Command Reply)) : Type 0 where
  pub kept : (front rest : List (Entry Command Reply)) → entries ≡ front ++ rest → KeptState (state_of front)
  pub each : (front : List (Entry Command Reply)) (e : Entry Command Reply) (rest : List (Entry Command Reply)) → entries ≡ front ++ e ∷ rest → IsGoodAt front e
