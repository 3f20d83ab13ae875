-- What an audit tells of a history.
use Rattle.std.specs.Prelude.{◌≡◌, ℕ, ◌+◌, Bool, true, false, List, [], ◌∷◌, ◌++◌, length, codes, decimal, Option, Some, None}
use Rattle.std.specs.Option.{is_some, option_map_or}
use Rattle.sect_base.specs.Tree.{Tree}
use Rattle.sect_command.specs.declared.command.Command.{Command}
use Rattle.sect_command.specs.declared.reply.Reply.{Reply}
use Rattle.sect_command.specs.declared.reply.Reply.TheVariants.{Amended, Enrolled, Dropped, Swapped, Waiting, Placed, Batched, Blocked, Spent, Refused}
use Rattle.sect_model.specs.Covers.{covers}
use Rattle.sect_model.specs.Refuted.{move_in}
use Rattle.sect_model.specs.Step.{on_day}
use Rattle.sect_model.specs.World.{State, empty_state}
use Rattle.sect_once.specs.declared.entry.Entry.{Entry}
use Rattle.sect_once.specs.History.{history}
use Rattle.sect_base.specs.DayText.{IsDayText}
use Rattle.sect_script.specs.declared.status.Status.{Status}
use Rattle.sect_tell.specs.Told.{TellsHistory}
use Rattle.sect_history.specs.Step.{stepped, state_of}
use Rattle.sect_history.specs.Throughout.{IsGoodThroughout}

-- the tree of a reply that blocks
abbrev pub blocked_tree : Reply → Option Tree
blocked_tree Amended = None
blocked_tree (Enrolled choice) = None
blocked_tree (Dropped course) = None
blocked_tree (Swapped choices) = None
blocked_tree (Waiting ticket) = None
blocked_tree (Placed ticket choice) = None
blocked_tree (Batched lines) = None
blocked_tree (Blocked visits tree) = Some tree
blocked_tree (Spent budget) = None
blocked_tree (Refused refusal) = None

-- whether the reply blocks
abbrev pub is_blocked : Entry Command Reply → Bool
is_blocked e = is_some (blocked_tree e.reply)

-- whether the tree refutes every choice of the command's move, in the world on that day
abbrev pub refutes : State → ℕ → Command → Tree → Bool
refutes s day command tree = option_map_or (λ mv. covers (on_day s day).world mv tree) (move_in command) false

-- whether the reply blocks, by a tree that refutes the command's move in this state
abbrev pub is_verified : State → Entry Command Reply → Bool
is_verified s e = option_map_or (refutes s e.day e.command) (blocked_tree e.reply) false

-- 1 where it holds
abbrev pub one_if : Bool → ℕ
one_if true = 1
one_if false = 0

-- how many of the replies block
abbrev pub blocked : List (Entry Command Reply) → ℕ
blocked [] = 0
blocked (e ∷ es) = one_if (is_blocked e) + blocked es

-- how many of the replies block by a tree that refutes its move at its place
abbrev pub verified_from : State → List (Entry Command Reply) → ℕ
verified_from s [] = 0
verified_from s (e ∷ es) = one_if (is_verified s e) + verified_from (stepped s e.day e.id.caller e.command).0 es

abbrev pub verified : List (Entry Command Reply) → ℕ
verified es = verified_from empty_state es

-- `entries E blocked B verified V day D`
abbrev pub audit_line : ℕ → ℕ → ℕ → List ℕ → List ℕ
audit_line entries blocked verified day =
    codes "entries " ++ (decimal entries ++ (codes " blocked " ++ (decimal blocked ++ (codes " verified " ++ (decimal verified ++ (codes " day " ++ (day ++ codes "\n")))))))

-- the line that an audit of the history prints
abbrev pub IsAuditLine : List (Entry Command Reply) → List ℕ → Type 0
IsAuditLine es line = (day : List ℕ) × IsDayText day (state_of es).world.day × (line ≡ audit_line (length es) (blocked es) (verified es) day)

module _ {K : Type 0} (rows : K → Option (List (List ℕ))) (faults : K → ℕ) where
  -- the line of the history to which the keeper opened was written; it is good throughout, and each tree in it that blocks refutes its move
  pub record Audits (keeper back : K) (taken taken' : Option (List ℕ)) (status : Status) : Type 0 where
    pub told : TellsHistory rows faults IsAuditLine keeper back taken taken' status
    pub good : IsGoodThroughout (history told.opened.log)
    pub all_verified : verified (history told.opened.log) ≡ blocked (history told.opened.log)
