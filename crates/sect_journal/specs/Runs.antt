-- Lists of calls of a journal, and the rows that were acknowledged in them.
use Rattle.std.specs.Prelude.{◌≡◌, ℕ, Bool, true, false, List, [], ◌∷◌, ◌++◌, Option}
use Rattle.sect_journal.specs.Disk.{Told}
use Rattle.sect_journal.specs.Standing.{Standing, Appends, Looks}

-- an append of a group of rows, and whether it was answered Ok; or a call that only reads
pub data Call : Type 0 where
  Append : (group : List (List ℕ)) → (done : Bool) → Call
  Look : Call

module _ {D : Type 0} (told : D → Option Told) where
  -- the call leads from one journal to the other
  abbrev pub Takes : Call → Standing D → Standing D → Type 0
  Takes (Append group done) old new = Appends told group done old new
  Takes Look old new = Looks told old new

  -- so do these calls, one after another
  abbrev pub IsRun : List Call → Standing D → Standing D → Type 0
  IsRun [] start end = start ≡ end
  IsRun (call ∷ calls) start end = (next : Standing D) × Takes call start next × IsRun calls next end

-- the rows, and those that were acknowledged since
abbrev pub acknowledged : List (List ℕ) → List Call → List (List ℕ)
acknowledged rows [] = rows
acknowledged rows (Append group true ∷ calls) = acknowledged (rows ++ group) calls
acknowledged rows (Append group false ∷ calls) = acknowledged rows calls
acknowledged rows (Look ∷ calls) = acknowledged rows calls

-- the groups of the appends that were begun after the last acknowledged one and weren't answered Ok, these first
abbrev pub unanswered : List (List (List ℕ)) → List Call → List (List (List ℕ))
unanswered groups [] = groups
unanswered groups (Append group true ∷ calls) = unanswered [] calls
unanswered groups (Append group false ∷ calls) = unanswered (groups ++ group ∷ []) calls
unanswered groups (Look ∷ calls) = unanswered groups calls

-- the group of the append that is begun with a call
abbrev pub begun : Call → List (List (List ℕ))
begun (Append group done) = group ∷ []
begun Look = []
