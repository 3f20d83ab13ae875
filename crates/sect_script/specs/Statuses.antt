-- The status of what has ended, with its number and its text.
use Rattle.std.specs.Prelude.{ℕ, List, [], ◌∷◌, ◌++◌, codes, decimal, take, Option}
use Rattle.std.specs.Io.KnownBytes.{Appends}
use Rattle.sect_script.specs.declared.script.RunEnd.{RunEnd}
use Rattle.sect_script.specs.declared.script.RunEnd.TheVariants as ends
use Rattle.sect_script.specs.declared.status.Status.{Status}
use Rattle.sect_script.specs.declared.status.Status.TheVariants as statuses

-- the status of a run that ended so
abbrev pub status_of : RunEnd → Status
status_of ends.Done = statuses.Done
status_of (ends.BadLine line field) = statuses.BadLine line field
status_of ends.ReadFault = statuses.ReadFault
status_of ends.WriteFault = statuses.WriteFault
status_of ends.Memory = statuses.Memory

-- the text was written, or a front of it where the sink failed
abbrev pub Says : List ℕ → Option (List ℕ) → Option (List ℕ) → Status → Type 0
Says text taken taken' statuses.Done = Appends taken taken' text
Says text taken taken' statuses.WriteFault = (n : ℕ) × Appends taken taken' (take n text)
Says text taken taken' _ = ⊥

-- the number with which the program ends
abbrev pub status_number : Status → ℕ
status_number statuses.Done = 0
status_number statuses.BadWords = 2
status_number (statuses.BadLine line field) = 3
status_number statuses.ReadFault = 4
status_number statuses.WriteFault = 5
status_number statuses.KeeperFault = 6
status_number (statuses.BadEntry row) = 7
status_number statuses.LinkFault = 8
status_number statuses.Memory = 9

-- the line of text that tells it, with its line feed, which is 10; none where the desk did what was asked
unfoldable pub status_text : Status → List ℕ
status_text statuses.Done = []
status_text statuses.BadWords = codes "usage: desk run|serve|make|audit|report|import|export|plan|survey" ++ 10 ∷ []
status_text (statuses.BadLine line field) = codes "line " ++ (decimal line ++ (codes " field " ++ (decimal field ++ 10 ∷ [])))
status_text statuses.ReadFault = codes "read fault" ++ 10 ∷ []
status_text statuses.WriteFault = codes "write fault" ++ 10 ∷ []
status_text statuses.KeeperFault = codes "keeper fault" ++ 10 ∷ []
status_text (statuses.BadEntry row) = codes "bad entry " ++ (decimal row ++ 10 ∷ [])
status_text statuses.LinkFault = codes "link fault" ++ 10 ∷ []
status_text statuses.Memory = codes "out of memory" ++ 10 ∷ []
