-- What is found where a journal is opened.
use Rattle.std.specs.Prelude.{◌≡◌, ◌<◌, ◌≤◌, ℕ, ◌+◌, List, [], ◌∷◌, length, take, drop, map, slice_index, true, ◌&&◌, nat_le, ◌==◌, if◌then◌else◌, Option, Some, None, Ok, Err, ⊤, ◌⊎◌, All}
use Rattle.sect_edge.specs.Causes.{Rose}
use Rattle.sect_journal.specs.declared.journal.Span.{Span}
use Rattle.sect_journal.specs.declared.journal.JournalFault.{JournalFault}
use Rattle.sect_journal.specs.declared.journal.JournalFault.TheVariants.{Failed, BadJournal, Memory}
use Rattle.sect_journal.specs.declared.gate.Gate.{Gate}
use Rattle.sect_journal.specs.declared.gate.Gate.TheVariants.{Closed, Bad, Open}
use Rattle.sect_journal.specs.Disk.{Told, IsSize, Tears, after_write, after_sync}
use Rattle.sect_journal.specs.Text.{journal_rows, row_length, holds_row, rows_from}
use Rattle.sect_journal.specs.Standing.{Standing, IsFront, IsClosed, HasRows, LeavesNow, cut}

-- the gate in front of these bytes, of which so many are left in all
abbrev pub gate_of : List ℕ → ℕ → Gate
gate_of [] left = Bad
gate_of (byte ∷ bytes) left =
    if byte == 1
    then (if nat_le 8 (length bytes) && nat_le (9 + row_length bytes) left then Open (row_length bytes) else Bad)
    else Closed

-- the gate is open, and a row of this length stands whole behind it
pub record IsOpen (seen : List ℕ) (gate n : ℕ) : Type 0 where
  pub inside : gate < length seen
  pub opens : slice_index seen gate ≡ 1
  pub holds : holds_row (drop (gate + 1) seen) ≡ true
  pub is_length : n ≡ row_length (drop (gate + 1) seen)

-- what stands at a gate, where the disk tells it
abbrev pub GateIs : Option Told → ℕ → Gate → Type 0
GateIs None gate found = ⊤
GateIs (Some t) gate Closed = IsClosed t.now.seen gate
GateIs (Some t) gate Bad = rows_from gate 0 (drop gate t.now.seen) ≡ Err gate
GateIs (Some t) gate (Open n) = IsOpen t.now.seen gate n

-- a row behind the gate ends within the bytes
abbrev pub EndsWithin : ℕ → ℕ → Gate → Type 0
EndsWithin gate size Closed = ⊤
EndsWithin gate size Bad = ⊤
EndsWithin gate size (Open n) = gate + 9 + n ≤ size

-- these rows were read up to this gate
pub record HasRead (seen : List ℕ) (spans : List Span) (gate : ℕ) : Type 0 where
  pub within : gate ≤ length seen
  pub inside : All (λ span. span.start + span.length ≤ gate) spans
  pub front : IsFront (take gate seen) (map (cut seen) spans)

-- the same of a disk that tells
abbrev pub ReadsTo : Option Told → List Span → ℕ → Type 0
ReadsTo None spans gate = ⊤
ReadsTo (Some t) spans gate = HasRead t.now.seen spans gate

-- the rows end at this gate
abbrev pub EndsAt : Option Told → List Span → ℕ → Type 0
EndsAt None spans gate = ⊤
EndsAt (Some t) spans gate = HasRows t.now.seen spans gate × IsClosed t.now.seen gate

-- the bytes that a read gives are a journal with these rows
abbrev pub HoldsRows : Option Told → List (List ℕ) → Type 0
HoldsRows None rows = rows ≡ []
HoldsRows (Some t) rows = journal_rows t.now.seen ≡ Ok rows

-- the first gate that is bad stands at this place of them
abbrev pub IsBadAt : Option Told → JournalFault → Type 0
IsBadAt None fault = ⊤
IsBadAt (Some t) Failed = ⊤
IsBadAt (Some t) Memory = ⊤
IsBadAt (Some t) (BadJournal place) = journal_rows t.now.seen ≡ Err place

-- a journal that was opened on a disk that told this
pub record IsOpened {D : Type 0} (told : D → Option Told) (before : Option Told) (journal : Standing D) : Type 0 where
  pub rows : HoldsRows before journal.rows
  pub loose : journal.loose ≡ []
  pub synced : told journal.disk ≡ after_sync before
  pub now : LeavesNow journal.rows [] (told journal.disk)

-- the count rose where the fault is this one, and it never falls
pub record HasRisenFor {E : Type 0} (fault : E) (before now : ℕ) (told : E) : Type 0 where
  pub later : before ≤ now
  pub risen : told ≡ fault → Rose before now

-- after a journal without rows was written
abbrev pub formatted : Option Told → Option Told
formatted told = after_sync (after_write told 0 (0 ∷ []))

-- that, on a disk without bytes
abbrev pub prepared : Option Told → Option Told
prepared None = None
prepared (Some t) = if length t.now.seen == 0 then formatted (Some t) else Some t

-- what a start that failed leaves: the disk as it was, or with a first byte that may have been written where it had none, or as it was prepared, synced or not
abbrev pub IsLeftAtStart : Option Told → Option Told → Type 0
IsLeftAtStart old new =
    (new ≡ old) ⊎ ((IsSize old 0 × Tears old 0 1 new) ⊎ ((new ≡ prepared old) ⊎ (new ≡ after_sync (prepared old))))
