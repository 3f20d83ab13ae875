-- What contracts see of a journal, and what a crash leaves of it.
use Rattle.std.specs.Prelude.{◌≡◌, ◌≢◌, ◌⊎◌, ◌<◌, ◌≤◌, ℕ, ◌+◌, List, [], ◌∷◌, ◌++◌, length, take, drop, map, slice_index, Bool, true, false, Option, Some, None, Ok, ⊤, All, Contains, if◌then◌else◌}
use Rattle.sect_journal.specs.declared.journal.Span.{Span}
use Rattle.sect_journal.specs.Disk.{Content, Told, IsImage, Stays, after_write, after_sync}
use Rattle.sect_journal.specs.Text.{journal_rows, rows_behind, rows_from, with_rows, records_of}

-- the disk, the acknowledged rows, the groups of rows of which one may stand behind them after a crash, the place of the gate behind
-- them, whether that gate is to be closed first, and for how many more rows there is room in memory
pub record Standing (D : Type 0) : Type 0 where
  pub disk : D
  pub rows : List (List ℕ)
  pub loose : List (List (List ℕ))
  pub gate : ℕ
  pub torn : Bool
  pub room : ℕ

-- the bytes of a row in the journal
abbrev pub cut : List ℕ → Span → List ℕ
cut bytes span = take span.length (drop span.start bytes)

-- the rows at these spans, where the disk tells them
abbrev pub rows_at : Option Told → List Span → List (List ℕ)
rows_at None spans = []
rows_at (Some t) spans = map (cut t.now.seen) spans

-- where a gate is to be closed first, the group behind it
abbrev pub loose_at : Option Told → ℕ → Bool → List (List (List ℕ))
loose_at None gate torn = []
loose_at (Some t) gate false = []
loose_at (Some t) gate true = rows_behind gate (drop (gate + 1) t.now.seen) ∷ []

-- these, where the disk tells them
abbrev pub where_told : {X : Type 0} → Option Told → List X → List X
where_told None xs = []
where_told (Some t) xs = xs

-- the rows, where the disk tells them
abbrev pub told_rows : Option Told → List (List ℕ) → Option (List (List ℕ))
told_rows None rows = None
told_rows (Some t) rows = Some rows

-- after the gate was closed, where that was to be done
abbrev pub shut : Option Told → ℕ → Bool → Option Told
shut told gate false = told
shut told gate true = after_sync (after_write told gate (0 ∷ []))

-- after a group of rows was appended: a gate that is to be closed first is closed, the records are written behind it, and the gate is
-- opened, which makes all of them count at once. Of a group without rows nothing is written
abbrev pub appended : Option Told → ℕ → Bool → List (List ℕ) → Option Told
appended told gate torn [] = shut told gate torn
appended told gate torn (row ∷ rows) = after_sync (after_write (after_sync (after_write (shut told gate torn) (gate + 1) (records_of (row ∷ rows)))) gate (1 ∷ []))

-- where the rows of a group behind this gate stand
abbrev pub spans_of : ℕ → List (List ℕ) → List Span
spans_of gate [] = []
spans_of gate (row ∷ rows) = record { start = gate + 9; length = length row } ∷ spans_of (gate + (9 + length row)) rows

-- the place of the gate behind them
abbrev pub gate_behind : ℕ → List (List ℕ) → ℕ
gate_behind gate [] = gate
gate_behind gate (row ∷ rows) = gate_behind (gate + (9 + length row)) rows

-- an image opens to these rows, or to these and one whole group of those
abbrev pub OpensTo : List (List ℕ) → List (List (List ℕ)) → List ℕ → Type 0
OpensTo rows more image = (journal_rows image ≡ Ok rows) ⊎ ((group : List (List ℕ)) × Contains more group × (journal_rows image ≡ Ok (rows ++ group)))

-- so does each image that a crash may leave
abbrev pub Leaves : List (List ℕ) → List (List (List ℕ)) → Content → Type 0
Leaves rows more c = (image : List ℕ) → IsImage c image → OpensTo rows more image

-- so does each image that a crash now may leave, where the disk tells them
abbrev pub LeavesNow : List (List ℕ) → List (List (List ℕ)) → Option Told → Type 0
LeavesNow rows more None = ⊤
LeavesNow rows more (Some t) = Leaves rows more t.now

-- these bytes are whole records of these rows, whatever stands behind them
abbrev pub IsFront : List ℕ → List (List ℕ) → Type 0
IsFront front rows = (rest : List ℕ) → journal_rows (front ++ rest) ≡ with_rows rows (rows_from (length front) 0 rest)

-- a gate that isn't open stands at this place
pub record IsClosed (bytes : List ℕ) (gate : ℕ) : Type 0 where
  pub inside : gate < length bytes
  pub closed : slice_index bytes gate ≢ 1

-- the gate is closed on the disk, and what was written since lies behind it
pub record IsAtRest (c : Content) (gate : ℕ) : Type 0 where
  pub front : take (gate + 1) c.durable ≡ take (gate + 1) c.seen
  pub closed : IsClosed c.seen gate
  pub behind : All (λ range. gate < range.0) c.pending

-- whole records up to a closed gate stand on the disk behind the gate, and only the gate was written since
pub record IsTorn (c : Content) (gate : ℕ) : Type 0 where
  pub front : take gate c.durable ≡ take gate c.seen
  pub back : drop (gate + 1) c.durable ≡ drop (gate + 1) c.seen
  pub inside : gate < length c.durable
  pub whole : rows_from gate 0 (1 ∷ drop (gate + 1) c.seen) ≡ Ok (rows_behind gate (drop (gate + 1) c.seen))
  pub at_gate : All (λ range. range ≡ (gate, 1)) c.pending

-- at rest, or torn
abbrev pub IsSafe : Content → ℕ → Bool → Type 0
IsSafe c gate false = IsAtRest c gate
IsSafe c gate true = IsTorn c gate

-- the rows stand in front of the gate
pub record HasRows (seen : List ℕ) (spans : List Span) (gate : ℕ) : Type 0 where
  pub within : gate < length seen
  pub inside : All (λ span. span.start + span.length ≤ gate) spans
  pub front : IsFront (take gate seen) (map (cut seen) spans)

-- what the fields of a journal keep of the disk
abbrev pub IsKept : Option Told → List Span → ℕ → Bool → Type 0
IsKept None spans gate torn = ⊤
IsKept (Some t) spans gate torn = HasRows t.now.seen spans gate × IsSafe t.now gate torn

-- what an append of a group of rows does: all of them count, or none. Where it isn't answered Ok the group may be loose
pub record Appends {D : Type 0} (told : D → Option Told) (group : List (List ℕ)) (done : Bool) (old new : Standing D) : Type 0 where
  pub rows : new.rows ≡ (if done then old.rows ++ where_told (told old.disk) group else old.rows)
  pub loose : All (Contains (if done then [] else old.loose ++ group ∷ [])) new.loose
  pub moments : Stays (told old.disk) (told new.disk) (Leaves old.rows (old.loose ++ group ∷ []))
  pub now : LeavesNow new.rows new.loose (told new.disk)

-- what a call that only reads does: the disk tells the same after it
pub record Looks {D : Type 0} (told : D → Option Told) (old new : Standing D) : Type 0 where
  pub same : new ≡ record { disk = new.disk; rows = old.rows; loose = old.loose; gate = old.gate; torn = old.torn; room = old.room }
  pub told_same : told new.disk ≡ told old.disk
