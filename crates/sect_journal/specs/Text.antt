-- The text of a journal, and its rows.
use Rattle.std.specs.Prelude.{ℕ, zero, suc, ◌+◌, List, [], ◌∷◌, ◌++◌, length, take, drop, Bool, nat_le, ◌==◌, if◌then◌else◌, Result, Ok, Err}
use Rattle.std.specs.Int.{w64, from_be_bytes, to_be_bytes}

-- A gate is a byte. One other than 1 ends the journal, and what follows it isn't looked at. Behind the byte 1 stand
-- the row's length as 8 bytes, the greatest first, then the row, then the next gate. The first gate stands at place 0.

-- the length of the row behind an open gate
abbrev pub row_length : List ℕ → ℕ
row_length bytes = from_be_bytes w64 (take 8 bytes)

-- the row behind an open gate
abbrev pub row_behind : List ℕ → List ℕ
row_behind bytes = take (row_length bytes) (drop 8 bytes)

-- its length and itself fit in what stands behind the gate
abbrev pub holds_row : List ℕ → Bool
holds_row bytes = nat_le (8 + row_length bytes) (length bytes)

-- these rows in front, or the place of the gate that is bad
abbrev pub with_rows : List (List ℕ) → Result (List (List ℕ)) ℕ → Result (List (List ℕ)) ℕ
with_rows rows (Ok more) = Ok (rows ++ more)
with_rows rows (Err place) = Err place

-- the rows of bytes whose first gate, at this place of the journal, comes after so many bytes; or the place of the first gate that
-- has no byte, or whose row doesn't fit
abbrev pub rows_from : ℕ → ℕ → List ℕ → Result (List (List ℕ)) ℕ
rows_from gate skip [] = Err gate
rows_from gate (suc skip) (byte ∷ bytes) = rows_from gate skip bytes
rows_from gate zero (byte ∷ bytes) =
    if byte == 1
    then (if holds_row bytes then with_rows (row_behind bytes ∷ []) (rows_from (gate + 9 + row_length bytes) (8 + row_length bytes) bytes) else Err gate)
    else Ok []

-- the rows of a journal, or the place of its bad gate
abbrev pub journal_rows : List ℕ → Result (List (List ℕ)) ℕ
journal_rows bytes = rows_from 0 0 bytes

-- the rows, where there are some
abbrev pub rows_or_none : Result (List (List ℕ)) ℕ → List (List ℕ)
rows_or_none (Ok rows) = rows
rows_or_none (Err place) = []

-- the rows that would count behind the gate at this place, in front of these bytes, were it open
abbrev pub rows_behind : ℕ → List ℕ → List (List ℕ)
rows_behind gate bytes = rows_or_none (rows_from gate 0 (1 ∷ bytes))

-- the gate in front of these rows, of a text that ends with them
abbrev pub gate_byte : List (List ℕ) → ℕ
gate_byte [] = 0
gate_byte (row ∷ rows) = 1

-- what stands behind the gate of the first of these rows: each row's length, the row and the next gate, of which the last is closed
abbrev pub records_of : List (List ℕ) → List ℕ
records_of [] = []
records_of (row ∷ rows) = to_be_bytes w64 (length row) ++ (row ++ gate_byte rows ∷ records_of rows)
