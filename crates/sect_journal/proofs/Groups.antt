-- What stands of a group of rows behind a gate.
use Rattle.std.proofs.Common.{◌≡◌, inl, inr, ℕ, ◌+◌, ◌<◌, ◌≤◌, ◌^◌, true, List, [], ◌∷◌, ◌++◌, length, get_or, take, drop, map, slice_index_or, Result, Ok, Err, Some, refl, sym, ◌∙◌, ap, subst, arith, append_assoc, append-nil, length-append, length-drop}
use Rattle.std.proofs.lemmas.Bool.{cases_eq, cases_lt}
use Rattle.std.proofs.lemmas.Bool.Decides.{nat_tests}
use Rattle.std.proofs.lemmas.Nat.{from_be_bytes-to_be_bytes_8}
use Rattle.std.proofs.lemmas.List.{length-take-le, take_at, drop_at, drop-drop, drop_more, drop_all}
use Rattle.std.specs.Int.{w64, from_be_bytes, to_be_bytes}
use Rattle.sect_journal.specs.declared.journal.Span.{Span}
use Rattle.sect_journal.specs.Disk.{Told}
use Rattle.sect_journal.specs.Text.{row_length, row_behind, holds_row, with_rows, rows_from, gate_byte, records_of}
use Rattle.sect_journal.specs.Standing.{HasRows, IsClosed, cut, spans_of, gate_behind}
use Rattle.sect_journal.specs.Opening.{HasRead, IsOpen}
use Rattle.sect_journal.proofs.Front.{reads_closed, reads_open, reads_bad, reads_record}
use Rattle.sect_journal.proofs.Gates.{reads_on}

-- the row of one record
one_reads : (place : ℕ) (eight row rest : List ℕ) → length eight ≡ 8 → from_be_bytes w64 eight ≡ length row
    → rows_from place 0 (1 ∷ (eight ++ (row ++ rest))) ≡ with_rows (row ∷ []) (rows_from (place + 9 + length row) 0 rest)
one_reads place eight row rest long is =
    let body = eight ++ row in
    let n : row_length body ≡ length row = ap (λ l. from_be_bytes w64 l) (take_at eight row 8 long) ∙ is in
    let size : length body ≡ 8 + row_length body = omega (arith, n, length-append eight row, long) in
    ap (λ l. rows_from place 0 (1 ∷ l)) (sym (append_assoc eight row rest))
    ∙ reads_record place body rest size
    ∙ ap (λ r. with_rows (r ∷ []) (rows_from (place + 9 + row_length body) 0 rest)) (drop_at eight row 8 long)
    ∙ ap (λ k. with_rows (row ∷ []) (rows_from (place + 9 + k) 0 rest)) n

record_size : (eight row : List ℕ) (byte : ℕ) (rest : List ℕ) → length eight ≡ 8 → length (eight ++ (row ++ byte ∷ rest)) ≡ 9 + length row + length rest
record_size eight row byte rest long = omega (arith, long, length-append eight (row ++ byte ∷ rest), length-append row (byte ∷ rest))

-- so much longer is the text by one row more
pub records_size : (row : List ℕ) (rows : List (List ℕ)) → length (records_of (row ∷ rows)) ≡ 9 + length row + length (records_of rows)
records_size row rows = record_size (to_be_bytes w64 (length row)) row (gate_byte rows) (records_of rows) refl

-- the rows of a group are read from its text, whatever stands behind it
pub group_reads : (place : ℕ) (rows : List (List ℕ)) (tail : List ℕ) → length (records_of rows) < 2 ^ 64 → rows_from place 0 (gate_byte rows ∷ (records_of rows ++ tail)) ≡ Ok rows
group_reads place [] tail short = reads_closed place 0 tail (λ opens. absurd (omega arith))
group_reads place (row ∷ rows) tail short =
    let eight = to_be_bytes w64 (length row) in
    let rest = gate_byte rows ∷ (records_of rows ++ tail) in
    let size = records_size row rows in
    let is : records_of (row ∷ rows) ++ tail ≡ eight ++ (row ++ rest) =
    append_assoc eight (row ++ gate_byte rows ∷ records_of rows) tail ∙ ap (λ l. eight ++ l) (append_assoc row (gate_byte rows ∷ records_of rows) tail) in
    ap (λ l. rows_from place 0 (1 ∷ l)) is
    ∙ one_reads place eight row rest refl (from_be_bytes-to_be_bytes_8 (length row) (omega (arith, size)))
    ∙ ap (λ r. with_rows (row ∷ []) r) (group_reads (place + 9 + length row) rows tail (omega (arith, size)))

-- the gate behind them stands behind their text
pub behind_text : (gate : ℕ) (rows : List (List ℕ)) → gate_behind gate rows ≡ gate + length (records_of rows)
behind_text gate [] = omega arith
behind_text gate (row ∷ rows) = behind_text (gate + (9 + length row)) rows ∙ omega (arith, records_size row rows)

-- it stands behind the first of them
pub behind_all : (gate : ℕ) (rows : List (List ℕ)) → gate ≤ gate_behind gate rows
behind_all gate rows = omega (arith, behind_text gate rows)

pub behind_first : {X : Type 0} (f : X → List ℕ) (gate : ℕ) (xs : List X) (d : X) → 0 < length xs → gate + (9 + length (f (slice_index_or xs 0 d))) ≤ gate_behind gate (map f xs)
behind_first f gate [] d some = absurd (omega arith)
behind_first f gate (x ∷ xs) d some = behind_all (gate + (9 + length (f x))) (map f xs)

-- the first row, and what is read behind it
record Begins (row : List ℕ) (r : Result (List (List ℕ)) ℕ) (first : List ℕ) (rows : List (List ℕ)) : Type 0 where
  same : row ≡ first
  rest : r ≡ Ok rows

begins : (row : List ℕ) (r : Result (List (List ℕ)) ℕ) (first : List ℕ) (rows : List (List ℕ)) → with_rows (row ∷ []) r ≡ Ok (first ∷ rows) → Begins row r first rows
begins row (Ok more) first rows is = record { same = cc; rest = cc }
begins row (Err place) first rows is = absurd (cc)

none_begins : (row : List ℕ) (r : Result (List (List ℕ)) ℕ) → with_rows (row ∷ []) r ≡ Ok [] → ⊥
none_begins row (Ok more) is = absurd (cc)
none_begins row (Err place) is = absurd (cc)

-- the rows from a gate on were read, to a closed one
pub record Walked (seen : List ℕ) (spans : List Span) (gate : ℕ) (rows : List (List ℕ)) : Type 0 where
  pub has : HasRows seen (spans ++ spans_of gate rows) (gate_behind gate rows)
  pub closed : IsClosed seen (gate_behind gate rows)
  pub rows_are : map (cut seen) (spans_of gate rows) ≡ rows

-- what a gate is, from what is read there
data Stops (seen : List ℕ) (gate : ℕ) : Type 0 where
  shuts : IsClosed seen gate → rows_from gate 0 (drop gate seen) ≡ Ok [] → Stops seen gate
  fails : rows_from gate 0 (drop gate seen) ≡ Err gate → Stops seen gate
  goes : IsOpen seen gate (row_length (drop (gate + 1) seen))
      → rows_from gate 0 (drop gate seen) ≡ with_rows (row_behind (drop (gate + 1) seen) ∷ []) (rows_from (gate + 9 + row_length (drop (gate + 1) seen)) 0 (drop (8 + row_length (drop (gate + 1) seen)) (drop (gate + 1) seen)))
      → Stops seen gate

stops : (seen : List ℕ) (gate : ℕ) → Stops seen gate
stops seen gate = elim (cases_lt gate (length seen)) [
  | inr past ↦ fails (ap (λ l. rows_from gate 0 l) (drop_all gate seen past))
  | inl inside ↦
      let bytes = drop (gate + 1) seen in
      let whole : rows_from gate 0 (drop gate seen) ≡ rows_from gate 0 (get_or seen gate 0 ∷ bytes) = ap (λ l. rows_from gate 0 l) (drop_more seen gate 0 inside) in
      elim (cases_eq (get_or seen gate 0) 1) [
        | inr shut ↦ shuts (record { inside = inside; closed = shut }) (whole ∙ reads_closed gate (get_or seen gate 0) bytes shut)
        | inl opens ↦
            let one : rows_from gate 0 (drop gate seen) ≡ rows_from gate 0 (1 ∷ bytes) = whole ∙ ap (λ b. rows_from gate 0 (b ∷ bytes)) opens in
            elim (cases_lt (length bytes) (8 + row_length bytes)) [
              | inl short ↦ fails (one ∙ reads_bad gate bytes short)
              | inr fits ↦
                  let holds : holds_row bytes ≡ true = grind (arith, nat_tests) in
                  goes (record { inside = inside; opens = opens; holds = holds; is_length = refl }) (one ∙ reads_open gate bytes holds)
            ]
      ]
]

-- behind an open gate stands the first row of the group, and behind that its other rows
record Passes (seen : List ℕ) (gate : ℕ) (row : List ℕ) (rows : List (List ℕ)) : Type 0 where
  opens : IsOpen seen gate (length row)
  size : gate + 9 + length row ≤ length seen
  row_is : take (length row) (drop (gate + 9) seen) ≡ row
  rest : rows_from (gate + (9 + length row)) 0 (drop (gate + (9 + length row)) seen) ≡ Ok rows

passes : (seen : List ℕ) (gate : ℕ) (row : List ℕ) (rows : List (List ℕ)) → IsOpen seen gate (row_length (drop (gate + 1) seen))
    → with_rows (row_behind (drop (gate + 1) seen) ∷ []) (rows_from (gate + 9 + row_length (drop (gate + 1) seen)) 0 (drop (8 + row_length (drop (gate + 1) seen)) (drop (gate + 1) seen))) ≡ Ok (row ∷ rows)
    → Passes seen gate row rows
passes seen gate row rows opens is =
    let bytes = drop (gate + 1) seen in
    let n = row_length bytes in
    let b = begins (row_behind bytes) (rows_from (gate + 9 + n) 0 (drop (8 + n) bytes)) row rows is in
    let fits : 8 + n ≤ length bytes = let holds = opens.holds in grind (arith, nat_tests) in
    let long : length (row_behind bytes) ≡ n = length-take-le n (drop 8 bytes) (omega (arith, length-drop 8 bytes)) in
    let same : length row ≡ n = sym (ap length b.same) ∙ long in
    let start : gate + 1 + 8 ≡ gate + 9 = omega arith in
    let end : gate + 1 + (8 + n) ≡ gate + (9 + length row) = omega arith in
    let place : gate + 9 + n ≡ gate + (9 + length row) = omega arith in
    record {
      opens = record { inside = opens.inside; opens = opens.opens; holds = opens.holds; is_length = same };
      size = omega (arith, length-drop (gate + 1) seen, opens.inside);
      row_is =
          ap (λ k. take k (drop (gate + 9) seen)) same
          ∙ ap (λ k. take n (drop k seen)) (sym start)
          ∙ ap (λ l. take n l) (sym (drop-drop 8 (gate + 1) seen))
          ∙ b.same;
      rest =
          ap (λ k. rows_from k 0 (drop (gate + (9 + length row)) seen)) (sym place)
          ∙ ap (λ k. rows_from (gate + 9 + n) 0 (drop k seen)) (sym end)
          ∙ ap (λ l. rows_from (gate + 9 + n) 0 l) (sym (drop-drop (8 + n) (gate + 1) seen))
          ∙ b.rest;
    }

walks_on : (seen : List ℕ) (spans : List Span) (gate : ℕ) (row : List ℕ) (rows : List (List ℕ)) → Passes seen gate row rows → Walked seen (spans ++ record { start = gate + 9; length = length row } ∷ []) (gate + (9 + length row)) rows
    → Walked seen spans gate (row ∷ rows)
walks_on seen spans gate row rows p w =
    let span : Span = record { start = gate + 9; length = length row } in
    let behind = gate + (9 + length row) in
    record {
      has = subst (λ l. HasRows seen l (gate_behind behind rows)) (append_assoc spans (span ∷ []) (spans_of behind rows)) w.has;
      closed = w.closed;
      rows_are = ap (λ r. r ∷ map (cut seen) (spans_of behind rows)) p.row_is ∙ ap (λ l. row ∷ l) w.rows_are;
    }

no_rows : (seen : List ℕ) (spans : List Span) (gate : ℕ) → HasRead seen spans gate → IsClosed seen gate → Walked seen spans gate []
no_rows seen spans gate read closed = record {
  has = subst (λ l. HasRows seen l gate) (sym (append-nil spans)) (record { within = closed.inside; inside = read.inside; front = read.front });
  closed = closed;
  rows_are = refl;
}

-- over each row of the group
pub walks : (t : Told) (spans : List Span) (gate : ℕ) (rows : List (List ℕ)) → HasRead t.now.seen spans gate → rows_from gate 0 (drop gate t.now.seen) ≡ Ok rows → Walked t.now.seen spans gate rows
walks t spans gate [] read reads = elim (stops t.now.seen gate) [
  | shuts closed is ↦ no_rows t.now.seen spans gate read closed
  | fails is ↦ absurd (cc)
  | goes opens is ↦
      let bytes = drop (gate + 1) t.now.seen in
      absurd (none_begins (row_behind bytes) (rows_from (gate + 9 + row_length bytes) 0 (drop (8 + row_length bytes) bytes)) (sym is ∙ reads))
]
walks t spans gate (row ∷ rows) read reads = elim (stops t.now.seen gate) [
  | shuts closed is ↦ absurd (cc)
  | fails is ↦ absurd (cc)
  | goes opens is ↦
      let p = passes t.now.seen gate row rows opens (sym is ∙ reads) in
      let more = reads_on (Some t) spans gate (length t.now.seen) (length row) refl p.size read p.opens in
      walks_on t.now.seen spans gate row rows p (walks t (spans ++ record { start = gate + 9; length = length row } ∷ []) (gate + (9 + length row)) rows more p.rest)
]
