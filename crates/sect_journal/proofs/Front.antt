-- How rows are read one after another.
use Rattle.std.proofs.Common.{◌≡◌, ◌≢◌, ℕ, zero, suc, ◌+◌, ◌<◌, ◌≤◌, List, [], ◌∷◌, ◌++◌, length, get_or, take, drop, slice_index, true, Result, Ok, Err, refl, sym, ◌∙◌, ap, subst, arith, append_assoc, length-append, length-drop}
use Rattle.std.proofs.lemmas.List.{length-take-le, take-take, take-append-le, drop_at, drop-append-le, drop_more, drop-drop, drop-take, take_at}
use Rattle.std.proofs.Math.Seq.{take-add}
use Rattle.std.proofs.lemmas.Bool.Decides.{nat_tests}
use Rattle.std.specs.Int.{w64, from_be_bytes}
use Rattle.sect_journal.specs.Text.{row_length, row_behind, holds_row, with_rows, rows_from, journal_rows}
use Rattle.sect_journal.specs.Standing.{IsFront}

-- the bytes up to the next gate are passed over
pub skips : (n gate : ℕ) (bytes : List ℕ) → n ≤ length bytes → rows_from gate n bytes ≡ rows_from gate 0 (drop n bytes)
skips zero gate bytes le = refl
skips (suc n) gate [] le = absurd (omega arith)
skips (suc n) gate (b ∷ bytes) le = skips n gate bytes (omega arith)

pub with_rows-append : (xs ys : List (List ℕ)) (r : Result (List (List ℕ)) ℕ) → with_rows xs (with_rows ys r) ≡ with_rows (xs ++ ys) r
with_rows-append xs ys (Ok more) = ap (λ (l : List (List ℕ)). Ok l) (sym (append_assoc xs ys more))
with_rows-append xs ys (Err place) = refl

pub with_no_rows : (r : Result (List (List ℕ)) ℕ) → with_rows [] r ≡ r
with_no_rows (Ok more) = refl
with_no_rows (Err place) = refl

-- a gate that isn't open ends the journal
pub reads_closed : (place gate : ℕ) (bytes : List ℕ) → gate ≢ 1 → rows_from place 0 (gate ∷ bytes) ≡ Ok []
reads_closed place gate bytes shut = grind (arith, nat_tests)

-- behind one that is open stands a row
pub reads_open : (place : ℕ) (bytes : List ℕ) → holds_row bytes ≡ true → rows_from place 0 (1 ∷ bytes) ≡ with_rows (row_behind bytes ∷ []) (rows_from (place + 9 + row_length bytes) 0 (drop (8 + row_length bytes) bytes))
reads_open place bytes holds =
    let fits : 8 + row_length bytes ≤ length bytes = grind (arith, nat_tests) in
    rw holds (ap (λ r. with_rows (row_behind bytes ∷ []) r) (skips (8 + row_length bytes) (place + 9 + row_length bytes) bytes fits))

-- or it doesn't fit
pub reads_bad : (place : ℕ) (bytes : List ℕ) → length bytes < 8 + row_length bytes → rows_from place 0 (1 ∷ bytes) ≡ Err place
reads_bad place bytes short = grind (arith, nat_tests)

-- the same of a record with whatever stands behind it
pub reads_record : (place : ℕ) (body rest : List ℕ) → length body ≡ 8 + row_length body
    → rows_from place 0 (1 ∷ (body ++ rest)) ≡ with_rows (drop 8 body ∷ []) (rows_from (place + 9 + row_length body) 0 rest)
reads_record place body rest is =
    let same : row_length (body ++ rest) ≡ row_length body = ap (λ l. from_be_bytes w64 l) (take-append-le 8 body rest (omega arith)) in
    let holds : holds_row (body ++ rest) ≡ true =
    let le : 8 + row_length (body ++ rest) ≤ length (body ++ rest) = omega (arith, length-append body rest) in grind (arith, nat_tests) in
    let row : row_behind (body ++ rest) ≡ drop 8 body =
    ap (λ n. take n (drop 8 (body ++ rest))) same
    ∙ ap (λ l. take (row_length body) l) (drop-append-le 8 body rest (omega arith))
    ∙ take_at (drop 8 body) rest (row_length body) (omega (arith, length-drop 8 body)) in
    let behind : drop (8 + row_length (body ++ rest)) (body ++ rest) ≡ rest =
    ap (λ n. drop (8 + n) (body ++ rest)) same ∙ drop_at body rest (8 + row_length body) is in
    reads_open place (body ++ rest) holds
    ∙ ap (λ r. with_rows (r ∷ []) (rows_from (place + 9 + row_length (body ++ rest)) 0 (drop (8 + row_length (body ++ rest)) (body ++ rest)))) row
    ∙ ap (λ n. with_rows (drop 8 body ∷ []) (rows_from (place + 9 + n) 0 (drop (8 + row_length (body ++ rest)) (body ++ rest)))) same
    ∙ ap (λ l. with_rows (drop 8 body ∷ []) (rows_from (place + 9 + row_length body) 0 l)) behind

-- no bytes are no rows
pub front_none : IsFront [] []
front_none rest = sym (with_no_rows (rows_from 0 0 rest))

-- a front with one record more
pub front_record : (front : List ℕ) (rows : List (List ℕ)) (body : List ℕ) → IsFront front rows → length body ≡ 8 + row_length body → IsFront (front ++ 1 ∷ body) (rows ++ drop 8 body ∷ [])
front_record front rows body is long rest =
    let size : length (front ++ 1 ∷ body) ≡ length front + 9 + row_length body = omega (arith, length-append front (1 ∷ body)) in
    ap (λ l. journal_rows l) (append_assoc front (1 ∷ body) rest)
    ∙ is (1 ∷ (body ++ rest))
    ∙ ap (λ r. with_rows rows r) (reads_record (length front) body rest long)
    ∙ with_rows-append rows (drop 8 body ∷ []) (rows_from (length front + 9 + row_length body) 0 rest)
    ∙ ap (λ n. with_rows (rows ++ drop 8 body ∷ []) (rows_from n 0 rest)) (sym size)

take_cons : (b : ℕ) (bytes : List ℕ) (n : ℕ) → take (9 + n) (b ∷ bytes) ≡ b ∷ take (8 + n) bytes
take_cons b bytes n = let e : 9 + n ≡ suc (8 + n) = omega arith in ap (λ k. take k (b ∷ bytes)) e

-- a front of bytes goes on over an open gate
pub front_more : (seen : List ℕ) (gate n : ℕ) (rows : List (List ℕ)) → IsFront (take gate seen) rows → gate < length seen → slice_index seen gate ≡ 1
    → holds_row (drop (gate + 1) seen) ≡ true → n ≡ row_length (drop (gate + 1) seen)
    → IsFront (take (gate + (9 + n)) seen) (rows ++ take n (drop (gate + 9) seen) ∷ [])
front_more seen gate n rows front inside opens holds is =
    let bytes = drop (gate + 1) seen in
    let fits : 8 + row_length bytes ≤ length bytes = grind (arith, nat_tests) in
    let body = take (8 + n) bytes in
    let long : length body ≡ 8 + n = length-take-le (8 + n) bytes (omega arith) in
    let same : row_length body ≡ n = ap (λ l. from_be_bytes w64 l) (take-take 8 (8 + n) bytes (omega arith)) ∙ sym is in
    let fronts : take gate seen ++ 1 ∷ body ≡ take (gate + (9 + n)) seen =
    ap (λ b. take gate seen ++ b ∷ body) (sym opens)
    ∙ ap (λ l. take gate seen ++ l) (sym (ap (λ l. take (9 + n) l) (drop_more seen gate 0 inside) ∙ take_cons (get_or seen gate 0) bytes n))
    ∙ sym (take-add gate (9 + n) seen) in
    let rows_are : drop 8 body ≡ take n (drop (gate + 9) seen) =
    drop-take 8 n bytes ∙ ap (λ l. take n l) (drop-drop 8 (gate + 1) seen ∙ (let e : gate + 1 + 8 ≡ gate + 9 = omega arith in ap (λ k. drop k seen) e)) in
    let more : IsFront (take gate seen ++ 1 ∷ body) (rows ++ drop 8 body ∷ []) = front_record (take gate seen) rows body front (omega arith) in
    subst (λ l. IsFront l (rows ++ take n (drop (gate + 9) seen) ∷ [])) fronts (subst (λ r. IsFront (take gate seen ++ 1 ∷ body) (rows ++ r ∷ [])) rows_are more)
