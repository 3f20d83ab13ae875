-- A row is read where it stands.
use Rattle.std.proofs.Common.{◌≡◌, ℕ, ◌+◌, ◌<◌, ◌≤◌, Bool, true, false, nat_eq, List, ◌++◌, length, take, drop, map, slice_get, option_map, Option, Some, None, sym, ◌∙◌, ap, subst, arith}
use Rattle.std.proofs.lemmas.Bool.Decides.{nat_tests}
use Rattle.std.proofs.lemmas.Option.{slice_get-map, slice_get_within, get_or_from_slice_get}
use Rattle.std.proofs.lemmas.List.{take_at, take_all}
use Rattle.std.proofs.lemmas.List.Elements.{All-get_or}
use Rattle.sect_edge.specs.Keeper.{FindsRow}
use Rattle.sect_journal.specs.declared.journal.Span.{Span}
use Rattle.sect_journal.specs.Disk.{Told, Reads}
use Rattle.sect_journal.specs.Standing.{IsKept, HasRows, cut, rows_at, told_rows}

has_rows : (t : Told) (spans : List Span) (gate : ℕ) (torn : Bool) → IsKept (Some t) spans gate torn → HasRows t.now.seen spans gate
has_rows t spans gate true kept = kept.0
has_rows t spans gate false kept = kept.0

-- the bytes that were read are the row's
pub row_found : (told : Option Told) (spans : List Span) (gate : ℕ) (torn : Bool) (at n size m : ℕ) (span : Span) (bytes all : List ℕ) → IsKept told spans gate torn → slice_get spans at ≡ Some span
    → length bytes ≡ span.length → size ≡ span.length → m ≡ size → Reads told span.start (length bytes) n bytes
    → FindsRow (told_rows told (rows_at told spans)) at (nat_eq n size) (take m (bytes ++ drop (length bytes) all))
row_found None spans gate torn at n size m span bytes all kept is long sized same_size reads = tt
row_found (Some t) spans gate torn at n size m span bytes all kept is long sized same_size reads =
    let seen = t.now.seen in
    let has = has_rows t spans gate torn kept in
    let lt : at < length spans = slice_get_within spans at span is in
    let inside : span.start + span.length ≤ gate =
    subst (λ s. s.start + s.length ≤ gate) (get_or_from_slice_get spans at span span is) (All-get_or (λ s. s.start + s.length ≤ gate) spans at span lt has.inside) in
    let all_read : n ≡ length bytes = omega (arith, reads.0, has.within) in
    let whole : nat_eq n size ≡ true = let e : n ≡ size = omega arith in grind (arith, nat_tests) in
    let bytes_are : take m (bytes ++ drop (length bytes) all) ≡ cut seen span =
    take_at bytes (drop (length bytes) all) m (omega arith)
    ∙ sym (take_all n bytes (omega arith))
    ∙ reads.1
    ∙ ap (λ k. take k (drop span.start seen)) (all_read ∙ long) in
    let found : slice_get (map (cut seen) spans) at ≡ Some (take m (bytes ++ drop (length bytes) all)) =
    slice_get-map (cut seen) spans at ∙ ap (λ o. option_map (cut seen) o) is ∙ ap (λ r. Some r) (sym bytes_are) in
    subst (λ b. FindsRow (Some (map (cut seen) spans)) at b (take m (bytes ++ drop (length bytes) all))) (sym whole) found
