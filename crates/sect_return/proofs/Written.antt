-- What was written is read as the rows that it was made of.
use Rattle.std.proofs.Common.{◌≡◌, ℕ, Bool, true, false, List, [], ◌∷◌, ◌++◌, append-nil, append_assoc, Option, Some, refl, sym, ap, ◌∙◌}
use Rattle.std.specs.Prelude.{flat_map}
use Rattle.csv.proofs.RoundTrip.{read-write}
use Rattle.csv.specs.Machine.{Read}
use Rattle.csv.specs.Reading.{strip_bom}
use Rattle.csv.specs.declared.parser.State.TheVariants as st
use Rattle.sect_command.specs.declared.view.Table.{Table}
use Rattle.sect_command.specs.declared.view.Table.TheVariants.{Offerings, Requests, Reservations, Students}
use Rattle.sect_command.specs.declared.view.View.{View}
use Rattle.sect_csv.proofs.FoldLemmas.{ByNext, by-next, from-nil, rows_from}
use Rattle.sect_csv.specs.Rows.{all_rows, at_start}
use Rattle.sect_csv.specs.Tables.{header, table_text, view_text, written}

-- a text is read as these rows, whatever stands behind it
abbrev pub Shows : List ℕ → List (List (List ℕ)) → Type 0
Shows text rows = (tail : List ℕ) → rows_from at_start (text ++ tail) ≡ rows ++ rows_from at_start tail

by_row : (row : List (List ℕ)) (tail : List ℕ) (next : Option Read) (rows : List (List (List ℕ))) → next ≡ Some (row, st.StartRecord, tail) → ByNext next rows
    → rows ≡ row ∷ rows_from at_start tail
by_row row tail next rows is told = rw is at told

-- a row of some fields
shows_row : (field : List ℕ) (fields : List (List ℕ)) → Shows (written (field ∷ fields)) ((field ∷ fields) ∷ [])
shows_row field fields tail =
    by_row (field ∷ fields) tail _ _ (read-write (field ∷ fields) tail) (by-next st.StartRecord [] [] (written (field ∷ fields) ++ tail))

-- there is a field
abbrev pub has_field : List (List ℕ) → Bool
has_field [] = false
has_field (field ∷ fields) = true

-- a row that has a field
pub shows_fields : (fields : List (List ℕ)) → has_field fields ≡ true → Shows (written fields) (fields ∷ [])
shows_fields [] some = absurd (cc)
shows_fields (field ∷ fields) some = shows_row field fields

-- no row
pub shows_none : Shows [] []
shows_none tail = refl

-- rows behind rows
pub shows_both : (front behind : List ℕ) (rows more : List (List (List ℕ))) → Shows front rows → Shows behind more → Shows (front ++ behind) (rows ++ more)
shows_both front behind rows more first next tail =
    ap (rows_from at_start) (append_assoc front behind tail)
    ∙ first (behind ++ tail)
    ∙ ap (λ others. rows ++ others) (next tail)
    ∙ sym (append_assoc rows more (rows_from at_start tail))

-- the rows of each
pub shows_each : {X : Type 0} (text : X → List ℕ) (rows : X → List (List (List ℕ))) → ((x : X) → Shows (text x) (rows x)) → (xs : List X)
    → Shows (flat_map text xs) (flat_map rows xs)
shows_each text rows each [] = shows_none
shows_each text rows each (x ∷ xs) = shows_both (text x) (flat_map text xs) (rows x) (flat_map rows xs) (each x) (shows_each text rows each xs)

-- the row of each
pub shows_rows : {X : Type 0} (fields : X → List (List ℕ)) → ((x : X) → Shows (written (fields x)) (fields x ∷ [])) → (xs : List X)
    → Shows (flat_map (λ x. written (fields x)) xs) (flat_map (λ x. fields x ∷ []) xs)
shows_rows fields each xs = shows_each (λ x. written (fields x)) (λ x. fields x ∷ []) each xs

-- ---- a table

shows_header : (table : Table) → Shows (written (header table)) (header table ∷ [])
shows_header Offerings = shows_fields (header Offerings) refl
shows_header Students = shows_fields (header Students) refl
shows_header Requests = shows_fields (header Requests) refl
shows_header Reservations = shows_fields (header Reservations) refl

-- a header begins with no byte order mark
no_mark : (table : Table) (tail : List ℕ) → strip_bom (written (header table) ++ tail) ≡ written (header table) ++ tail
unfolding strip_bom
no_mark Offerings tail = refl
no_mark Students tail = refl
no_mark Requests tail = refl
no_mark Reservations tail = refl

from_start : (text : List ℕ) → all_rows text ≡ rows_from at_start (strip_bom text)
unfolding all_rows rows_from
from_start text = refl

all_shown : (text : List ℕ) (rows : List (List (List ℕ))) → Shows text rows → rows_from at_start text ≡ rows
all_shown text rows shows =
    ap (rows_from at_start) (sym (append-nil text)) ∙ shows [] ∙ ap (λ others. rows ++ others) (from-nil at_start) ∙ append-nil rows

-- the rows of a table are its header and those of the view
pub table_rows : (table : Table) (view : View) (rows : List (List (List ℕ))) → Shows (view_text view) rows → all_rows (table_text table view) ≡ header table ∷ rows
table_rows table view rows shows =
    from_start (table_text table view)
    ∙ ap (rows_from at_start) (no_mark table (view_text view))
    ∙ all_shown (table_text table view) (header table ∷ rows) (shows_both (written (header table)) (view_text view) (header table ∷ []) rows (shows_header table) shows)
