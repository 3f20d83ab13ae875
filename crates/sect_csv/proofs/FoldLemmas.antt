-- Rows of a text in two parts, and the rows that csv's reader gives.
use Rattle.std.proofs.Common.{◌≡◌, ℕ, List, [], ◌∷◌, ◌++◌, refl, sym, ap, ◌∙◌, Option, Some, None, if◌then◌else◌, append_assoc}
use Rattle.csv.specs.Machine.{Read, next_record, step, is_end, fields_after, field_after}
use Rattle.csv.specs.Reading.{AreRecords, Reached, default_config, strip_bom}
use Rattle.csv.specs.declared.parser.State.{State}
use Rattle.csv.specs.declared.parser.State.TheVariants as st
use Rattle.csv.specs.declared.parser.Action.{Action}
use Rattle.csv.specs.declared.parser.Action.TheVariants as act
use Rattle.sect_csv.specs.Rows.{Place, at_start, moved, place_after, rows_ended, rows_left, rows_within, all_rows}

-- where the machine stands after a byte
abbrev pub after_byte : Place → ℕ → Place
after_byte p c = moved (step default_config p.state c) p c

pub place-append : (p : Place) (xs ys : List ℕ) → place_after p (xs ++ ys) ≡ place_after (place_after p xs) ys
unfolding place_after
place-append p [] ys = refl
place-append p (c ∷ xs) ys = place-append (after_byte p c) xs ys

pub within-append : (p : Place) (xs ys : List ℕ) → rows_within p (xs ++ ys) ≡ rows_within p xs ++ rows_within (place_after p xs) ys
unfolding place_after rows_within
within-append p [] ys = refl
within-append p (c ∷ xs) ys =
    let ended = rows_ended (step default_config p.state c).1 p.fields p.field in
    ap (λ rows. ended ++ rows) (within-append (after_byte p c) xs ys) ∙ sym (append_assoc ended _ _)

-- every row of a text from a place on
unfoldable pub rows_from : Place → List ℕ → List (List (List ℕ))
rows_from p xs = rows_within p xs ++ rows_left (place_after p xs)

pub from-nil : (p : Place) → rows_from p [] ≡ rows_left p
unfolding rows_from rows_within place_after
from-nil p = refl

pub from-byte : (p : Place) (c : ℕ) (xs : List ℕ)
    → rows_from p (c ∷ xs) ≡ rows_ended (step default_config p.state c).1 p.fields p.field ++ rows_from (after_byte p c) xs
unfolding rows_from rows_within place_after
from-byte p c xs = append_assoc (rows_ended (step default_config p.state c).1 p.fields p.field) _ _

-- a place with nothing at hand
abbrev pub fresh : State → Place
fresh s = record { state = s; fields = []; field = [] }

-- the rows of a text, by its next record
abbrev pub ByNext : Option Read → List (List (List ℕ)) → Type 0
ByNext None rows = rows ≡ []
ByNext (Some r) rows = rows ≡ r.0 ∷ rows_from (fresh r.1) r.2

-- what one byte does, by what its table says of it
by-told : (told : State × Action) (s : State) (f : List (List ℕ)) (p : List ℕ) (c : ℕ) (xs : List ℕ)
    → ByNext (next_record default_config told.0 (fields_after told.1 f p) (field_after told.1 c p) xs) (rows_from (record { state = told.0; fields = fields_after told.1 f p; field = field_after told.1 c p }) xs)
    → ByNext (if is_end told.1 then Some (fields_after told.1 f p, told.0, xs) else next_record default_config told.0 (fields_after told.1 f p) (field_after told.1 c p) xs)
    (rows_ended told.1 f p ++ rows_from (moved told (record { state = s; fields = f; field = p }) c) xs)
by-told (s2, act.EndRecord) s f p c xs more = refl
by-told (s2, act.EndField) s f p c xs more = more
by-told (s2, act.Copy) s f p c xs more = more
by-told (s2, act.Skip) s f p c xs more = more

by-end : (s : State) (f : List (List ℕ)) (p : List ℕ) → ByNext (next_record default_config s f p []) (rows_left (record { state = s; fields = f; field = p }))
unfolding next_record rows_from rows_within place_after
by-end st.StartRecord f p = refl
by-end st.AfterCr f p = refl
by-end st.StartField f p = refl
by-end st.InField f p = refl
by-end st.InQuoted f p = refl
by-end st.AfterQuote f p = refl
by-end st.InEscape f p = refl
by-end st.InComment f p = refl

pub by-next : (s : State) (f : List (List ℕ)) (p xs : List ℕ)
    → ByNext (next_record default_config s f p xs) (rows_from (record { state = s; fields = f; field = p }) xs)
unfolding next_record
by-next s f p [] = rw (from-nil (record { state = s; fields = f; field = p })) (by-end s f p)
by-next s f p (c ∷ xs) =
    let told = step default_config s c in
    rw (from-byte (record { state = s; fields = f; field = p }) c xs)
    (by-told told s f p c xs (by-next told.0 (fields_after told.1 f p) (field_after told.1 c p) xs))

by-some : (o : Option Read) (r : Read) (rows : List (List (List ℕ))) → o ≡ Some r → ByNext o rows → rows ≡ r.0 ∷ rows_from (fresh r.1) r.2
by-some o r rows is h = rw is at h

by-none : (o : Option Read) (rows : List (List (List ℕ))) → o ≡ None → ByNext o rows → rows ≡ []
by-none o rows is h = rw is at h

reached-all : (s s2 : State) (xs ys : List ℕ) (rows : List (List (List ℕ)))
    → Reached default_config s xs rows s2 ys → next_record default_config s2 [] [] ys ≡ None → rows_from (fresh s) xs ≡ rows
unfolding Reached
reached-all s s2 xs ys [] h last = rw (h.0, h.1) (by-none _ _ last (by-next s2 [] [] ys))
reached-all s s2 xs ys (row ∷ rows) h last =
    by-some _ h.0 _ h.1 (by-next s [] [] xs)
    ∙ (λ i. sym h.2 i ∷ reached-all h.0.1 s2 h.0.2 ys rows h.3 last i)

-- the rows that csv's reader gives are those of the text
pub are-all : (xs : List ℕ) (rows : List (List (List ℕ))) → AreRecords default_config st.StartRecord xs rows
    → rows_from at_start xs ≡ rows
are-all xs rows h = reached-all st.StartRecord h.0 xs h.1 rows h.2 h.3

pub are-all-rows : (text : List ℕ) (rows : List (List (List ℕ))) → AreRecords default_config st.StartRecord (strip_bom text) rows
    → rows ≡ all_rows text
unfolding all_rows rows_from
are-all-rows text rows h = sym (are-all (strip_bom text) rows h)
