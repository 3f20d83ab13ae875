-- Where the machine of csv stands behind a line feed, and what one more byte shows of it.
use Rattle.std.proofs.Common.{◌≡◌, ◌≢◌, ◌<◌, ℕ, List, [], ◌∷◌, ◌++◌, ◌==◌, ◌||◌, ◌⊎◌, inl, inr, Bool, true, false, if◌then◌else◌, refl, sym, ap, ◌∙◌, append_assoc, length, length-append, arith}
use Rattle.std.proofs.lemmas.Bool.{false≢true}
use Rattle.std.specs.Prelude.{⊤, Option, Some, None, unwrap_or, get_or, drop, map}
use Rattle.std.specs.Option.{option_to_list, is_some}
use Rattle.std.proofs.lemmas.List.{map-append}
use Rattle.csv.specs.Records.{Row, field_at, fields_of}
use Rattle.csv.specs.Machine.{step}
use Rattle.csv.specs.Reading.{default_config, strip_bom}
use Rattle.csv.specs.declared.parser.State.{State}
use Rattle.csv.specs.declared.parser.State.TheVariants as st
use Rattle.csv.specs.declared.parser.Action.TheVariants as act
use Rattle.sect_csv.specs.Lines.{IsWhole}
use Rattle.sect_csv.specs.Rows.{Place, at_start, moved, place_after, rows_within, rows_left, all_rows}
use Rattle.sect_csv.proofs.FoldLemmas.{after_byte, place-append, within-append, rows_from}
use Rattle.sect_csv.proofs.LineLemmas.{strip-at, strip-ends}

-- between two records nothing is at hand, and the machine of the defaults knows neither escapes nor comments
abbrev pub Good : State → List (List ℕ) → List ℕ → Type 0
Good st.StartRecord f p = (f ≡ []) × (p ≡ [])
Good st.AfterCr f p = (f ≡ []) × (p ≡ [])
Good st.StartField f p = ⊤
Good st.InField f p = ⊤
Good st.InQuoted f p = ⊤
Good st.AfterQuote f p = ⊤
Good st.InEscape f p = ⊥
Good st.InComment f p = ⊥

abbrev pub IsGood : Place → Type 0
IsGood p = Good p.state p.fields p.field

-- what a byte of a field does
good-field : (comma ends back : Bool) (s : State) (f : List (List ℕ)) (p : List ℕ) (c : ℕ)
    → IsGood (moved (if comma then (st.StartField, act.EndField) else if ends then (if back then st.AfterCr else st.StartRecord, act.EndRecord) else (st.InField, act.Copy)) (record { state = s; fields = f; field = p }) c)
good-field true ends back s f p c = tt
good-field false true true s f p c = (refl, refl)
good-field false true false s f p c = (refl, refl)
good-field false false back s f p c = tt

-- what a byte at the start of a record does
good-record : (ends quote comma back : Bool) (s : State) (f : List (List ℕ)) (p : List ℕ) (c : ℕ) → f ≡ [] → p ≡ []
    → IsGood (moved (if ends then (st.StartRecord, act.Skip) else if quote then (st.InQuoted, act.Skip)
    else if comma then (st.StartField, act.EndField) else if ends then (if back then st.AfterCr else st.StartRecord, act.EndRecord) else (st.InField, act.Copy)) (record { state = s; fields = f; field = p }) c)
good-record true quote comma back s f p c no_fields no_field = (no_fields, no_field)
good-record false true comma back s f p c no_fields no_field = tt
good-record false false comma back s f p c no_fields no_field = good-field comma false back s f p c

good-step : (s : State) (f : List (List ℕ)) (p : List ℕ) (c : ℕ) → Good s f p → IsGood (after_byte (record { state = s; fields = f; field = p }) c)
good-step st.StartRecord f p c good = good-record ((c == 13) || (c == 10)) (c == 34) (c == 44) (c == 13) st.StartRecord f p c good.0 good.1
good-step st.AfterCr f p c good = by (c == 10)
  where
    by : (t : Bool) → IsGood (moved (if t then (st.StartRecord, act.Skip) else step default_config st.StartRecord c) (record { state = st.AfterCr; fields = f; field = p }) c)
    by true = good
    by false = good-record ((c == 13) || (c == 10)) (c == 34) (c == 44) (c == 13) st.AfterCr f p c good.0 good.1
good-step st.StartField f p c good = by (c == 34)
  where
    by : (t : Bool) → IsGood (moved (if t then (st.InQuoted, act.Skip) else step default_config st.InField c) (record { state = st.StartField; fields = f; field = p }) c)
    by true = tt
    by false = good-field (c == 44) ((c == 13) || (c == 10)) (c == 13) st.StartField f p c
good-step st.InField f p c good = good-field (c == 44) ((c == 13) || (c == 10)) (c == 13) st.InField f p c
good-step st.InQuoted f p c good = by (c == 34)
  where
    by : (t : Bool) → IsGood (moved (if t then (st.AfterQuote, act.Skip) else (st.InQuoted, act.Copy)) (record { state = st.InQuoted; fields = f; field = p }) c)
    by true = tt
    by false = tt
good-step st.AfterQuote f p c good = by (c == 34)
  where
    by : (t : Bool) → IsGood (moved (if t then (st.InQuoted, act.Copy) else step default_config st.InField c) (record { state = st.AfterQuote; fields = f; field = p }) c)
    by true = tt
    by false = good-field (c == 44) ((c == 13) || (c == 10)) (c == 13) st.AfterQuote f p c
good-step st.InEscape f p c good = absurd good
good-step st.InComment f p c good = absurd good

good-after : (p : Place) (xs : List ℕ) → IsGood p → IsGood (place_after p xs)
unfolding place_after
good-after p [] good = good
good-after p (c ∷ xs) good = good-after (after_byte p c) xs (good-step p.state p.fields p.field c good)

-- behind a line feed the machine is at its start, or inside quotes
abbrev pub Quoted : Place → Type 0
Quoted p = (f : List (List ℕ)) × (g : List ℕ) × (p ≡ record { state = st.InQuoted; fields = f; field = g ++ (10 ∷ []) })

after-feed : (s : State) (f : List (List ℕ)) (p : List ℕ) → Good s f p
    → (after_byte (record { state = s; fields = f; field = p }) 10 ≡ at_start) ⊎ Quoted (after_byte (record { state = s; fields = f; field = p }) 10)
after-feed st.StartRecord f p good = inl (λ i. record { state = st.StartRecord; fields = good.0 i; field = good.1 i })
after-feed st.AfterCr f p good = inl (λ i. record { state = st.StartRecord; fields = good.0 i; field = good.1 i })
after-feed st.StartField f p good = inl refl
after-feed st.InField f p good = inl refl
after-feed st.InQuoted f p good = inr (f, p, refl)
after-feed st.AfterQuote f p good = inl refl
after-feed st.InEscape f p good = absurd good
after-feed st.InComment f p good = absurd good

behind-lines : (v : List ℕ)
    → IsWhole (v ++ (10 ∷ [])) ⊎ Quoted (place_after at_start (strip_bom (v ++ (10 ∷ []))))
unfolding place_after
behind-lines v =
    let s = strip-ends v in
    let q = place_after at_start s.0 in
    let is : place_after at_start (strip_bom (v ++ (10 ∷ []))) ≡ after_byte q 10 = ap (place_after at_start) s.1 ∙ place-append at_start s.0 (10 ∷ []) in
    rw is (after-feed q.state q.fields q.field (good-after at_start s.0 (refl, refl)))

-- the row of one byte, x
abbrev pub stop_row : List (List ℕ)
stop_row = (120 ∷ []) ∷ []

pub from-append : (p : Place) (xs ys : List ℕ) → rows_from p (xs ++ ys) ≡ rows_within p xs ++ rows_from (place_after p xs) ys
unfolding rows_from
from-append p xs ys =
    (λ i. within-append p xs ys i ++ rows_left (place-append p xs ys i))
    ∙ append_assoc (rows_within p xs) (rows_within (place_after p xs) ys) (rows_left (place_after (place_after p xs) ys))

-- the rows behind a place are one, and it is of the one byte alone only at the start
abbrev pub TellsWhole : Place → List (List (List ℕ)) → Type 0
TellsWhole p rows = (last : List (List ℕ)) × (rows ≡ last ∷ []) × (last ≡ stop_row → p ≡ at_start)

two-bytes : (f : List (List ℕ)) (g : List ℕ) → f ++ (((g ++ (10 ∷ [])) ++ (120 ∷ [])) ∷ []) ≢ stop_row
two-bytes [] g same =
    let n = ap (λ fields. length (head_or fields)) same in
    absurd (omega (arith, n, length-append (g ++ (10 ∷ [])) (120 ∷ []), length-append g (10 ∷ [])))
  where
    head_or : List (List ℕ) → List ℕ
    head_or [] = []
    head_or (x ∷ xs) = x
two-bytes (x ∷ f) g same =
    let n = ap length same in
    absurd (omega (arith, n, length-append f (((g ++ (10 ∷ [])) ++ (120 ∷ [])) ∷ [])))

tells-start : TellsWhole at_start (rows_from at_start (120 ∷ []))
unfolding rows_from rows_within place_after
tells-start = (stop_row, refl, λ same. refl)

tells-quoted : (p : Place) → Quoted p → TellsWhole p (rows_from p (120 ∷ []))
unfolding rows_from rows_within place_after
tells-quoted p q = rw q.2 (q.0 ++ (((q.1 ++ (10 ∷ [])) ++ (120 ∷ [])) ∷ []), refl, λ same. absurd (two-bytes q.0 q.1 same))

tells : (p : Place) → (p ≡ at_start) ⊎ Quoted p → TellsWhole p (rows_from p (120 ∷ []))
tells p (inl start) = rw start tells-start
tells p (inr q) = tells-quoted p q

-- every row of lines with one more byte
pub with-stop : (v : List ℕ) → (last : List (List ℕ))
    × (all_rows ((v ++ (10 ∷ [])) ++ (120 ∷ [])) ≡ rows_within at_start (strip_bom (v ++ (10 ∷ []))) ++ (last ∷ []))
    × (last ≡ stop_row → IsWhole (v ++ (10 ∷ [])))
unfolding all_rows rows_from
with-stop v =
    let s = strip_bom (v ++ (10 ∷ [])) in
    let t = tells (place_after at_start s) (behind-lines v) in
    let text = ap strip_bom (append_assoc v (10 ∷ []) (120 ∷ [])) ∙ strip-at v (120 ∷ []) in (
      t.0,
      ap (rows_from at_start) text ∙ from-append at_start s (120 ∷ []) ∙ ap (λ rows. rows_within at_start s ++ rows) t.1,
      t.2,
    )

-- one field that is the one byte
pub only-field : (fields : List (List ℕ)) → length fields ≡ 1 → field_at fields 0 ≡ Some (120 ∷ []) → fields ≡ stop_row
unfolding field_at
only-field [] one first = cc
only-field (x ∷ []) one first = ap (λ o. unwrap_or o [] ∷ []) first
only-field (x ∷ y ∷ rest) one first = absurd (omega (arith, one))

-- lists that end in one element each are equal part by part
same-front : {A : Type 0} (xs ys : List A) (a b : A) → xs ++ (a ∷ []) ≡ ys ++ (b ∷ []) → (xs ≡ ys) × (a ≡ b)
same-front [] [] a b same = (refl, ap (λ l. get_or l 0 a) same)
same-front [] (y ∷ ys) a b same =
    absurd (omega (arith, ap length same, length-append ys (b ∷ [])))
same-front (x ∷ xs) [] a b same =
    absurd (omega (arith, ap length same, length-append xs (a ∷ [])))
same-front (x ∷ xs) (y ∷ ys) a b same =
    let rest = same-front xs ys a b (ap (drop 1) same) in
    ((λ i. get_or (same i) 0 x ∷ rest.0 i), rest.1)

-- what is left of some rows without the last
pub popped-rows : (all left : List Row) (o : Option Row) (rows : List (List (List ℕ))) (last : List (List ℕ))
    → all ≡ left ++ option_to_list o → (is_some o ≡ false → all ≡ []) → map fields_of all ≡ rows ++ (last ∷ [])
    → map fields_of left ≡ rows
popped-rows all left None rows last is none same =
    let empty = sym (ap (map fields_of) (none refl)) ∙ same in
    absurd (omega (arith, ap length empty, length-append rows (last ∷ [])))
popped-rows all left (Some row) rows last is none same =
    (same-front (map fields_of left) rows (fields_of row) last (sym (map-append fields_of left (row ∷ [])) ∙ sym (ap (map fields_of) is) ∙ same)).0

pub popped-last : (all left : List Row) (row : Row) (rows : List (List (List ℕ))) (last : List (List ℕ))
    → all ≡ left ++ (row ∷ []) → map fields_of all ≡ rows ++ (last ∷ [])
    → fields_of row ≡ last
popped-last all left row rows last is same =
    (same-front (map fields_of left) rows (fields_of row) last (sym (map-append fields_of left (row ∷ [])) ∙ sym (ap (map fields_of) is) ∙ same)).1

-- a vector that gave nothing had nothing
pub nothing-left : {A : Type 0} (all : List A) (n : ℕ) (some : Bool) → n ≡ length all → (0 < n → some ≡ true) → some ≡ false → all ≡ []
nothing-left [] n some long gives none = refl
nothing-left (x ∷ all) n some long gives none = absurd (false≢true (sym none ∙ gives (omega (arith, long))))
