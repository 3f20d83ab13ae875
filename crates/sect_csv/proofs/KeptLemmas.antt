-- What the kept bytes show when a piece comes, and what may go by.
use Rattle.std.proofs.Common.{◌≡◌, ◌<◌, ◌≤◌, ◌+◌, ◌-◌, ℕ, List, [], ◌∷◌, ◌++◌, refl, sym, ap, ◌∙◌, append_assoc, append-nil, length, length-append, take, drop, arith, inl, inr, ◌⊎◌, false}
use Rattle.std.specs.Prelude.{Result, Ok, Err, IfOk}
use Rattle.std.proofs.Math.Seq.{take-append-add, drop-append_seam}
use Rattle.std.proofs.lemmas.List.{length-take-le}
use Rattle.csv.specs.Reading.{strip_bom}
use Rattle.sect_csv.specs.Kept.{StandsFor}
use Rattle.sect_csv.specs.Lines.{AreLines, IsWhole}
use Rattle.sect_csv.specs.Rows.{at_start, place_after, rows_within, rows_left, has_feed, through_last_feed, shown_rows, all_rows}
use Rattle.sect_csv.proofs.FoldLemmas.{rows_from, within-append}
use Rattle.sect_csv.proofs.LineLemmas.{Last, last-of, through-none, through-at, through-last, strip-at, feed-none}
use Rattle.sect_csv.proofs.RowLemmas.{from-append}

-- a list that ends in an element is not empty
not-empty : (v rest : List ℕ) (c : ℕ) → v ++ (c ∷ rest) ≡ [] → ⊥
not-empty v rest c same = omega (arith, ap length same, length-append v (c ∷ rest))

-- bytes with no line feed behind others
through-behind : (k p : List ℕ) → has_feed p ≡ false → through_last_feed (k ++ p) ≡ through_last_feed k
through-behind k p none = by (last-of k)
  where
    by : (has_feed k ≡ false) ⊎ Last k → through_last_feed (k ++ p) ≡ through_last_feed k
    by (inl before) = through-none (k ++ p) (feed-none k p before none) ∙ sym (through-none k before)
    by (inr l) =
        ap (λ xs. through_last_feed (xs ++ p)) l.is
        ∙ ap through_last_feed (append_assoc l.before (10 ∷ l.behind) p)
        ∙ through-at l.before (l.behind ++ p)
        ∙ ap (λ rest. l.before ++ (10 ∷ rest)) (through-none (l.behind ++ p) (feed-none l.behind p l.none none))
        ∙ sym (through-last k l)

no-lines : (p : List ℕ) → through_last_feed p ≡ [] → has_feed p ≡ false
no-lines p empty = by (last-of p)
  where
    by : (has_feed p ≡ false) ⊎ Last p → has_feed p ≡ false
    by (inl none) = none
    by (inr l) = absurd (not-empty l.before [] 10 (sym (through-last p l) ∙ empty))

-- a piece with no line feed shows nothing more
pub shown-same : (k p : List ℕ) → through_last_feed p ≡ [] → shown_rows (k ++ p) ≡ shown_rows k
unfolding shown_rows
shown-same k p empty = ap (λ xs. rows_within at_start (strip_bom xs)) (through-behind k p (no-lines p empty))

-- the last line feed of a piece with one
piece-last : (p : List ℕ) (n : ℕ) → through_last_feed p ≡ take n p → n ≤ length p → 0 < n → Last p
piece-last p n lines within some = by (last-of p)
  where
    by : (has_feed p ≡ false) ⊎ Last p → Last p
    by (inl none) =
        let empty = sym lines ∙ through-none p none in
        absurd (omega (arith, some, within, ap length empty, length-take-le n p within))
    by (inr l) = l

-- what is kept and the lines of a piece
joined-lines : (k p : List ℕ) (n : ℕ) (l : Last p) → through_last_feed p ≡ take n p
    → take (length k + n) (k ++ p) ≡ (k ++ l.before) ++ (10 ∷ [])
joined-lines k p n l lines =
    take-append-add k p n ∙ ap (λ xs. k ++ xs) (sym lines ∙ through-last p l) ∙ sym (append_assoc k l.before (10 ∷ []))

pub are-lines : (k p : List ℕ) (n : ℕ) → through_last_feed p ≡ take n p → n ≤ length p → 0 < n → AreLines (take (length k + n) (k ++ p))
are-lines k p n lines within some =
    let l = piece-last p n lines within some in
    (k ++ l.before, joined-lines k p n l lines)

pub through-joined : (k p : List ℕ) (n : ℕ) → through_last_feed p ≡ take n p → n ≤ length p → 0 < n
    → through_last_feed (k ++ p) ≡ take (length k + n) (k ++ p)
through-joined k p n lines within some =
    let l = piece-last p n lines within some in
    ap (λ xs. through_last_feed (k ++ xs)) l.is
    ∙ ap through_last_feed (sym (append_assoc k l.before (10 ∷ l.behind)))
    ∙ through-at (k ++ l.before) l.behind
    ∙ ap (λ rest. (k ++ l.before) ++ (10 ∷ rest)) (through-none l.behind l.none)
    ∙ sym (joined-lines k p n l lines)

-- the rows that lines end are those that are shown
pub shown-lines : (k p : List ℕ) (n : ℕ) → through_last_feed p ≡ take n p → n ≤ length p → 0 < n
    → rows_within at_start (strip_bom (take (length k + n) (k ++ p))) ≡ shown_rows (k ++ p)
unfolding shown_rows
shown-lines k p n lines within some = ap (λ xs. rows_within at_start (strip_bom xs)) (sym (through-joined k p n lines within some))

-- the rows of a text are those that its lines end, and then others
rows-behind : (v m : List ℕ) → (more : List (List (List ℕ)))
    × (rows_within at_start (strip_bom (v ++ (10 ∷ m))) ≡ rows_within at_start (strip_bom (v ++ (10 ∷ []))) ++ more)
rows-behind v m =
    let s = strip_bom (v ++ (10 ∷ [])) in (
      rows_within (place_after at_start s) m,
      ap (rows_within at_start) (strip-at v m) ∙ within-append at_start s m,
    )

shown-last : (k : List ℕ) (l : Last k) → shown_rows k ≡ rows_within at_start (strip_bom (l.before ++ (10 ∷ [])))
unfolding shown_rows
shown-last k l = ap (λ xs. rows_within at_start (strip_bom xs)) (through-last k l)

shown-none : (k : List ℕ) → has_feed k ≡ false → shown_rows k ≡ []
unfolding shown_rows rows_within strip_bom
shown-none k none = ap (λ xs. rows_within at_start (strip_bom xs)) (through-none k none)

shown-at : (v m : List ℕ) → (more : List (List (List ℕ)))
    × (shown_rows (v ++ (10 ∷ m)) ≡ rows_within at_start (strip_bom (v ++ (10 ∷ []))) ++ more)
unfolding shown_rows
shown-at v m =
    let r = rows-behind v (through_last_feed m) in
    (r.0, ap (λ xs. rows_within at_start (strip_bom xs)) (through-at v m) ∙ r.1)

all-at : (v m : List ℕ) → (more : List (List (List ℕ)))
    × (all_rows (v ++ (10 ∷ m)) ≡ rows_within at_start (strip_bom (v ++ (10 ∷ []))) ++ more)
unfolding all_rows
all-at v m =
    let r = rows-behind v m in
    let left = rows_left (place_after at_start (strip_bom (v ++ (10 ∷ m)))) in
    (r.0 ++ left, ap (λ rows. rows ++ left) r.1 ∙ append_assoc _ r.0 left)

-- the rest of a list of rows behind its first ones
rest-of : (all first more : List (List (List ℕ))) → all ≡ first ++ more → all ≡ first ++ drop (length first) all
rest-of all first more is = is ∙ ap (λ rows. first ++ rows) (sym (ap (drop (length first)) is ∙ drop-append_seam first more))

-- what was shown stays, and more may follow
pub shown-more : (k p : List ℕ) → shown_rows (k ++ p) ≡ shown_rows k ++ drop (length (shown_rows k)) (shown_rows (k ++ p))
shown-more k p = by (last-of k)
  where
    by : (has_feed k ≡ false) ⊎ Last k → shown_rows (k ++ p) ≡ shown_rows k ++ drop (length (shown_rows k)) (shown_rows (k ++ p))
    by (inl none) = rest-of (shown_rows (k ++ p)) (shown_rows k) (shown_rows (k ++ p)) (ap (λ rows. rows ++ shown_rows (k ++ p)) (sym (shown-none k none)))
    by (inr l) =
        let m = shown-at l.before (l.behind ++ p) in
        rest-of (shown_rows (k ++ p)) (shown_rows k) m.0
        (ap (λ xs. shown_rows (xs ++ p)) l.is ∙ ap shown_rows (append_assoc l.before (10 ∷ l.behind) p) ∙ m.1 ∙ ap (λ rows. rows ++ m.0) (sym (shown-last k l)))

-- every row of a text is one that was shown, or comes behind those
pub all-more : (k : List ℕ) → all_rows k ≡ shown_rows k ++ drop (length (shown_rows k)) (all_rows k)
all-more k = by (last-of k)
  where
    by : (has_feed k ≡ false) ⊎ Last k → all_rows k ≡ shown_rows k ++ drop (length (shown_rows k)) (all_rows k)
    by (inl none) = rest-of (all_rows k) (shown_rows k) (all_rows k) (ap (λ rows. rows ++ all_rows k) (sym (shown-none k none)))
    by (inr l) =
        let m = all-at l.before l.behind in
        rest-of (all_rows k) (shown_rows k) m.0 (ap all_rows l.is ∙ m.1 ∙ ap (λ rows. rows ++ m.0) (sym (shown-last k l)))

pub shown-fewer : (k p : List ℕ) → length (shown_rows k) ≤ length (shown_rows (k ++ p))
shown-fewer k p =
    omega (arith, ap length (shown-more k p), length-append (shown_rows k) (drop (length (shown_rows k)) (shown_rows (k ++ p))))

pub all-fewer : (k : List ℕ) → length (shown_rows k) ≤ length (all_rows k)
all-fewer k =
    omega (arith, ap length (all-more k), length-append (shown_rows k) (drop (length (shown_rows k)) (all_rows k)))

-- a line feed at the start of a text shows nothing
shown-feed : (m : List ℕ) → shown_rows (10 ∷ m) ≡ rows_within at_start (through_last_feed m)
unfolding shown_rows rows_within strip_bom
shown-feed m = ap (λ xs. rows_within at_start (strip_bom xs)) (through-at [] m) ∙ ap (rows_within at_start) (strip-at [] (through_last_feed m))

shown-parts : (v m : List ℕ) → shown_rows (v ++ (10 ∷ m)) ≡ rows_within at_start (strip_bom (v ++ (10 ∷ through_last_feed m)))
unfolding shown_rows
shown-parts v m = ap (λ xs. rows_within at_start (strip_bom xs)) (through-at v m)

-- lines behind which nothing is at hand may go by, but for the line feed
shown-whole : (v m : List ℕ) → IsWhole (v ++ (10 ∷ []))
    → shown_rows (v ++ (10 ∷ m)) ≡ rows_within at_start (strip_bom (v ++ (10 ∷ []))) ++ shown_rows (10 ∷ m)
shown-whole v m whole =
    let s = strip_bom (v ++ (10 ∷ [])) in
    let t = through_last_feed m in
    shown-parts v m ∙ ap (rows_within at_start) (strip-at v t) ∙ within-append at_start s t
    ∙ ap (λ place. rows_within at_start s ++ rows_within place t) whole ∙ ap (λ rows. rows_within at_start s ++ rows) (sym (shown-feed m))

all-whole : (v m : List ℕ) → IsWhole (v ++ (10 ∷ []))
    → all_rows (v ++ (10 ∷ m)) ≡ rows_within at_start (strip_bom (v ++ (10 ∷ []))) ++ all_rows (10 ∷ m)
unfolding all_rows rows_from rows_within place_after strip_bom
all-whole v m whole =
    let s = strip_bom (v ++ (10 ∷ [])) in
    ap (rows_from at_start) (strip-at v m) ∙ from-append at_start s m
    ∙ ap (λ place. rows_within at_start s ++ rows_from place m) whole
    ∙ ap (λ rows. rows_within at_start s ++ rows) (sym (ap (rows_from at_start) (strip-at [] m)))

-- nothing went by
pub same-stands : (xs : List ℕ) → StandsFor xs xs
same-stands xs = ([], λ more. (refl, refl))

-- what is left of a text with its last line feed at `end`, from that line feed on
dropped : (xs : List ℕ) (end : ℕ) (l : Last xs) → end ≤ length xs → through_last_feed xs ≡ take end xs
    → drop (end - 1) xs ≡ 10 ∷ l.behind
dropped xs end l within lines =
    let is = sym lines ∙ through-last xs l in
    let n : length l.before + 1 ≡ end = omega (arith, ap length is, length-append l.before (10 ∷ []), length-take-le end xs within) in
    let back : end - 1 ≡ length l.before = omega (arith, n) in
    (λ i. drop (back i) (l.is i)) ∙ drop-append_seam l.before (10 ∷ l.behind)

text-last : (xs : List ℕ) (end : ℕ) → AreLines (take end xs) → through_last_feed xs ≡ take end xs → Last xs
text-last xs end are lines = by (last-of xs)
  where
    by : (has_feed xs ≡ false) ⊎ Last xs → Last xs
    by (inl none) = absurd (not-empty are.0 [] 10 (sym are.1 ∙ sym lines ∙ through-none xs none))
    by (inr l) = l

pub whole-stands : (xs : List ℕ) (end : ℕ) → end ≤ length xs → AreLines (take end xs) → through_last_feed xs ≡ take end xs
    → IsWhole (take end xs) → StandsFor xs (drop (end - 1) xs)
whole-stands xs end within are lines whole =
    let l = text-last xs end are lines in
    let whole-too : IsWhole (l.before ++ (10 ∷ [])) = rw (sym lines ∙ through-last xs l) at whole in (
      rows_within at_start (strip_bom (l.before ++ (10 ∷ []))),
      λ more.
          let text = ap (λ ys. ys ++ more) l.is ∙ append_assoc l.before (10 ∷ l.behind) more in
          let kept = ap (λ ys. ys ++ more) (dropped xs end l within lines) in
          let gone = rows_within at_start (strip_bom (l.before ++ (10 ∷ []))) in (
            ap shown_rows text ∙ shown-whole l.before (l.behind ++ more) whole-too ∙ ap (λ ys. gone ++ shown_rows ys) (sym kept),
            ap all_rows text ∙ all-whole l.before (l.behind ++ more) whole-too ∙ ap (λ ys. gone ++ all_rows ys) (sym kept),
          ),
    )

pub whole-shows : (xs : List ℕ) (end : ℕ) → end ≤ length xs → AreLines (take end xs) → through_last_feed xs ≡ take end xs
    → shown_rows (drop (end - 1) xs) ≡ []
unfolding shown_rows rows_within strip_bom
whole-shows xs end within are lines =
    let l = text-last xs end are lines in
    ap (λ ys. rows_within at_start (strip_bom (through_last_feed ys))) (dropped xs end l within lines)
    ∙ ap (λ ys. rows_within at_start (strip_bom ys)) (through-at [] l.behind ∙ ap (λ ys. 10 ∷ ys) (through-none l.behind l.none))

-- what stands for the kept bytes with a piece stands for the text with it
pub stands-with : (text kept p left : List ℕ) → StandsFor text kept → StandsFor (kept ++ p) left → StandsFor (text ++ p) left
stands-with text kept p left first second = (
  first.0 ++ second.0,
  λ more. (
    ap shown_rows (append_assoc text p more) ∙ (first.1 (p ++ more)).0
        ∙ ap (λ rows. first.0 ++ rows) (ap shown_rows (sym (append_assoc kept p more)) ∙ (second.1 more).0)
        ∙ sym (append_assoc first.0 second.0 (shown_rows (left ++ more))),
    ap all_rows (append_assoc text p more) ∙ (first.1 (p ++ more)).1
        ∙ ap (λ rows. first.0 ++ rows) (ap all_rows (sym (append_assoc kept p more)) ∙ (second.1 more).1)
        ∙ sym (append_assoc first.0 second.0 (all_rows (left ++ more))),
  ),
)

-- what the text has shown
text-shown : (text kept : List ℕ) (s : StandsFor text kept) → shown_rows text ≡ s.0 ++ shown_rows kept
text-shown text kept s =
    ap shown_rows (sym (append-nil text)) ∙ (s.1 []).0 ∙ ap (λ xs. s.0 ++ shown_rows xs) (append-nil kept)

-- the rows that a piece shows, of the text as of the kept bytes
pub text-rows : (text kept p : List ℕ) (rows : List (List (List ℕ))) → StandsFor text kept → shown_rows (kept ++ p) ≡ shown_rows kept ++ rows
    → shown_rows (text ++ p) ≡ shown_rows text ++ rows
text-rows text kept p rows s is =
    (s.1 p).0 ∙ ap (λ xs. s.0 ++ xs) is ∙ sym (append_assoc s.0 (shown_rows kept) rows) ∙ ap (λ xs. xs ++ rows) (sym (text-shown text kept s))

pub text-end : (text kept : List ℕ) (rows : List (List (List ℕ))) → StandsFor text kept → all_rows kept ≡ shown_rows kept ++ rows
    → all_rows text ≡ shown_rows text ++ rows
text-end text kept rows s is =
    ap all_rows (sym (append-nil text)) ∙ (s.1 []).1 ∙ ap (λ xs. s.0 ++ all_rows xs) (append-nil kept)
    ∙ ap (λ xs. s.0 ++ xs) is ∙ sym (append_assoc s.0 (shown_rows kept) rows) ∙ ap (λ xs. xs ++ rows) (sym (text-shown text kept s))

pub text-end-if : {V E : Type 0} (text kept : List ℕ) (rows : V → List (List (List ℕ))) (r : Result V E) → StandsFor text kept
    → IfOk r (λ v. all_rows kept ≡ shown_rows kept ++ rows v) → IfOk r (λ v. all_rows text ≡ shown_rows text ++ rows v)
text-end-if text kept rows (Ok v) s is = text-end text kept (rows v) s is
text-end-if text kept rows (Err e) s is = tt
