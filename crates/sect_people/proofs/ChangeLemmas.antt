-- Each change of the students keeps the index right.
use Rattle.std.specs.Prelude.{◌≡◌, ℕ, zero, suc, Bool, true, false, ◌==◌, cond, List, [], ◌∷◌, ◌++◌, map, insert, remove, take, Some, None, refl, slice_get, slice_set}
use Rattle.std.specs.Option.{option_and_then, is_some}
use Rattle.std.specs.List.{list_any}
use Rattle.std.proofs.Common.{◌<◌, ◌≤◌, length, get_or, sym, ◌∙◌, ap, subst, arith}
use Rattle.std.proofs.lemmas.Option.{slice_get_read}
use Rattle.std.proofs.lemmas.Bool.{eqb-true}
use Rattle.sect_base.specs.declared.ids.StudentId.{StudentId}
use Rattle.sect_people.specs.declared.row.StudentRow.{StudentRow}
use Rattle.sect_people.specs.declared.row.Ask.{Ask}
use Rattle.sect_people.specs.Student.{Student, find_student}
use Rattle.sect_people.specs.Changes.{with_row, with_asks, put_row, put_asks}
use Rattle.sect_people.specs.Order.{insert_by, sorted_by, all_differ}
use Rattle.sect_people.specs.Index.{rank, place_of, index_of, Keeps}
use Rattle.sect_people.proofs.PlaceLemmas.{place-find, place-within, place-known, place-none, set-change, differ-append, differ-front}
use Rattle.sect_people.proofs.OrderLemmas.{map-insert_by, rank-map, rank-insert_by}
use Rattle.sect_people.proofs.RankLemmas.{rank_le-length}
use Rattle.sect_people.proofs.IndexLemmas.{entries-change, index-append}

abbrev pub id_of : Student → ℕ
id_of s = s.row.id.0

abbrev pub set_row : StudentRow → Student → Student
set_row row s = record s { row = row }

abbrev pub set_asks : List Ask → Student → Student
set_asks asks s = record s { asks = asks }

pub keeps-as : {ss ts : List Student} {ids jds : List StudentId} {places qs : List ℕ} → ss ≡ ts → ids ≡ jds → places ≡ qs → Keeps ts jds qs → Keeps ss ids places
keeps-as {ts = ts} {ids = ids} {jds = jds} {places = places} e f g k =
    subst (λ ss. Keeps ss ids places) (sym e) (subst (λ ids. Keeps ts ids places) (sym f) (subst (λ qs. Keeps ts jds qs) (sym g) k))

-- a change that keeps ids keeps the index
ids-same : (f : Student → Student) → ((s : Student) → (f s).row.id ≡ s.row.id) → (ss : List Student) → map id_of (map f ss) ≡ map id_of ss
ids-same f same [] = refl
ids-same f same (s ∷ ss) = λ i. (same s i).0 ∷ ids-same f same ss i

keeps-change : (f : Student → Student) → ((s : Student) → (f s).row.id ≡ s.row.id) → (ss : List Student) (ids : List StudentId) (places : List ℕ) → Keeps ss ids places → Keeps (map f ss) ids places
keeps-change f same ss ids places k = record {
  differ = ap all_differ (ids-same f same ss) ∙ k.differ;
  ids_right = k.ids_right ∙ ap (λ es. map (λ e. e.0) (sorted_by (λ e. e.0.0) es)) (sym (entries-change f same 0 ss));
  places_right = k.places_right ∙ ap (λ es. map (λ e. e.1) (sorted_by (λ e. e.0.0) es)) (sym (entries-change f same 0 ss));
}

row-same : (row : StudentRow) (s : Student) → (with_row row s).row.id ≡ s.row.id
row-same row s = by_test (s.row.id.0 == row.id.0) refl
  where
    by_test : (b : Bool) → s.row.id.0 == row.id.0 ≡ b → (cond b (set_row row s) s).row.id ≡ s.row.id
    by_test true t = let e : s.row.id.0 ≡ row.id.0 = eqb-true s.row.id.0 row.id.0 t in λ i. record { 0 = sym e i }
    by_test false t = refl

asks-same : (student : StudentId) (asks : List Ask) (s : Student) → (with_asks student asks s).row.id ≡ s.row.id
asks-same student asks s = by_test (s.row.id.0 == student.0)
  where
    by_test : (b : Bool) → (cond b (set_asks asks s) s).row.id ≡ s.row.id
    by_test true = refl
    by_test false = refl

-- a student without a place is not found
pub find-none : (ss : List Student) (id : StudentId) → place_of id_of ss id.0 ≡ None → find_student ss id ≡ None
find-none ss id e = sym (place-find id_of ss id.0) ∙ ap (option_and_then (slice_get ss)) e

pub find-place : (ss : List Student) (id : StudentId) (place : ℕ) → place_of id_of ss id.0 ≡ Some place → is_some (find_student ss id) ≡ true
find-place ss id place e = sym (place-known id_of ss id.0) ∙ ap is_some e

pub put_row-new : (ss : List Student) (row : StudentRow) → place_of id_of ss row.id.0 ≡ None → put_row ss row ≡ ss ++ record { row = row; asks = [] } ∷ []
put_row-new ss row e = λ i. cond (ap is_some (find-none ss row.id e) i) (map (with_row row) ss) (ss ++ record { row = row; asks = [] } ∷ [])

pub put_row-known : (ss : List Student) (row : StudentRow) (place : ℕ) → place_of id_of ss row.id.0 ≡ Some place → put_row ss row ≡ map (with_row row) ss
put_row-known ss row place e = λ i. cond (find-place ss row.id place e i) (map (with_row row) ss) (ss ++ record { row = row; asks = [] } ∷ [])

-- the student at the place of an id
module _ (ss : List Student) (ids : List StudentId) (places : List ℕ) (k : Keeps ss ids places) (id : StudentId) (place : ℕ) (at : place_of id_of ss id.0 ≡ Some place) (s : Student) (is : s ≡ get_or ss place s) where
  read : slice_get ss place ≡ Some s
  read = slice_get_read ss (length ss) place s refl (place-within id_of ss id.0 place at) is

  pub found : find_student ss id ≡ Some s
  found = sym (place-find id_of ss id.0) ∙ ap (option_and_then (slice_get ss)) at ∙ read

  pub row-written : (row : StudentRow) → row.id ≡ id → slice_set ss place (set_row row s) ≡ map (with_row row) ss
  row-written row same =
      set-change id_of (set_row row) ss id.0 place s k.differ at read ∙ (λ i. map (λ s. cond (s.row.id.0 == (sym same i).0) (set_row row s) s) ss)

  pub asks-written : (asks : List Ask) → slice_set ss place (set_asks asks s) ≡ put_asks ss id asks
  asks-written asks = set-change id_of (set_asks asks) ss id.0 place s k.differ at read

pub row-keeps : (row : StudentRow) (ss : List Student) (ids : List StudentId) (places : List ℕ) → Keeps ss ids places → Keeps (map (with_row row) ss) ids places
row-keeps row = keeps-change (with_row row) (row-same row)

pub asks-keep : (student : StudentId) (asks : List Ask) (ss : List Student) (ids : List StudentId) (places : List ℕ) → Keeps ss ids places → Keeps (put_asks ss student asks) ids places
asks-keep student asks = keeps-change (with_asks student asks) (asks-same student asks)

map-end : {X Y : Type 0} (f : X → Y) (xs : List X) (x : X) → map f (xs ++ x ∷ []) ≡ map f xs ++ f x ∷ []
map-end f [] x = refl
map-end f (y ∷ ys) x = ap (λ zs. f y ∷ zs) (map-end f ys x)

-- a new student behind the others
pub added : (ss : List Student) (ids : List StudentId) (places : List ℕ) → Keeps ss ids places → (s : Student) (r n : ℕ) → place_of id_of ss s.row.id.0 ≡ None
    → r ≡ rank (λ d. d.0) s.row.id.0 ids → n ≡ length ss → Keeps (ss ++ s ∷ []) (insert ids r s.row.id) (insert places r n)
added ss ids places k s r n none at len = record {
  differ = ap all_differ (map-end id_of ss s) ∙ differ-append (map id_of ss) (id_of s) k.differ new;
  ids_right = (λ i. insert (k.ids_right i) (at_entry i) s.row.id) ∙ sym (map-insert_by (λ e. e.0) (λ e. e.0.0) (s.row.id, length ss) (index_of ss)) ∙ ap (map (λ e. e.0)) (sym (index-append ss s new));
  places_right = (λ i. insert (k.places_right i) (at_entry i) (len i)) ∙ sym (map-insert_by (λ e. e.1) (λ e. e.0.0) (s.row.id, length ss) (index_of ss)) ∙ ap (map (λ e. e.1)) (sym (index-append ss s new));
}
  where
    new : list_any (λ n. n == s.row.id.0) (map id_of ss) ≡ false
    new = place-none id_of ss s.row.id.0 none

    at_entry : r ≡ rank (λ e. e.0.0) s.row.id.0 (index_of ss)
    at_entry = at ∙ ap (rank (λ d. d.0) s.row.id.0) k.ids_right ∙ rank-map (λ e. e.0) (λ d. d.0) s.row.id.0 (index_of ss)

remove-insert : {X : Type 0} (xs : List X) (k : ℕ) (x : X) → k ≤ length xs → remove (insert xs k x) k ≡ xs
remove-insert [] zero x l = refl
remove-insert [] (suc k) x l = absurd (omega (arith, l))
remove-insert (y ∷ ys) zero x l = refl
remove-insert (y ∷ ys) (suc k) x l = ap (λ zs. y ∷ zs) (remove-insert ys k x (omega (arith, l)))

length-insert : {X : Type 0} (xs : List X) (k : ℕ) (x : X) → k ≤ length xs → length (insert xs k x) ≡ suc (length xs)
length-insert [] zero x l = refl
length-insert [] (suc k) x l = absurd (omega (arith, l))
length-insert (y ∷ ys) zero x l = refl
length-insert (y ∷ ys) (suc k) x l = ap (λ n. suc n) (length-insert ys k x (omega (arith, l)))

length-map : {X Y : Type 0} (f : X → Y) (xs : List X) → length (map f xs) ≡ length xs
length-map f [] = refl
length-map f (x ∷ xs) = ap (λ n. suc n) (length-map f xs)

-- the last student goes
module _ (front : List Student) (s : Student) (ids : List StudentId) (places : List ℕ) (k : Keeps (front ++ s ∷ []) ids places) (r : ℕ) (at : r ≡ rank (λ d. d.0) s.row.id.0 ids) where
  differ : (all_differ (map id_of front) ≡ true) × (list_any (λ n. n == s.row.id.0) (map id_of front) ≡ false)
  differ = differ-front (map id_of front) (id_of s) (ap all_differ (sym (map-end id_of front s)) ∙ k.differ)

  abbrev entry : StudentId × ℕ
  entry = (s.row.id, length front)

  grown : index_of (front ++ s ∷ []) ≡ insert_by (λ e. e.0.0) entry (index_of front)
  grown = index-append front s differ.1

  abbrev before : ℕ
  before = rank (λ e. e.0.0) s.row.id.0 (index_of front)

  is_before : r ≡ before
  is_before =
      at ∙ ap (rank (λ d. d.0) s.row.id.0) k.ids_right ∙ rank-map (λ e. e.0) (λ d. d.0) s.row.id.0 (index_of (front ++ s ∷ []))
      ∙ ap (rank (λ e. e.0.0) s.row.id.0) grown ∙ rank-insert_by (λ e. e.0.0) entry (index_of front)

  split : {Y : Type 0} (f : StudentId × ℕ → Y) (ys : List Y) → ys ≡ map f (index_of (front ++ s ∷ [])) → ys ≡ insert (map f (index_of front)) before (f entry)
  split f ys e = e ∙ ap (map f) grown ∙ map-insert_by f (λ e. e.0.0) entry (index_of front)

  within : {Y : Type 0} (f : StudentId × ℕ → Y) → before ≤ length (map f (index_of front))
  within f = let l = rank_le-length (λ e. e.0.0) s.row.id.0 (index_of front) in omega (arith, l, length-map f (index_of front))

  pub rank-within : {Y : Type 0} (f : StudentId × ℕ → Y) (ys : List Y) → ys ≡ map f (index_of (front ++ s ∷ [])) → r < length ys
  rank-within f ys e =
      let len = ap length (split f ys e) ∙ length-insert (map f (index_of front)) before (f entry) (within f) in
      let w = within f in omega (arith, len, w, is_before)

  rest : {Y : Type 0} (f : StudentId × ℕ → Y) (ys : List Y) → ys ≡ map f (index_of (front ++ s ∷ [])) → remove ys r ≡ map f (index_of front)
  rest f ys e = (λ i. remove (split f ys e i) (is_before i)) ∙ remove-insert (map f (index_of front)) before (f entry) (within f)

  pub removed : Keeps front (remove ids r) (remove places r)
  removed = record {
    differ = differ.0;
    ids_right = rest (λ e. e.0) ids k.ids_right;
    places_right = rest (λ e. e.1) places k.places_right;
  }

-- a list is its front and its last element
pub front-last : {X : Type 0} (xs : List X) (x : X) (k : ℕ) → suc k ≡ length xs → x ≡ get_or xs k x → xs ≡ take k xs ++ x ∷ []
front-last [] x k len is = absurd (omega (arith, len))
front-last (y ∷ []) x zero len is = λ i. sym is i ∷ []
front-last (y ∷ z ∷ zs) x zero len is = absurd (omega (arith, len))
front-last (y ∷ ys) x (suc k) len is = ap (λ zs. y ∷ zs) (front-last ys x k (omega (arith, len)) is)

pub remove-last : {X : Type 0} (xs : List X) (k : ℕ) → suc k ≡ length xs → remove xs k ≡ take k xs
remove-last [] k len = absurd (omega (arith, len))
remove-last (y ∷ []) zero len = refl
remove-last (y ∷ z ∷ zs) zero len = absurd (omega (arith, len))
remove-last (y ∷ ys) (suc k) len = ap (λ zs. y ∷ zs) (remove-last ys k (omega (arith, len)))

pub last-removed : (ss : List Student) (ids : List StudentId) (places : List ℕ) → Keeps ss ids places → (s : Student) (last r : ℕ) → suc last ≡ length ss → s ≡ get_or ss last s
    → r ≡ rank (λ d. d.0) s.row.id.0 ids → Keeps (remove ss last) (remove ids r) (remove places r)
last-removed ss ids places k s last r len is at =
    keeps-as (remove-last ss last len) refl refl (removed (take last ss) s ids places (subst (λ xs. Keeps xs ids places) (front-last ss s last len is) k) r at)

pub last-within : (ss : List Student) (ids : List StudentId) (places : List ℕ) → Keeps ss ids places → (s : Student) (last r : ℕ) → suc last ≡ length ss → s ≡ get_or ss last s
    → r ≡ rank (λ d. d.0) s.row.id.0 ids → r < length ids
last-within ss ids places k s last r len is at =
    let k' = subst (λ xs. Keeps xs ids places) (front-last ss s last len is) k in
    rank-within (take last ss) s ids places k' r at (λ e. e.0) ids k'.ids_right

-- the two lists are of one length
pub same-length : (ss : List Student) (ids : List StudentId) (places : List ℕ) → Keeps ss ids places → length ids ≡ length places
same-length ss ids places k = ap length k.ids_right ∙ length-map (λ e. e.0) (index_of ss) ∙ sym (length-map (λ e. e.1) (index_of ss)) ∙ ap length (sym k.places_right)
