-- What the index of the students tells, and how it changes.
use Rattle.std.specs.Prelude.{◌≡◌, ℕ, zero, suc, Bool, true, false, ◌==◌, nat_lt, nat_le, cond, List, [], ◌∷◌, ◌++◌, map, Option, Some, None, refl, slice_get}
use Rattle.std.specs.Option.{option_map, option_and_then, MatchOption}
use Rattle.std.specs.List.{list_any, HoldsAt}
use Rattle.std.proofs.lemmas.Option.{slice_get_past, slice_get_read, slice_get_within}
use Rattle.std.specs.List.Sorted.{IsNonDecreasingBy}
use Rattle.std.proofs.Common.{Bor, option_copied, ◌<◌, ◌≤◌, ◌+◌, length, get_or, sym, ◌∙◌, ap, subst, arith}
use Rattle.std.proofs.lemmas.Bool.Decides.{nat_tests}
use Rattle.sect_base.specs.declared.ids.StudentId.{StudentId}
use Rattle.sect_people.specs.Student.{Student}
use Rattle.sect_people.specs.Changes.{ids_of}
use Rattle.sect_people.specs.Order.{insert_by, sorted_by}
use Rattle.sect_people.specs.Index.{rank, place_of, entries_from, index_of, Keeps}
use Rattle.sect_people.proofs.OrderLemmas.{rank-map, sorted_by-append, sorted_by-rises, map-sorted_by}

-- the place of an id by a walk along rising entries
abbrev pub place_in : List (StudentId × ℕ) → ℕ → Option ℕ
place_in [] q = None
place_in (e ∷ es) q = cond (nat_lt e.0.0 q) (place_in es q) (cond (e.0.0 == q) (Some e.1) None)

-- where the entry has the id, its place
abbrev pub if_own : ℕ → StudentId × ℕ → Option ℕ
if_own q e = cond (e.0.0 == q) (Some e.1) None

-- the walk ends at the rank
pub place_in-rank : (es : List (StudentId × ℕ)) (q : ℕ) → option_and_then (if_own q) (slice_get es (rank (λ e. e.0.0) q es)) ≡ place_in es q
place_in-rank [] q = refl
place_in-rank (e ∷ es) q = by_test (place_in-rank es q) (nat_lt e.0.0 q)
  where
    by_test : option_and_then (if_own q) (slice_get es (rank (λ e. e.0.0) q es)) ≡ place_in es q → (b : Bool)
        → option_and_then (if_own q) (slice_get (e ∷ es) (cond b (suc (rank (λ e. e.0.0) q es)) 0)) ≡ cond b (place_in es q) (cond (e.0.0 == q) (Some e.1) None)
    by_test ih true = ih
    by_test ih false = refl

place_in-insert : (e : StudentId × ℕ) (es : List (StudentId × ℕ)) (q : ℕ) → place_in (insert_by (λ e. e.0.0) e es) q ≡ cond (e.0.0 == q) (Some e.1) (place_in es q)
place_in-insert e [] q = by_test (nat_lt e.0.0 q) (e.0.0 == q) refl refl
  where
    by_test : (b d : Bool) → nat_lt e.0.0 q ≡ b → e.0.0 == q ≡ d → cond b None (cond d (Some e.1) None) ≡ cond d (Some e.1) None
    by_test true true t u = absurd (grind (arith, nat_tests, t, u))
    by_test true false t u = refl
    by_test false d t u = refl
place_in-insert e (y ∷ ys) q = by_test (place_in-insert e ys q) (nat_le e.0.0 y.0.0) refl
  where
    before : (b d f g : Bool) → nat_lt e.0.0 q ≡ b → e.0.0 == q ≡ d → nat_lt y.0.0 q ≡ f → y.0.0 == q ≡ g → nat_le e.0.0 y.0.0 ≡ true
        → cond b (cond f (place_in ys q) (cond g (Some y.1) None)) (cond d (Some e.1) None) ≡ cond d (Some e.1) (cond f (place_in ys q) (cond g (Some y.1) None))
    before true true f g t u v w le = absurd (grind (arith, nat_tests, t, u))
    before true false f g t u v w le = refl
    before false true f g t u v w le = refl
    before false false true g t u v w le = absurd (grind (arith, nat_tests, t, u, v, le))
    before false false false true t u v w le = absurd (grind (arith, nat_tests, t, u, w, le))
    before false false false false t u v w le = refl

    behind : place_in (insert_by (λ e. e.0.0) e ys) q ≡ cond (e.0.0 == q) (Some e.1) (place_in ys q) → (d f : Bool) → e.0.0 == q ≡ d → nat_lt y.0.0 q ≡ f → nat_le e.0.0 y.0.0 ≡ false
        → cond f (place_in (insert_by (λ e. e.0.0) e ys) q) (cond (y.0.0 == q) (Some y.1) None) ≡ cond d (Some e.1) (cond f (place_in ys q) (cond (y.0.0 == q) (Some y.1) None))
    behind ih d true u v le = ih ∙ (λ i. cond (u i) (Some e.1) (place_in ys q))
    behind ih true false u v le = absurd (grind (arith, nat_tests, u, v, le))
    behind ih false false u v le = refl

    by_test : place_in (insert_by (λ e. e.0.0) e ys) q ≡ cond (e.0.0 == q) (Some e.1) (place_in ys q) → (b : Bool) → nat_le e.0.0 y.0.0 ≡ b
        → place_in (cond b (e ∷ y ∷ ys) (y ∷ insert_by (λ e. e.0.0) e ys)) q ≡ cond (e.0.0 == q) (Some e.1) (place_in (y ∷ ys) q)
    by_test ih true t = before (nat_lt e.0.0 q) (e.0.0 == q) (nat_lt y.0.0 q) (y.0.0 == q) refl refl refl refl t
    by_test ih false t = behind ih (e.0.0 == q) (nat_lt y.0.0 q) refl refl t

-- the index tells the first place
index-from : (n : ℕ) (ss : List Student) (q : ℕ) → place_in (sorted_by (λ e. e.0.0) (entries_from n ss)) q ≡ option_map (λ k. n + k) (place_of (λ s. s.row.id.0) ss q)
index-from n [] q = refl
index-from n (s ∷ ss) q =
    place_in-insert (s.row.id, n) (sorted_by (λ e. e.0.0) (entries_from (suc n) ss)) q
    ∙ (λ i. cond (s.row.id.0 == q) (Some n) (index-from (suc n) ss q i))
    ∙ by_test (s.row.id.0 == q)
  where
    shifted : (o : Option ℕ) → option_map (λ k. suc n + k) o ≡ option_map (λ k. n + k) (option_map (λ k. suc k) o)
    shifted None = refl
    shifted (Some k) = let same : suc n + k ≡ n + suc k = omega arith in ap Some same

    by_test : (b : Bool) → cond b (Some n) (option_map (λ k. suc n + k) (place_of (λ s. s.row.id.0) ss q)) ≡ option_map (λ k. n + k) (cond b (Some 0) (option_map (λ k. suc k) (place_of (λ s. s.row.id.0) ss q)))
    by_test true = let same : n ≡ n + 0 = omega arith in ap Some same
    by_test false = shifted (place_of (λ s. s.row.id.0) ss q)

pub index-place : (ss : List Student) (q : ℕ) → place_in (index_of ss) q ≡ place_of (λ s. s.row.id.0) ss q
index-place ss q = index-from 0 ss q ∙ from_none (place_of (λ s. s.row.id.0) ss q)
  where
    from_none : (o : Option ℕ) → option_map (λ k. 0 + k) o ≡ o
    from_none None = refl
    from_none (Some k) = let same : 0 + k ≡ k = omega arith in ap Some same

entries-append : (n : ℕ) (ss : List Student) (s : Student) → entries_from n (ss ++ s ∷ []) ≡ entries_from n ss ++ (s.row.id, n + length ss) ∷ []
entries-append n [] s = let same : n ≡ n + 0 = omega arith in λ i. (s.row.id, same i) ∷ []
entries-append n (t ∷ ss) s =
    let same : suc n + length ss ≡ n + suc (length ss) = omega arith in
    λ i. (t.row.id, n) ∷ (entries-append (suc n) ss s ∙ (λ j. entries_from (suc n) ss ++ (s.row.id, same j) ∷ [])) i

-- the ids of the entries
entry-ids : {Y : Type 0} (f : StudentId → Y) (n : ℕ) (ss : List Student) → map (λ e. f e.0) (entries_from n ss) ≡ map (λ s. f s.row.id) ss
entry-ids f n [] = refl
entry-ids f n (s ∷ ss) = ap (λ ys. f s.row.id ∷ ys) (entry-ids f (suc n) ss)

-- a change of the students that keeps ids keeps the index
pub entries-change : (f : Student → Student) → ((s : Student) → (f s).row.id ≡ s.row.id) → (n : ℕ) (ss : List Student) → entries_from n (map f ss) ≡ entries_from n ss
entries-change f same n [] = refl
entries-change f same n (s ∷ ss) = λ i. (same s i, n) ∷ entries-change f same (suc n) ss i

-- the ids of the index are the sorted ids
pub index-ids : (ss : List Student) → map (λ e. e.0) (index_of ss) ≡ ids_of ss
index-ids ss =
    map-sorted_by (λ e. e.0) (λ e. e.0.0) (λ d. d.0) (λ e. refl) (entries_from 0 ss)
    ∙ ap (sorted_by (λ d. d.0)) (entry-ids (λ d. d) 0 ss)
    ∙ sym (map-sorted_by (λ s. s.row.id) (λ s. s.row.id.0) (λ d. d.0) (λ s. refl) ss)

pub ids-rise : (ss : List Student) → IsNonDecreasingBy (λ d. d.0) (map (λ e. e.0) (index_of ss))
ids-rise ss =
    subst (IsNonDecreasingBy (λ d. d.0)) (sym (map-sorted_by (λ e. e.0) (λ e. e.0.0) (λ d. d.0) (λ e. refl) (entries_from 0 ss)))
    (sorted_by-rises (λ d. d.0) (map (λ e. e.0) (entries_from 0 ss)))

-- a new student's entry is inserted
pub index-append : (ss : List Student) (s : Student) → list_any (λ n. n == s.row.id.0) (map (λ s. s.row.id.0) ss) ≡ false
    → index_of (ss ++ s ∷ []) ≡ insert_by (λ e. e.0.0) (s.row.id, length ss) (index_of ss)
index-append ss s new =
    ap (sorted_by (λ e. e.0.0)) (entries-append 0 ss s ∙ (λ i. entries_from 0 ss ++ (s.row.id, same i) ∷ []))
    ∙ sorted_by-append (λ e. e.0.0) (entries_from 0 ss) (s.row.id, length ss)
    (ap (list_any (λ n. n == s.row.id.0)) (entry-ids (λ d. d.0) 0 ss) ∙ new)
  where
    same : 0 + length ss ≡ length ss
    same = omega arith

-- what a checked access of a slice answers
pub got : {X : Type 0} (o : Option (Bor X)) (xs : List X) (k : ℕ) → MatchOption o (length xs ≤ k) (λ x. (k < length xs) × HoldsAt (λ y. x.now ≡ y) xs k) → option_copied o ≡ slice_get xs k
got None xs k past = sym (slice_get_past xs k past)
got (Some x) xs k at = sym (slice_get_read xs (length xs) k x.now refl at.0 (at.1 x.now))

slice_get-map : {X Y : Type 0} (f : X → Y) (xs : List X) (k : ℕ) → slice_get (map f xs) k ≡ option_map f (slice_get xs k)
slice_get-map f [] k = refl
slice_get-map f (x ∷ xs) zero = refl
slice_get-map f (x ∷ xs) (suc k) = slice_get-map f xs k

-- what the two lists tell of an id at its rank
module _ (ss : List Student) (ids : List StudentId) (places : List ℕ) (k : Keeps ss ids places) (id r : ℕ) (at : r ≡ rank (λ d. d.0) id ids) where
  abbrev entry : Option (StudentId × ℕ)
  entry = slice_get (index_of ss) r

  same_rank : rank (λ e. e.0.0) id (index_of ss) ≡ r
  same_rank = sym (at ∙ ap (rank (λ d. d.0) id) k.ids_right ∙ rank-map (λ e. e.0) (λ d. d.0) id (index_of ss))

  told : option_and_then (if_own id) entry ≡ place_of (λ s. s.row.id.0) ss id
  told = (λ i. option_and_then (if_own id) (slice_get (index_of ss) (sym same_rank i))) ∙ place_in-rank (index_of ss) id ∙ index-place ss id

  id_of_entry : slice_get ids r ≡ option_map (λ e. e.0) entry
  id_of_entry = (λ i. slice_get (k.ids_right i) r) ∙ slice_get-map (λ e. e.0) (index_of ss) r

  place_of_entry : slice_get places r ≡ option_map (λ e. e.1) entry
  place_of_entry = (λ i. slice_get (k.places_right i) r) ∙ slice_get-map (λ e. e.1) (index_of ss) r

  pub found-none : slice_get ids r ≡ None → None ≡ place_of (λ s. s.row.id.0) ss id
  found-none e = by_entry entry (sym id_of_entry ∙ e) ∙ told
    where
      by_entry : (o : Option (StudentId × ℕ)) → option_map (λ e. e.0) o ≡ None → None ≡ option_and_then (if_own id) o
      by_entry None h = refl
      by_entry (Some e) h = cc

  pub found-other : (d : StudentId) → slice_get ids r ≡ Some d → d.0 == id ≡ false → None ≡ place_of (λ s. s.row.id.0) ss id
  found-other d e other = by_entry entry (sym id_of_entry ∙ e) ∙ told
    where
      by_entry : (o : Option (StudentId × ℕ)) → option_map (λ e. e.0) o ≡ Some d → None ≡ option_and_then (if_own id) o
      by_entry None h = cc
      by_entry (Some e) h = let same : e.0 ≡ d = cc in λ i. cond (sym ((λ j. (same j).0 == id) ∙ other) i) (Some e.1) None

  pub found-own : (d : StudentId) → slice_get ids r ≡ Some d → d.0 == id ≡ true → slice_get places r ≡ place_of (λ s. s.row.id.0) ss id
  found-own d e own = place_of_entry ∙ by_entry entry (sym id_of_entry ∙ e) ∙ told
    where
      by_entry : (o : Option (StudentId × ℕ)) → option_map (λ e. e.0) o ≡ Some d → option_map (λ e. e.1) o ≡ option_and_then (if_own id) o
      by_entry None h = cc
      by_entry (Some e) h = let same : e.0 ≡ d = cc in sym (λ i. cond (((λ j. (same j).0 == id) ∙ own) i) (Some e.1) None)

  pub found-within : (d : StudentId) → slice_get ids r ≡ Some d → r < length places
  found-within d e = let y = by_entry entry (sym id_of_entry ∙ e) in slice_get_within places r y.0 (place_of_entry ∙ y.1)
    where
      by_entry : (o : Option (StudentId × ℕ)) → option_map (λ e. e.0) o ≡ Some d → (y : ℕ) × (option_map (λ e. e.1) o ≡ Some y)
      by_entry None h = cc
      by_entry (Some e) h = (e.1, refl)

  pub found-at : (d : StudentId) → slice_get ids r ≡ Some d → d.0 == id ≡ true → (p : ℕ) → p ≡ get_or places r p → Some p ≡ place_of (λ s. s.row.id.0) ss id
  found-at d e own p is = sym (slice_get_read places (length places) r p refl (found-within d e) is) ∙ found-own d e own
