-- The search with a budget is the walk, cut off where the budget is spent.
use Rattle.std.specs.Prelude.{◌≡◌, ℕ, zero, suc, ◌+◌, ◌-◌, ◌≤◌, Bool, true, false, nat_lt, cond, List, [], ◌∷◌, Option, Some, None, refl}
use Rattle.std.proofs.Common.{sym, ◌∙◌, ap, arith}
use Rattle.std.proofs.lemmas.Bool.Decides.{nat_tests}
use Rattle.sect_base.specs.Tree.{Tree, broken, split, trees_of}
use Rattle.sect_model.specs.Data.{Move, Pick, Choice, Rule}
use Rattle.sect_model.specs.declared.pick.Outcome.TheVariants.{Found, Blocked, Spent}
use Rattle.sect_model.specs.World.{World}
use Rattle.sect_model.specs.Path.{Path, start, options_at, extend, is_complete}
use Rattle.sect_model.specs.Rules.{leaf_of}
use Rattle.sect_model.specs.Visits.{most_decisions}
use Rattle.sect_model.specs.Walk.{Walked, behind, found_after, below_or, by_leaf, walk_options, walk_from, walk_of, told_by, walked_outcome}
use Rattle.sect_model.specs.Search.{Searched, found, refuted, spent, behind_tree, or_later, search_pick, search_options, search_from, search_of, searched_outcome}
use Rattle.sect_model.specs.Premises.{WorldKeeps}
use Rattle.sect_model.specs.Stands.{MoveStands}
use Rattle.sect_model.specs.Outcome.{outcome_of}
use Rattle.sect_model.proofs.WalkLemmas.{walks-answer}
use Rattle.std.proofs.lemmas.Bool.{ltb-false}

-- what a walk found, with what is left after its visits
abbrev left_by : Option (List Choice) → Walked → ℕ → Searched
left_by (Some choices) r left = found choices left
left_by None r left = refuted r.trees left

-- the walk, where there is so much left for it
abbrev within : ℕ → Walked → Searched
within left r = cond (nat_lt left r.visits) spent (left_by r.found r (left - r.visits))

-- a walk of more visits than are left, and one that is within them
spent-within : (left : ℕ) (r : Walked) → nat_lt left r.visits ≡ true → within left r ≡ spent
spent-within left r h = ap (λ b. cond b spent (left_by r.found r (left - r.visits))) h

left-within : (left : ℕ) (r : Walked) → nat_lt left r.visits ≡ false → within left r ≡ left_by r.found r (left - r.visits)
left-within left r h = ap (λ b. cond b spent (left_by r.found r (left - r.visits))) h

tree-left : (tree : Tree) (n : ℕ) (o : Option (List Choice)) (later : Walked) (left : ℕ) → later.found ≡ o → behind_tree tree (left_by o later left) ≡ left_by o (behind tree n later) left
tree-left tree n (Some choices) later left e = refl
tree-left tree n None later left e = refl

-- a tree in front, after n visits
tree-within : (tree : Tree) (n left before : ℕ) (later : Walked) → nat_lt left later.visits ≡ nat_lt before (n + later.visits) → left - later.visits ≡ before - (n + later.visits)
    → behind_tree tree (within left later) ≡ within before (behind tree n later)
tree-within tree n left before later same rest = by_test (nat_lt left later.visits) refl
  where
    by_test : (b : Bool) → nat_lt left later.visits ≡ b → behind_tree tree (within left later) ≡ within before (behind tree n later)
    by_test true h =
        ap (behind_tree tree) (spent-within left later h) ∙ sym (spent-within before (behind tree n later) (sym same ∙ h))
    by_test false h =
        ap (behind_tree tree) (left-within left later h) ∙ tree-left tree n later.found later (left - later.visits) refl
        ∙ ap (left_by later.found (behind tree n later)) rest ∙ sym (left-within before (behind tree n later) (sym same ∙ h))

one-less : (left v : ℕ) → nat_lt left v ≡ nat_lt (suc left) (1 + v)
one-less left v = grind (arith, nat_tests)

one-rest : (left v : ℕ) → left - v ≡ suc left - (1 + v)
one-rest left v = omega arith

first-rest : (left : ℕ) → left ≡ suc left - 1
first-rest left = omega arith

first-free : (left : ℕ) → nat_lt (suc left) 1 ≡ false
first-free left = grind (arith, nat_tests)

beyond-some : (left v : ℕ) → nat_lt left v ≡ true → nat_lt (suc left) (v + 1) ≡ true
beyond-some left v h = grind (arith, nat_tests, h)

beyond-more : (left v u : ℕ) → nat_lt left v ≡ true → nat_lt (suc left) (v + 1 + u) ≡ true
beyond-more left v u h = grind (arith, nat_tests, h)

within-some : (left v : ℕ) → nat_lt left v ≡ false → nat_lt (suc left) (v + 1) ≡ false
within-some left v h = grind (arith, nat_tests, h)

rest-some : (left v : ℕ) → left - v ≡ suc left - (v + 1)
rest-some left v = omega arith

within-more : (left v u : ℕ) → v ≤ left → nat_lt (left - v) u ≡ nat_lt (suc left) (v + 1 + u)
within-more left v u h = grind (arith, nat_tests, h)

rest-more : (left v u : ℕ) → v ≤ left → left - v - u ≡ suc left - (v + 1 + u)
rest-more left v u h = omega (arith, h)

-- an option below which the search goes on
below-within : (left : ℕ) (r later : Walked) → or_later (λ n. within n later) (within left r) ≡ within (suc left) (below_or r.found r later)
below-within left r later = by_test (nat_lt left r.visits) refl
  where
    over : (o : Option (List Choice)) → nat_lt left r.visits ≡ true → spent ≡ within (suc left) (below_or o r later)
    over (Some choices) h = sym (spent-within (suc left) (found_after (r.visits + 1) choices) (beyond-some left r.visits h))
    over None h = sym (spent-within (suc left) (behind (split (trees_of r.trees)) (r.visits + 1) later) (beyond-more left r.visits later.visits h))

    under : (o : Option (List Choice)) → nat_lt left r.visits ≡ false → or_later (λ n. within n later) (left_by o r (left - r.visits)) ≡ within (suc left) (below_or o r later)
    under (Some choices) h =
        ap (found choices) (rest-some left r.visits) ∙ sym (left-within (suc left) (found_after (r.visits + 1) choices) (within-some left r.visits h))
    under None h =
        tree-within (split (trees_of r.trees)) (r.visits + 1) (left - r.visits) (suc left) later
        (within-more left r.visits later.visits (ltb-false left r.visits h)) (rest-more left r.visits later.visits (ltb-false left r.visits h))

    by_test : (b : Bool) → nat_lt left r.visits ≡ b → or_later (λ n. within n later) (within left r) ≡ within (suc left) (below_or r.found r later)
    by_test true h = ap (or_later (λ n. within n later)) (spent-within left r h) ∙ over r.found h
    by_test false h = ap (or_later (λ n. within n later)) (left-within left r h) ∙ under r.found h

-- each option takes a visit
some-visit : (l : Option (Rule × ℕ)) (whole : Bool) (done : List Choice) (r later : Walked) → nat_lt 0 (by_leaf l whole done r later).visits ≡ true
some-visit (Some leaf) whole done r later = grind (arith, nat_tests)
some-visit None true done r later = refl
some-visit None false done r later = by_found r.found
  where
    by_found : (o : Option (List Choice)) → nat_lt 0 (below_or o r later).visits ≡ true
    by_found (Some choices) = grind (arith, nat_tests)
    by_found None = grind (arith, nat_tests)

pick-within : (l : Option (Rule × ℕ)) (whole : Bool) (done : List Choice) (r later : Walked) (left : ℕ)
    → search_pick l whole done (λ n. within n r) (λ n. within n later) left ≡ within (suc left) (by_leaf l whole done r later)
pick-within (Some leaf) whole done r later left = tree-within (broken leaf.0 leaf.1) 1 left (suc left) later (one-less left later.visits) (one-rest left later.visits)
pick-within None true done r later left =
    ap (found done) (first-rest left) ∙ sym (left-within (suc left) (found_after 1 done) (first-free left))
pick-within None false done r later left = below-within left r later

-- a search that is the walk for each number that is left
module _ (w : World) (mv : Move) where
  same-pick : (l : Option (Rule × ℕ)) (whole : Bool) (done : List Choice) (inner later : ℕ → Searched) (r s : Walked) → ((n : ℕ) → inner n ≡ within n r) → ((n : ℕ) → later n ≡ within n s) → (left : ℕ)
      → search_pick l whole done inner later left ≡ search_pick l whole done (λ n. within n r) (λ n. within n s) left
  same-pick (Some leaf) whole done inner later r s a b left = ap (behind_tree (broken leaf.0 leaf.1)) (b left)
  same-pick None true done inner later r s a b left = refl
  same-pick None false done inner later r s a b left = ap (or_later later) (a left) ∙ same-later (within left r)
    where
      same-later : (x : Searched) → or_later later x ≡ or_later (λ n. within n s) x
      same-later (found choices n) = refl
      same-later (refuted trees n) = ap (behind_tree (split (trees_of trees))) (b n)
      same-later spent = refl

  options-within : (rest : Path → ℕ → Searched) (walk : Path → Walked) → ((q : Path) (n : ℕ) → rest q n ≡ within n (walk q)) → (p : Path) (picks : List Pick) (left : ℕ)
      → search_options w mv rest p picks left ≡ within left (walk_options w mv walk p picks)
  options-within rest walk same p [] left = sym (left-within left (record { found = None; trees = []; visits = 0 }) (no_visit left) ∙ ap (refuted []) (all_left left))
    where
      no_visit : (left : ℕ) → nat_lt left 0 ≡ false
      no_visit left = grind (arith, nat_tests)

      all_left : (left : ℕ) → left - 0 ≡ left
      all_left left = omega arith
  options-within rest walk same p (pick ∷ picks) zero =
      sym (spent-within 0 (walk_options w mv walk p (pick ∷ picks))
      (some-visit (leaf_of w mv p pick) (is_complete mv (extend w p pick)) (extend w p pick).done (walk (extend w p pick)) (walk_options w mv walk p picks)))
  options-within rest walk same p (pick ∷ picks) (suc left) =
      same-pick (leaf_of w mv p pick) (is_complete mv (extend w p pick)) (extend w p pick).done (rest (extend w p pick)) (search_options w mv rest p picks) (walk (extend w p pick)) (walk_options w mv walk p picks)
      (same (extend w p pick)) (λ n. options-within rest walk same p picks n) left
      ∙ pick-within (leaf_of w mv p pick) (is_complete mv (extend w p pick)) (extend w p pick).done (walk (extend w p pick)) (walk_options w mv walk p picks) left

  search-within : (n : ℕ) (p : Path) (left : ℕ) → search_from w mv n p left ≡ within left (walk_from w mv n p)
  search-within zero p left = options-within (λ q n. refuted [] n) (λ q. record { found = None; trees = []; visits = 0 }) (λ q n. nothing n) p [] left
    where
      nothing : (n : ℕ) → refuted [] n ≡ within n (record { found = None; trees = []; visits = 0 })
      nothing n = options-within (λ q n. within n (record { found = None; trees = []; visits = 0 })) (λ q. record { found = None; trees = []; visits = 0 }) (λ q n. refl) p [] n
  search-within (suc n) p left = options-within (search_from w mv n) (walk_from w mv n) (search-within n) p (options_at w mv p) left

taken : (budget v : ℕ) → nat_lt budget v ≡ false → budget - (budget - v) ≡ v
taken budget v h = grind (arith, nat_tests, h)

-- the answer of the walk is that of the search
same-answer : (budget : ℕ) (r : Walked) → searched_outcome budget (within budget r) ≡ walked_outcome budget r
same-answer budget r = by_test (nat_lt budget r.visits) refl
  where
    told : (o : Option (List Choice)) → nat_lt budget r.visits ≡ false → searched_outcome budget (left_by o r (budget - r.visits)) ≡ told_by o r
    told (Some choices) h = ap (Found choices) (taken budget r.visits h)
    told None h = ap (Blocked (split (trees_of r.trees))) (taken budget r.visits h)

    by_test : (b : Bool) → nat_lt budget r.visits ≡ b → searched_outcome budget (within budget r) ≡ walked_outcome budget r
    by_test true h = ap (searched_outcome budget) (spent-within budget r h) ∙ sym (ap (λ b. cond b (Spent budget) (told_by r.found r)) h)
    by_test false h = ap (searched_outcome budget) (left-within budget r h) ∙ told r.found h ∙ sym (ap (λ b. cond b (Spent budget) (told_by r.found r)) h)

nothing-taken : (budget : ℕ) → found [] budget ≡ within budget (found_after 0 [])
nothing-taken budget = sym (left-within budget (found_after 0 []) (none budget) ∙ ap (found []) (whole budget))
  where
    none : (n : ℕ) → nat_lt n 0 ≡ false
    none n = grind (arith, nat_tests)

    whole : (n : ℕ) → n - 0 ≡ n
    whole n = omega arith

pub search-answers : (w : World) (mv : Move) (budget : ℕ) → WorldKeeps w → MoveStands w mv → outcome_of w mv budget ≡ searched_outcome budget (search_of w mv budget)
search-answers w mv budget keeps standing = walks-answer w mv budget keeps standing ∙ sym (ap (searched_outcome budget) (by_start (is_complete mv start)) ∙ same-answer budget (walk_of w mv))
  where
    by_start : (b : Bool) → cond b (found [] budget) (search_from w mv (most_decisions mv) start budget) ≡ within budget (cond b (found_after 0 []) (walk_from w mv (most_decisions mv) start))
    by_start true = nothing-taken budget
    by_start false = search-within w mv (most_decisions mv) start budget
