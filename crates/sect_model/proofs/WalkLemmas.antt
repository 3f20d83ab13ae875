-- The walk answers what the outcome of a search is defined to be.
use Rattle.std.specs.Prelude.{◌≡◌, ℕ, zero, suc, ◌+◌, Bool, true, false, ◌&&◌, nat_lt, nat_le, cond, List, [], ◌∷◌, ◌++◌, length, map, find, flat_map, Option, Some, None, refl}
use Rattle.std.specs.Option.{is_none, option_map}
use Rattle.std.proofs.Common.{sym, ◌∙◌, ap, subst, arith}
use Rattle.std.proofs.lemmas.Bool.Decides.{nat_tests}
use Rattle.sect_base.specs.Tree.{Tree, broken, split, trees_of}
use Rattle.sect_model.specs.Data.{Move, Pick, Choice, Want, Rule}
use Rattle.sect_model.specs.declared.pick.Outcome.TheVariants.{Found, Blocked, Spent}
use Rattle.sect_model.specs.World.{World}
use Rattle.sect_model.specs.Path.{Path, start, options_at, extend, extend_all, is_complete}
use Rattle.sect_model.specs.Rules.{leaf_of}
use Rattle.sect_model.specs.Visits.{Step, after, reaches, count_to, visits_of, most_decisions, unbroken_from}
use Rattle.sect_model.specs.Outcome.{outcome_of, answer_of, first_allowed, leaf_or, refutation_from}
use Rattle.sect_model.specs.Walk.{Walked, found_after, below_or, by_leaf, walk_options, walk_from, walk_of, told_by, walked_outcome}
use Rattle.sect_model.specs.Premises.{WorldKeeps}
use Rattle.sect_model.specs.Stands.{MoveStands}
use Rattle.sect_model.proofs.Members.{find-left}
use Rattle.sect_model.proofs.VisitLemmas.{cut_from, cut_by, all_visits-cut, unbroken-more, extend_all-append}
use Rattle.sect_model.proofs.MoveLaws.{first_is_visited}

-- ---- the first of joined lists

find-right : {X : Type 0} (test : X → Bool) (xs ys : List X) → find test xs ≡ None → find test (xs ++ ys) ≡ find test ys
find-right test [] ys h = refl
find-right test (x ∷ xs) ys h = by_test (find-right test xs ys) (test x) h
  where
    by_test : (find test xs ≡ None → find test (xs ++ ys) ≡ find test ys) → (b : Bool) → cond b (Some x) (find test xs) ≡ None → cond b (Some x) (find test (xs ++ ys)) ≡ find test ys
    by_test ih true h = cc
    by_test ih false h = ih h

count-left : {X : Type 0} (test : X → Bool) (xs ys : List X) (y : X) → find test xs ≡ Some y → count_to test (xs ++ ys) ≡ count_to test xs
count-left test [] ys y h = cc
count-left test (x ∷ xs) ys y h = by_test (count-left test xs ys y) (test x) h
  where
    by_test : (find test xs ≡ Some y → count_to test (xs ++ ys) ≡ count_to test xs) → (b : Bool) → cond b (Some x) (find test xs) ≡ Some y → cond b 1 (count_to test (xs ++ ys) + 1) ≡ cond b 1 (count_to test xs + 1)
    by_test ih true h = refl
    by_test ih false h = ap (λ n. n + 1) (ih h)

pub none_and : (n : ℕ) → n ≡ 0 + n
none_and n = omega arith

count-right : {X : Type 0} (test : X → Bool) (xs ys : List X) → find test xs ≡ None → count_to test (xs ++ ys) ≡ count_to test xs + count_to test ys
count-right test [] ys h = none_and (count_to test ys)
count-right test (x ∷ xs) ys h = by_test (count-right test xs ys) (test x) h
  where
    by_test : (find test xs ≡ None → count_to test (xs ++ ys) ≡ count_to test xs + count_to test ys) → (b : Bool) → cond b (Some x) (find test xs) ≡ None
        → cond b 1 (count_to test (xs ++ ys) + 1) ≡ cond b 1 (count_to test xs + 1) + count_to test ys
    by_test ih true h = cc
    by_test ih false h = omega (arith, ih h)

-- ---- a walk and the visits

module _ (w : World) (mv : Move) where
  -- the choices to which a step leads
  abbrev led : Step → List Choice
  led s = (after w s).done

  -- the walk finds what the first of the steps reaches, in as many visits, or else has the trees
  record Agrees (r : Walked) (steps : List Step) (trees : List Tree) : Type 0 where
    found : r.found ≡ option_map led (find (reaches w mv) steps)
    visits : r.visits ≡ count_to (reaches w mv) steps
    trees_are : r.found ≡ None → r.trees ≡ trees

  past : (step : Step) (steps : List Step) → reaches w mv step ≡ false → find (reaches w mv) (step ∷ steps) ≡ find (reaches w mv) steps
  past step steps h = ap (λ b. cond b (Some step) (find (reaches w mv) steps)) h

  past-count : (step : Step) (steps : List Step) → reaches w mv step ≡ false → count_to (reaches w mv) (step ∷ steps) ≡ count_to (reaches w mv) steps + 1
  past-count step steps h = ap (λ b. cond b 1 (count_to (reaches w mv) steps + 1)) h

  never : (b : Bool) → b && false ≡ false
  never true = refl
  never false = refl

  one_and : (n m k : ℕ) → n ≡ m → k ≡ m + 1 → 1 + n ≡ k
  one_and n m k h e = omega (arith, h, e)

  more_and : (n a k m b j : ℕ) → n ≡ a → m ≡ b → k ≡ j + 1 → j ≡ a + b → n + 1 + m ≡ k
  more_and n a k m b j h i e f = omega (arith, h, i, e, f)

  -- what was found below is found
  inner-found : (o : Option Step) (c : List Choice) → Some c ≡ option_map led o → (s : Step) × (o ≡ Some s) × (c ≡ led s)
  inner-found None c e = cc
  inner-found (Some s) c e = (s, refl, some_same c (led s) e)
    where
      some_same : (x y : List Choice) → Some x ≡ Some y → x ≡ y
      some_same x y e = cc

  inner-none : (o : Option Step) → None ≡ option_map led o → o ≡ None
  inner-none None e = refl
  inner-none (Some s) e = cc

  below-agrees : (found : Option (List Choice)) (step : Step) (inner rest : List Step) (r later : Walked) (inner_trees rest_trees : List Tree)
      → reaches w mv step ≡ false → r.found ≡ found → Agrees r inner inner_trees → Agrees later rest rest_trees
      → Agrees (below_or found r later) ((step ∷ inner) ++ rest) (split (trees_of inner_trees) ∷ rest_trees)
  below-agrees (Some c) step inner rest r later inner_trees rest_trees open_step e a b =
      let s = inner-found (find (reaches w mv) inner) c (sym e ∙ a.found) in record {
        found = ap Some s.2 ∙ ap (option_map led) (sym (past step (inner ++ rest) open_step ∙ find-left (reaches w mv) inner rest s.0 s.1));
        visits = ap (λ n. n + 1) (a.visits ∙ sym (count-left (reaches w mv) inner rest s.0 s.1)) ∙ sym (past-count step (inner ++ rest) open_step);
        trees_are = λ none. cc;
      }
  below-agrees None step inner rest r later inner_trees rest_trees open_step e a b =
      let none = inner-none (find (reaches w mv) inner) (sym e ∙ a.found) in record {
        found = b.found ∙ ap (option_map led) (sym (past step (inner ++ rest) open_step ∙ find-right (reaches w mv) inner rest none));
        visits = more_and r.visits (count_to (reaches w mv) inner) (count_to (reaches w mv) (step ∷ inner ++ rest)) later.visits (count_to (reaches w mv) rest) (count_to (reaches w mv) (inner ++ rest))
            a.visits b.visits (past-count step (inner ++ rest) open_step) (count-right (reaches w mv) inner rest none);
        trees_are = λ empty i. split (trees_of (a.trees_are e i)) ∷ b.trees_are empty i;
      }

  -- one option and those behind it
  option-agrees : (l : Option (Rule × ℕ)) (whole : Bool) (step : Step) → reaches w mv step ≡ whole && is_none l
      → (inner rest : List Step) (r later : Walked) (inner_trees rest_trees : List Tree) (tree_below : Path → Tree) (next : Path) → tree_below next ≡ split (trees_of inner_trees)
      → (is_none l ≡ true → Agrees r inner inner_trees) → Agrees later rest rest_trees
      → Agrees (by_leaf l whole (led step) r later) ((step ∷ cond (is_none l) inner []) ++ rest) (leaf_or tree_below next l ∷ rest_trees)
  option-agrees (Some leaf) whole step at_step inner rest r later inner_trees rest_trees tree_below next same a b =
      let open_step = at_step ∙ never whole in record {
        found = b.found ∙ ap (option_map led) (sym (past step rest open_step));
        visits = one_and later.visits (count_to (reaches w mv) rest) (count_to (reaches w mv) (step ∷ rest)) b.visits (past-count step rest open_step);
        trees_are = λ empty i. broken leaf.0 leaf.1 ∷ b.trees_are empty i;
      }
  option-agrees None true step at_step inner rest r later inner_trees rest_trees tree_below next same a b = record {
    found = ap (λ c. option_map led (cond c (Some step) (find (reaches w mv) (inner ++ rest)))) (sym at_step);
    visits = ap (λ c. cond c 1 (count_to (reaches w mv) (inner ++ rest) + 1)) (sym at_step);
    trees_are = λ none. cc;
  }
  option-agrees None false step at_step inner rest r later inner_trees rest_trees tree_below next same a b =
      subst (λ t. Agrees (below_or r.found r later) ((step ∷ inner) ++ rest) (t ∷ rest_trees)) (sym same)
      (below-agrees r.found step inner rest r later inner_trees rest_trees at_step refl (a refl) b)

  -- the trees below a path
  abbrev trees_below : ℕ → Path → List Tree
  trees_below zero p = []
  trees_below (suc n) p = map (λ pick. leaf_or (refutation_from w mv n) (extend w p pick) (leaf_of w mv p pick)) (options_at w mv p)

  refutation-trees : (n : ℕ) (p : Path) → refutation_from w mv n p ≡ split (trees_of (trees_below n p))
  refutation-trees zero p = refl
  refutation-trees (suc n) p = refl

  options-agree : (n : ℕ) (before : List Pick) (p : Path) → extend_all w start before ≡ p → unbroken_from w mv start before ≡ true
      → ((pick : Pick) → is_none (leaf_of w mv p pick) ≡ true → Agrees (walk_from w mv n (extend w p pick)) (cut_from w mv n (before ++ pick ∷ []) (extend w p pick)) (trees_below n (extend w p pick)))
      → (picks : List Pick)
      → Agrees (walk_options w mv (walk_from w mv n) p picks) (flat_map (cut_by w mv n before p) picks) (map (λ pick. leaf_or (refutation_from w mv n) (extend w p pick) (leaf_of w mv p pick)) picks)
  options-agree n before p here unbroken ih [] = record { found = refl; visits = refl; trees_are = λ empty. refl }
  options-agree n before p here unbroken ih (pick ∷ picks) =
      option-agrees (leaf_of w mv p pick) (is_complete mv (extend w p pick)) (record { before = before; path = p; pick = pick })
      (ap (λ b. is_complete mv (extend w p pick) && b) (unbroken-more w mv before p pick here unbroken))
      (cut_from w mv n (before ++ pick ∷ []) (extend w p pick)) (flat_map (cut_by w mv n before p) picks)
      (walk_from w mv n (extend w p pick)) (walk_options w mv (walk_from w mv n) p picks)
      (trees_below n (extend w p pick)) (map (λ pick. leaf_or (refutation_from w mv n) (extend w p pick) (leaf_of w mv p pick)) picks)
      (refutation_from w mv n) (extend w p pick) (refutation-trees n (extend w p pick)) (ih pick) (options-agree n before p here unbroken ih picks)

  walk-agrees : (n : ℕ) (before : List Pick) (p : Path) → extend_all w start before ≡ p → unbroken_from w mv start before ≡ true → Agrees (walk_from w mv n p) (cut_from w mv n before p) (trees_below n p)
  walk-agrees zero before p here unbroken = record { found = refl; visits = refl; trees_are = λ empty. refl }
  walk-agrees (suc n) before p here unbroken =
      options-agree n before p here unbroken
      (λ pick open_pick. walk-agrees n (before ++ pick ∷ []) (extend w p pick)
      (extend_all-append w mv start before pick ∙ ap (λ q. extend w q pick) here)
      (unbroken-more w mv before p pick here unbroken ∙ open_pick))
      (options_at w mv p)

  -- the answers are the same where what is found is
  same-answer : (r : Walked) (visits : ℕ) (o : Option (List Choice)) → r.found ≡ o → r.visits ≡ visits → (o ≡ None → split (trees_of r.trees) ≡ refutation_from w mv (most_decisions mv) start)
      → told_by r.found r ≡ answer_of w mv visits o
  same-answer r visits (Some choices) e v t = ap (λ o. told_by o r) e ∙ ap (Found choices) v
  same-answer r visits None e v t = ap (λ o. told_by o r) e ∙ λ i. Blocked (t refl i) (v i)

  walks : WorldKeeps w → MoveStands w mv → (budget : ℕ) → is_complete mv start ≡ false → outcome_of w mv budget ≡ walked_outcome budget (walk_from w mv (most_decisions mv) start)
  unfolding outcome_of
  walks keeps standing budget due =
      let r : Walked = walk_from w mv (most_decisions mv) start in
      let a : Agrees r (cut_from w mv (most_decisions mv) [] start) (trees_below (most_decisions mv) start) = walk-agrees (most_decisions mv) [] start refl refl in
      let found : r.found ≡ first_allowed w mv = a.found ∙ ap (λ steps. option_map led (find (reaches w mv) steps)) (sym (all_visits-cut w mv)) ∙ sym (first_is_visited w mv keeps standing due) in
      let visits : r.visits ≡ visits_of w mv = a.visits ∙ ap (count_to (reaches w mv)) (sym (all_visits-cut w mv)) in
      sym ((λ i. cond (nat_lt budget (visits i)) (Spent budget) (told_by r.found r))
      ∙ ap (cond (nat_lt budget (visits_of w mv)) (Spent budget))
      (same-answer r (visits_of w mv) (first_allowed w mv) found visits (λ none. ap (λ ts. split (trees_of ts)) (a.trees_are (found ∙ none)) ∙ sym (refutation-trees (most_decisions mv) start))))

-- a move that takes nothing is found at once
taking-nothing : (w : World) (mv : Move) (budget : ℕ) → outcome_of w (record { student = mv.student; give = mv.give; take = [] }) budget ≡ walked_outcome budget (found_after 0 [])
unfolding outcome_of
taking-nothing w mv budget = refl

due : (want : Want) (wants : List Want) → nat_le (length (want ∷ wants)) 0 ≡ false
due want wants = grind (arith, nat_tests)

pub walks-answer : (w : World) (mv : Move) (budget : ℕ) → WorldKeeps w → MoveStands w mv → outcome_of w mv budget ≡ walked_outcome budget (walk_of w mv)
walks-answer w mv budget keeps standing = by_take mv.take refl
  where
    by_take : (take : List Want) → mv.take ≡ take → outcome_of w mv budget ≡ walked_outcome budget (walk_of w mv)
    by_take [] e =
        ap (λ t. outcome_of w (record { student = mv.student; give = mv.give; take = t }) budget) e
        ∙ taking-nothing w mv budget
        ∙ ap (λ t. walked_outcome budget (walk_of w (record { student = mv.student; give = mv.give; take = t }))) (sym e)
    by_take (want ∷ wants) e =
        let open_start : is_complete mv start ≡ false = ap (λ t. nat_le (length t) 0) e ∙ due want wants in
        walks w mv keeps standing budget open_start
        ∙ ap (λ b. walked_outcome budget (cond b (found_after 0 []) (walk_from w mv (most_decisions mv) start))) (sym open_start)
