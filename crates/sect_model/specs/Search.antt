-- A search with a budget, step by step: each option that is looked at takes one from what is left of it.
use Rattle.std.specs.Prelude.{ℕ, zero, suc, ◌-◌, Bool, true, false, cond, List, [], ◌∷◌, Option, Some, None}
use Rattle.sect_base.specs.Tree.{Tree, broken, split, trees_of}
use Rattle.sect_model.specs.Data.{Move, Pick, Choice, Outcome, Rule}
use Rattle.sect_model.specs.declared.pick.Outcome.TheVariants.{Found, Blocked, Spent}
use Rattle.sect_model.specs.World.{World}
use Rattle.sect_model.specs.Path.{Path, start, options_at, extend, is_complete}
use Rattle.sect_model.specs.Rules.{leaf_of}
use Rattle.sect_model.specs.Visits.{most_decisions}

-- choices with what is left of the budget, or the trees of the options with it, or the budget was spent
pub data Searched : Type 0 where
  found : List Choice → ℕ → Searched
  refuted : List Tree → ℕ → Searched
  spent : Searched

-- with the tree of an earlier option
abbrev pub behind_tree : Tree → Searched → Searched
behind_tree tree (found choices left) = found choices left
behind_tree tree (refuted trees left) = refuted (tree ∷ trees) left
behind_tree tree spent = spent

-- where an option is refuted, those behind it follow
abbrev pub or_later : (ℕ → Searched) → Searched → Searched
or_later later (found choices left) = found choices left
or_later later (refuted trees left) = behind_tree (split (trees_of trees)) (later left)
or_later later spent = spent

-- an option: it breaks a rule, or completes the path, or the search goes on below it
abbrev pub search_pick : Option (Rule × ℕ) → Bool → List Choice → (ℕ → Searched) → (ℕ → Searched) → ℕ → Searched
search_pick (Some leaf) whole done inner later left = behind_tree (broken leaf.0 leaf.1) (later left)
search_pick None true done inner later left = found done left
search_pick None false done inner later left = or_later later (inner left)

-- the options of a path in turn, while something is left of the budget
abbrev pub search_options : World → Move → (Path → ℕ → Searched) → Path → List Pick → ℕ → Searched
search_options w mv rest p [] left = refuted [] left
search_options w mv rest p (pick ∷ picks) zero = spent
search_options w mv rest p (pick ∷ picks) (suc left) =
    search_pick (leaf_of w mv p pick) (is_complete mv (extend w p pick)) (extend w p pick).done (rest (extend w p pick)) (search_options w mv rest p picks) left

-- the search below a path, of at most so many decisions
abbrev pub search_from : World → Move → ℕ → Path → ℕ → Searched
search_from w mv zero p left = refuted [] left
search_from w mv (suc n) p left = search_options w mv (search_from w mv n) p (options_at w mv p) left

-- a move that takes nothing is found at once
abbrev pub search_of : World → Move → ℕ → Searched
search_of w mv budget = cond (is_complete mv start) (found [] budget) (search_from w mv (most_decisions mv) start budget)

-- the answer, with what was taken from the budget as the number of visits
abbrev pub searched_outcome : ℕ → Searched → Outcome
searched_outcome budget (found choices left) = Found choices (budget - left)
searched_outcome budget (refuted trees left) = Blocked (split (trees_of trees)) (budget - left)
searched_outcome budget spent = Spent budget
