-- How many leaves and splits a tree has, and how large the tree of a blocked search is.
use Rattle.std.specs.Prelude.{◌≡◌, ℕ, ◌+◌}
use Rattle.sect_base.specs.Tree.{Tree, Trees, broken, split, none, more}
use Rattle.sect_model.specs.Data.{Move}
use Rattle.sect_model.specs.declared.pick.Outcome.TheVariants.{Blocked}
use Rattle.sect_model.specs.World.{World}
use Rattle.sect_model.specs.Outcome.{outcome_of}
use Rattle.sect_model.specs.Premises.{WorldKeeps}
use Rattle.sect_model.specs.Stands.{MoveStands}

abbrev mutual
  -- the number of leaves and splits of a tree
  pub nodes_of : Tree → ℕ
  nodes_of (broken rule number) = 1
  nodes_of (split ts) = nodes_in ts + 1

  -- the number of leaves and splits of the trees
  pub nodes_in : Trees → ℕ
  nodes_in none = 0
  nodes_in (more t ts) = nodes_of t + nodes_in ts

-- the tree of a blocked search has a node for each visit, and its root
abbrev pub BlockedIsSmall : Type 0
BlockedIsSmall =
    (w : World) (mv : Move) (budget visits : ℕ) (tree : Tree) → WorldKeeps w → MoveStands w mv
    → outcome_of w mv budget ≡ Blocked tree visits → nodes_of tree ≡ visits + 1
