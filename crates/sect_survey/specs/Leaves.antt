-- The leaves of refutation trees: broken rules, each with its number.
use Rattle.std.specs.Prelude.{ℕ, Bool, true, false, ◌&&◌, ◌==◌, List, [], ◌∷◌, ◌++◌}
use Rattle.std.specs.List.{list_any}
use Rattle.sect_base.specs.Tree.{Tree, Trees, broken, split, none, more, rule_number}
use Rattle.sect_base.specs.declared.rule.Rule.{Rule}
use Rattle.sect_base.specs.declared.rule.Rule.TheVariants.{SectionFull, SectionReserved}
use Rattle.sect_base.specs.declared.ids.SectionId.{SectionId}

abbrev mutual
  -- the leaves of a tree, in order
  pub leaves_of : Tree → List (Rule × ℕ)
  leaves_of (broken rule number) = (rule, number) ∷ []
  leaves_of (split ts) = leaves_below ts

  -- the leaves of the trees, in order
  pub leaves_below : Trees → List (Rule × ℕ)
  leaves_below none = []
  leaves_below (more t ts) = leaves_of t ++ leaves_below ts

-- the leaf is of the rule
abbrev pub breaks : Rule → Rule × ℕ → Bool
breaks rule leaf = rule_number leaf.0 == rule_number rule

-- the rule says that a section has no place left, or that what is left in it is reserved for others
abbrev pub lacks_places : Rule → Bool
lacks_places SectionFull = true
lacks_places SectionReserved = true
lacks_places _ = false

-- the leaf wants a place in the section
abbrev pub leaf_wants : SectionId → Rule × ℕ → Bool
leaf_wants section leaf = lacks_places leaf.0 && leaf.1 == section.0

-- one of the leaves wants a place in the section
abbrev pub leaves_want : SectionId → List (Rule × ℕ) → Bool
leaves_want section leaves = list_any (leaf_wants section) leaves
