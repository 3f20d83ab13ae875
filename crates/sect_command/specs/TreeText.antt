-- The text of a refutation tree: a leaf is RULE:NUMBER, and a split has its trees in brackets, joined by commas.
use Rattle.std.specs.Prelude.{ℕ, zero, suc, ◌<◌, ◌^◌, List, [], ◌∷◌, ◌++◌, decimal}
use Rattle.sect_base.specs.Tree.{Tree, Trees, broken, split, none, more, rule_number}

abbrev mutual
  -- `:` is 58, and `[` is 91
  pub tree_text : Tree → List ℕ
  tree_text (broken rule number) = decimal (rule_number rule) ++ 58 ∷ decimal number
  tree_text (split ts) = 91 ∷ inside_text ts

  -- what follows the bracket that opens, with the one that closes, `]`, which is 93
  pub inside_text : Trees → List ℕ
  inside_text none = 93 ∷ []
  inside_text (more t ts) = tree_text t ++ others_text ts

  -- what follows the first tree: each other one after a comma, which is 44, and the bracket that closes
  pub others_text : Trees → List ℕ
  others_text none = 93 ∷ []
  others_text (more t ts) = 44 ∷ tree_text t ++ others_text ts

abbrev mutual
  -- the tree has a text with at most so many brackets round a leaf: its numbers have 32 bits, and each split has a tree
  pub HasText : ℕ → Tree → Type 0
  HasText deep (broken rule number) = number < 2 ^ 32
  HasText zero (split ts) = ⊥
  HasText (suc deep) (split none) = ⊥
  HasText (suc deep) (split (more t ts)) = HasText deep t × HaveTexts deep ts

  pub HaveTexts : ℕ → Trees → Type 0
  HaveTexts deep none = Unit {0}
  HaveTexts deep (more t ts) = HasText deep t × HaveTexts deep ts
