-- A refutation tree in words: a line for each decision, deeper by two spaces below the one before it.
use Rattle.std.specs.Prelude.{ℕ, zero, suc, ◌+◌, List, [], ◌∷◌, ◌++◌}
use Rattle.sect_base.specs.Tree.{Tree, Trees, broken, split, none, more}
use Rattle.sect_model.specs.Data.{Move}
use Rattle.sect_model.specs.declared.pick.Pick.{Pick}
use Rattle.sect_model.specs.Path.{Path, start, options_at, extend}
use Rattle.sect_model.specs.World.{World}
use Rattle.sect_explain.specs.Reason.{pick_text, reason_text}

-- two spaces for each decision before
unfoldable pub indent : ℕ → List ℕ
indent zero = []
indent (suc n) = 32 ∷ 32 ∷ indent n

-- what ends the line of a decision: the rule that it breaks, or nothing where others follow
abbrev pub verdict_text : World → Tree → List ℕ
verdict_text w (broken rule number) = reason_text w rule number
verdict_text w (split ts) = 10 ∷ []

-- the line of a decision
abbrev pub decision_line : World → ℕ → Pick → Tree → List ℕ
decision_line w depth pick tree = indent depth ++ (pick_text pick ++ verdict_text w tree)

abbrev mutual
  -- the decisions that follow a path, each with its tree
  pub explain_below : World → Move → Path → ℕ → Tree → List ℕ
  explain_below w mv p depth (broken rule number) = []
  explain_below w mv p depth (split ts) = explain_each w mv p depth (options_at w mv p) ts

  -- each option with its tree, and what follows it
  pub explain_each : World → Move → Path → ℕ → List Pick → Trees → List ℕ
  explain_each w mv p depth [] ts = []
  explain_each w mv p depth (pick ∷ picks) none = []
  explain_each w mv p depth (pick ∷ picks) (more t ts) =
      decision_line w depth pick t ++ (explain_below w mv (extend w p pick) (depth + 1) t ++ explain_each w mv p depth picks ts)

-- the tree that refutes a move, in words
abbrev pub explain_text : World → Move → Tree → List ℕ
explain_text w mv tree = explain_below w mv start 0 tree
