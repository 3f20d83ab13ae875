-- That the tree of a blocked search has a text.
use Rattle.std.specs.Prelude.{◌≡◌, ℕ, ◌*◌, ◌<◌, ◌^◌, length, IsTrue}
use Rattle.sect_base.specs.Tree.{Tree, Trees, broken, split, none, more}
use Rattle.sect_command.specs.TreeText.{HasText}
use Rattle.sect_model.specs.Data.{Move}
use Rattle.sect_model.specs.declared.pick.Outcome.{Outcome}
use Rattle.sect_model.specs.declared.pick.Outcome.TheVariants.{Found, Blocked, Spent}
use Rattle.sect_model.specs.World.{World}
use Rattle.sect_model.specs.Covers.{covers}
use Rattle.sect_model.specs.Outcome.{outcome_of}
use Rattle.sect_model.specs.Premises.{WorldKeeps}
use Rattle.sect_model.specs.Stands.{MoveStands}

abbrev mutual
  -- each number of the tree has 32 bits
  pub HasNumbers : Tree → Type 0
  HasNumbers (broken rule number) = number < 2 ^ 32
  HasNumbers (split ts) = HaveNumbers ts

  -- each number of the trees has 32 bits
  pub HaveNumbers : Trees → Type 0
  HaveNumbers none = Unit {0}
  HaveNumbers (more t ts) = HasNumbers t × HaveNumbers ts

-- a tree that covers the path with no decision has at most nine brackets round a leaf for each want, and no split in it is empty
abbrev pub CoverHasText : Type 0
CoverHasText =
    (w : World) (mv : Move) (tree : Tree) → WorldKeeps w → MoveStands w mv → IsTrue (covers w mv tree) → HasNumbers tree
    → HasText (9 * length mv.take) tree

-- the tree of a blocked search has at most nine brackets round a leaf for each want, and no split in it is empty
abbrev pub BlockedHasText : Type 0
BlockedHasText =
    (w : World) (mv : Move) (budget visits : ℕ) (tree : Tree) → WorldKeeps w → MoveStands w mv
    → outcome_of w mv budget ≡ Blocked tree visits → HasNumbers tree → HasText (9 * length mv.take) tree

-- where the outcome is blocked, its tree has a text with at most so many brackets round a leaf
abbrev pub IsToldIn : ℕ → Outcome → Type 0
IsToldIn deep (Found choices visits) = Unit {0}
IsToldIn deep (Blocked tree visits) = HasText deep tree
IsToldIn deep (Spent visits) = Unit {0}

-- where the outcome is blocked, its tree has a text with at most 36 brackets round a leaf
abbrev pub IsTold : Outcome → Type 0
IsTold = IsToldIn 36
