-- What is left of a path: the decisions for the next want, as a path of a move that takes this want alone, in the world that has
-- the choices done.
use Rattle.std.specs.Prelude.{◌≡◌, List, [], ◌++◌, Some}
use Rattle.sect_model.specs.Data.{Choice, Want, Move, Pick}
use Rattle.sect_model.specs.World.{World}
use Rattle.sect_model.specs.Path.{Path, want_at, options_at, extend}
use Rattle.sect_model.specs.Rules.{world_at, leaf_of}
use Rattle.sect_model.specs.Step.{enrol_move}

-- the path without the choices that are complete
abbrev pub rest_path : Path → Path
rest_path p = record p { done = [] }

-- the path with choices in front
abbrev pub in_front : List Choice → Path → Path
in_front choices p = record p { done = choices ++ p.done }

-- a decision breaks the same rule at the rest of a path
abbrev pub RestIsPath : Type 0
RestIsPath =
    (w : World) (mv : Move) (want : Want) (p : Path) (pick : Pick) → want_at mv p ≡ Some want
    → leaf_of w mv p pick ≡ leaf_of (world_at w mv p) (enrol_move mv.student want) (rest_path p) pick

-- the rest of a path has the same options
abbrev pub RestHasOptions : Type 0
RestHasOptions =
    (w : World) (mv : Move) (want : Want) (p : Path) → want_at mv p ≡ Some want
    → options_at w mv p ≡ options_at (world_at w mv p) (enrol_move mv.student want) (rest_path p)

-- the path with one decision more is the rest with it, behind the choices done
abbrev pub RestExtends : Type 0
RestExtends =
    (w : World) (mv : Move) (p : Path) (pick : Pick) → extend w p pick ≡ in_front p.done (extend (world_at w mv p) (rest_path p) pick)
