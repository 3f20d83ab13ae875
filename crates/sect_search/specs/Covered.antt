-- Trees that cover what follows a path.
use Rattle.std.specs.Prelude.{Bool, not, ◌&&◌, List}
use Rattle.sect_base.specs.Tree.{Tree, trees_of}
use Rattle.sect_model.specs.Data.{Move}
use Rattle.sect_model.specs.declared.pick.Pick.{Pick}
use Rattle.sect_model.specs.World.{World}
use Rattle.sect_model.specs.Covers.{cover_each}
use Rattle.sect_model.specs.Path.{Path, options_at, extend, is_complete}
use Rattle.sect_rules.specs.Place.{Place}

-- the path isn't complete, and each of its options has its tree
abbrev pub covered : World → Move → Path → List Tree → Bool
covered w mv p trees = not (is_complete mv p) && cover_each w mv p (options_at w mv p) (trees_of trees)

-- so it is behind an option
abbrev pub covered_behind : Place → Pick → List Tree → Bool
covered_behind at pick trees = covered at.world at.mv (extend at.world at.path pick) trees
