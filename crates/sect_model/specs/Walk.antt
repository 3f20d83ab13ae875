-- A search as a walk: one option after another, going on below a decision only where no rule is broken.
use Rattle.std.specs.Prelude.{ℕ, zero, suc, ◌+◌, Bool, true, false, nat_lt, cond, List, [], ◌∷◌, Option, Some, None}
use Rattle.sect_base.specs.Tree.{Tree, broken, split, trees_of}
use Rattle.sect_model.specs.Data.{Move, Pick, Choice, Outcome, Rule}
use Rattle.sect_model.specs.declared.pick.Outcome.TheVariants.{Found, Blocked, Spent}
use Rattle.sect_model.specs.World.{World}
use Rattle.sect_model.specs.Path.{Path, start, options_at, extend, is_complete}
use Rattle.sect_model.specs.Rules.{leaf_of}
use Rattle.sect_model.specs.Visits.{most_decisions}

-- what was found, or else the trees of the options in order; and the number of visits
pub record Walked : Type 0 where
  pub found : Option (List Choice)
  pub trees : List Tree
  pub visits : ℕ

-- an option that leads nowhere, with its tree and the visits that it took, and what comes behind it
abbrev pub behind : Tree → ℕ → Walked → Walked
behind tree n later = record { found = later.found; trees = tree ∷ later.trees; visits = n + later.visits }

-- the choices are found after so many visits
abbrev pub found_after : ℕ → List Choice → Walked
found_after n choices = record { found = Some choices; trees = []; visits = n }

-- what was found below an option, or else what comes behind it
abbrev pub below_or : Option (List Choice) → Walked → Walked → Walked
below_or (Some choices) r later = found_after (r.visits + 1) choices
below_or None r later = behind (split (trees_of r.trees)) (r.visits + 1) later

-- an option that breaks no rule: the path is complete, or it goes on below
abbrev pub go_on : Bool → List Choice → Walked → Walked → Walked
go_on true done r later = found_after 1 done
go_on false done r later = below_or r.found r later

-- an option that breaks a rule leads nowhere
abbrev pub by_leaf : Option (Rule × ℕ) → Bool → List Choice → Walked → Walked → Walked
by_leaf (Some leaf) whole done r later = behind (broken leaf.0 leaf.1) 1 later
by_leaf None whole done r later = go_on whole done r later

-- the options of a path in turn
abbrev pub walk_options : World → Move → (Path → Walked) → Path → List Pick → Walked
walk_options w mv rest p [] = record { found = None; trees = []; visits = 0 }
walk_options w mv rest p (pick ∷ picks) =
    by_leaf (leaf_of w mv p pick) (is_complete mv (extend w p pick)) (extend w p pick).done (rest (extend w p pick)) (walk_options w mv rest p picks)

-- the walk below a path, of at most so many decisions
abbrev pub walk_from : World → Move → ℕ → Path → Walked
walk_from w mv zero p = record { found = None; trees = []; visits = 0 }
walk_from w mv (suc n) p = walk_options w mv (walk_from w mv n) p (options_at w mv p)

-- a move that takes nothing is found at once
abbrev pub walk_of : World → Move → Walked
walk_of w mv = cond (is_complete mv start) (found_after 0 []) (walk_from w mv (most_decisions mv) start)

-- found, or blocked with the trees of the first options
abbrev pub told_by : Option (List Choice) → Walked → Outcome
told_by (Some choices) r = Found choices r.visits
told_by None r = Blocked (split (trees_of r.trees)) r.visits

-- spent where the walk takes more visits than the budget, else what it found
abbrev pub walked_outcome : ℕ → Walked → Outcome
walked_outcome budget r = cond (nat_lt budget r.visits) (Spent budget) (told_by r.found r)
