-- What the parts of a search tell, with what is left of the budget.
use Rattle.std.specs.Prelude.{◌≡◌, ◌≤◌, ◌<◌, ℕ, zero, suc, cond, List, [], ◌∷◌, ◌++◌, length, take, drop, Option, Some, None}
use Rattle.sect_model.specs.Data.{Choice, Move, Rule}
use Rattle.sect_model.specs.declared.pick.Pick.{Pick}
use Rattle.sect_model.specs.Path.{Path, extend, is_complete}
use Rattle.sect_model.specs.Search.{Searched, found, refuted, spent, behind_tree, search_options, search_from}
use Rattle.sect_model.specs.World.{World}
use Rattle.sect_rules.specs.Place.{Place}
use Rattle.sect_base.specs.Tree.{Tree, broken, split, trees_of}
use Rattle.sect_model.specs.declared.pick.Outcome.{Outcome}
use Rattle.sect_model.specs.declared.pick.Outcome.TheVariants.{Found as found_move, Blocked, Spent as spent_budget}
use Rattle.sect_search.specs.Texts.{HasNumbers, HaveNumbers}
use Rattle.sect_search.specs.declared.searched.Searched.{Searched as Found}
use Rattle.sect_search.specs.declared.searched.Searched.TheVariants.{Found as found_at, Refuted as refuted_at, Spent as spent_at}

-- the trees on the stack over those that lay there before
abbrev pub own : List Tree → List Tree → List Tree
own before after = drop (length before) after

-- what a look or a search tells, with choices, trees and what is left of the budget
abbrev pub told : Found → List Choice → List Tree → ℕ → Searched
told found_at choices trees left = found choices left
told refuted_at choices trees left = refuted trees left
told spent_at choices trees left = spent

-- what follows a path, with at most so many decisions more
abbrev pub go_from : World → Move → Path → ℕ → ℕ → Searched
go_from w mv p n left = cond (is_complete mv p) (found p.done left) (search_from w mv n p left)

-- what follows an option that breaks no rule
abbrev pub behind : Place → Pick → ℕ → ℕ → Searched
behind at pick n left = go_from at.world at.mv (extend at.world at.path pick) n left

-- the search of one option alone, with at most so many decisions behind it
abbrev pub visited : Place → Pick → ℕ → ℕ → Searched
visited at pick n left = search_options at.world at.mv (search_from at.world at.mv n) at.path (pick ∷ []) left

-- what a look at an option by itself comes to, if it breaks this rule or none: nothing was left of the budget, or it is refuted
abbrev pub itself : Option (Rule × ℕ) → ℕ → Option Found
itself leaf zero = Some spent_at
itself None (suc left) = None
itself (Some rule) (suc left) = Some refuted_at

-- the tree that the look leaves, if any
abbrev pub its_trees : Option (Rule × ℕ) → ℕ → List Tree
its_trees leaf zero = []
its_trees None (suc left) = []
its_trees (Some rule) (suc left) = broken rule.0 rule.1 ∷ []

-- where all that followed an option is refuted, its trees from a place on are put into one
abbrev pub closed_trees : ℕ → List Tree → Found → List Tree
closed_trees base trees found_at = trees
closed_trees base trees refuted_at = take base trees ++ split (trees_of (drop base trees)) ∷ []
closed_trees base trees spent_at = trees

-- where all that followed an option is refuted, so many trees lie on the stack
abbrev pub HasBase : ℕ → List Tree → Found → Type 0
HasBase base trees found_at = Unit {0}
HasBase base trees refuted_at = base ≤ length trees
HasBase base trees spent_at = Unit {0}

-- with the trees of the options in front
abbrev pub with_trees : List Tree → Searched → Searched
with_trees [] r = r
with_trees (tree ∷ trees) r = behind_tree tree (with_trees trees r)

-- where an option is refuted, those behind it follow
abbrev pub then_later : (ℕ → Searched) → Searched → Searched
then_later later (found choices left) = found choices left
then_later later (refuted trees left) = with_trees trees (later left)
then_later later spent = spent

-- each number of the trees has 32 bits, where all that was looked at is refuted
abbrev pub ToldNumbers : List Tree → Found → Type 0
ToldNumbers trees found_at = Unit {0}
ToldNumbers trees refuted_at = HaveNumbers (trees_of trees)
ToldNumbers trees spent_at = Unit {0}

-- where all that was looked at is refuted, the trees that lay on the stack before lie there still
abbrev pub LeavesTrees : List Tree → List Tree → Found → Type 0
LeavesTrees before after found_at = Unit {0}
LeavesTrees before after refuted_at = take (length before) after ≡ before
LeavesTrees before after spent_at = Unit {0}

-- where all that was looked at is refuted, some of the budget was taken
abbrev pub TakesSome : ℕ → ℕ → Found → Type 0
TakesSome old new found_at = Unit {0}
TakesSome old new refuted_at = new < old
TakesSome old new spent_at = Unit {0}

-- what a look at an option tells of its search, from the stack and the budget before it
pub record Tells (search : ℕ → Searched) (before : List Tree) (old : ℕ) (choices : List Choice) (after : List Tree) (new : ℕ) (r : Found) : Type 0 where
  pub same : told r choices (own before after) new ≡ search old
  pub numbers : ToldNumbers (own before after) r
  pub kept : LeavesTrees before after r
  pub taken : TakesSome old new r

-- each number of the tree has 32 bits, where there is one
abbrev pub OutcomeNumbers : Outcome → Type 0
OutcomeNumbers (found_move choices visits) = Unit {0}
OutcomeNumbers (Blocked tree visits) = HasNumbers tree
OutcomeNumbers (spent_budget visits) = Unit {0}
