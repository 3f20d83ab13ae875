-- A path is complete exactly where no want is left, and what a section leads to.
use Rattle.std.specs.Prelude.{◌≡◌, ℕ, zero, suc, ◌+◌, ◌<◌, ◌&&◌, not, Bool, true, false, nat_le, cond, List, [], ◌∷◌, ◌++◌, length, Option, Some, None, slice_get, Contains, IfSome, refl}
use Rattle.std.specs.Option.{option_map}
use Rattle.std.proofs.Common.{arith, sym, ◌∙◌}
use Rattle.std.proofs.lemmas.Bool.Decides.{nat_tests}
use Rattle.std.proofs.lemmas.Option.{slice_get_within}
use Rattle.sect_base.specs.Tree.{Tree, trees_of}
use Rattle.sect_model.specs.Data.{SectionId, Choice, Move, Want}
use Rattle.sect_model.specs.declared.pick.Pick.{Pick}
use Rattle.sect_model.specs.declared.pick.Pick.TheVariants.{Section}
use Rattle.sect_model.specs.World.{World}
use Rattle.sect_model.specs.Choice.{subparts_of}
use Rattle.sect_model.specs.Covers.{cover_each}
use Rattle.sect_model.specs.Path.{Path, options_at, want_at, extend, is_complete}
use Rattle.sect_model.specs.Search.{found, search_from}
use Rattle.sect_moment.specs.Completed.{opened, completed_by}
use Rattle.sect_rules.specs.Wanted.{Configured, config_path}
use Rattle.sect_moment.proofs.NthLemmas.{got-contained}
use Rattle.sect_moment.proofs.OwnLemmas.{done-few}
use Rattle.sect_search.specs.Covered.{covered}
use Rattle.sect_search.specs.Told.{go_from}

not_past : (m n : ℕ) → n < m → nat_le m n ≡ false
not_past m n h = grind (arith, nat_tests, h)

both-more : (m n : ℕ) → nat_le m n ≡ true → nat_le (suc m) (suc n) ≡ true
both-more m n h = grind (arith, nat_tests, h)

at_zero : (n : ℕ) → nat_le 0 n ≡ true
at_zero n = grind (arith, nat_tests)

-- where a want is left, the path isn't complete
pub open-want : (mv : Move) (p : Path) (want : Want) → want_at mv p ≡ Some want → is_complete mv p ≡ false
open-want mv p want h = not_past (length mv.take) (length p.done) (slice_get_within mv.take (length p.done) want h)

-- where fewer choices are made than it has wants, neither
pub open-left : (mv : Move) (p : Path) → length p.done < length mv.take → is_complete mv p ≡ false
open-left mv p h = not_past (length mv.take) (length p.done) h

-- where none is left, it is
pub whole-none : {X : Type 0} (xs : List X) (i : ℕ) → slice_get xs i ≡ None → nat_le (length xs) i ≡ true
whole-none [] i h = at_zero i
whole-none (x ∷ xs) zero h = cc
whole-none (x ∷ xs) (suc i) h = both-more (length xs) i (whole-none xs i h)

-- where there is an option, a want is left
pub open-option : (w : World) (mv : Move) (p : Path) (pick : Pick) → Contains (options_at w mv p) pick → is_complete mv p ≡ false
open-option w mv p pick h = not_past (length mv.take) (length p.done) (done-few w mv p pick h (length mv.take) (omega arith))

-- what stands at a place is one of the options
pub got-option : {X : Type 0} (pick : X → Pick) (options : List Pick) (i : ℕ) (r : Option X) → option_map pick r ≡ slice_get options i → IfSome r (λ x. Contains options (pick x))
got-option pick options i None e = tt
got-option pick options i (Some x) e = got-contained options i (Some (pick x)) e

one-longer : (done : List Choice) (choice : Choice) → length (done ++ choice ∷ []) ≡ length done + 1
one-longer [] choice = omega arith
one-longer (d ∷ ds) choice = let h = one-longer ds choice in omega (arith, h)

-- what is left behind one choice more
pub whole-after : (mv : Move) (done : List Choice) (choice : Choice) → slice_get mv.take (length done + 1) ≡ None → is_complete mv (opened (done ++ choice ∷ [])) ≡ true
whole-after mv done choice h = (λ i. nat_le (length mv.take) (one-longer done choice i)) ∙ whole-none mv.take (length done + 1) h

pub want-after : (mv : Move) (done : List Choice) (choice : Choice) (want : Want) → slice_get mv.take (length done + 1) ≡ Some want → want_at mv (opened (done ++ choice ∷ [])) ≡ Some want
want-after mv done choice want h = (λ i. slice_get mv.take (one-longer done choice i)) ∙ h

-- a path behind which nothing is left is found
pub whole-from : (w : World) (mv : Move) (done : List Choice) (choice : Choice) (n left : ℕ) → slice_get mv.take (length done + 1) ≡ None
    → found (done ++ choice ∷ []) left ≡ go_from w mv (opened (done ++ choice ∷ [])) n left
whole-from w mv done choice n left h =
    λ i. cond (sym (whole-after mv done choice h) i) (found (done ++ choice ∷ []) left) (search_from w mv n (opened (done ++ choice ∷ [])) left)

-- a path that isn't complete is followed by the search below it
pub went-on : (w : World) (mv : Move) (p : Path) (n left : ℕ) → is_complete mv p ≡ false → search_from w mv n p left ≡ go_from w mv p n left
went-on w mv p n left h = λ i. cond (sym h i) (found p.done left) (search_from w mv n p left)

-- what is said of a path that isn't complete
pub covered-open : (w : World) (mv : Move) (p : Path) (trees : List Tree) → is_complete mv p ≡ false → cover_each w mv p (options_at w mv p) (trees_of trees) ≡ covered w mv p trees
covered-open w mv p trees h = λ i. not (sym h i) && cover_each w mv p (options_at w mv p) (trees_of trees)

-- a section that isn't the last due leads to the next subpart
module _ (w : World) (v : Configured) (section : SectionId) where
  abbrev done : List Choice
  done = v.by.on.wanted.done

  abbrev made : Choice
  made = record { course = v.by.on.course; reservation = v.by.id; config = v.config; sections = v.sections ++ section ∷ [] }

  abbrev next : Configured
  next = record v { sections = v.sections ++ section ∷ [] }

  abbrev is-last : Bool
  is-last = nat_le (length (subparts_of w v.by.on.course v.config)) (length (v.sections ++ section ∷ []))

  pub goes : completed_by w (config_path v) section ≡ None → extend w (config_path v) (Section section) ≡ config_path next
  goes h = by_test is-last h
    where
      by_test : (b : Bool) → cond b (Some made) None ≡ None → cond b (opened (done ++ made ∷ [])) (config_path next) ≡ config_path next
      by_test true e = cc
      by_test false e = refl
