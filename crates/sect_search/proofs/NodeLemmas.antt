-- Each visit of a search makes a node of the tree.
use Rattle.std.specs.Prelude.{◌≡◌, ℕ, zero, suc, ◌+◌, Bool, true, false, nat_lt, cond, List, [], ◌∷◌, Option, Some, None, refl}
use Rattle.std.proofs.Common.{sym, ◌∙◌, ap}
use Rattle.sect_base.specs.Tree.{Tree, broken, split, trees_of}
use Rattle.sect_model.specs.Data.{Move, Choice, Rule}
use Rattle.sect_model.specs.declared.pick.Pick.{Pick}
use Rattle.sect_model.specs.declared.pick.Outcome.TheVariants.{Blocked, Spent}
use Rattle.sect_model.specs.World.{World}
use Rattle.sect_model.specs.Path.{Path, start, options_at, extend, is_complete}
use Rattle.sect_model.specs.Rules.{leaf_of}
use Rattle.sect_model.specs.Visits.{most_decisions}
use Rattle.sect_model.specs.Walk.{Walked, behind, found_after, below_or, go_on, by_leaf, walk_options, walk_from, walk_of, told_by}
use Rattle.sect_model.proofs.WalkLemmas.{walks-answer}
use Rattle.sect_search.specs.Nodes.{nodes_of, nodes_in, BlockedIsSmall}

-- where nothing was found, the trees have a node for each visit
abbrev Even : Walked → Type 0
Even r = r.found ≡ None → nodes_in (trees_of r.trees) ≡ r.visits

even-behind : (tree : Tree) (n : ℕ) (later : Walked) → nodes_of tree ≡ n → Even later → Even (behind tree n later)
even-behind tree n later e even none = (λ i. e i + even none i)

even-below : (o : Option (List Choice)) (r later : Walked) → (o ≡ None → nodes_in (trees_of r.trees) ≡ r.visits) → Even later → Even (below_or o r later)
even-below (Some choices) r later h even = λ none. cc
even-below None r later h even = even-behind (split (trees_of r.trees)) (r.visits + 1) later (ap (λ n. n + 1) (h refl)) even

even-on : (whole : Bool) (done : List Choice) (r later : Walked) → Even r → Even later → Even (go_on whole done r later)
even-on true done r later h even = λ none. cc
even-on false done r later h even = even-below r.found r later h even

even-leaf : (leaf : Option (Rule × ℕ)) (whole : Bool) (done : List Choice) (r later : Walked) → Even r → Even later → Even (by_leaf leaf whole done r later)
even-leaf (Some leaf) whole done r later h even = even-behind (broken leaf.0 leaf.1) 1 later refl even
even-leaf None whole done r later h even = even-on whole done r later h even

even-options : (w : World) (mv : Move) (rest : Path → Walked) → ((p : Path) → Even (rest p)) → (p : Path) (picks : List Pick) → Even (walk_options w mv rest p picks)
even-options w mv rest h p [] = λ none. refl
even-options w mv rest h p (pick ∷ picks) =
    even-leaf (leaf_of w mv p pick) (is_complete mv (extend w p pick)) (extend w p pick).done (rest (extend w p pick)) (walk_options w mv rest p picks)
    (h (extend w p pick)) (even-options w mv rest h p picks)

even-from : (w : World) (mv : Move) (n : ℕ) (p : Path) → Even (walk_from w mv n p)
even-from w mv zero p = λ none. refl
even-from w mv (suc n) p = even-options w mv (walk_from w mv n) (even-from w mv n) p (options_at w mv p)

even-of : (w : World) (mv : Move) → Even (walk_of w mv)
even-of w mv = by_test (is_complete mv start)
  where
    by_test : (b : Bool) → Even (cond b (found_after 0 []) (walk_from w mv (most_decisions mv) start))
    by_test true = λ none. cc
    by_test false = even-from w mv (most_decisions mv) start

same-blocked : (a b : Tree) (m n : ℕ) → Blocked a m ≡ Blocked b n → (a ≡ b) × (m ≡ n)
same-blocked a b m n e = (cc, cc)

told : (o : Option (List Choice)) (r : Walked) (tree : Tree) (visits : ℕ) → (o ≡ None → nodes_in (trees_of r.trees) ≡ r.visits) → told_by o r ≡ Blocked tree visits → nodes_of tree ≡ visits + 1
told (Some choices) r tree visits h e = cc
told None r tree visits h e =
    let same = same-blocked (split (trees_of r.trees)) tree r.visits visits e in
    ap nodes_of (sym same.0) ∙ ap (λ n. n + 1) (h refl ∙ same.1)

pub blocked-is-small : BlockedIsSmall
blocked-is-small w mv budget visits tree keeps standing e = by_test (nat_lt budget (walk_of w mv).visits) (sym (walks-answer w mv budget keeps standing) ∙ e)
  where
    by_test : (b : Bool) → cond b (Spent budget) (told_by (walk_of w mv).found (walk_of w mv)) ≡ Blocked tree visits → nodes_of tree ≡ visits + 1
    by_test true e = cc
    by_test false e = told (walk_of w mv).found (walk_of w mv) tree visits (even-of w mv) e
