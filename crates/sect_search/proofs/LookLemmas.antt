-- What a look at one option tells, and what the options that were looked at tell together.
use Rattle.std.specs.Prelude.{◌≡◌, ◌≤◌, ◌<◌, ℕ, zero, suc, ◌+◌, ◌-◌, Bool, List, [], ◌∷◌, ◌++◌, Option, Some, None, slice_get, length, refl}
use Rattle.std.proofs.Common.{sym, ◌∙◌, ap, subst, arith, take}
use Rattle.sect_base.specs.Tree.{Tree, broken, split, trees_of}
use Rattle.sect_model.specs.Data.{Choice, Rule}
use Rattle.sect_model.specs.declared.pick.Pick.{Pick}
use Rattle.sect_model.specs.Path.{Path, options_at, extend, is_complete}
use Rattle.sect_model.specs.Rules.{leaf_of}
use Rattle.sect_model.specs.Search.{Searched, found, refuted, spent, or_later, search_pick, search_options, search_from}
use Rattle.sect_rules.specs.Place.{Place}
use Rattle.sect_search.specs.Texts.{HaveNumbers}
use Rattle.sect_search.specs.Told.{told, own, visited, behind, itself, its_trees, closed_trees, HasBase, ToldNumbers, LeavesTrees, Tells}
use Rattle.sect_search.specs.declared.searched.Searched.{Searched as Found}
use Rattle.sect_search.specs.declared.searched.Searched.TheVariants.{Found as found_at, Refuted as refuted_at, Spent as spent_at}
use Rattle.sect_search.proofs.WalkLemmas.{append-none, both-numbers, drop-front, take-front, own-both, kept-both, kept-room, search-some, from, from-none, from-found, from-spent, from-next, one-tree}

-- what lies over a stack with trees more
over : (before more after : List Tree) → after ≡ before ++ more → own before after ≡ more
over before more after e = ap (own before) e ∙ drop-front before more

under : (before more after : List Tree) → after ≡ before ++ more → take (length before) after ≡ before
under before more after e = ap (take (length before)) e ∙ take-front before more

-- the place up to which the stack stays
pub has-base : (base : ℕ) (stack after : List Tree) (r : Found) → base ≡ length stack → LeavesTrees stack after r → HasBase base after r
has-base base stack after found_at e h = tt
has-base base stack after refuted_at e h = subst (λ n. n ≤ length after) (sym e) (kept-room stack after h)
has-base base stack after spent_at e h = tt

-- an option
module _ (at : Place) (pick : Pick) (n : ℕ) where
  abbrev later : ℕ → Searched
  later left = refuted [] left

  abbrev leaf-at : Option (Rule × ℕ)
  leaf-at = leaf_of at.world at.mv at.path pick

  abbrev whole : Bool
  whole = is_complete at.mv (extend at.world at.path pick)

  abbrev done : List Choice
  done = (extend at.world at.path pick).done

  abbrev inner : ℕ → Searched
  inner = search_from at.world at.mv n (extend at.world at.path pick)

  -- it breaks a rule, or nothing was left of the budget
  pub tells-itself : (leaf : Option (Rule × ℕ)) (old new : ℕ) (before after : List Tree) (choices : List Choice) (r : Found)
      → leaf ≡ leaf-at → Some r ≡ itself leaf old → after ≡ before ++ its_trees leaf old → HaveNumbers (trees_of (its_trees leaf old)) → new ≡ old - 1
      → Tells (visited at pick n) before old choices after new r
  tells-itself leaf zero new before after choices found_at h e t k m = cc
  tells-itself leaf zero new before after choices refuted_at h e t k m = cc
  tells-itself leaf zero new before after choices spent_at h e t k m = record { same = refl; numbers = tt; kept = tt; taken = tt }
  tells-itself None (suc old) new before after choices r h e t k m = cc
  tells-itself (Some rule) (suc old) new before after choices found_at h e t k m = cc
  tells-itself (Some rule) (suc old) new before after choices spent_at h e t k m = cc
  tells-itself (Some rule) (suc old) new before after choices refuted_at h e t k m =
      let its = over before (broken rule.0 rule.1 ∷ []) after t in
      let left : new ≡ old = omega (arith, m) in record {
        same = (λ i. refuted (its i) (left i)) ∙ (λ i. search_pick (h i) whole done inner later old);
        numbers = subst (λ trees. HaveNumbers (trees_of trees)) (sym its) k;
        kept = under before (broken rule.0 rule.1 ∷ []) after t;
        taken = omega (arith, m);
      }

  -- what follows it, by itself
  alone : (left : ℕ) (x : Searched) → None ≡ leaf-at → x ≡ behind at pick n left → or_later later x ≡ visited at pick n (suc left)
  alone left x h e =
      ap (or_later later) e
      ∙ sym (one-tree whole done inner left)
      ∙ (λ i. search_pick (h i) whole done inner later left)

  shut : (left new : ℕ) (stack after closed : List Tree) (choices : List Choice) (r : Found)
      → None ≡ leaf-at → told r choices (own stack after) new ≡ behind at pick n left → ToldNumbers (own stack after) r → new ≤ left → LeavesTrees stack after r
      → closed ≡ closed_trees (length stack) after r → Tells (visited at pick n) stack (suc left) choices closed new r
  shut left new stack after closed choices found_at h e k m s c = record { same = alone left (found choices new) h e; numbers = tt; kept = tt; taken = tt }
  shut left new stack after closed choices spent_at h e k m s c = record { same = alone left spent h e; numbers = tt; kept = tt; taken = tt }
  shut left new stack after closed choices refuted_at h e k m s c =
      let tree = split (trees_of (own stack after)) in
      let put : closed ≡ stack ++ tree ∷ [] = c ∙ ap (λ trees. trees ++ tree ∷ []) s in
      let its = over stack (tree ∷ []) closed put in record {
        same = (λ i. refuted (its i) new) ∙ alone left (refuted (own stack after) new) h e;
        numbers = subst (λ trees. HaveNumbers (trees_of trees)) (sym its) (k, tt);
        kept = under stack (tree ∷ []) closed put;
        taken = omega (arith, m);
      }

  -- it breaks no rule, and what follows it was looked at
  pub tells-behind : (leaf : Option (Rule × ℕ)) (old left new base : ℕ) (before stack after closed : List Tree) (choices : List Choice) (r : Found)
      → leaf ≡ leaf-at → None ≡ itself leaf old → stack ≡ before ++ its_trees leaf old → left ≡ old - 1 → base ≡ length stack
      → told r choices (own stack after) new ≡ behind at pick n left → ToldNumbers (own stack after) r → new ≤ left → LeavesTrees stack after r
      → closed ≡ closed_trees base after r → Tells (visited at pick n) before old choices closed new r
  tells-behind leaf zero left new base before stack after closed choices r h o t l b e k m s c = cc
  tells-behind (Some rule) (suc old) left new base before stack after closed choices r h o t l b e k m s c = cc
  tells-behind None (suc old) left new base before stack after closed choices r h o t l b e k m s c =
      let same : left ≡ old = omega (arith, l) in
      subst (λ trees. Tells (visited at pick n) trees (suc old) choices closed new r) (t ∙ append-none before)
      (shut old new stack after closed choices r h (e ∙ ap (behind at pick n) same) k (omega (arith, m, same)) s (c ∙ (λ i. closed_trees (b i) after r)))

-- the options of a path, of which so many were looked at: those behind are searched with what is left of the budget, with the
-- trees of these in front, which lie on the stack over those that lay there before
pub record Passed (at : Place) (d : ℕ) (before : List Tree) (budget : ℕ) (stack : List Tree) (i left : ℕ) : Type 0 where
  pub same : search_options at.world at.mv (search_from at.world at.mv (d - 1)) at.path (options_at at.world at.mv at.path) budget
      ≡ from at.world at.mv (search_from at.world at.mv (d - 1)) at.path (options_at at.world at.mv at.path) (own before stack) i left
  pub less : i + left ≤ budget
  pub numbers : HaveNumbers (trees_of (own before stack))
  pub kept : take (length before) stack ≡ before

module _ {at : Place} {d : ℕ} {before : List Tree} {budget : ℕ} {stack : List Tree} {i left : ℕ} (passed : Passed at d before budget stack i left) where
  abbrev rest : Path → ℕ → Searched
  rest = search_from at.world at.mv (d - 1)

  abbrev options : List Pick
  options = options_at at.world at.mv at.path

  below : 0 < d → search_from at.world at.mv d at.path budget ≡ from at.world at.mv rest at.path options (own before stack) i left
  below some = search-some at.world at.mv d at.path budget some ∙ passed.same

  -- all are refuted
  pub passed-all : 0 < d → None ≡ slice_get options i → refuted (own before stack) left ≡ search_from at.world at.mv d at.path budget
  passed-all some h = sym (below some ∙ from-none at.world at.mv rest at.path options (own before stack) i left (sym h))

  module _ {pick : Pick} {choices : List Choice} {after : List Tree} {new : ℕ} {r : Found} (h : Some pick ≡ slice_get options i) (tells : Tells (visited at pick (d - 1)) stack left choices after new r) where
    abbrev told-as : (x : Found) → r ≡ x → Tells (visited at pick (d - 1)) stack left choices after new x
    told-as x e = subst (Tells (visited at pick (d - 1)) stack left choices after new) e tells

    -- one more is refuted
    pub passed-one : r ≡ refuted_at → Passed at d before budget after (i + 1) new
    passed-one e =
        let its = told-as refuted_at e in
        let more = own-both before stack after passed.kept its.kept in record {
          same = passed.same
              ∙ from-next at.world at.mv rest at.path options (own before stack) (own stack after) i left new pick (sym h) its.same
              ∙ (λ j. from at.world at.mv rest at.path options (sym more j) (i + 1) new);
          less = let taken = its.taken in let less = passed.less in omega (arith, less, taken);
          numbers = subst (λ trees. HaveNumbers (trees_of trees)) (sym more) (both-numbers (own before stack) (own stack after) passed.numbers its.numbers);
          kept = kept-both before stack after passed.kept its.kept;
        }

    -- a path is complete behind one, or the budget was spent
    pub passed-found : 0 < d → r ≡ found_at → found choices new ≡ search_from at.world at.mv d at.path budget
    passed-found some e = sym (below some ∙ from-found at.world at.mv rest at.path options (own before stack) i left new pick choices (sym h) (told-as found_at e).same)

    pub passed-spent : 0 < d → r ≡ spent_at → spent ≡ search_from at.world at.mv d at.path budget
    passed-spent some e = sym (below some ∙ from-spent at.world at.mv rest at.path options (own before stack) i left pick (sym h) (told-as spent_at e).same)
