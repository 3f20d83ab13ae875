-- Options beside trees, place by place.
use Rattle.std.specs.Prelude.{◌≡◌, ℕ, zero, suc, ◌+◌, ◌-◌, ◌<◌, ◌≤◌, ◌++◌, List, [], ◌∷◌, length, Option, Some, None, slice_get, refl}
use Rattle.std.proofs.Common.{◌∙◌, ap, sym, arith, drop, get_or, append_assoc}
use Rattle.std.proofs.lemmas.List.{append-nil}
use Rattle.sect_base.specs.Tree.{Tree, split, none, trees_of}
use Rattle.sect_model.specs.Data.{Move}
use Rattle.sect_model.specs.declared.pick.Pick.{Pick}
use Rattle.sect_model.specs.Path.{Path, options_at, extend}
use Rattle.sect_model.specs.World.{World}
use Rattle.sect_explain.specs.Explained.{decision_line, explain_below, explain_each, indent}

drop-some : {X : Type 0} (xs : List X) (i : ℕ) (x : X) → slice_get xs i ≡ Some x → drop i xs ≡ x ∷ drop (i + 1) xs
drop-some [] i x h = cc
drop-some (y ∷ ys) zero x h = ap (λ z. z ∷ ys) (some-same y x h)
  where
    some-same : {X : Type 0} (x y : X) → Some x ≡ Some y → x ≡ y
    some-same x y e = cc
drop-some (y ∷ ys) (suc i) x h = drop-some ys i x h ∙ (λ j. x ∷ drop (one_more j) (y ∷ ys))
  where
    one_more : suc (i + 1) ≡ suc i + 1
    one_more = omega arith

drop-past : {X : Type 0} (xs : List X) (i : ℕ) → slice_get xs i ≡ None → drop i xs ≡ []
drop-past [] zero h = refl
drop-past [] (suc i) h = refl
drop-past (y ∷ ys) zero h = cc
drop-past (y ∷ ys) (suc i) h = drop-past ys i h

drop-all : {X : Type 0} (xs : List X) (i : ℕ) → length xs ≤ i → drop i xs ≡ []
drop-all [] zero h = refl
drop-all [] (suc i) h = refl
drop-all (y ∷ ys) zero h = absurd (omega (arith, h))
drop-all (y ∷ ys) (suc i) h = drop-all ys i (omega (arith, h))

module _ (w : World) (mv : Move) (p : Path) (depth : ℕ) (options : List Pick) (trees : List Tree) where
  -- from a place on
  abbrev pub from : ℕ → List ℕ
  from at = explain_each w mv p depth (drop at options) (trees_of (drop at trees))

  from-one : (at : ℕ) (pick : Pick) (tree : Tree) → slice_get options at ≡ Some pick → slice_get trees at ≡ Some tree
      → from at ≡ decision_line w depth pick tree ++ (explain_below w mv (extend w p pick) (depth + 1) tree ++ from (at + 1))
  from-one at pick tree h k = λ i. explain_each w mv p depth (drop-some options at pick h i) (trees_of (drop-some trees at tree k i))

  -- an option more
  pub one-more : (at : ℕ) (pick : Pick) (tree : Tree) (q : Path) (before now line new : List ℕ) (below : ℕ) → slice_get options at ≡ Some pick → slice_get trees at ≡ Some tree
      → now ++ from at ≡ before → line ≡ now ++ decision_line w depth pick tree → below ≡ depth + 1 → q ≡ extend w p pick
      → new ≡ line ++ explain_below w mv q below tree → new ++ from (at + 1) ≡ before
  one-more at pick tree q before now line new below h k whole first deeper there second =
      ap (λ xs. xs ++ from (at + 1)) (second ∙ (λ i. first i ++ explain_below w mv (there i) (deeper i) tree))
      ∙ append_assoc (now ++ decision_line w depth pick tree) (explain_below w mv (extend w p pick) (depth + 1) tree) (from (at + 1))
      ∙ append_assoc now (decision_line w depth pick tree) (explain_below w mv (extend w p pick) (depth + 1) tree ++ from (at + 1))
      ∙ ap (λ xs. now ++ xs) (sym (from-one at pick tree h k))
      ∙ whole

  no-option : (at : ℕ) → slice_get options at ≡ None → from at ≡ []
  no-option at h = λ i. explain_each w mv p depth (drop-past options at h i) (trees_of (drop at trees))

  no-tree : (at : ℕ) → length trees ≤ at → from at ≡ []
  no-tree at h = (λ i. explain_each w mv p depth (drop at options) (trees_of (drop-all trees at h i))) ∙ none-each (drop at options)
    where
      none-each : (picks : List Pick) → explain_each w mv p depth picks none ≡ []
      none-each [] = refl
      none-each (pick ∷ picks) = refl

  -- nothing is left
  whole-at : (at : ℕ) (now before : List ℕ) → from at ≡ [] → now ++ from at ≡ before → now ≡ before
  whole-at at now before e whole = sym (append-nil now) ∙ ap (λ xs. now ++ xs) (sym e) ∙ whole

  pub without-option : (at : ℕ) (now before : List ℕ) → slice_get options at ≡ None → now ++ from at ≡ before → now ≡ before
  without-option at now before h whole = whole-at at now before (no-option at h) whole

  pub without-tree : (at : ℕ) (now before : List ℕ) → length trees ≤ at → now ++ from at ≡ before → now ≡ before
  without-tree at now before h whole = whole-at at now before (no-tree at h) whole

-- a split is explained by its trees
pub explain-split : (w : World) (mv : Move) (p : Path) (depth : ℕ) (trees : List Tree) (tree : Tree) (before : List ℕ) → split (trees_of trees) ≡ tree
    → before ++ explain_each w mv p depth (options_at w mv p) (trees_of trees) ≡ before ++ explain_below w mv p depth tree
explain-split w mv p depth trees tree before e = ap (λ t. before ++ explain_below w mv p depth t) e

-- the element at a place
pub got : {X : Type 0} (xs : List X) (i : ℕ) (x : X) → i < length xs → get_or xs i x ≡ x → slice_get xs i ≡ Some x
got [] i x h e = absurd (omega arith)
got (y ∷ ys) zero x h e = ap Some e
got (y ∷ ys) (suc i) x h e = got ys i x (omega arith) e

-- two spaces more
pub indent-more : (left : ℕ) (now new rest : List ℕ) → 0 < left → new ≡ now ++ 32 ∷ 32 ∷ [] → now ++ indent left ≡ rest → new ++ indent (left - 1) ≡ rest
unfolding indent
indent-more left now new rest h printed whole =
    let e : left ≡ suc (left - 1) = omega (arith, h) in
    ap (λ xs. xs ++ indent (left - 1)) printed
    ∙ append_assoc now (32 ∷ 32 ∷ []) (indent (left - 1))
    ∙ ap (λ n. now ++ indent n) (sym e)
    ∙ whole

-- no space is left
pub indent-none : (left : ℕ) (now rest : List ℕ) → left ≤ 0 → now ++ indent left ≡ rest → now ≡ rest
unfolding indent
indent-none left now rest h whole =
    let e : left ≡ 0 = omega (arith, h) in
    sym (append-nil now) ∙ ap (λ n. now ++ indent n) (sym e) ∙ whole
