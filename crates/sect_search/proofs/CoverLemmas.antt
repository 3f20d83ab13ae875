-- Trees beside options, place by place.
use Rattle.std.specs.Prelude.{◌≡◌, ℕ, zero, suc, ◌+◌, ◌<◌, ◌≤◌, Bool, false, ◌&&◌, ◌==◌, List, [], ◌∷◌, length, Option, Some, None, slice_get, option_copied, IfSome, refl}
use Rattle.std.specs.Borrow.{Bor}
use Rattle.std.proofs.Common.{sym, ◌∙◌, ap, arith, drop}
use Rattle.std.proofs.lemmas.Bool.Decides.{nat_tests}
use Rattle.sect_base.specs.Tree.{Tree, trees_of, size_of, sizes_of}
use Rattle.sect_model.specs.Data.{Move}
use Rattle.sect_model.specs.declared.pick.Pick.{Pick}
use Rattle.sect_model.specs.World.{World}
use Rattle.sect_model.specs.Path.{Path}
use Rattle.sect_model.specs.Covers.{covers_with, cover_each}
use Rattle.sect_search.proofs.WalkLemmas.{drop-option, drop-none}

-- a tree is smaller than the trees in which it stands
pub size-got : (ts : List Tree) (i : ℕ) (t : Tree) → slice_get ts i ≡ Some t → size_of t < sizes_of (trees_of ts)
size-got [] i t h = cc
size-got (u ∷ us) zero t h = let same : size_of u ≡ size_of t = ap size_of (some-same u t h) in omega (arith, same)
  where
    some-same : {X : Type 0} (x y : X) → Some x ≡ Some y → x ≡ y
    some-same x y e = cc
size-got (u ∷ us) (suc i) t h = omega (arith, size-got us i t h)

pub size-at : (ts : List Tree) (i : ℕ) (o : Option (Bor Tree)) → option_copied o ≡ slice_get ts i → IfSome o (λ t. size_of t.now < sizes_of (trees_of ts))
size-at ts i None e = tt
size-at ts i (Some t) e = size-got ts i t.now (sym e)

module _ (w : World) (mv : Move) (p : Path) (options : List Pick) (trees : List Tree) where
  -- from a place on
  abbrev pub from : ℕ → Bool
  from at = cover_each w mv p (drop at options) (trees_of (drop at trees))

  pub cover-none : (at : ℕ) (pick : Pick) → slice_get options at ≡ Some pick → slice_get trees at ≡ None → from at ≡ false
  cover-none at pick h k = (λ i. cover_each w mv p (drop-option options at pick h i) (trees_of (drop-none trees at k i)))

  pub cover-one : (at : ℕ) (pick : Pick) (tree : Tree) → slice_get options at ≡ Some pick → slice_get trees at ≡ Some tree → from at ≡ covers_with w mv p pick tree && from (at + 1)
  cover-one at pick tree h k = (λ i. cover_each w mv p (drop-option options at pick h i) (trees_of (drop-option trees at tree k i)))

  pub cover-end : (at : ℕ) → slice_get options at ≡ None → at ≤ length trees → from at ≡ at == length trees
  cover-end at h k = (λ i. cover_each w mv p (drop-none options at h i) (trees_of (drop at trees))) ∙ rest trees at k
    where
      both-more : (m n : ℕ) → m == n ≡ suc m == suc n
      both-more m n = grind (arith, nat_tests)

      none_is : (n : ℕ) → false ≡ 0 == suc n
      none_is n = grind (arith, nat_tests)

      rest : (ts : List Tree) (at : ℕ) → at ≤ length ts → cover_each w mv p [] (trees_of (drop at ts)) ≡ at == length ts
      rest [] zero k = refl
      rest [] (suc at) k = absurd (omega (arith, k))
      rest (t ∷ ts) zero k = none_is (length ts)
      rest (t ∷ ts) (suc at) k = rest ts at (omega (arith, k)) ∙ both-more at (length ts)
