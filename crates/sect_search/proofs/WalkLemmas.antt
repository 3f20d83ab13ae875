-- The options of a path taken in turn, with the trees of those in front.
use Rattle.std.specs.Prelude.{◌≡◌, ℕ, zero, suc, ◌+◌, ◌-◌, ◌<◌, Bool, true, false, cond, List, [], ◌∷◌, ◌++◌, Option, Some, None, slice_get, length, ◌≤◌, refl}
use Rattle.std.proofs.Common.{sym, ◌∙◌, ap, arith, take, drop}
use Rattle.sect_base.specs.Tree.{Tree, trees_of}
use Rattle.sect_model.specs.Data.{Choice, Move, Rule}
use Rattle.sect_model.specs.declared.pick.Pick.{Pick}
use Rattle.sect_model.specs.World.{World}
use Rattle.sect_model.specs.Path.{Path, options_at, extend, is_complete}
use Rattle.sect_model.specs.Rules.{leaf_of}
use Rattle.sect_model.specs.Search.{Searched, found, refuted, spent, behind_tree, or_later, search_pick, search_options, search_from}
use Rattle.sect_search.specs.Texts.{HaveNumbers}
use Rattle.sect_search.specs.Told.{with_trees, then_later}

-- with nothing behind
with-refuted : (ts us : List Tree) (left : ℕ) → with_trees ts (refuted us left) ≡ refuted (ts ++ us) left
with-refuted [] us left = refl
with-refuted (t ∷ ts) us left = ap (behind_tree t) (with-refuted ts us left)

with-found : (ts : List Tree) (choices : List Choice) (left : ℕ) → with_trees ts (found choices left) ≡ found choices left
with-found [] choices left = refl
with-found (t ∷ ts) choices left = ap (behind_tree t) (with-found ts choices left)

with-spent : (ts : List Tree) → with_trees ts spent ≡ spent
with-spent [] = refl
with-spent (t ∷ ts) = ap (behind_tree t) (with-spent ts)

-- trees more in front
with-both : (ts us : List Tree) (r : Searched) → with_trees (ts ++ us) r ≡ with_trees ts (with_trees us r)
with-both [] us r = refl
with-both (t ∷ ts) us r = ap (behind_tree t) (with-both ts us r)

or-later : (later : ℕ → Searched) (x : Searched) → or_later later x ≡ then_later later (or_later (λ left. refuted [] left) x)
or-later later (found choices left) = refl
or-later later (refuted trees left) = refl
or-later later spent = refl

-- an option by itself, and then those behind it
pick-later : (leaf : Option (Rule × ℕ)) (whole : Bool) (done : List Choice) (inner later : ℕ → Searched) (left : ℕ)
    → search_pick leaf whole done inner later left ≡ then_later later (search_pick leaf whole done inner (λ left. refuted [] left) left)
pick-later (Some leaf) whole done inner later left = refl
pick-later None true done inner later left = refl
pick-later None false done inner later left = or-later later (inner left)

-- the option at a place, and those behind it
pub drop-option : {X : Type 0} (xs : List X) (i : ℕ) (x : X) → slice_get xs i ≡ Some x → drop i xs ≡ x ∷ drop (i + 1) xs
drop-option [] i x h = cc
drop-option (y ∷ ys) zero x h = ap (λ z. z ∷ ys) (some-same y x h)
  where
    some-same : {X : Type 0} (x y : X) → Some x ≡ Some y → x ≡ y
    some-same x y e = cc
drop-option (y ∷ ys) (suc i) x h = drop-option ys i x h ∙ (λ j. x ∷ drop (one_more j) (y ∷ ys))
  where
    one_more : suc (i + 1) ≡ suc i + 1
    one_more = omega arith

pub drop-none : {X : Type 0} (xs : List X) (i : ℕ) → slice_get xs i ≡ None → drop i xs ≡ []
drop-none [] zero h = refl
drop-none [] (suc i) h = refl
drop-none (y ∷ ys) zero h = cc
drop-none (y ∷ ys) (suc i) h = drop-none ys i h

-- nothing behind
pub append-none : {X : Type 0} (xs : List X) → xs ++ [] ≡ xs
append-none [] = refl
append-none (x ∷ xs) = ap (λ ys. x ∷ ys) (append-none xs)

-- trees more behind
pub both-numbers : (ts us : List Tree) → HaveNumbers (trees_of ts) → HaveNumbers (trees_of us) → HaveNumbers (trees_of (ts ++ us))
both-numbers [] us h k = k
both-numbers (t ∷ ts) us h k = (h.0, both-numbers ts us h.1 k)

-- what lies over what lay on the stack before
module _ {X : Type 0} where
  front-back : (n : ℕ) (xs : List X) → xs ≡ take n xs ++ drop n xs
  front-back zero [] = refl
  front-back zero (x ∷ xs) = refl
  front-back (suc n) [] = refl
  front-back (suc n) (x ∷ xs) = ap (λ ys. x ∷ ys) (front-back n xs)

  pub drop-front : (xs ys : List X) → drop (length xs) (xs ++ ys) ≡ ys
  drop-front [] [] = refl
  drop-front [] (y ∷ ys) = refl
  drop-front (x ∷ xs) ys = drop-front xs ys

  pub take-front : (xs ys : List X) → take (length xs) (xs ++ ys) ≡ xs
  take-front [] [] = refl
  take-front [] (y ∷ ys) = refl
  take-front (x ∷ xs) ys = ap (λ zs. x ∷ zs) (take-front xs ys)

  both-append : (xs ys zs : List X) → (xs ++ ys) ++ zs ≡ xs ++ (ys ++ zs)
  both-append [] ys zs = refl
  both-append (x ∷ xs) ys zs = ap (λ us. x ∷ us) (both-append xs ys zs)

  over-both : (xs ys zs : List X) → take (length xs) ys ≡ xs → take (length ys) zs ≡ ys → zs ≡ xs ++ (drop (length xs) ys ++ drop (length ys) zs)
  over-both xs ys zs h k =
      front-back (length ys) zs
      ∙ ap (λ us. us ++ drop (length ys) zs) (k ∙ front-back (length xs) ys ∙ ap (λ us. us ++ drop (length xs) ys) h)
      ∙ both-append xs (drop (length xs) ys) (drop (length ys) zs)

  -- more on the stack
  pub own-both : (xs ys zs : List X) → take (length xs) ys ≡ xs → take (length ys) zs ≡ ys → drop (length xs) zs ≡ drop (length xs) ys ++ drop (length ys) zs
  own-both xs ys zs h k = ap (drop (length xs)) (over-both xs ys zs h k) ∙ drop-front xs (drop (length xs) ys ++ drop (length ys) zs)

  pub kept-both : (xs ys zs : List X) → take (length xs) ys ≡ xs → take (length ys) zs ≡ ys → take (length xs) zs ≡ xs
  kept-both xs ys zs h k = ap (take (length xs)) (over-both xs ys zs h k) ∙ take-front xs (drop (length xs) ys ++ drop (length ys) zs)

  -- what lay on the stack before isn't longer
  pub kept-room : (xs ys : List X) → take (length xs) ys ≡ xs → length xs ≤ length ys
  kept-room [] ys h = omega arith
  kept-room (x ∷ xs) [] h = cc
  kept-room (x ∷ xs) (y ∷ ys) h = let more = kept-room xs ys (tails y x (take (length xs) ys) xs h) in omega (arith, more)
    where
      tails : (a b : X) (us vs : List X) → a ∷ us ≡ b ∷ vs → us ≡ vs
      tails a b us vs e = cc

-- below a path with some decision left
pub search-some : (w : World) (mv : Move) (n : ℕ) (p : Path) (left : ℕ) → 0 < n → search_from w mv n p left ≡ search_options w mv (search_from w mv (n - 1)) p (options_at w mv p) left
search-some w mv zero p left h = absurd (omega (arith, h))
search-some w mv (suc n) p left h =
    let same : n ≡ suc n - 1 = omega arith in
    (λ i. search_options w mv (search_from w mv (same i)) p (options_at w mv p) left)

-- the search of a path's options, from a place on, with the trees in front
module _ (w : World) (mv : Move) (rest : Path → ℕ → Searched) (p : Path) (options : List Pick) where
  abbrev pub from : List Tree → ℕ → ℕ → Searched
  from trees i left = with_trees trees (search_options w mv rest p (drop i options) left)

  -- an option by itself
  abbrev one : Pick → ℕ → Searched
  one pick left = search_options w mv rest p (pick ∷ []) left

  abbrev behind-it : ℕ → ℕ → Searched
  behind-it i left = search_options w mv rest p (drop (i + 1) options) left

  -- no option is left
  pub from-none : (trees : List Tree) (i left : ℕ) → slice_get options i ≡ None → from trees i left ≡ refuted trees left
  from-none trees i left h = (λ j. with_trees trees (search_options w mv rest p (drop-none options i h j) left)) ∙ with-refuted trees [] left ∙ (λ j. refuted (append-none trees j) left)

  -- an option is looked at, and then those behind it
  one-later : (pick : Pick) (picks : List Pick) (left : ℕ) → search_options w mv rest p (pick ∷ picks) left ≡ then_later (search_options w mv rest p picks) (one pick left)
  one-later pick picks zero = refl
  one-later pick picks (suc left) = pick-later (leaf_of w mv p pick) (is_complete mv (extend w p pick)) (extend w p pick).done (rest (extend w p pick)) (search_options w mv rest p picks) left

  from-one : (trees : List Tree) (i left : ℕ) (pick : Pick) (x : Searched) → slice_get options i ≡ Some pick → x ≡ one pick left → from trees i left ≡ with_trees trees (then_later (behind-it i) x)
  from-one trees i left pick x h e =
      (λ j. with_trees trees (search_options w mv rest p (drop-option options i pick h j) left))
      ∙ ap (with_trees trees) (one-later pick (drop (i + 1) options) left)
      ∙ (λ j. with_trees trees (then_later (behind-it i) (sym e j)))

  pub from-found : (trees : List Tree) (i left after : ℕ) (pick : Pick) (choices : List Choice) → slice_get options i ≡ Some pick → found choices after ≡ one pick left → from trees i left ≡ found choices after
  from-found trees i left after pick choices h e = from-one trees i left pick (found choices after) h e ∙ with-found trees choices after

  pub from-spent : (trees : List Tree) (i left : ℕ) (pick : Pick) → slice_get options i ≡ Some pick → spent ≡ one pick left → from trees i left ≡ spent
  from-spent trees i left pick h e = from-one trees i left pick spent h e ∙ with-spent trees

  pub from-next : (trees more : List Tree) (i left after : ℕ) (pick : Pick) → slice_get options i ≡ Some pick → refuted more after ≡ one pick left → from trees i left ≡ from (trees ++ more) (i + 1) after
  from-next trees more i left after pick h e = from-one trees i left pick (refuted more after) h e ∙ sym (with-both trees more (behind-it i after))

-- what follows an option, put into one tree where it is refuted
pub one-tree : (whole : Bool) (done : List Choice) (inner : ℕ → Searched) (left : ℕ)
    → search_pick None whole done inner (λ left. refuted [] left) left ≡ or_later (λ left. refuted [] left) (cond whole (found done left) (inner left))
one-tree true done inner left = refl
one-tree false done inner left = refl
