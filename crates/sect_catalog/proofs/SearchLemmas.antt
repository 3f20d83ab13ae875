-- A search part by part: what the first parts leave.
use Rattle.std.specs.Prelude.{◌≡◌, ℕ, suc, ◌+◌, ◌<◌, ◌==◌, Bool, true, false, ◌||◌, List, [], ◌∷◌, ◌++◌, length, find, flat_map, Option, Some, None, refl}
use Rattle.std.specs.List.{list_any}
use Rattle.std.specs.Option.{option_or, option_map}
use Rattle.std.proofs.Common.{sym, ◌∙◌, ap, arith, take, drop, get_or, drop-cons}
use Rattle.std.proofs.lemmas.List.Folds.{find-append}
use Rattle.sect_catalog.specs.declared.row.ConfigRow.{ConfigRow}
use Rattle.sect_catalog.specs.declared.row.SubpartRow.{SubpartRow}
use Rattle.sect_catalog.specs.declared.row.CatalogFault.TheVariants.{NoSection}
use Rattle.sect_catalog.specs.Catalogue.{sections_in}
use Rattle.sect_catalog.specs.Fault.{bad_parent_after}
use Rattle.sect_catalog.specs.Search.{lacks_parent, bare_subpart}
use Rattle.sect_catalog.proofs.TimesLemmas.{flat_more}

-- the elements from the i-th on
pub from : {X : Type 0} (xs : List X) (i : ℕ) (x : X) → i < length xs → x ≡ get_or xs i x → drop i xs ≡ x ∷ drop (i + 1) xs
from xs i x h e = let next : suc i ≡ i + 1 = omega arith in drop-cons xs i x h ∙ (λ k. sym e k ∷ drop (next k) xs)

first : {X : Type 0} (a b : Option X) (y : X) → a ≡ Some y → option_or a b ≡ Some y
first a b y e = ap (λ o. option_or o b) e

second : {X : Type 0} (a b : Option X) → a ≡ None → option_or a b ≡ b
second a b e = ap (λ o. option_or o b) e

-- a search that goes on where a part has nothing
module _ {X Y : Type 0} (whole : List X → Option Y) (part : X → Option Y) (law : (x : X) (xs : List X) → whole (x ∷ xs) ≡ option_or (part x) (whole xs)) where
  pub found : (all : Option Y) (xs : List X) (i : ℕ) (x : X) (y : Y) → i < length xs → x ≡ get_or xs i x → all ≡ whole (drop i xs) → part x ≡ Some y → all ≡ Some y
  found all xs i x y h e so is = so ∙ ap whole (from xs i x h e) ∙ law x (drop (i + 1) xs) ∙ first (part x) (whole (drop (i + 1) xs)) y is

  pub passed : (all : Option Y) (xs : List X) (i : ℕ) (x : X) → i < length xs → x ≡ get_or xs i x → all ≡ whole (drop i xs) → part x ≡ None → all ≡ whole (drop (i + 1) xs)
  passed all xs i x h e so is = so ∙ ap whole (from xs i x h e) ∙ law x (drop (i + 1) xs) ∙ second (part x) (whole (drop (i + 1) xs)) is

pub find-parts : {X Y : Type 0} (t : Y → Bool) (f : X → List Y) (x : X) (xs : List X) → find t (flat_map f (x ∷ xs)) ≡ option_or (find t (f x)) (find t (flat_map f xs))
find-parts t f x xs = find-append t (f x) (flat_map f xs)

pub bare-parts : (x : ConfigRow) (xs : List ConfigRow) → bare_subpart (flat_map (λ g. g.subparts) (x ∷ xs)) ≡ option_or (bare_subpart x.subparts) (bare_subpart (flat_map (λ g. g.subparts) xs))
bare-parts x xs =
    ap (option_map (λ p. NoSection p.id.0)) (find-append (λ p. length p.sections == 0) x.subparts (flat_map (λ g. g.subparts) xs))
    ∙ either (find (λ p. length p.sections == 0) x.subparts) (find (λ p. length p.sections == 0) (flat_map (λ g. g.subparts) xs))
  where
    either : (a b : Option SubpartRow) → option_map (λ p. NoSection p.id.0) (option_or a b) ≡ option_or (option_map (λ p. NoSection p.id.0) a) (option_map (λ p. NoSection p.id.0) b)
    either None b = refl
    either (Some x) b = refl

pub any-append : {X : Type 0} (t : X → Bool) (xs ys : List X) → list_any t (xs ++ ys) ≡ (list_any t xs || list_any t ys)
any-append t [] ys = refl
any-append t (x ∷ xs) ys = by_test (any-append t xs ys) (t x)
  where
    by_test : list_any t (xs ++ ys) ≡ (list_any t xs || list_any t ys) → (b : Bool) → b || list_any t (xs ++ ys) ≡ ((b || list_any t xs) || list_any t ys)
    by_test ih true = refl
    by_test ih false = ih

pub any-parts : {X Y : Type 0} (t : Y → Bool) (f : X → List Y) (xs : List X) → list_any t (flat_map f xs) ≡ list_any (λ x. list_any t (f x)) xs
any-parts t f [] = refl
any-parts t f (x ∷ xs) = any-append t (f x) (flat_map f xs) ∙ ap (λ b. list_any t (f x) || b) (any-parts t f xs)

abbrev parent_of : List SubpartRow → SubpartRow → Option ℕ
parent_of earlier p = option_map (λ s. s.id.0) (find (lacks_parent earlier) p.sections)

pub parent_found : (all : Option ℕ) (xs : List SubpartRow) (i : ℕ) (x : SubpartRow) (y : ℕ) → i < length xs → x ≡ get_or xs i x
    → all ≡ bad_parent_after (sections_in (take i xs)) (drop i xs) → parent_of (take i xs) x ≡ Some y → all ≡ Some y
parent_found all xs i x y h e so is =
    so ∙ ap (bad_parent_after (sections_in (take i xs))) (from xs i x h e)
    ∙ first (parent_of (take i xs) x) (bad_parent_after (sections_in (take i xs) ++ x.sections) (drop (i + 1) xs)) y is

pub parent_passed : (all : Option ℕ) (xs : List SubpartRow) (i : ℕ) (x : SubpartRow) → i < length xs → x ≡ get_or xs i x
    → all ≡ bad_parent_after (sections_in (take i xs)) (drop i xs) → parent_of (take i xs) x ≡ None → all ≡ bad_parent_after (sections_in (take (i + 1) xs)) (drop (i + 1) xs)
parent_passed all xs i x h e so is =
    so ∙ ap (bad_parent_after (sections_in (take i xs))) (from xs i x h e)
    ∙ second (parent_of (take i xs) x) (bad_parent_after (sections_in (take i xs) ++ x.sections) (drop (i + 1) xs)) is
    ∙ ap (λ earlier. bad_parent_after earlier (drop (i + 1) xs)) (sym (flat_more (λ p. p.sections) xs i x h e))

pub none_left : {X : Type 0} (o : Option X) → ((x : X) → o ≡ Some x → ⊥) → o ≡ None
none_left None never = refl
none_left (Some x) never = absurd (never x refl)

-- the same for what a part answers, as calls tell it
module _ {X Y : Type 0} (whole : List X → Option Y) (part : X → Option Y) (law : (x : X) (xs : List X) → whole (x ∷ xs) ≡ option_or (part x) (whole xs)) where
  pub found_by : (all r : Option Y) (xs : List X) (i : ℕ) (x : X) (y : Y) → i < length xs → x ≡ get_or xs i x → all ≡ whole (drop i xs) → r ≡ part x → r ≡ Some y → Some y ≡ all
  found_by all r xs i x y h e so tells is = sym (found whole part law all xs i x y h e so (sym tells ∙ is))

  pub passed_by : (all r : Option Y) (xs : List X) (i : ℕ) (x : X) → i < length xs → x ≡ get_or xs i x → all ≡ whole (drop i xs) → r ≡ part x → ((y : Y) → r ≡ Some y → ⊥) → all ≡ whole (drop (i + 1) xs)
  passed_by all r xs i x h e so tells never = passed whole part law all xs i x h e so (sym tells ∙ none_left r never)
