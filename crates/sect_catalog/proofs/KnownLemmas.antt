-- The first id that a test finds, part by part.
use Rattle.std.specs.Prelude.{◌≡◌, ℕ, Bool, true, false, cond, List, [], ◌∷◌, ◌++◌, map, find, flat_map, Option, Some, None, refl}
use Rattle.std.specs.Option.{option_or, option_map}
use Rattle.std.proofs.Common.{sym, ◌∙◌, ap}
use Rattle.std.proofs.lemmas.List.Folds.{find-append}
use Rattle.sect_catalog.proofs.CountLemmas.{map-or}
use Rattle.sect_catalog.proofs.SearchLemmas.{none_left}

abbrev pub first_id : (ℕ × ℕ → Bool) → List (ℕ × ℕ) → Option ℕ
first_id t ids = option_map (λ id. id.1) (find t ids)

first-append : (t : ℕ × ℕ → Bool) (xs ys : List (ℕ × ℕ)) → first_id t (xs ++ ys) ≡ option_or (first_id t xs) (first_id t ys)
first-append t xs ys = ap (option_map (λ id. id.1)) (find-append t xs ys) ∙ map-or (λ id. id.1) (find t xs) (find t ys)

pub first-parts : {X : Type 0} (t : ℕ × ℕ → Bool) (f : X → List (ℕ × ℕ)) (x : X) (xs : List X) → first_id t (flat_map f (x ∷ xs)) ≡ option_or (first_id t (f x)) (first_id t (flat_map f xs))
first-parts t f x xs = first-append t (f x) (flat_map f xs)

pub first-each : {X : Type 0} (t : ℕ × ℕ → Bool) (g : X → ℕ × ℕ) (x : X) (xs : List X) → first_id t (map g (x ∷ xs)) ≡ option_or (first_id t (g x ∷ [])) (first_id t (map g xs))
first-each t g x xs = by_test (t (g x))
  where
    by_test : (b : Bool) → option_map (λ id. id.1) (cond b (Some (g x)) (find t (map g xs))) ≡ option_or (option_map (λ id. id.1) (cond b (Some (g x)) None)) (first_id t (map g xs))
    by_test true = refl
    by_test false = refl

-- an id that the test refuses is passed over
pub refused : (t : ℕ × ℕ → Bool) (id : ℕ × ℕ) → t id ≡ false → first_id t (id ∷ []) ≡ None
refused t id h = ap (λ b. option_map (λ (id : ℕ × ℕ). id.1) (cond b (Some id) None)) h

pub behind : (t : ℕ × ℕ → Bool) (id : ℕ × ℕ) (xs ys : List (ℕ × ℕ)) → t id ≡ false → first_id t (id ∷ xs ++ ys) ≡ option_or (first_id t xs) (first_id t ys)
behind t id xs ys h = ap (λ b. option_map (λ (id : ℕ × ℕ). id.1) (cond b (Some id) (find t (xs ++ ys)))) h ∙ first-append t xs ys

pub row_found : (t : ℕ × ℕ → Bool) (id : ℕ × ℕ) (xs ys : List (ℕ × ℕ)) (r : Option ℕ) (y : ℕ) → t id ≡ false → r ≡ first_id t xs → r ≡ Some y → Some y ≡ first_id t (id ∷ xs ++ ys)
row_found t id xs ys r y h tells is = sym (behind t id xs ys h ∙ ap (λ o. option_or o (first_id t ys)) (sym tells ∙ is))

pub row_passed : (t : ℕ × ℕ → Bool) (id : ℕ × ℕ) (xs ys : List (ℕ × ℕ)) (r s : Option ℕ) → t id ≡ false → r ≡ first_id t xs → ((y : ℕ) → r ≡ Some y → ⊥) → s ≡ first_id t ys → s ≡ first_id t (id ∷ xs ++ ys)
row_passed t id xs ys r s h tells never last = last ∙ sym (behind t id xs ys h ∙ ap (λ o. option_or o (first_id t ys)) (sym tells ∙ none_left r never))
