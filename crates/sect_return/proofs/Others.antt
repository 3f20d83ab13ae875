-- Ids that differ have other texts.
use Rattle.std.proofs.Common.{◌≡◌, ◌==◌, ℕ, Bool, true, false, not, ◌||◌, IsTrue, List, [], ◌∷◌, map, refl, sym, ◌∙◌, decimal}
use Rattle.std.proofs.lemmas.Bool.{and_parts, eq-eqb, eqb-true}
use Rattle.std.proofs.lemmas.Fmt.{decimal_injective}
use Rattle.std.specs.List.{AllByRecursion, list_any}
use Rattle.std.specs.Str.{bytes_eq}
use Rattle.sect_people.specs.Order.{all_differ}
use Rattle.sect_read.proofs.WordLaws.{small32}
use Rattle.sect_read.specs.Fits.{Fits32, FitsList}
use Rattle.sect_words.proofs.Exact.{same_word}

-- two numbers have other texts
abbrev pub Apart : ℕ → ℕ → Type 0
Apart a b = bytes_eq (decimal a) (decimal b) ≡ false

not_one : (b : Bool) → (b ≡ true → ⊥) → b ≡ false
not_one true never = absurd (never refl)
not_one false never = refl

apart_numbers : (a b : ℕ) → Fits32 a → Fits32 b → (b == a) ≡ false → Apart a b
apart_numbers a b small less other = not_one (bytes_eq (decimal a) (decimal b)) (λ same.
    let equal = decimal_injective a b (small32 a small) (small32 b less) (same_word (decimal a) (decimal b) same) in
    absurd (cc (sym other ∙ eq-eqb b a (sym equal))))

or_none : (a b : Bool) → not (a || b) ≡ true → (a ≡ false) × (not b ≡ true)
or_none true b e = absurd (cc)
or_none false b e = (refl, e)

module _ {X : Type 0} (key : X → ℕ) where
  apart_all : (x : X) (xs : List X) → Fits32 (key x) → FitsList (λ (y : X). Fits32 (key y)) xs → not (list_any (λ m. m == key x) (map key xs)) ≡ true
      → AllByRecursion (λ (y : X). Apart (key x) (key y)) xs
  apart_all x [] fits each differ = tt
  apart_all x (y ∷ ys) fits each differ =
      let p = or_none (key y == key x) (list_any (λ m. m == key x) (map key ys)) differ in
      (apart_numbers (key x) (key y) fits each.0 p.0, apart_all x ys fits each.1 p.1)

  -- where no number stands twice, those behind the first have other texts, and among them none stands twice
  pub apart_each : (x : X) (xs : List X) → FitsList (λ (y : X). Fits32 (key y)) (x ∷ xs) → IsTrue (all_differ (map key (x ∷ xs)))
      → AllByRecursion (λ (y : X). Apart (key x) (key y)) xs × IsTrue (all_differ (map key xs))
  apart_each x xs fits differ =
      let p = and_parts (not (list_any (λ m. m == key x) (map key xs))) (all_differ (map key xs)) differ in
      (apart_all x xs fits.0 fits.1 p.0, p.1)

swapped : (a b : ℕ) → (b == a) ≡ false → (a == b) ≡ false
swapped a b other = not_one (a == b) (λ same. absurd (cc (sym other ∙ eq-eqb b a (sym (eqb-true a b same)))))

-- where no number stands twice, the first is not the next one
pub next_differs : {X : Type 0} (key : X → ℕ) (x y : X) (zs : List X) → IsTrue (all_differ (map key (x ∷ y ∷ zs))) → ((key x == key y) ≡ false) × IsTrue (all_differ (map key (y ∷ zs)))
next_differs key x y zs differ =
    let p = and_parts (not (list_any (λ m. m == key x) (map key (y ∷ zs)))) (all_differ (map key (y ∷ zs))) differ in
    let q = or_none (key y == key x) (list_any (λ m. m == key x) (map key zs)) p.0 in
    (swapped (key x) (key y) q.0, p.1)
