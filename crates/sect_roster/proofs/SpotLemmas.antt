-- Where the first that passes stands among those of its number.
use Rattle.std.specs.Prelude.{◌≡◌, ℕ, ◌<◌, Bool, true, ◌==◌, List, find, position, slice_get, Some}
use Rattle.std.specs.List.{list_any, position_or_len}
use Rattle.std.specs.Option.{is_some, option_map}
use Rattle.std.proofs.Common.{sym, ◌∙◌, ap, arith}
use Rattle.std.proofs.lemmas.Bool.{eq-eqb, eqb-true}
use Rattle.std.proofs.lemmas.List.Folds.{find_at}
use Rattle.sect_model.proofs.ListLemmas.{any-find, found-passes}
use Rattle.sect_roster.specs.Slots.{rows_of, number_of}
use Rattle.sect_roster.proofs.FoundLemmas.{find-among, map-known}
use Rattle.sect_roster.proofs.PlaceLemmas.{place-some, place-within}

module _ {X : Type 0} (key : X → ℕ) (p : X → Bool) (k : ℕ) (xs : List X) (known : option_map key (find p xs) ≡ Some k) where
  found : (x : X) × (find p xs ≡ Some x) × (key x ≡ k)
  found = map-known key k (find p xs) known

  -- a look-up finds it among them
  row-among : find p (rows_of key k xs) ≡ find p xs
  row-among = find-among p (λ x. key x == k) xs found.0 found.1 (eq-eqb (key found.0) k found.2) ∙ sym found.1

  any-among : list_any p (rows_of key k xs) ≡ true
  any-among = sym (any-find p (rows_of key k xs)) ∙ ap is_some (row-among ∙ found.1)

  -- the place that a search told
  place-is : (rows : List X) (at : ℕ) → rows ≡ rows_of key k xs → at ≡ position_or_len p rows → at ≡ position_or_len p (rows_of key k xs)
  place-is rows at same is = is ∙ ap (position_or_len p) same

  pub place-among : (rows : List X) (at : ℕ) → rows ≡ rows_of key k xs → at ≡ position_or_len p rows → at < number_of key k xs
  place-among rows at same is = let e = place-is rows at same is in let within = place-within p (rows_of key k xs) any-among in omega (arith, e, within)

  pub place-told : (rows : List X) (at : ℕ) → rows ≡ rows_of key k xs → at ≡ position_or_len p rows → Some at ≡ position p (rows_of key k xs)
  place-told rows at same is = ap (λ j. Some j) (place-is rows at same is) ∙ sym (place-some p (rows_of key k xs) any-among)

  -- what is read there is what a look-up finds
  pub read-among : (rows : List X) (at : ℕ) → rows ≡ rows_of key k xs → at ≡ position_or_len p rows → slice_get (rows_of key k xs) at ≡ find p xs
  read-among rows at same is = ap (slice_get (rows_of key k xs)) (place-is rows at same is) ∙ sym (find_at p (rows_of key k xs)) ∙ row-among

-- what a look-up finds has the id
pub own-id : {X : Type 0} (id : X → ℕ) (n : ℕ) (xs : List X) (x : X) → Some x ≡ find (λ x. id x == n) xs → id x ≡ n
own-id id n xs x e = eqb-true (id x) n (found-passes (λ x. id x == n) xs x (sym e))
