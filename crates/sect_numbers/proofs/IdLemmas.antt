-- The ids that have a row are those among the rows.
use Rattle.std.specs.Prelude.{◌≡◌, ℕ, zero, suc, Bool, true, false, ◌&&◌, ◌==◌, List, [], ◌∷◌, filter, slice_get, Option, Some, None, refl}
use Rattle.std.specs.List.{list_any}
use Rattle.std.specs.Option.{is_some, option_and_then}
use Rattle.std.specs.Bool.{then_some}
use Rattle.sect_base.specs.Table.{value_at}
use Rattle.std.proofs.Common.{sym, ◌∙◌, ap}
use Rattle.std.proofs.lemmas.Bool.{eqb-true}
use Rattle.sect_base.specs.declared.ids.ReservationId.{ReservationId}
use Rattle.sect_model.proofs.Members.{not_both, or-left, or-right}
use Rattle.sect_model.proofs.ListLemmas.{any-filter-both}
use Rattle.sect_model.proofs.CapChange.{any-map}
use Rattle.sect_numbers.specs.declared.tally.Row.{Row}
use Rattle.sect_numbers.specs.declared.tally.Tally.{Tally}
use Rattle.sect_numbers.specs.declared.numbers.Numbers.{Numbers}
use Rattle.sect_numbers.specs.Tally.{has_row, own_row, ids_with_rows}
use Rattle.sect_numbers.specs.Numbers.{has_uses, counted_ids}

-- a row of the id stands among the rows
own-test : (r : Row) (id : ℕ) (b : Bool) → is_some (then_some b r) ≡ true → b ≡ true
own-test r id true h = refl
own-test r id false h = absurd (not_both false h refl)

at-place : (rows : List Row) (id i : ℕ) → is_some (option_and_then (λ r. then_some (r.id == id) r) (slice_get rows i)) ≡ true → list_any (λ r. r.id == id) rows ≡ true
at-place [] id zero h = absurd (not_both false h refl)
at-place [] id (suc i) h = absurd (not_both false h refl)
at-place (r ∷ rs) id zero h = or-left (r.id == id) _ (own-test r id (r.id == id) h)
at-place (r ∷ rs) id (suc i) h = or-right (r.id == id) _ (at-place rs id i h)

among-rows : (rows : List Row) (id : ℕ) (place : Option ℕ) → is_some (own_row rows id place) ≡ true → list_any (λ r. r.id == id) rows ≡ true
among-rows rows id None h = absurd (not_both false h refl)
among-rows rows id (Some i) h = at-place rows id i h

any-none : (rows : List Row) → list_any (λ r. false) rows ≡ false
any-none [] = refl
any-none (r ∷ rs) = any-none rs

and-false : (b : Bool) → b && false ≡ false
and-false true = refl
and-false false = refl

module _ (t : Tally) (id : ℕ) where
  one-id : (b : Bool) → has_row t id ≡ b → (r : Row) → has_row t r.id && (r.id == id) ≡ b && (r.id == id)
  one-id b e r = by_test (r.id == id) refl
    where
      by_test : (c : Bool) → r.id == id ≡ c → has_row t r.id && c ≡ b && c
      by_test true f = λ i. (ap (has_row t) (eqb-true r.id id f) ∙ e) i && true
      by_test false f = and-false (has_row t r.id) ∙ sym (and-false b)

  any-row : list_any (λ k. k == id) (ids_with_rows t) ≡ has_row t id
  any-row =
      any-map (λ k. k == id) (λ r. r.id) (filter (λ r. has_row t r.id) t.rows.items)
      ∙ any-filter-both (λ r. has_row t r.id) (λ r. r.id == id) t.rows.items
      ∙ by_test (has_row t id) refl
    where
      by_test : (b : Bool) → has_row t id ≡ b → list_any (λ r. has_row t r.id && (r.id == id)) t.rows.items ≡ has_row t id
      by_test true e = (λ i. list_any (λ r. one-id true e r i) t.rows.items) ∙ among-rows t.rows.items id (value_at t.places id) e ∙ sym e
      by_test false e = (λ i. list_any (λ r. one-id false e r i) t.rows.items) ∙ any-none t.rows.items ∙ sym e

-- the counts of uses that are kept are those of the ids
pub counted-id : (n : Numbers) (id : ReservationId) → list_any (λ k. k == id.0) (counted_ids n) ≡ has_uses n id
counted-id n id = any-row n.uses id.0
