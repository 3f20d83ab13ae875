-- Rows filed by offering, and the index that tells the offering of an id.
use Rattle.std.specs.Prelude.{◌≡◌, ℕ, ◌==◌, List, map, find, IsTrue}
use Rattle.std.specs.Option.{option_map}
use Rattle.sect_people.specs.Order.{all_differ}
use Rattle.sect_model.specs.Kept.{is_ordered_by}
use Rattle.sect_roster.specs.declared.mark.Mark.{Mark}

-- no id stands twice, and the marks tell the offering of each id and of no other
pub record Keeps {R : Type 0} (offering id : R → ℕ) (rows : List R) (marks : List Mark) : Type 0 where
  pub differ : IsTrue (all_differ (map id rows))
  pub marks_in_order : IsTrue (is_ordered_by (λ m. m.id) marks)
  pub marks_differ : IsTrue (all_differ (map (λ m. m.id) marks))
  pub told : (n : ℕ) → option_map (λ m. m.offering) (find (λ m. m.id == n) marks) ≡ option_map offering (find (λ r. id r == n) rows)
