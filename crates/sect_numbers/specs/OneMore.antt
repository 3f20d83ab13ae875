-- A world, and the same world with one enrolment more.
use Rattle.std.specs.Prelude.{◌≡◌, ℕ, Bool, ◌+◌, cond, List, length, filter, sum_by, Option}
use Rattle.std.specs.Option.{option_map}
use Rattle.sect_base.specs.declared.ids.OfferingId.{OfferingId}
use Rattle.sect_model.specs.declared.held.Enrolment.{Enrolment}
use Rattle.sect_model.specs.World.{World, offering_of, used_by}
use Rattle.sect_model.specs.Counts.{permits_over}
use Rattle.sect_model.specs.Kept.{KeptWorld}

-- the world with this roster
abbrev pub with_roster : World → List Enrolment → World
with_roster w es = record w { roster = es }

-- the second list has the enrolment once more than the first, somewhere
pub record IsMore (es more : List Enrolment) (e : Enrolment) : Type 0 where
  pub counts : (p : Enrolment → Bool) → length (filter p more) ≡ cond (p e) 1 0 + length (filter p es)
  pub sums : (f : Enrolment → ℕ) → sum_by f more ≡ f e + sum_by f es

-- the larger roster makes a kept world of the smaller one's, and this is the enrolment's offering, and whether it is over the limit
pub record OneMore (w : World) (more : List Enrolment) (e : Enrolment) (offering : Option OfferingId) (over : Bool) : Type 0 where
  pub is_more : IsMore w.roster more e
  pub kept : KeptWorld (with_roster w more)
  pub its_offering : option_map (λ o. o.id) (offering_of w e.choice.course) ≡ offering
  pub is_over : permits_over (used_by w e.choice) ≡ over
