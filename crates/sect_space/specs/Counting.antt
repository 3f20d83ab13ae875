-- An enrolment that is to be counted, or no longer, and whose slots are to be taken, or no longer.
use Rattle.std.specs.Prelude.{List}
use Rattle.sect_model.specs.declared.held.Enrolment.{Enrolment}
use Rattle.sect_model.specs.World.{World}
use Rattle.sect_model.specs.Kept.{KeptWorld}
use Rattle.sect_numbers.specs.declared.numbers.Numbers.{Numbers}
use Rattle.sect_numbers.specs.Numbers.{Told}
use Rattle.sect_numbers.specs.OneMore.{with_roster, IsMore}
use Rattle.sect_weeks.specs.declared.weeks.Weeks.{Weeks}
use Rattle.sect_weeks.specs.Busy.{ToldWeeks}

-- the numbers and weeks are those of the world with one enrolment less, this one
pub record OneBehind (n : Numbers) (k : Weeks) (w : World) (e : Enrolment) : Type 0 where
  pub less : List Enrolment
  pub is_more : IsMore less w.roster e
  pub kept : KeptWorld w
  pub told : Told n (with_roster w less)
  pub weeks : ToldWeeks k (with_roster w less)

-- the numbers and weeks are those of the world with one enrolment more, this one
pub record OneAhead (n : Numbers) (k : Weeks) (w : World) (e : Enrolment) : Type 0 where
  pub more : List Enrolment
  pub is_more : IsMore w.roster more e
  pub kept : KeptWorld (with_roster w more)
  pub told : Told n (with_roster w more)
  pub weeks : ToldWeeks k (with_roster w more)
