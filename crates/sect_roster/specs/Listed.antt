-- What a caller sees of rows that are filed by offering and found by id.
use Rattle.std.specs.Prelude.{ℕ, List}
use Rattle.sect_roster.specs.Slots.{Room}

-- the rows in order of offering, the rooms of the offerings that have some, and how many ids more fit before memory is asked for
pub record Listed (X : Type 0) : Type 0 where
  pub items : List X
  pub rooms : List Room
  pub spare : ℕ
