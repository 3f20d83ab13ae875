-- The world that the parts stand for, its numbers, and the weeks of its students.
use Rattle.sect_model.specs.Kept.{KeptWorld}
use Rattle.sect_numbers.specs.declared.numbers.Numbers.{Numbers}
use Rattle.sect_numbers.specs.Numbers.{Told, counted_ids}
use Rattle.sect_weeks.specs.declared.weeks.Weeks.{Weeks}
use Rattle.sect_weeks.specs.Busy.{ToldWeeks}
use Rattle.sect_space.specs.declared.parts.Parts.{Parts}
use Rattle.sect_space.specs.Roomed.{Roomed, roomed}

-- the world of the parts, with the room of their lists
abbrev pub roomed_of : Parts → Roomed
roomed_of p = roomed p.catalogue p.people p.reservations p.restrictions p.roster p.day

-- the same, with the counts of uses that are kept
abbrev pub numbered_of : Parts → Numbers → Roomed
numbered_of p n = record (roomed_of p) { counted_ids = counted_ids n }

-- the world of the parts is kept, and the numbers are its numbers
pub record Numbered (p : Parts) (n : Numbers) : Type 0 where
  pub kept : KeptWorld (roomed_of p).world
  pub told : Told n (roomed_of p).world

-- and the calendars are those of its students
pub record Followed (p : Parts) (n : Numbers) (k : Weeks) : Type 0 where
  pub numbered : Numbered p n
  pub weeks : ToldWeeks k (roomed_of p).world
