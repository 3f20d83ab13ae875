-- What an undo keeps.
use Rattle.std.specs.Prelude.{ℕ, List}
use Rattle.sect_space.specs.declared.back.Back.{Back}

-- what was kept of changes, the first one first, and how many more fit without asking for memory
pub record Recorded : Type 0 where
  pub backs : List Back
  pub spare : ℕ
