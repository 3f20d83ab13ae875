-- The numbers by which the commands of a table are asked.
use Rattle.std.specs.Prelude.{ℕ, ◌+◌, ◌^◌, nat_lt, List, [], ◌∷◌, Option, None, Some, if◌then◌else◌}
use Rattle.sect_base.specs.declared.limit.Caller.TheVariants.{Registrar}
use Rattle.sect_base.specs.declared.limit.Id.{Id}
use Rattle.sect_tables.specs.declared.given.Given.{Given}

-- a command with the number by which it is asked
pub record Numbered : Type 0 where
  pub given : Given
  pub number : ℕ

-- the commands with rising numbers, of which this is the first
abbrev pub numbered : ℕ → List Given → List Numbered
numbered first [] = []
numbered first (it ∷ more) = record { given = it; number = first } ∷ numbered (first + 1) more

-- the number, where it has 64 bits
abbrev pub number_at : ℕ → Option ℕ
number_at n = if nat_lt n (2 ^ 64) then Some n else None

-- the id of a request of registrar 0
abbrev pub id_of : ℕ → Id
id_of number = record { caller = Registrar 0; number = number }
