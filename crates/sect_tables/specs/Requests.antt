-- A student's requests as far as their rows were read.
use Rattle.std.specs.Prelude.{ℕ, ◌+◌, List, [], ◌∷◌, ◌++◌, length}
use Rattle.sect_base.specs.declared.ids.StudentId.{StudentId}
use Rattle.sect_tables.specs.Fields.{field_of}
use Rattle.sect_people.specs.declared.row.Ask.{Ask}

-- requests whose rows may go on: the text of the student's id, the student, and what the rows say
pub record RequestsSoFar : Type 0 where
  pub name : List ℕ
  pub student : StudentId
  pub asks : List Ask

-- the rank that the next row has to have
abbrev pub next_rank : RequestsSoFar → ℕ
next_rank so_far = length so_far.asks + 1

-- the requests that a row begins
unfoldable pub requests_begun : List (List ℕ) → StudentId × Ask → RequestsSoFar
requests_begun fields line = record { name = field_of fields 1; student = line.0; asks = line.1 ∷ [] }

-- the requests with another row of their own
unfoldable pub requests_with : RequestsSoFar → StudentId × Ask → RequestsSoFar
requests_with so_far line = record so_far { asks = so_far.asks ++ (line.1 ∷ []) }
