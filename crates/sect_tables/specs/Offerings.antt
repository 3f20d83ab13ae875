-- An offering as far as its rows were read.
use Rattle.std.specs.Prelude.{ℕ, ◌==◌, List, [], ◌∷◌, ◌++◌, if◌then◌else◌}
use Rattle.sect_catalog.specs.declared.row.ConfigRow.{ConfigRow}
use Rattle.sect_catalog.specs.declared.row.OfferingRow.{OfferingRow}
use Rattle.sect_catalog.specs.declared.row.SubpartRow.{SubpartRow}
use Rattle.sect_tables.specs.Fields.{field_of}
use Rattle.sect_tables.specs.Lines.{before_of}
use Rattle.sect_tables.specs.declared.line.Before.{Before}
use Rattle.sect_tables.specs.declared.line.SectionLine.{SectionLine}

-- an offering whose rows may go on: the text of its id, what its next row is compared with, and what its rows say
pub record OfferingSoFar : Type 0 where
  pub name : List ℕ
  pub before : Before
  pub row : OfferingRow

-- a list whose last element gives way to others
abbrev pub at_last : {A : Type 0} → (A → List A) → List A → List A
at_last others [] = []
at_last others (x ∷ []) = others x
at_last others (x ∷ y ∷ ys) = x ∷ at_last others (y ∷ ys)

-- the subpart that a row begins
abbrev pub subpart_of : SectionLine → SubpartRow
subpart_of line = record { id = line.subpart; sections = line.section ∷ [] }

-- the configuration that a row begins
abbrev pub config_of : SectionLine → ConfigRow
config_of line = record { id = line.config; limit = line.config_limit; subparts = subpart_of line ∷ [] }

-- the last subpart with the row behind it: the row's section goes into it, or another subpart begins
abbrev pub subpart_with : SectionLine → SubpartRow → List SubpartRow
subpart_with line subpart =
    if subpart.id.0 == line.subpart.0 then record subpart { sections = subpart.sections ++ (line.section ∷ []) } ∷ []
    else subpart ∷ subpart_of line ∷ []

-- the last configuration with the row behind it: the row goes into it, or another configuration begins
abbrev pub config_with : SectionLine → ConfigRow → List ConfigRow
config_with line config =
    if config.id.0 == line.config.0 then record config { subparts = at_last (subpart_with line) config.subparts } ∷ []
    else config ∷ config_of line ∷ []

-- the offering that a row begins
unfoldable pub offering_begun : List (List ℕ) → SectionLine → OfferingSoFar
offering_begun fields line = record {
  name = field_of fields 1;
  before = before_of line.config.0 fields;
  row = record { id = line.offering; courses = line.courses; configs = config_of line ∷ [] };
}

-- the offering with another row of its own
unfoldable pub offering_with : OfferingSoFar → List (List ℕ) → SectionLine → OfferingSoFar
offering_with so_far fields line = record so_far {
  before = before_of line.config.0 fields;
  row = record { id = so_far.row.id; courses = so_far.row.courses; configs = at_last (config_with line) so_far.row.configs };
}
