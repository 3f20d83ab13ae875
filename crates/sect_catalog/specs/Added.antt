-- The catalogue after an offering is added, and what a refusal tells.
use Rattle.std.specs.Prelude.{[], ◌∷◌, ◌++◌, Option, Some, None, Result, Ok, Err}
use Rattle.sect_catalog.specs.declared.row.OfferingRow.{OfferingRow}
use Rattle.sect_catalog.specs.declared.row.CatalogFault.{CatalogFault}
use Rattle.sect_catalog.specs.declared.row.AddFault.{AddFault}
use Rattle.sect_catalog.specs.declared.row.AddFault.TheVariants.{Row, Memory}
use Rattle.sect_catalog.specs.Catalogue.{Catalogue}

-- the catalogue with one row more
abbrev pub with_row : Catalogue → OfferingRow → Catalogue
with_row c o = record { rows = c.rows ++ o ∷ []; cancelled = c.cancelled }

-- the fault of a row that wasn't added for it
abbrev pub row_fault : {X : Type 0} → Result X AddFault → Option CatalogFault
row_fault (Ok x) = None
row_fault (Err (Row fault)) = Some fault
row_fault (Err Memory) = None
