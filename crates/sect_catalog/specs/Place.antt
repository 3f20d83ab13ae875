-- Where the ids of rows stand: each id with its kind and its place, in the rows' order.
use Rattle.std.specs.Prelude.{◌≡◌, ℕ, zero, suc, nat_lt, Bool, ◌||◌, slice_get, cond, List, [], ◌∷◌, ◌++◌, Option, Some, None}
use Rattle.std.specs.Option.{option_or, option_map, option_and_then, is_some}
use Rattle.std.specs.Map.{lookup}
use Rattle.sect_base.specs.Table.{value_at}
use Rattle.sect_catalog.specs.declared.index.Index.{Index}
use Rattle.sect_catalog.specs.declared.row.OfferingRow.{OfferingRow}
use Rattle.sect_catalog.specs.declared.row.CourseRow.{CourseRow}
use Rattle.sect_catalog.specs.declared.row.ConfigRow.{ConfigRow}
use Rattle.sect_catalog.specs.declared.row.SubpartRow.{SubpartRow}
use Rattle.sect_catalog.specs.declared.row.SectionRow.{SectionRow}
use Rattle.sect_catalog.specs.declared.place.Place.{Place}
use Rattle.sect_catalog.specs.declared.place.Kind.{Kind}
use Rattle.sect_catalog.specs.declared.place.Kind.TheVariants.{Offering, Course, Config, Subpart, Section}
use Rattle.sect_catalog.specs.Fault.{same_kind, row_ids, stands_twice}

-- a kind's number among the ids of a row
abbrev pub kind_number : Kind → ℕ
kind_number Offering = 0
kind_number Course = 1
kind_number Config = 2
kind_number Subpart = 3
kind_number Section = 4

-- an id with its kind, and its place
abbrev pub Entry : Type 0
Entry = (ℕ × ℕ) × Place

-- what f gives of each element and its position, counted from n
abbrev pub placed : {X Y : Type 0} → (ℕ → X → List Y) → ℕ → List X → List Y
placed f n [] = []
placed f n (x ∷ xs) = f n x ++ placed f (suc n) xs

abbrev pub section_entry : Place → ℕ → SectionRow → List Entry
section_entry at n s = ((4, s.id.0), record at { section = n }) ∷ []

abbrev pub subpart_entries : Place → ℕ → SubpartRow → List Entry
subpart_entries at n p = ((3, p.id.0), record at { subpart = n }) ∷ placed (section_entry (record at { subpart = n })) 0 p.sections

abbrev pub config_entries : Place → ℕ → ConfigRow → List Entry
config_entries at n g = ((2, g.id.0), record at { config = n }) ∷ placed (subpart_entries (record at { config = n })) 0 g.subparts

-- a course's position stands where a configuration's would
abbrev pub course_entry : Place → ℕ → CourseRow → List Entry
course_entry at n c = ((1, c.id.0), record at { config = n }) ∷ []

abbrev pub at_row : ℕ → Place
at_row n = record { row = n; config = 0; subpart = 0; section = 0 }

abbrev pub row_entries : ℕ → OfferingRow → List Entry
row_entries n o = ((0, o.id.0), at_row n) ∷ placed (course_entry (at_row n)) 0 o.courses ++ placed (config_entries (at_row n)) 0 o.configs

abbrev pub all_entries : List OfferingRow → List Entry
all_entries rows = placed row_entries 0 rows

-- the first place of an id of a kind
abbrev pub place_in : List Entry → ℕ × ℕ → Option Place
place_in entries id = lookup (same_kind id) entries

-- whether there is such a kind
abbrev pub has_kind : Entry → Bool
has_kind entry = nat_lt entry.0.0 5

-- the place that an index has for an id of a kind
abbrev pub place_of : Index → ℕ × ℕ → Option Place
place_of index (zero, id) = value_at index.offerings id
place_of index (suc zero, id) = value_at index.courses id
place_of index (suc (suc zero), id) = value_at index.configs id
place_of index (suc (suc (suc zero)), id) = value_at index.subparts id
place_of index (suc (suc (suc (suc zero))), id) = value_at index.sections id
place_of index (suc (suc (suc (suc (suc kind)))), id) = None

-- the index tells the first place of each id, and no more
abbrev pub IsIndex : Index → List OfferingRow → Type 0
IsIndex index rows = (id : ℕ × ℕ) → place_of index id ≡ place_in (all_entries rows) id

-- the new index has what the old one has, and the first places of the entries beside
abbrev pub Notes : Index → Index → List Entry → Type 0
Notes old new entries = (id : ℕ × ℕ) → place_of new id ≡ option_or (place_of old id) (place_in entries id)

-- the place, where it is in the first rows
abbrev pub first_only : ℕ → Option Place → Option Place
first_only rows None = None
first_only rows (Some at) = cond (nat_lt at.row rows) (Some at) None

-- the new index has the places of the old one in the first rows
abbrev pub KeepsFirst : ℕ → Index → Index → Type 0
KeepsFirst rows old new = (id : ℕ × ℕ) → place_of new id ≡ first_only rows (place_of old id)

-- whether the index has the id, or the row has it twice
abbrev pub is_taken : Index → OfferingRow → ℕ × ℕ → Bool
is_taken index o id = is_some (place_of index id) || stands_twice (row_ids o) id

-- what stands at a place
abbrev pub config_at : List OfferingRow → Place → Option ConfigRow
config_at rows at = option_and_then (λ o. slice_get o.configs at.config) (slice_get rows at.row)

abbrev pub section_at : List OfferingRow → Place → Option SectionRow
section_at rows at =
    option_and_then (λ p. slice_get p.sections at.section) (option_and_then (λ g. slice_get g.subparts at.subpart) (config_at rows at))

abbrev pub course_at : List OfferingRow → Place → Option (OfferingRow × CourseRow)
course_at rows at = option_and_then (λ o. option_map (λ c. (o, c)) (slice_get o.courses at.config)) (slice_get rows at.row)
