-- The slots of the week that sections take.
use Rattle.std.specs.Prelude.{◌≡◌, ◌<◌, ℕ, Bool, ◌||◌, List, []}
use Rattle.std.specs.List.{list_any}
use Rattle.std.specs.Option.{option_map_or}
use Rattle.sect_base.specs.declared.ids.SectionId.{SectionId}
use Rattle.sect_base.specs.Pattern.{Pattern}
use Rattle.sect_base.specs.Calendar.{is_set, takes_pair}
use Rattle.sect_catalog.specs.declared.row.OfferingRow.{OfferingRow}
use Rattle.sect_catalog.specs.Catalogue.{find_section}
use Rattle.sect_model.specs.declared.held.Enrolment.{Enrolment}

-- a section's meetings in these rows, none where it is unknown
abbrev pub meetings_in : List OfferingRow → SectionId → List Pattern
meetings_in rows section = option_map_or (λ s. s.meetings) (find_section rows section) []

-- one of the meetings takes this slot of the day
abbrev pub meetings_take : List Pattern → ℕ → ℕ → Bool
meetings_take meetings day slot = list_any (λ m. takes_pair m day slot) meetings

-- a meeting of one of the sections takes this slot of the day
abbrev pub sections_take : List OfferingRow → List SectionId → ℕ → ℕ → Bool
sections_take rows sections day slot = list_any (λ s. meetings_take (meetings_in rows s) day slot) sections

-- a meeting of a section of one of the enrolments takes this slot of the day
abbrev pub enrolments_take : List OfferingRow → List Enrolment → ℕ → ℕ → Bool
enrolments_take rows es day slot = list_any (λ e. sections_take rows e.choice.sections day slot) es

-- the calendar takes these slots, and leaves the rest
abbrev pub Adds : List ℕ → List ℕ → (ℕ → ℕ → Bool) → Type 0
Adds old new takes = (day slot : ℕ) → slot < 288 → is_set new day slot ≡ (is_set old day slot || takes day slot)
