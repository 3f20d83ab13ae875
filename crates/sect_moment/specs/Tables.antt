-- The table of a section in three parts.
use Rattle.std.specs.Prelude.{ℕ, false, not, ◌&&◌, ◌==◌, List, [], ◌∷◌, ◌++◌, map, filter, Option}
use Rattle.std.specs.Bool.{then_some}
use Rattle.std.specs.Option.{option_map_or}
use Rattle.sect_base.specs.declared.rule.Rule.TheVariants.{NotIncluded, Restricted, Cancelled, Parent, SectionFull, SectionReserved, Overlap, FreeTime, NotAsked}
use Rattle.sect_base.specs.declared.limit.Level.TheVariants.{Section}
use Rattle.sect_catalog.specs.Catalogue.{is_cancelled, find_section}
use Rattle.sect_reserve.specs.Audience.{admits_section, empty_or_any}
use Rattle.sect_model.specs.Data.{StudentId, CourseId, ConfigId, SectionId, OfferingRow, Want, Rule, Reservation}
use Rattle.sect_model.specs.World.{World}
use Rattle.sect_model.specs.Choice.{has_parent, subparts_of}
use Rattle.sect_model.specs.Counts.{permits_over}
use Rattle.sect_model.specs.Allowed.{restrictions_for, free_times, meets_at}
use Rattle.sect_model.specs.Path.{next_subpart}
use Rattle.sect_model.specs.Rules.{least, is_full, is_kept, is_restricted, held_overlaps, own_overlaps}

-- the rules on where a section stands
abbrev pub standing_rules : World → StudentId → OfferingRow → CourseId → Option Reservation → ConfigId → List SectionId → SectionId → List (Rule × Option ℕ)
standing_rules w student offering course r config sections section =
    (NotIncluded, then_some (option_map_or (λ r. option_map_or (λ p. not (admits_section r.includes p.id section)) (next_subpart w course config sections) false) r false) section.0)
    ∷ (Restricted, then_some (is_restricted (subparts_of w course config) config (sections ++ section ∷ []) (restrictions_for w student course offering.id)) section.0)
    ∷ (Cancelled, then_some (is_cancelled w.catalogue section) section.0)
    ∷ (Parent, then_some (option_map_or (λ row. not (has_parent sections row)) (find_section w.catalogue.rows section) false) section.0)
    ∷ []

-- the rules on a section's places
abbrev pub space_rules : World → Option Reservation → SectionId → List (Rule × Option ℕ)
space_rules w r section =
    (SectionFull, then_some (not (permits_over r) && is_full w (Section section)) section.0)
    ∷ (SectionReserved, then_some (not (permits_over r) && is_kept w r (Section section)) section.0)
    ∷ []

-- the rules on when a section meets, and on what is asked for
abbrev pub time_rules : World → StudentId → Want → Option Reservation → List SectionId → SectionId → List (Rule × Option ℕ)
time_rules w student want r sections section =
    (Overlap, least (held_overlaps w student r section ++ own_overlaps w r sections section))
    ∷ (FreeTime, least (map (λ f. f.0) (filter (λ f. meets_at w section f.1) (free_times w student want.rank))))
    ∷ (NotAsked, then_some (not (empty_or_any (λ o. o.0 == section.0) want.only)) section.0)
    ∷ []
