-- The choice that a section completes.
use Rattle.std.specs.Prelude.{nat_le, cond, List, [], ◌∷◌, ◌++◌, length, Option, Some, None}
use Rattle.sect_model.specs.Data.{CourseId, ReservationId, ConfigId, SectionId, Choice}
use Rattle.sect_model.specs.World.{World}
use Rattle.sect_model.specs.Path.{Path, sections_due}

-- the path of these choices, with no decision for the next want
abbrev pub opened : List Choice → Path
opened done = record { done = done; course = None; reservation = None; config = None; sections = [] }

-- the choice that the decisions for a want make, where each was made
abbrev pub choice_in : Option CourseId → Option (Option ReservationId) → Option ConfigId → List SectionId → Option Choice
choice_in (Some c) (Some r) (Some g) ss = Some (record { course = c; reservation = r; config = g; sections = ss })
choice_in _ _ _ ss = None

-- the choice that a section completes, where it is the last that is due
abbrev pub completed_by : World → Path → SectionId → Option Choice
completed_by w p s =
    let ss = p.sections ++ s ∷ [] in
    cond (nat_le (sections_due w p.course p.config) (length ss)) (choice_in p.course p.reservation p.config ss) None
