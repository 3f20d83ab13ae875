-- The headers of the tables, whose first row is one of these.
use Rattle.std.specs.Prelude.{ℕ, ◌+◌, List, [], ◌∷◌, Option, None, Some, codes, if◌then◌else◌}
use Rattle.sect_command.specs.declared.view.Table.{Table}
use Rattle.sect_command.specs.declared.view.Table.TheVariants.{Offerings, Students, Requests, Reservations}
use Rattle.std.specs.Str.{bytes_eq}

-- the header of reservations of which none has a first day
abbrev pub old_reservation_names : List (List ℕ)
old_reservation_names =
    codes "reservation" ∷ codes "offering" ∷ codes "audience" ∷ codes "limit" ∷ codes "expiry" ∷ codes "configs" ∷ codes "sections"
    ∷ codes "over" ∷ codes "overlap" ∷ codes "must" ∷ []

-- the header of a table
abbrev pub names_of : Table → List (List ℕ)
names_of Offerings =
    codes "offering" ∷ codes "courses" ∷ codes "config" ∷ codes "config_limit" ∷ codes "subpart" ∷ codes "section" ∷ codes "limit"
    ∷ codes "parent" ∷ codes "meetings" ∷ []
names_of Students = codes "student" ∷ codes "max_credits" ∷ codes "groups" ∷ codes "curricula" ∷ []
names_of Requests = codes "student" ∷ codes "rank" ∷ codes "kind" ∷ codes "value" ∷ codes "wait" ∷ codes "substitute" ∷ []
names_of Reservations =
    codes "reservation" ∷ codes "offering" ∷ codes "audience" ∷ codes "limit" ∷ codes "expiry" ∷ codes "configs" ∷ codes "sections"
    ∷ codes "over" ∷ codes "overlap" ∷ codes "must" ∷ codes "first" ∷ []

-- the number of the first field in which two rows differ, where their first fields have this number
abbrev pub difference_from : ℕ → List (List ℕ) → List (List ℕ) → Option ℕ
difference_from number [] [] = None
difference_from number [] (name ∷ names) = Some number
difference_from number (field ∷ fields) [] = Some number
difference_from number (field ∷ fields) (name ∷ names) = if bytes_eq field name then difference_from (number + 1) fields names else Some number

-- the first field, from 1, in which a row differs from the header
abbrev pub first_difference : List (List ℕ) → List (List ℕ) → Option ℕ
first_difference fields names = difference_from 1 fields names
