-- The rows of a CSV text that comes in pieces.
use Rattle.std.specs.Prelude.{Bool, ℕ, List, [], ◌∷◌, ◌++◌, ◌==◌, if◌then◌else◌}
use Rattle.std.specs.List.{list_any}
use Rattle.csv.specs.Machine.{step, field_after, ends_at_end, line_feed}
use Rattle.csv.specs.Reading.{default_config, strip_bom}
use Rattle.csv.specs.declared.parser.State.{State}
use Rattle.csv.specs.declared.parser.State.TheVariants as st
use Rattle.csv.specs.declared.parser.Action.{Action}
use Rattle.csv.specs.declared.parser.Action.TheVariants as act

-- where the machine of csv stands in a text: its state, the fields of the row at hand, the bytes of the field at hand
pub record Place : Type 0 where
  pub state : State
  pub fields : List (List ℕ)
  pub field : List ℕ

-- where it stands before the first byte of a text
abbrev pub at_start : Place
at_start = record { state = st.StartRecord; fields = []; field = [] }

-- the fields at hand after an action, none behind the end of a row
abbrev pub open_fields : Action → List (List ℕ) → List ℕ → List (List ℕ)
open_fields act.EndRecord fields field = []
open_fields act.EndField fields field = fields ++ (field ∷ [])
open_fields act.Copy fields field = fields
open_fields act.Skip fields field = fields

-- the rows that an action ends: the one at hand, or none
abbrev pub rows_ended : Action → List (List ℕ) → List ℕ → List (List (List ℕ))
rows_ended act.EndRecord fields field = (fields ++ (field ∷ [])) ∷ []
rows_ended act.EndField fields field = []
rows_ended act.Copy fields field = []
rows_ended act.Skip fields field = []

-- where it stands after a byte, by what its table says of the byte
abbrev pub moved : State × Action → Place → ℕ → Place
moved told p c = record { state = told.0; fields = open_fields told.1 p.fields p.field; field = field_after told.1 c p.field }

-- where it stands after these bytes
unfoldable pub place_after : Place → List ℕ → Place
place_after p [] = p
place_after p (c ∷ rest) = place_after (moved (step default_config p.state c) p c) rest

-- the rows that end within these bytes
unfoldable pub rows_within : Place → List ℕ → List (List (List ℕ))
rows_within p [] = []
rows_within p (c ∷ rest) =
    rows_ended (step default_config p.state c).1 p.fields p.field ++ rows_within (moved (step default_config p.state c) p c) rest

-- the row that the end of the text ends, where one is at hand
abbrev pub rows_left : Place → List (List (List ℕ))
rows_left p = if ends_at_end p.state then (p.fields ++ (p.field ∷ [])) ∷ [] else []

-- whether a line feed stands among these bytes
abbrev pub has_feed : List ℕ → Bool
has_feed bytes = list_any (λ b. b == line_feed) bytes

-- the bytes through the last line feed
unfoldable pub through_last_feed : List ℕ → List ℕ
through_last_feed [] = []
through_last_feed (c ∷ rest) = if has_feed (c ∷ rest) then c ∷ through_last_feed rest else []

-- of the bytes that came so far, the rows that end within the bytes through the last line feed, a mark at the start passed over
unfoldable pub shown_rows : List ℕ → List (List (List ℕ))
shown_rows text = rows_within at_start (strip_bom (through_last_feed text))

-- every row of the whole text, a byte order mark at its start passed over
unfoldable pub all_rows : List ℕ → List (List (List ℕ))
all_rows text = rows_within at_start (strip_bom text) ++ rows_left (place_after at_start (strip_bom text))
