-- The changes that leave the counts as they are.
use Rattle.std.specs.Prelude.{◌≡◌, Bool, true, false}
use Rattle.sect_base.specs.declared.ids.ReservationId.{ReservationId}
use Rattle.sect_base.specs.declared.limit.Level.{Level}
use Rattle.sect_model.specs.declared.change.Change.{Change}
use Rattle.sect_model.specs.declared.change.Change.TheVariants.{Offering, Student, Requests, Reserve, Unreserve, Expiry, Restrict, Unrestrict, Cap as new_cap, Cancelled, Day, Enrol, Leave}
use Rattle.sect_model.specs.World.{World}
use Rattle.sect_model.specs.Kept.{KeptWorld}
use Rattle.sect_model.specs.Fits.{Fits, changed}
use Rattle.sect_numbers.specs.declared.numbers.Numbers.{Numbers}
use Rattle.sect_numbers.specs.Tally.{has_row}
use Rattle.sect_numbers.specs.Numbers.{counts_of, uses_of, Told, Grown, has_offering}

-- the change enrols nobody, and nobody leaves by it
abbrev pub is_quiet : Change → Bool
is_quiet (Offering row) = true
is_quiet (Student row) = true
is_quiet (Requests student asks) = true
is_quiet (Reserve r) = true
is_quiet (Unreserve id) = true
is_quiet (Expiry id day) = true
is_quiet (Restrict r) = true
is_quiet (Unrestrict id) = true
is_quiet (new_cap cap limit) = true
is_quiet (Cancelled id) = true
is_quiet (Day day) = true
is_quiet (Enrol e) = false
is_quiet (Leave student course) = false

-- the worlds have the same counts and uses, of each level and reservation, known or not
pub record SameCounts (w u : World) : Type 0 where
  pub counts : (level : Level) → counts_of u level ≡ counts_of w level
  pub uses : (id : ReservationId) → uses_of u id ≡ uses_of w id

-- a change that enrols nobody, and by which nobody leaves, leaves the counts as they are
abbrev pub QuietKeepsCounts : Type 0
QuietKeepsCounts = (w : World) (c : Change) → KeptWorld w → Fits w c → is_quiet c ≡ true → SameCounts w (changed w c)

-- what is new by the change has its rows
abbrev pub has_new : Numbers → Change → Bool
has_new m (Offering row) = has_offering m row
has_new m (Student row) = true
has_new m (Requests student asks) = true
has_new m (Reserve r) = has_row m.uses r.id.0
has_new m (Unreserve id) = true
has_new m (Expiry id day) = true
has_new m (Restrict r) = true
has_new m (Unrestrict id) = true
has_new m (new_cap cap limit) = true
has_new m (Cancelled id) = true
has_new m (Day day) = true
has_new m (Enrol e) = true
has_new m (Leave student course) = true

-- the change brings what needs new rows
abbrev pub adds_rows : Change → Bool
adds_rows (Offering row) = true
adds_rows (Student row) = false
adds_rows (Requests student asks) = false
adds_rows (Reserve r) = true
adds_rows (Unreserve id) = false
adds_rows (Expiry id day) = false
adds_rows (Restrict r) = false
adds_rows (Unrestrict id) = false
adds_rows (new_cap cap limit) = false
adds_rows (Cancelled id) = false
adds_rows (Day day) = false
adds_rows (Enrol e) = false
adds_rows (Leave student course) = false

-- numbers with rows for what is new are told of a change that enrols nobody, and by which nobody leaves
abbrev pub ToldOfOthers : Type 0
ToldOfOthers =
    (n m : Numbers) (w : World) (c : Change) → KeptWorld w → Fits w c → is_quiet c ≡ true → Told n w → Grown n m → has_new m c ≡ true → Told m (changed w c)

-- what the change took away still has its rows
abbrev pub has_old : Numbers → Change → Bool
has_old n (Offering row) = true
has_old n (Student row) = true
has_old n (Requests student asks) = true
has_old n (Reserve r) = true
has_old n (Unreserve id) = has_row n.uses id.0
has_old n (Expiry id day) = true
has_old n (Restrict r) = true
has_old n (Unrestrict id) = true
has_old n (new_cap cap limit) = true
has_old n (Cancelled id) = true
has_old n (Day day) = true
has_old n (Enrol e) = true
has_old n (Leave student course) = true

-- numbers that were told of such a change are those of the world before it, once it is taken back
abbrev pub ToldBefore : Type 0
ToldBefore =
    (n : Numbers) (w : World) (c : Change) → KeptWorld w → Fits w c → is_quiet c ≡ true → Told n (changed w c) → has_old n c ≡ true → Told n w
