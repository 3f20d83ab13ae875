-- States of whose parts a reply can tell: each such part has a text.
use Rattle.std.specs.Prelude.{ℕ, ◌≤◌}
use Rattle.sect_model.specs.Data.{Student, Reservation}
use Rattle.sect_model.specs.declared.held.Enrolment.{Enrolment}
use Rattle.sect_model.specs.declared.held.Waiting.{Waiting}
use Rattle.sect_model.specs.World.{World, State}
use Rattle.sect_wire.specs.Fits.{FitsList, FitsCourse, FitsSection, FitsReservation, FitsOfferingRow, FitsStudentRow, FitsAsk}

-- a student's row and requests have texts
abbrev pub FitsStudentAsks : Student → Type 0
FitsStudentAsks s = FitsStudentRow s.row × FitsList FitsAsk s.asks

-- a reservation's id has a text
abbrev pub FitsReserved : Reservation → Type 0
FitsReserved r = FitsReservation r.id

-- the sections of an enrolment have texts
abbrev pub FitsEnrolment : Enrolment → Type 0
FitsEnrolment e = FitsList FitsSection e.choice.sections

-- the courses of a waiting entry have texts, and its ticket is at most this one
abbrev pub FitsWaiting : ℕ → Waiting → Type 0
FitsWaiting most e = FitsList FitsCourse e.want.courses × (e.ticket ≤ most)

-- what a reply can tell of the world has a text
pub record FitsWorld (w : World) : Type 0 where
  pub offerings : FitsList FitsOfferingRow w.catalogue.rows
  pub students : FitsList FitsStudentAsks w.students
  pub reservations : FitsList FitsReserved w.reservations
  pub roster : FitsList FitsEnrolment w.roster

-- so has what it can tell of who waits, and the next ticket is at most this one
pub record FitsState (most : ℕ) (s : State) : Type 0 where
  pub world : FitsWorld s.world
  pub entries : FitsList (FitsWaiting most) s.entries
  pub next : s.next ≤ most
