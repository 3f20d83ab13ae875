-- What a student's leaving a course may have opened, as long as it stays open, and whom it may give a move.
use Rattle.std.specs.Prelude.{◌≡◌, ℕ, Bool, true, false, not, ◌&&◌, ◌||◌, ◌==◌, cond, List, [], ◌∷◌, ◌++◌, map, filter, Some, None, IsTrue, ◌⊎◌}
use Rattle.std.specs.List.{list_any, list_all}
use Rattle.std.specs.Option.{option_map, option_map_or, option_to_list, is_some}
use Rattle.sect_base.specs.declared.limit.Level.TheVariants.{Course, Offering, Config, Section}
use Rattle.sect_model.specs.declared.held.Waiting.{Waiting}
use Rattle.sect_model.specs.Data.{StudentId, Choice, CourseId, ReservationId, OfferingRow, Level, Reservation}
use Rattle.sect_model.specs.declared.held.Enrolment.{Enrolment}
use Rattle.sect_model.specs.World.{World, offering_of, reservation_of, used_by, held_by, is_in}
use Rattle.sect_model.specs.Space.{has_place, has_unreserved}
use Rattle.sect_model.specs.Kept.{KeptWorld}
use Rattle.sect_model.specs.Freer.{Among, NoMove, is_level, has_room}
use Rattle.sect_wait.specs.declared.opened.Opened.{Opened}
use Rattle.sect_wait.specs.Indexed.{has_ticket}
use Rattle.sect_wait.specs.Marked.{Marked, Needless, is_marked, is_noted, wants_one}

-- a level has a place only where it had one, or was noted as full; likewise unreserved space, and the room of a reservation
pub record OpensNoMore (before after : World) (o : Opened) (course : CourseId) (row : OfferingRow) : Type 0 where
  pub place : (level : Level) → IsTrue (is_level row course level) → has_place after level ≡ true → (has_place before level ≡ true) ⊎ Among o.full.items level
  pub unreserved : (level : Level) → IsTrue (is_level row course level) → has_unreserved after level ≡ true → (has_unreserved before level ≡ true) ⊎ Among o.reserved.items level
  pub room : (id : ReservationId) (r : Reservation) → reservation_of before id ≡ Some r → IsTrue (r.offering.0 == row.id.0) → has_room after r ≡ true → (has_room before r ≡ true) ⊎ Among o.used_up.items r.id

-- from the world to the one with this roster, nothing opened for the entry but what was noted
pub record OpenedSince (before : World) (roster : List Enrolment) (o : Opened) (e : Waiting) : Type 0 where
  pub kept : KeptWorld before
  pub held : held_by (record before { roster = roster }) e.student ≡ held_by before e.student
  pub wanted : (course : CourseId) (row : OfferingRow) → IsTrue (list_any (λ c. c.0 == course.0) e.want.courses) → offering_of before course ≡ Some row
      → OpensNoMore before (record before { roster = roster }) o course row

-- the entry had no move in a world, and only what was noted opened since
pub record WasBlocked (w : World) (o : Opened) (e : Waiting) : Type 0 where
  pub before : World
  pub same : w ≡ record before { roster = w.roster }
  pub since : OpenedSince before w.roster o e
  pub none : NoMove before e

-- each entry that isn't marked and doesn't want what opened needs no search, and one that gives up nothing needs none or had
-- no move before
pub record OthersBut (w : World) (entries : List Waiting) (m : Marked) (o : Opened) : Type 0 where
  pub others : (e : Waiting) → Among entries e → is_marked m e ≡ false → wants_one o.courses.items e ≡ false → Needless w (is_noted m.spent e) e
  pub blocked : (e : Waiting) → Among entries e → is_marked m e ≡ false → e.give ≡ None → Needless w (is_noted m.spent e) e ⊎ WasBlocked w o e

-- the entry is marked, or wants what opened
abbrev pub is_sought : Marked → Opened → Waiting → Bool
is_sought m o e = is_marked m e || wants_one o.courses.items e

-- each entry that isn't sought needs no search
abbrev pub UnsoughtNeedNone : World → List Waiting → Marked → Opened → Type 0
UnsoughtNeedNone w entries m o = (e : Waiting) → Among entries e → is_sought m o e ≡ false → Needless w (is_noted m.spent e) e

-- the tickets of the entries that pass the test are listed
abbrev pub AreListed : (Waiting → Bool) → List Waiting → List ℕ → Type 0
AreListed test entries tickets = (e : Waiting) → Among entries e → has_ticket e.ticket tickets ≡ false → test e ≡ false

-- no ticket is taken off the list, and those of the entries that pass the test are on it
pub record ListsMore (test : Waiting → Bool) (entries : List Waiting) (before after : List ℕ) : Type 0 where
  pub kept : (ticket : ℕ) → has_ticket ticket after ≡ false → has_ticket ticket before ≡ false
  pub added : AreListed test entries after

-- the entry gives a course up, and wants one of these
abbrev pub gives_and_wants : List CourseId → Waiting → Bool
gives_and_wants courses e = list_any (λ d. is_some e.give && list_any (λ c. d.0 == c.0) e.want.courses) courses

-- the levels at which an enrolment by the choice counts
abbrev pub levels_at : World → Choice → List Level
levels_at w choice =
    Course choice.course ∷ Config choice.config ∷ map Section choice.sections ++ option_to_list (option_map (λ o. Offering o.id) (offering_of w choice.course))

-- the courses of the offering of a course
abbrev pub courses_with : World → CourseId → List CourseId
courses_with w course = option_map_or (λ o. map (λ c. c.id) o.courses) (offering_of w course) []

-- the reservation of a choice, where it is used up
abbrev pub used_up_by : World → Choice → List ReservationId
used_up_by w choice = option_map_or (λ r. cond (has_room w r) [] (r.id ∷ [])) (used_by w choice) []

-- this is what the leaving of who is enrolled by the choice may open
pub record Notes (w : World) (choice : Choice) (o : Opened) : Type 0 where
  pub courses : o.courses.items ≡ courses_with w choice.course
  pub full : o.full.items ≡ filter (λ level. not (has_place w level)) (levels_at w choice)
  pub reserved : o.reserved.items ≡ filter (λ level. not (has_unreserved w level)) (levels_at w choice)
  pub used_up : o.used_up.items ≡ used_up_by w choice

-- and of the student's enrolment in the course
abbrev pub NotesAll : World → StudentId → CourseId → Opened → Type 0
NotesAll w student course o = (x : Enrolment) × (filter (is_in student course) w.roster ≡ x ∷ []) × Notes w x.choice o

-- the world has none of the places, the unreserved space and the room that were noted
abbrev pub is_closed_again : World → Opened → Bool
is_closed_again w o =
    list_all (λ level. not (has_place w level)) o.full.items
    && list_all (λ level. not (has_unreserved w level)) o.reserved.items
    && list_all (λ id. not (option_map_or (has_room w) (reservation_of w id) true)) o.used_up.items
