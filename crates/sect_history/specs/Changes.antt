-- Changes that lead from one good world to another.
use Rattle.std.specs.Prelude.{◌≡◌, ◌⊎◌, ℕ, max, Bool, true, false, List, [], ◌∷◌, ◌++◌, Option, Some, None, IsTrue}
use Rattle.std.specs.List.{list_all}
use Rattle.std.specs.Option.{option_map_or, option_to_list}
use Rattle.sect_command.specs.declared.command.Command.{Command}
use Rattle.sect_command.specs.declared.command.Command.TheVariants.{Offering as offering_row, Student as student_row, Requests as ask_for, Reserve as reserve, Unreserve as unreserve, Expire, Restrict as restrict, Unrestrict as unrestrict, SetLimit, Cancel, Enrol as enrol, Drop, Swap, Wait, Unwait, Batch}
use Rattle.sect_model.specs.declared.change.Change.{Change}
use Rattle.sect_model.specs.declared.change.Change.TheVariants.{Offering, Student, Requests, Reserve, Unreserve, Expiry, Restrict, Unrestrict, Cap as new_cap, Cancelled, Day, Enrol, Leave}
use Rattle.sect_model.specs.declared.held.Enrolment.{Enrolment}
use Rattle.sect_model.specs.World.{World, offering_of}
use Rattle.sect_model.specs.Allowed.{leaves_reserved}
use Rattle.sect_model.specs.Change.{put_day, reservation_from, restriction_from}
use Rattle.sect_model.specs.Kept.{KeptWorld}
use Rattle.sect_model.specs.Fits.{Fits, changed}

-- the change may be made in this world, which is good
pub record MayChange (w : World) (change : Change) : Type 0 where
  pub kept : KeptWorld w
  pub fits : Fits w change
  -- an enrolment without a reservation has unreserved space above 0 at each limited level of its choice
  pub unreserved : (e : Enrolment) → change ≡ Enrol e → e.choice.reservation ≡ None
      → IsTrue (option_map_or (λ o. leaves_reserved w o e.choice) (offering_of w e.choice.course) false)

-- each of the changes may be made in the world that those before it left, and they lead from the one world to the other, which is good too
abbrev pub Lead : World → List Change → World → Type 0
Lead w [] v = KeptWorld w × (v ≡ w)
Lead w (change ∷ changes) v = MayChange w change × Lead (changed w change) changes v

-- an enrolment or a leaving
abbrev pub is_seating : Change → Bool
is_seating (Offering row) = false
is_seating (Student row) = false
is_seating (Requests student asks) = false
is_seating (Reserve r) = false
is_seating (Unreserve id) = false
is_seating (Expiry id day) = false
is_seating (Restrict r) = false
is_seating (Unrestrict id) = false
is_seating (new_cap cap limit) = false
is_seating (Cancelled id) = false
is_seating (Day day) = false
is_seating (Enrol e) = true
is_seating (Leave student course) = true

-- enrolments and leavings lead from the one world to the other
pub record SeatsLead (w v : World) : Type 0 where
  pub seats : List Change
  pub all : IsTrue (list_all is_seating seats)
  pub lead : Lead w seats v

-- the change that a command makes in a world, but for enrolments and leavings
abbrev pub own_change : World → Command → Option Change
own_change w (offering_row row) = Some (Offering row)
own_change w (student_row row) = Some (Student row)
own_change w (ask_for student asks) = Some (Requests student asks)
own_change w (reserve row) = Some (Reserve (reservation_from w row))
own_change w (unreserve id) = Some (Unreserve id)
own_change w (Expire id day) = Some (Expiry id day)
own_change w (restrict row) = Some (Restrict (restriction_from w row))
own_change w (unrestrict id) = Some (Unrestrict id)
own_change w (SetLimit cap limit) = Some (new_cap cap limit)
own_change w (Cancel id) = Some (Cancelled id)
own_change w (enrol student want budget) = None
own_change w (Drop student course) = None
own_change w (Swap student give take budget) = None
own_change w (Wait student want give class) = None
own_change w (Unwait student ticket) = None
own_change w (Batch students) = None

-- a command leads from the one world to the other: the day becomes the larger of the two, the command makes its own change or none,
-- and then enrolments and leavings follow
pub record CommandLeads (w : World) (day : ℕ) (command : Command) (v : World) : Type 0 where
  pub own : List Change
  pub is_own : (own ≡ []) ⊎ (own ≡ option_to_list (own_change (put_day w (max w.day day)) command))
  pub seats : List Change
  pub all : IsTrue (list_all is_seating seats)
  pub lead : Lead w (Day (max w.day day) ∷ (own ++ seats)) v
