-- What a command does to the world and to those who wait, apart from each other.
use Rattle.std.specs.Prelude.{◌≡◌, List, Result, Ok, Err}
use Rattle.sect_command.specs.declared.command.Command.{Command}
use Rattle.sect_command.specs.declared.command.Command.TheVariants.{Offering, Student as student_row, Requests, Reserve, Unreserve, Expire, Restrict, Unrestrict, SetLimit, Cancel, Enrol, Drop, Swap, Wait, Unwait, Batch}
use Rattle.sect_command.specs.declared.reply.Reply.{Reply}
use Rattle.sect_command.specs.declared.reply.Reply.TheVariants.{Amended, Blocked, Spent}
use Rattle.sect_model.specs.Data.{Ask, Choice, Move, OfferingRow, StudentRow}
use Rattle.sect_model.specs.declared.pick.Outcome.{Outcome}
use Rattle.sect_model.specs.declared.pick.Outcome.TheVariants.{Found, Blocked as blocked, Spent as spent}
use Rattle.sect_model.specs.World.{World}
use Rattle.sect_model.specs.Settle.{make_move}

-- the world after the outcome of a move: the move is made where it is found, and else nothing is changed
abbrev pub moved_world : World → Move → Outcome → World
moved_world w mv (Found choices visits) = make_move w mv choices
moved_world w mv (blocked tree visits) = w
moved_world w mv (spent budget) = w

-- the reply to a move, by its outcome
abbrev pub outcome_reply : (List Choice → Reply) → Outcome → Reply
outcome_reply reply (Found choices visits) = reply choices
outcome_reply reply (blocked tree visits) = Blocked visits tree
outcome_reply reply (spent budget) = Spent budget

-- the reply to a change, where it was made
abbrev pub amended_or : {A E : Type 0} → Result A E → Result Reply E
amended_or (Ok done) = Ok Amended
amended_or (Err e) = Err e

-- what is left of a command: all of it, or of one whose row the world takes over one of its kind
abbrev pub IsLeft : Command → Command → Type 0
IsLeft (Offering row) left = (rest : OfferingRow) × (left ≡ Offering rest)
IsLeft (student_row row) left = (rest : StudentRow) × (left ≡ student_row rest)
IsLeft (Requests student asks) left = (rest : List Ask) × (left ≡ Requests student rest)
IsLeft (Reserve row) left = left ≡ Reserve row
IsLeft (Unreserve id) left = left ≡ Unreserve id
IsLeft (Expire id expiry) left = left ≡ Expire id expiry
IsLeft (Restrict row) left = left ≡ Restrict row
IsLeft (Unrestrict id) left = left ≡ Unrestrict id
IsLeft (SetLimit cap limit) left = left ≡ SetLimit cap limit
IsLeft (Cancel id) left = left ≡ Cancel id
IsLeft (Enrol student want budget) left = left ≡ Enrol student want budget
IsLeft (Drop student course) left = left ≡ Drop student course
IsLeft (Swap student give take budget) left = left ≡ Swap student give take budget
IsLeft (Wait student want give class) left = left ≡ Wait student want give class
IsLeft (Unwait student ticket) left = left ≡ Unwait student ticket
IsLeft (Batch students) left = left ≡ Batch students
