-- What holds of the world and a command that isn't refused.
use Rattle.std.specs.Prelude.{◌≡◌, false, IsTrue, ⊤}
use Rattle.std.specs.List.{list_all}
use Rattle.std.specs.Option.{is_some, option_to_list}
use Rattle.sect_people.specs.Student.{find_student}
use Rattle.sect_catalog.specs.Catalogue.{is_cancelled}
use Rattle.sect_command.specs.declared.command.Command.{Command}
use Rattle.sect_command.specs.declared.command.Command.TheVariants.{Offering, Student, Requests, Reserve, Unreserve, Expire, Restrict, Unrestrict, SetLimit, Cancel, Enrol, Drop, Swap, Wait, Unwait, Batch}
use Rattle.sect_model.specs.declared.change.Change.TheVariants.{Offering as new_offering, Student as new_student, Requests as new_requests, Reserve as new_reservation, Unreserve as gone_reservation, Expiry, Restrict as new_restriction, Unrestrict as gone_restriction, Cap as new_cap, Cancelled, Leave}
use Rattle.sect_model.specs.World.{World, holds}
use Rattle.sect_model.specs.Change.{reservation_from, restriction_from}
use Rattle.sect_model.specs.Step.{enrol_move}
use Rattle.sect_model.specs.Premises.{MoveFits, want_fits}
use Rattle.sect_model.specs.Fits.{Fits}

-- the change that a registrar's command makes fits, and so does the move of an enrolment or a swap
abbrev pub CommandFits : World → Command → Type 0
CommandFits w (Offering row) = Fits w (new_offering row)
CommandFits w (Student row) = Fits w (new_student row)
CommandFits w (Requests student asks) = Fits w (new_requests student asks)
CommandFits w (Reserve row) = Fits w (new_reservation (reservation_from w row))
CommandFits w (Unreserve id) = Fits w (gone_reservation id)
CommandFits w (Expire id expiry) = Fits w (Expiry id expiry)
CommandFits w (Restrict row) = Fits w (new_restriction (restriction_from w row))
CommandFits w (Unrestrict id) = Fits w (gone_restriction id)
CommandFits w (SetLimit cap limit) = Fits w (new_cap cap limit)
CommandFits w (Cancel id) = is_cancelled w.catalogue id ≡ false → Fits w (Cancelled id)
CommandFits w (Enrol student want budget) = MoveFits w (enrol_move student want)
CommandFits w (Drop student course) = Fits w (Leave student course)
CommandFits w (Swap student give take budget) = MoveFits w (record { student = student; give = give; take = take })
CommandFits w (Wait student want give class) =
    IsTrue (is_some (find_student w.students student)) × IsTrue (want_fits w want) × IsTrue (list_all (holds w student) (option_to_list give))
CommandFits w (Unwait student ticket) = ⊤
CommandFits w (Batch students) = IsTrue (list_all (λ s. is_some (find_student w.students s)) students)
