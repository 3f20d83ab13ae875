-- Worked examples: the wait-list.
use Rattle.sect_base.specs.declared.limit.Cap.TheVariants.{Section as cap_section}
use Rattle.sect_base.specs.declared.limit.Limit.TheVariants.{Unlimited, Places}
use Rattle.sect_command.specs.declared.command.Command.TheVariants.{Reserve, SetLimit}
use Rattle.sect_command.specs.declared.reply.Refusal.TheVariants.{NotYours, NotEnrolled, NotWaiting}
use Rattle.sect_command.specs.declared.reply.Reply.TheVariants.{Amended, Enrolled, Dropped, Waiting, Placed, Refused}
use Rattle.sect_model.specs.Script.{Answers, registrar, student, on, course_id, section_id, one_section, put_student, group, reservation, until, listing, any_of, enrol, drop, wait, unwait, choice}
use Rattle.std.specs.Prelude.{[], ◌∷◌, Some, None}

-- a place that is given up sets off two placements
abbrev pub WaitingChain : Type 0
WaitingChain = Answers (
    (registrar (one_section 1 7 (Places 1) []), Amended)
    ∷ (registrar (one_section 9 91 (Places 1) []), Amended)
    ∷ (registrar (one_section 4 41 Unlimited []), Amended)
    ∷ (registrar (put_student 11 18 [] []), Amended)
    ∷ (registrar (put_student 12 18 [] []), Amended)
    ∷ (registrar (put_student 13 18 [] []), Amended)
    ∷ (student 11 (enrol 11 (any_of 1) 2000), Enrolled (choice 1 None 1 (7 ∷ [])))
    ∷ (student 12 (enrol 12 (any_of 9) 2000), Enrolled (choice 9 None 9 (91 ∷ [])))
    ∷ (student 12 (wait 12 (any_of 1) (Some 9) 5), Waiting 1)
    ∷ (student 13 (wait 13 (any_of 9) None 5), Waiting 2)
    ∷ (student 11 (drop 11 1), Dropped (course_id 1))
    ∷ (student 12 (drop 12 9), Refused (NotEnrolled (course_id 9)))
    ∷ (student 11 (wait 11 (any_of 9) None 5), Waiting 3)
    ∷ (student 11 (wait 11 (any_of 4) None 5), Placed 4 (choice 4 None 4 (41 ∷ [])))
    ∷ [])

-- of two entries the one of least ticket is placed
abbrev pub LeastTicket : Type 0
LeastTicket = Answers (
    (registrar (one_section 1 7 (Places 1) []), Amended)
    ∷ (registrar (put_student 11 18 [] []), Amended)
    ∷ (registrar (put_student 12 18 [] []), Amended)
    ∷ (registrar (put_student 13 18 [] []), Amended)
    ∷ (student 11 (enrol 11 (any_of 1) 2000), Enrolled (choice 1 None 1 (7 ∷ [])))
    ∷ (student 12 (wait 12 (any_of 1) None 5), Waiting 1)
    ∷ (student 13 (wait 13 (any_of 1) None 5), Waiting 2)
    ∷ (student 11 (drop 11 1), Dropped (course_id 1))
    ∷ (student 12 (drop 12 1), Dropped (course_id 1))
    ∷ (student 13 (unwait 13 2), Refused NotWaiting)
    ∷ [])

-- a smaller class is placed first, and only a registrar gives one
abbrev pub LeastClass : Type 0
LeastClass = Answers (
    (registrar (one_section 1 7 (Places 1) []), Amended)
    ∷ (registrar (put_student 11 18 [] []), Amended)
    ∷ (registrar (put_student 12 18 [] []), Amended)
    ∷ (registrar (put_student 13 18 [] []), Amended)
    ∷ (student 11 (enrol 11 (any_of 1) 2000), Enrolled (choice 1 None 1 (7 ∷ [])))
    ∷ (student 12 (wait 12 (any_of 1) None 5), Waiting 1)
    ∷ (registrar (wait 13 (any_of 1) None 2), Waiting 2)
    ∷ (student 12 (wait 12 (any_of 1) None 2), Refused NotYours)
    ∷ (student 11 (drop 11 1), Dropped (course_id 1))
    ∷ (student 13 (drop 13 1), Dropped (course_id 1))
    ∷ [])

-- a refused command on a new day places what the day frees, after the command itself
abbrev pub NewDayPlaces : Type 0
NewDayPlaces = Answers (
    (registrar (one_section 6 61 (Places 2) []), Amended)
    ∷ (registrar (put_student 11 18 [] []), Amended)
    ∷ (registrar (put_student 12 18 [] []), Amended)
    ∷ (registrar (put_student 13 18 (4 ∷ []) []), Amended)
    ∷ (registrar (SetLimit (cap_section (section_id 61)) (Places 1)), Amended)
    ∷ (registrar (Reserve (until 20361 (listing (6 ∷ []) (61 ∷ []) (reservation 1 6 (group 4) (Places 1))))), Amended)
    ∷ (student 12 (wait 12 (any_of 6) None 5), Waiting 1)
    ∷ (on 20362 (student 11 (drop 11 6)), Refused (NotEnrolled (course_id 6)))
    ∷ (student 12 (drop 12 6), Dropped (course_id 6))
    ∷ [])
