-- Worked examples: what queries are answered.
use Rattle.sect_base.specs.declared.limit.Limit.TheVariants.{Unlimited, Places}
use Rattle.sect_command.specs.declared.command.Command.TheVariants.{Reserve}
use Rattle.sect_command.specs.declared.view.Query.TheVariants.{Roll, Open, Schedule, Waiting, Unmet}
use Rattle.sect_command.specs.declared.view.View.TheVariants.{Roll as RollOf, Open as OpenOf, Schedule as ScheduleOf, Waiting as WaitingList, Unmet as UnmetList, Unknown as UnknownId}
use Rattle.sect_model.specs.Script.{Looks, state_after, registrar, student, course_id, config_id, section_id, student_id, offering_id, one_section, meets, put_student, group, reservation, until, listing, ask, requests, any_of, enrol, drop, wait, choice, held}
use Rattle.sect_people.specs.declared.row.Ask.TheVariants.{Free}
use Rattle.std.specs.Prelude.{false, [], ◌∷◌, Some, None, pos}
use Rattle.sect_model.specs.World.{State}
use Rattle.sect_model.specs.GoodWorld.{GoodWorld}

abbrev pub after_waiting_after_a_chain : State
after_waiting_after_a_chain = state_after (
    registrar (one_section 1 7 (Places 1) [])
    ∷ registrar (one_section 9 91 (Places 1) [])
    ∷ registrar (one_section 4 41 Unlimited [])
    ∷ registrar (put_student 11 18 [] [])
    ∷ registrar (put_student 12 18 [] [])
    ∷ registrar (put_student 13 18 [] [])
    ∷ student 11 (enrol 11 (any_of 1) 2000)
    ∷ student 12 (enrol 12 (any_of 9) 2000)
    ∷ student 12 (wait 12 (any_of 1) (Some 9) 5)
    ∷ student 13 (wait 13 (any_of 9) None 5)
    ∷ student 11 (drop 11 1)
    ∷ [])

-- who holds what and who waits after the chain of placements
abbrev pub WaitingAfterAChain : Type 0
WaitingAfterAChain = Looks after_waiting_after_a_chain (
    (Roll (section_id 7), RollOf (record { section = section_id 7; limit = Places 1; held = held 12 1 None ∷ [] }))
    ∷ (Roll (section_id 91), RollOf (record { section = section_id 91; limit = Places 1; held = held 13 9 None ∷ [] }))
    ∷ (Waiting, WaitingList [])
    ∷ (Roll (section_id 8), UnknownId 8)
    ∷ [])

abbrev pub after_waiting_by_ticket : State
after_waiting_by_ticket = state_after (
    registrar (one_section 1 7 (Places 1) [])
    ∷ registrar (put_student 11 18 [] [])
    ∷ registrar (put_student 12 18 [] [])
    ∷ registrar (put_student 13 18 [] [])
    ∷ student 11 (enrol 11 (any_of 1) 2000)
    ∷ student 12 (wait 12 (any_of 1) None 5)
    ∷ registrar (wait 13 (any_of 1) None 2)
    ∷ [])

-- the entry that is left
abbrev pub WaitingByTicket : Type 0
WaitingByTicket = Looks after_waiting_by_ticket (
    (Waiting, WaitingList (record { ticket = 1; student = student_id 12; courses = course_id 1 ∷ []; give = None } ∷ record { ticket = 2; student = student_id 13; courses = course_id 1 ∷ []; give = None } ∷ []))
    ∷ [])

abbrev pub after_open_places : State
after_open_places = state_after (
    registrar (one_section 6 61 (Places 2) [])
    ∷ registrar (put_student 11 18 [] [])
    ∷ registrar (put_student 12 18 [] [])
    ∷ registrar (put_student 13 18 (4 ∷ []) [])
    ∷ registrar (Reserve (until 20361 (listing (6 ∷ []) (61 ∷ []) (reservation 1 6 (group 4) (Places 1)))))
    ∷ student 11 (enrol 11 (any_of 6) 2000)
    ∷ [])

-- limits, enrolments and unreserved space, the cancelled section marked
abbrev pub OpenPlaces : Type 0
OpenPlaces = Looks after_open_places (
    (Open (offering_id 6), OpenOf (record { offering = offering_id 6; limit = None; held = 1; free = None; courses = record { course = course_id 6; limit = Unlimited; held = 1 } ∷ []; configs = record { config = config_id 6; limit = Unlimited; held = 1; free = None; sections = record { section = section_id 61; limit = Places 2; held = 1; free = Some (pos 0); cancelled = false } ∷ [] } ∷ [] }))
    ∷ [])

abbrev pub after_schedule_and_unmet : State
after_schedule_and_unmet = state_after (
    registrar (one_section 9 91 Unlimited [])
    ∷ registrar (one_section 1 7 Unlimited [])
    ∷ registrar (put_student 11 18 [] [])
    ∷ student 11 (enrol 11 (any_of 9) 2000)
    ∷ student 11 (enrol 11 (any_of 1) 2000)
    ∷ registrar (one_section 2 21 Unlimited [])
    ∷ registrar (requests 11 (Free (meets 1 108 10 1) ∷ ask (2 ∷ []) false false ∷ ask (1 ∷ []) false false ∷ []))
    ∷ [])

-- a schedule by course, and the requests of which no course is held
abbrev pub ScheduleAndUnmet : Type 0
ScheduleAndUnmet = Looks after_schedule_and_unmet (
    (Schedule (student_id 11), ScheduleOf (record { student = student_id 11; credits = 6; max = 18; held = choice 1 None 1 (7 ∷ []) ∷ choice 9 None 9 (91 ∷ []) ∷ [] }))
    ∷ (Unmet, UnmetList (record { student = student_id 11; rank = 2; courses = course_id 2 ∷ [] } ∷ []))
    ∷ [])

-- the world after the chain is good
abbrev pub GoodAfterAChain : Type 0
GoodAfterAChain = GoodWorld after_waiting_after_a_chain.world
