-- Worked examples: why commands are refused.
use Rattle.sect_base.specs.declared.limit.Cap.TheVariants.{Course as cap_course, Config as cap_config}
use Rattle.sect_base.specs.declared.limit.Limit.TheVariants.{Unlimited, Places}
use Rattle.sect_base.specs.declared.rule.Rule.TheVariants.{InOffering}
use Rattle.sect_catalog.specs.declared.row.CatalogFault.TheVariants.{Known as offering_Known, NoCourse, NoConfig, NoSubpart, NoSection, BadParent}
use Rattle.sect_command.specs.declared.command.Command.TheVariants.{Reserve, Unreserve, Expire, Unrestrict, SetLimit, Cancel}
use Rattle.sect_command.specs.declared.reply.Refusal.TheVariants.{NotYours, Unknown, EmptyWant, TooMany, NotEnrolled, WaitingAlready, NotWaiting, LimitBelow, Row}
use Rattle.sect_command.specs.declared.reply.Reply.TheVariants.{Amended, Enrolled, Waiting, Blocked, Refused}
use Rattle.sect_command.specs.declared.reply.RowFault.TheVariants.{Offering as offering_fault, Request as request_fault, Reserve as reserve_fault}
use Rattle.sect_model.specs.Script.{Answers, registrar, student, course_id, config_id, section_id, course, section, subpart, config, offering, one_section, put_student, group, course_audience, reservation, listing, restrict, ask, requests, want, any_of, enrol, drop, swap, wait, unwait, batch, choice, leaf, each}
use Rattle.sect_people.specs.declared.row.RequestFault.TheVariants.{UnknownCourse, Twice, TooMany as request_TooMany}
use Rattle.sect_reserve.specs.declared.row.ReserveFault.TheVariants.{Known as reserve_Known, Foreign, NoGroup}
use Rattle.std.specs.Prelude.{false, [], ◌∷◌, Some, None}

-- what students are refused
abbrev pub RefusedStudents : Type 0
RefusedStudents = Answers (
    (registrar (one_section 1 7 (Places 1) []), Amended)
    ∷ (registrar (put_student 11 18 [] []), Amended)
    ∷ (registrar (put_student 12 18 [] []), Amended)
    ∷ (student 11 (enrol 11 (any_of 1) 2000), Enrolled (choice 1 None 1 (7 ∷ [])))
    ∷ (student 11 (enrol 12 (any_of 1) 2000), Refused NotYours)
    ∷ (student 11 (put_student 11 9 [] []), Refused NotYours)
    ∷ (student 11 (enrol 11 (any_of 77) 2000), Refused (Unknown 77))
    ∷ (student 11 (enrol 11 (want (78 ∷ []) (77 ∷ []) 21) 2000), Refused (Unknown 78))
    ∷ (student 11 (enrol 11 (want [] (77 ∷ []) 21) 2000), Refused (Unknown 77))
    ∷ (student 11 (enrol 11 (want [] [] 21) 2000), Refused EmptyWant)
    ∷ (student 11 (enrol 11 (want (1 ∷ 1 ∷ 1 ∷ 1 ∷ 1 ∷ 1 ∷ 1 ∷ []) [] 21) 2000), Refused (TooMany 7))
    ∷ (student 12 (drop 12 1), Refused (NotEnrolled (course_id 1)))
    ∷ (student 12 (drop 12 2), Refused (Unknown 2))
    ∷ (student 11 (swap 11 (1 ∷ 1 ∷ []) [] 2000), Refused (NotEnrolled (course_id 1)))
    ∷ (student 11 (swap 11 [] [] 2000), Refused EmptyWant)
    ∷ (student 11 (swap 11 (1 ∷ 1 ∷ 1 ∷ 1 ∷ 1 ∷ []) [] 2000), Refused (TooMany 5))
    ∷ (student 11 (swap 11 [] ((any_of 1) ∷ (want (78 ∷ []) (77 ∷ []) 21) ∷ []) 2000), Refused (Unknown 78))
    ∷ (student 12 (unwait 12 5), Refused NotWaiting)
    ∷ (student 12 (wait 12 (any_of 1) None 5), Waiting 1)
    ∷ (student 12 (wait 12 (any_of 1) None 5), Refused (WaitingAlready 1))
    ∷ (student 12 (wait 12 (want [] [] 21) (Some 9) 5), Refused (Unknown 9))
    ∷ (student 12 (wait 12 (any_of 1) (Some 1) 5), Refused (NotEnrolled (course_id 1)))
    ∷ (student 11 (enrol 11 (any_of 1) 2000), Blocked 1 (each (leaf InOffering 1 ∷ [])))
    ∷ [])

-- what is wrong in rows
abbrev pub RefusedRows : Type 0
RefusedRows = Answers (
    (registrar (one_section 1 7 (Places 1) []), Amended)
    ∷ (registrar (put_student 11 18 [] []), Amended)
    ∷ (registrar (put_student 12 18 [] []), Amended)
    ∷ (student 11 (enrol 11 (any_of 1) 2000), Enrolled (choice 1 None 1 (7 ∷ [])))
    ∷ (registrar (offering 3 (course 3 Unlimited 3 ∷ []) []), Refused (Row (offering_fault NoConfig)))
    ∷ (registrar (offering 3 [] []), Refused (Row (offering_fault NoCourse)))
    ∷ (registrar (offering 1 [] []), Refused (Row (offering_fault (offering_Known 1))))
    ∷ (registrar (offering 3 (course 3 Unlimited 3 ∷ course 3 Unlimited 3 ∷ []) []), Refused (Row (offering_fault (offering_Known 3))))
    ∷ (registrar (offering 3 (course 3 Unlimited 3 ∷ []) (config 3 Unlimited [] ∷ [])), Refused (Row (offering_fault (NoSubpart 3))))
    ∷ (registrar (offering 3 (course 3 Unlimited 3 ∷ []) (config 3 Unlimited (subpart 3 [] ∷ []) ∷ [])), Refused (Row (offering_fault (NoSection 3))))
    ∷ (registrar (offering 3 (course 3 Unlimited 3 ∷ []) (config 3 Unlimited (subpart 3 (section 31 Unlimited (Some 32) [] ∷ section 32 Unlimited None [] ∷ []) ∷ []) ∷ [])), Refused (Row (offering_fault (BadParent 31))))
    ∷ (registrar (offering 3 (course 3 Unlimited 3 ∷ []) (config 3 Unlimited (subpart 3 (section 31 Unlimited None [] ∷ []) ∷ subpart 4 (section 7 Unlimited (Some 31) [] ∷ []) ∷ []) ∷ [])), Refused (Row (offering_fault (offering_Known 7))))
    ∷ (registrar (requests 11 (ask (1 ∷ 1 ∷ []) false false ∷ [])), Refused (Row (request_fault (Twice 1))))
    ∷ (registrar (requests 11 (ask (1 ∷ []) false false ∷ ask (5 ∷ []) false false ∷ [])), Refused (Row (request_fault (UnknownCourse 5))))
    ∷ (registrar (requests 11 (ask [] false false ∷ [])), Refused (Row (request_fault (request_TooMany 0))))
    ∷ (registrar (requests 13 (ask (1 ∷ []) false false ∷ [])), Refused (Unknown 13))
    ∷ [])

-- what is wrong in rows of reservations and restrictions
abbrev pub RefusedReservations : Type 0
RefusedReservations = Answers (
    (registrar (one_section 1 7 (Places 1) []), Amended)
    ∷ (registrar (put_student 11 18 [] []), Amended)
    ∷ (registrar (put_student 12 18 [] []), Amended)
    ∷ (student 11 (enrol 11 (any_of 1) 2000), Enrolled (choice 1 None 1 (7 ∷ [])))
    ∷ (registrar (Reserve (reservation 9 1 (course_audience 8) Unlimited)), Refused (Row (reserve_fault (Foreign 8))))
    ∷ (registrar (Reserve (reservation 9 2 (group 1) Unlimited)), Refused (Unknown 2))
    ∷ (registrar (Reserve (listing [] (7 ∷ []) (reservation 9 1 (course_audience 8) Unlimited))), Refused (Row (reserve_fault (Foreign 7))))
    ∷ (registrar (Reserve (listing (2 ∷ []) (7 ∷ []) (reservation 9 1 (course_audience 8) Unlimited))), Refused (Row (reserve_fault (Foreign 2))))
    ∷ (registrar (restrict 9 1 (group 1) [] []), Refused (Row (reserve_fault NoGroup)))
    ∷ (registrar (Reserve (listing (1 ∷ []) (7 ∷ []) (reservation 9 1 (group 1) Unlimited))), Amended)
    ∷ (registrar (Reserve (reservation 9 1 (group 1) Unlimited)), Refused (Row (reserve_fault (reserve_Known 9))))
    ∷ (registrar (restrict 9 1 (course_audience 1) (1 ∷ []) (7 ∷ [])), Amended)
    ∷ (registrar (restrict 9 1 (course_audience 1) [] []), Refused (Row (reserve_fault (reserve_Known 9))))
    ∷ (registrar (Unreserve (record { 0 = 9 })), Amended)
    ∷ (registrar (Unreserve (record { 0 = 9 })), Refused (Unknown 9))
    ∷ (registrar (Unrestrict (record { 0 = 9 })), Amended)
    ∷ (registrar (Unrestrict (record { 0 = 9 })), Refused (Unknown 9))
    ∷ (registrar (Expire (record { 0 = 9 }) None), Refused (Unknown 9))
    ∷ (registrar (Cancel (section_id 8)), Refused (Unknown 8))
    ∷ (registrar (SetLimit (cap_course (course_id 2)) Unlimited), Refused (Unknown 2))
    ∷ (registrar (SetLimit (cap_config (config_id 1)) (Places 0)), Refused (LimitBelow 1))
    ∷ (registrar (batch (11 ∷ 13 ∷ 14 ∷ [])), Refused (Unknown 13))
    ∷ [])
