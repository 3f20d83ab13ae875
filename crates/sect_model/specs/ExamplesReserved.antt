-- Worked examples: reservations.
use Rattle.sect_base.specs.declared.limit.Limit.TheVariants.{Unlimited, Places}
use Rattle.sect_base.specs.declared.rule.Rule.TheVariants.{InOffering, NotApplicable, Expired, UsedUp, MustUse, OfferingReserved, SectionFull, SectionReserved}
use Rattle.sect_command.specs.declared.command.Command.TheVariants.{Reserve, Expire}
use Rattle.sect_command.specs.declared.reply.Reply.TheVariants.{Amended, Enrolled, Blocked}
use Rattle.sect_model.specs.Script.{Answers, registrar, student, on, course, section, subpart, config, offering, one_section, put_student, students, group, reservation, from, until, listing, over_limit, obligatory, want, any_of, enrol, choice, leaf, each}
use Rattle.std.specs.Prelude.{[], ◌∷◌, Some, None}

-- space that a reservation holds back
abbrev pub ReservedSpace : Type 0
ReservedSpace = Answers (
    (registrar (one_section 6 61 (Places 2) []), Amended)
    ∷ (registrar (put_student 11 18 [] []), Amended)
    ∷ (registrar (put_student 12 18 [] []), Amended)
    ∷ (registrar (put_student 13 18 (4 ∷ []) []), Amended)
    ∷ (registrar (Reserve (until 20361 (listing (6 ∷ []) (61 ∷ []) (reservation 1 6 (group 4) (Places 1))))), Amended)
    ∷ (student 11 (enrol 11 (any_of 6) 2000), Enrolled (choice 6 None 6 (61 ∷ [])))
    ∷ (student 12 (enrol 12 (any_of 6) 2000), Blocked 5 (each (each (leaf NotApplicable 1 ∷ each (each (leaf SectionReserved 61 ∷ []) ∷ []) ∷ []) ∷ [])))
    ∷ (student 13 (enrol 13 (any_of 6) 2000), Enrolled (choice 6 (Some 1) 6 (61 ∷ [])))
    ∷ [])

-- a reservation holds nothing back after its expiry day, and the day doesn't go back
abbrev pub ExpiryDay : Type 0
ExpiryDay = Answers (
    (registrar (one_section 6 61 (Places 2) []), Amended)
    ∷ (registrar (put_student 11 18 [] []), Amended)
    ∷ (registrar (put_student 12 18 [] []), Amended)
    ∷ (registrar (put_student 13 18 (4 ∷ []) []), Amended)
    ∷ (registrar (Reserve (until 20361 (listing (6 ∷ []) (61 ∷ []) (reservation 1 6 (group 4) (Places 1))))), Amended)
    ∷ (student 11 (enrol 11 (any_of 6) 2000), Enrolled (choice 6 None 6 (61 ∷ [])))
    ∷ (student 12 (enrol 12 (any_of 6) 2000), Blocked 5 (each (each (leaf NotApplicable 1 ∷ each (each (leaf SectionReserved 61 ∷ []) ∷ []) ∷ []) ∷ [])))
    ∷ (on 20361 (student 12 (enrol 12 (any_of 6) 2000)), Blocked 5 (each (each (leaf NotApplicable 1 ∷ each (each (leaf SectionReserved 61 ∷ []) ∷ []) ∷ []) ∷ [])))
    ∷ (on 20362 (student 12 (enrol 12 (any_of 6) 2000)), Enrolled (choice 6 None 6 (61 ∷ [])))
    ∷ (student 13 (enrol 13 (any_of 6) 2000), Blocked 5 (each (each (leaf Expired 1 ∷ each (each (leaf SectionFull 61 ∷ []) ∷ []) ∷ []) ∷ [])))
    ∷ [])

-- a reservation holds nothing back before its first day, nor can it be used
abbrev pub BeforeTheFirstDay : Type 0
BeforeTheFirstDay = Answers (
    (registrar (one_section 6 61 (Places 2) []), Amended)
    ∷ (registrar (put_student 11 18 [] []), Amended)
    ∷ (registrar (put_student 12 18 [] []), Amended)
    ∷ (registrar (put_student 13 18 (4 ∷ []) []), Amended)
    ∷ (registrar (Reserve (from 20341 (listing (6 ∷ []) (61 ∷ []) (reservation 1 6 (group 4) (Places 1))))), Amended)
    ∷ (student 13 (enrol 13 (any_of 6) 2000), Enrolled (choice 6 None 6 (61 ∷ [])))
    ∷ [])

-- a reservation holds places back from its first day on
abbrev pub FromTheFirstDay : Type 0
FromTheFirstDay = Answers (
    (registrar (one_section 6 61 (Places 2) []), Amended)
    ∷ (registrar (put_student 11 18 [] []), Amended)
    ∷ (registrar (put_student 12 18 [] []), Amended)
    ∷ (registrar (put_student 13 18 (4 ∷ []) []), Amended)
    ∷ (registrar (Reserve (from 20341 (listing (6 ∷ []) (61 ∷ []) (reservation 1 6 (group 4) (Places 1))))), Amended)
    ∷ (student 11 (enrol 11 (any_of 6) 2000), Enrolled (choice 6 None 6 (61 ∷ [])))
    ∷ (on 20341 (student 12 (enrol 12 (any_of 6) 2000)), Blocked 5 (each (each (leaf NotApplicable 1 ∷ each (each (leaf SectionReserved 61 ∷ []) ∷ []) ∷ []) ∷ [])))
    ∷ [])

-- a reservation that lists nothing holds back places of the offering
abbrev pub ReservedOffering : Type 0
ReservedOffering = Answers (
    (registrar (offering 6 (course 6 Unlimited 3 ∷ []) (config 6 (Places 2) (subpart 6 (section 61 Unlimited None [] ∷ []) ∷ []) ∷ [])), Amended)
    ∷ (registrar (put_student 11 18 [] []), Amended)
    ∷ (registrar (put_student 12 18 [] []), Amended)
    ∷ (registrar (Reserve (reservation 1 6 (students (13 ∷ [])) (Places 1))), Amended)
    ∷ (student 11 (enrol 11 (any_of 6) 2000), Enrolled (choice 6 None 6 (61 ∷ [])))
    ∷ (student 12 (enrol 12 (any_of 6) 2000), Blocked 3 (each (each (leaf NotApplicable 1 ∷ leaf OfferingReserved 6 ∷ []) ∷ [])))
    ∷ [])

-- a reservation that lists a configuration holds back places of that one until it expires
abbrev pub ReservedConfiguration : Type 0
ReservedConfiguration = Answers (
    (registrar (offering 6 (course 6 Unlimited 3 ∷ []) (config 6 (Places 1) (subpart 6 (section 61 Unlimited None [] ∷ []) ∷ []) ∷ config 7 (Places 1) (subpart 7 (section 71 Unlimited None [] ∷ []) ∷ []) ∷ [])), Amended)
    ∷ (registrar (put_student 11 18 [] []), Amended)
    ∷ (registrar (put_student 12 18 [] []), Amended)
    ∷ (registrar (Reserve (listing (6 ∷ []) [] (reservation 1 6 (students (13 ∷ [])) (Places 1)))), Amended)
    ∷ (student 11 (enrol 11 (any_of 6) 2000), Enrolled (choice 6 None 7 (71 ∷ [])))
    ∷ (student 12 (enrol 12 (any_of 6) 2000), Blocked 3 (each (each (leaf NotApplicable 1 ∷ leaf OfferingReserved 6 ∷ []) ∷ [])))
    ∷ (registrar (Expire (record { 0 = 1 }) (Some 20331)), Amended)
    ∷ (student 12 (enrol 12 (any_of 6) 2000), Enrolled (choice 6 None 6 (61 ∷ [])))
    ∷ [])

-- an unlimited reservation leaves no unreserved space
abbrev pub UnlimitedReservation : Type 0
UnlimitedReservation = Answers (
    (registrar (one_section 6 61 (Places 5) []), Amended)
    ∷ (registrar (put_student 11 18 [] []), Amended)
    ∷ (registrar (put_student 12 18 [] []), Amended)
    ∷ (registrar (Reserve (listing (6 ∷ []) (61 ∷ []) (reservation 1 6 (students (11 ∷ [])) Unlimited))), Amended)
    ∷ (student 12 (enrol 12 (any_of 6) 2000), Blocked 5 (each (each (leaf NotApplicable 1 ∷ each (each (leaf SectionReserved 61 ∷ []) ∷ []) ∷ []) ∷ [])))
    ∷ (student 11 (enrol 11 (any_of 6) 2000), Enrolled (choice 6 (Some 1) 6 (61 ∷ [])))
    ∷ [])

-- an obligatory reservation with one place serves one, and bars the others from doing without
abbrev pub Obligatory : Type 0
Obligatory = Answers (
    (registrar (one_section 6 61 (Places 3) []), Amended)
    ∷ (registrar (put_student 11 18 [] []), Amended)
    ∷ (registrar (put_student 12 18 [] []), Amended)
    ∷ (registrar (Reserve (obligatory (reservation 1 6 (students (11 ∷ 12 ∷ [])) (Places 1)))), Amended)
    ∷ (student 11 (enrol 11 (any_of 6) 2000), Enrolled (choice 6 (Some 1) 6 (61 ∷ [])))
    ∷ (student 12 (enrol 12 (any_of 6) 2000), Blocked 3 (each (each (leaf UsedUp 1 ∷ leaf MustUse 1 ∷ []) ∷ [])))
    ∷ [])

-- a reservation serves for what it lists
abbrev pub ListedSections : Type 0
ListedSections = Answers (
    (registrar (offering 6 (course 6 Unlimited 3 ∷ []) (config 6 Unlimited (subpart 6 (section 61 (Places 1) None [] ∷ section 62 (Places 0) None [] ∷ []) ∷ []) ∷ [])), Amended)
    ∷ (registrar (put_student 11 18 [] []), Amended)
    ∷ (registrar (Reserve (over_limit (listing (6 ∷ []) (62 ∷ []) (reservation 1 6 (students (11 ∷ [])) Unlimited)))), Amended)
    ∷ (student 11 (enrol 11 (want (6 ∷ []) (61 ∷ []) 21) 2000), Enrolled (choice 6 None 6 (61 ∷ [])))
    ∷ (student 11 (enrol 11 (any_of 6) 2000), Blocked 1 (each (leaf InOffering 6 ∷ [])))
    ∷ [])
