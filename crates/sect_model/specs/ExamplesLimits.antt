-- Worked examples: limits, budgets and permissions over them.
use Rattle.sect_base.specs.declared.limit.Cap.TheVariants.{Section as cap_section}
use Rattle.sect_base.specs.declared.limit.Limit.TheVariants.{Unlimited, Places}
use Rattle.sect_base.specs.declared.rule.Rule.TheVariants.{Credits, CourseFull, OfferingFull, ConfigFull, SectionFull, NotAsked}
use Rattle.sect_command.specs.declared.command.Command.TheVariants.{Reserve, Unreserve, SetLimit, Cancel}
use Rattle.sect_command.specs.declared.reply.Refusal.TheVariants.{LimitBelow, InUse}
use Rattle.sect_command.specs.declared.reply.Reply.TheVariants.{Amended, Enrolled, Blocked, Spent, Refused}
use Rattle.sect_model.specs.Script.{Answers, registrar, student, section_id, course, section, subpart, config, offering, one_section, put_student, students, reservation, over_limit, want, any_of, enrol, choice, leaf, each}
use Rattle.std.specs.Prelude.{[], ◌∷◌, Some, None}

-- a full section: four decisions and one leaf
abbrev pub FullSection : Type 0
FullSection = Answers (
    (registrar (one_section 1 7 (Places 1) []), Amended)
    ∷ (registrar (put_student 11 18 [] []), Amended)
    ∷ (registrar (put_student 12 18 [] []), Amended)
    ∷ (student 11 (enrol 11 (any_of 1) 2000), Enrolled (choice 1 None 1 (7 ∷ [])))
    ∷ (student 12 (enrol 12 (any_of 1) 2000), Blocked 4 (each (each (each (each (leaf SectionFull 7 ∷ []) ∷ []) ∷ []) ∷ [])))
    ∷ [])

-- a budget one below the visits, and one that meets them
abbrev pub BudgetAtTheBoundary : Type 0
BudgetAtTheBoundary = Answers (
    (registrar (one_section 1 7 (Places 1) []), Amended)
    ∷ (registrar (put_student 11 18 [] []), Amended)
    ∷ (registrar (put_student 12 18 [] []), Amended)
    ∷ (student 11 (enrol 11 (any_of 1) 2000), Enrolled (choice 1 None 1 (7 ∷ [])))
    ∷ (student 12 (enrol 12 (any_of 1) 3), Spent 3)
    ∷ (student 12 (enrol 12 (any_of 1) 4), Blocked 4 (each (each (each (each (leaf SectionFull 7 ∷ []) ∷ []) ∷ []) ∷ [])))
    ∷ [])

-- two courses of one offering, one of them full
abbrev pub FullCourse : Type 0
FullCourse = Answers (
    (registrar (offering 1 (course 1 (Places 1) 3 ∷ course 2 Unlimited 3 ∷ []) (config 1 Unlimited (subpart 1 (section 1 Unlimited None [] ∷ []) ∷ []) ∷ [])), Amended)
    ∷ (registrar (put_student 11 18 [] []), Amended)
    ∷ (registrar (put_student 12 18 [] []), Amended)
    ∷ (student 11 (enrol 11 (any_of 1) 2000), Enrolled (choice 1 None 1 (1 ∷ [])))
    ∷ (student 12 (enrol 12 (any_of 1) 2000), Blocked 2 (each (each (leaf CourseFull 1 ∷ []) ∷ [])))
    ∷ (student 12 (enrol 12 (want (1 ∷ 2 ∷ []) [] 21) 2000), Enrolled (choice 2 None 1 (1 ∷ [])))
    ∷ [])

-- an offering has the places of its configurations together, where each has a limit
abbrev pub FullOffering : Type 0
FullOffering = Answers (
    (registrar (offering 1 (course 1 Unlimited 3 ∷ []) (config 1 (Places 1) (subpart 1 (section 1 Unlimited None [] ∷ []) ∷ []) ∷ config 2 (Places 1) (subpart 2 (section 2 Unlimited None [] ∷ []) ∷ []) ∷ [])), Amended)
    ∷ (registrar (put_student 11 18 [] []), Amended)
    ∷ (registrar (put_student 12 18 [] []), Amended)
    ∷ (registrar (put_student 13 18 [] []), Amended)
    ∷ (student 11 (enrol 11 (any_of 1) 2000), Enrolled (choice 1 None 1 (1 ∷ [])))
    ∷ (student 12 (enrol 12 (any_of 1) 2000), Enrolled (choice 1 None 2 (2 ∷ [])))
    ∷ (student 13 (enrol 13 (any_of 1) 2000), Blocked 2 (each (each (leaf OfferingFull 1 ∷ []) ∷ [])))
    ∷ [])

-- where the first configuration is full, the second is taken
abbrev pub FullConfiguration : Type 0
FullConfiguration = Answers (
    (registrar (offering 1 (course 1 Unlimited 3 ∷ []) (config 1 (Places 1) (subpart 1 (section 1 Unlimited None [] ∷ []) ∷ []) ∷ config 2 Unlimited (subpart 2 (section 2 Unlimited None [] ∷ []) ∷ []) ∷ [])), Amended)
    ∷ (registrar (put_student 11 18 [] []), Amended)
    ∷ (registrar (put_student 12 18 [] []), Amended)
    ∷ (registrar (put_student 13 18 [] []), Amended)
    ∷ (student 11 (enrol 11 (any_of 1) 2000), Enrolled (choice 1 None 1 (1 ∷ [])))
    ∷ (student 12 (enrol 12 (any_of 1) 2000), Enrolled (choice 1 None 2 (2 ∷ [])))
    ∷ (student 13 (enrol 13 (want (1 ∷ []) (1 ∷ []) 21) 2000), Blocked 5 (each (each (each (leaf ConfigFull 1 ∷ each (leaf NotAsked 2 ∷ []) ∷ []) ∷ []) ∷ [])))
    ∷ [])

-- an enrolment over the limit, and what it keeps from being changed
abbrev pub OverLimit : Type 0
OverLimit = Answers (
    (registrar (one_section 1 7 (Places 1) []), Amended)
    ∷ (registrar (put_student 11 18 [] []), Amended)
    ∷ (registrar (put_student 12 18 [] []), Amended)
    ∷ (student 11 (enrol 11 (any_of 1) 2000), Enrolled (choice 1 None 1 (7 ∷ [])))
    ∷ (registrar (Reserve (over_limit (reservation 2 1 (students (12 ∷ [])) (Places 1)))), Amended)
    ∷ (student 12 (enrol 12 (any_of 1) 2000), Enrolled (choice 1 (Some 2) 1 (7 ∷ [])))
    ∷ (registrar (SetLimit (cap_section (section_id 7)) (Places 0)), Refused (LimitBelow 1))
    ∷ (registrar (SetLimit (cap_section (section_id 7)) (Places 1)), Amended)
    ∷ (registrar (Unreserve (record { 0 = 2 })), Refused (InUse 1))
    ∷ (registrar (Cancel (section_id 7)), Refused (InUse 2))
    ∷ [])

-- credits above the maximum, and a maximum below the credits held
abbrev pub CreditsInAll : Type 0
CreditsInAll = Answers (
    (registrar (one_section 1 7 (Places 1) []), Amended)
    ∷ (registrar (put_student 16 2 [] []), Amended)
    ∷ (registrar (put_student 11 18 [] []), Amended)
    ∷ (student 16 (enrol 16 (any_of 1) 2000), Blocked 1 (each (leaf Credits 3 ∷ [])))
    ∷ (student 11 (enrol 11 (any_of 1) 2000), Enrolled (choice 1 None 1 (7 ∷ [])))
    ∷ (registrar (put_student 11 2 [] []), Refused (LimitBelow 3))
    ∷ [])
