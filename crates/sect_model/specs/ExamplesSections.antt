-- Worked examples: times, parents, and sections that are not to be had.
use Rattle.sect_base.specs.declared.limit.Limit.TheVariants.{Unlimited, Places}
use Rattle.sect_base.specs.declared.rule.Rule.TheVariants.{Restricted, Cancelled, Parent, SectionFull, Overlap, FreeTime, NotAsked}
use Rattle.sect_command.specs.declared.command.Command.TheVariants.{Reserve, Cancel}
use Rattle.sect_command.specs.declared.reply.Reply.TheVariants.{Amended, Enrolled, Blocked, Spent}
use Rattle.sect_model.specs.Script.{Answers, registrar, student, section_id, course, section, subpart, config, offering, one_section, meets, curriculum, put_student, students, curricula, reservation, overlapping, restrict, ask, requests, want, any_of, enrol, choice, leaf, each}
use Rattle.sect_people.specs.declared.row.Ask.TheVariants.{Free}
use Rattle.std.specs.Prelude.{false, [], ◌∷◌, Some, None}

-- touching meetings go together, overlapping ones don't
abbrev pub TouchingAndOverlapping : Type 0
TouchingAndOverlapping = Answers (
    (registrar (one_section 2 21 Unlimited ((meets 1 108 10 32767) ∷ [])), Amended)
    ∷ (registrar (one_section 3 31 Unlimited ((meets 1 118 10 32767) ∷ [])), Amended)
    ∷ (registrar (one_section 4 41 Unlimited ((meets 1 117 11 32767) ∷ [])), Amended)
    ∷ (registrar (put_student 11 18 [] []), Amended)
    ∷ (student 11 (enrol 11 (any_of 2) 2000), Enrolled (choice 2 None 2 (21 ∷ [])))
    ∷ (student 11 (enrol 11 (any_of 3) 2000), Enrolled (choice 3 None 3 (31 ∷ [])))
    ∷ (student 11 (enrol 11 (any_of 4) 2000), Blocked 4 (each (each (each (each (leaf Overlap 21 ∷ []) ∷ []) ∷ []) ∷ [])))
    ∷ [])

-- at one hour in odd and in even weeks; a week in both is an overlap
abbrev pub WeeksApart : Type 0
WeeksApart = Answers (
    (registrar (one_section 2 21 Unlimited ((meets 1 108 10 21) ∷ [])), Amended)
    ∷ (registrar (one_section 3 31 Unlimited ((meets 1 108 10 42) ∷ [])), Amended)
    ∷ (registrar (one_section 4 41 Unlimited ((meets 1 108 10 48) ∷ [])), Amended)
    ∷ (registrar (put_student 11 18 [] []), Amended)
    ∷ (student 11 (enrol 11 (any_of 2) 2000), Enrolled (choice 2 None 2 (21 ∷ [])))
    ∷ (student 11 (enrol 11 (any_of 3) 2000), Enrolled (choice 3 None 3 (31 ∷ [])))
    ∷ (student 11 (enrol 11 (any_of 4) 2000), Blocked 4 (each (each (each (each (leaf Overlap 21 ∷ []) ∷ []) ∷ []) ∷ [])))
    ∷ [])

-- a permission to overlap that a held enrolment has
abbrev pub OverlapPermission : Type 0
OverlapPermission = Answers (
    (registrar (one_section 7 71 Unlimited ((meets 1 108 10 1) ∷ [])), Amended)
    ∷ (registrar (one_section 8 81 Unlimited ((meets 1 108 10 1) ∷ [])), Amended)
    ∷ (registrar (put_student 11 18 [] []), Amended)
    ∷ (registrar (Reserve (overlapping (reservation 3 7 (students (11 ∷ [])) Unlimited))), Amended)
    ∷ (student 11 (enrol 11 (any_of 7) 2000), Enrolled (choice 7 (Some 3) 7 (71 ∷ [])))
    ∷ (student 11 (enrol 11 (any_of 8) 2000), Enrolled (choice 8 None 8 (81 ∷ [])))
    ∷ [])

-- a free time bars what has a larger rank
abbrev pub FreeTimeBelowARank : Type 0
FreeTimeBelowARank = Answers (
    (registrar (one_section 2 21 Unlimited ((meets 1 108 10 32767) ∷ [])), Amended)
    ∷ (registrar (put_student 11 18 [] []), Amended)
    ∷ (registrar (requests 11 (Free (meets 1 108 12 32767) ∷ ask (2 ∷ []) false false ∷ [])), Amended)
    ∷ (student 11 (enrol 11 (any_of 2) 2000), Blocked 4 (each (each (each (each (leaf FreeTime 1 ∷ []) ∷ []) ∷ []) ∷ [])))
    ∷ (student 11 (enrol 11 (want (2 ∷ []) [] 1) 2000), Enrolled (choice 2 None 2 (21 ∷ [])))
    ∷ [])

-- lectures with labs: the lab that overlaps is passed over
abbrev pub OrdinaryCourse : Type 0
OrdinaryCourse = Answers (
    (registrar (offering 101 (course 1010 (Places 300) 4 ∷ []) (config 1011 (Places 300) (subpart 1 (section 2001 (Places 300) None ((meets 21 108 10 32767) ∷ []) ∷ []) ∷ subpart 2 (section 2101 (Places 25) (Some 2001) ((meets 2 156 34 32767) ∷ []) ∷ section 2102 (Places 25) (Some 2001) ((meets 8 156 34 32767) ∷ []) ∷ []) ∷ []) ∷ [])), Amended)
    ∷ (registrar (one_section 10 101 Unlimited ((meets 2 168 10 32767) ∷ [])), Amended)
    ∷ (registrar (put_student 14 18 [] []), Amended)
    ∷ (student 14 (enrol 14 (any_of 10) 2000), Enrolled (choice 10 None 10 (101 ∷ [])))
    ∷ (student 14 (enrol 14 (any_of 1010) 5), Spent 5)
    ∷ (student 14 (enrol 14 (any_of 1010) 2000), Enrolled (choice 1010 None 1011 (2001 ∷ 2102 ∷ [])))
    ∷ [])

-- ten visits are too few to come to the child of the second parent, eleven are enough
abbrev pub Parents : Type 0
Parents = Answers (
    (registrar (offering 5 (course 5 Unlimited 3 ∷ []) (config 5 Unlimited (subpart 51 (section 1 Unlimited None [] ∷ section 2 Unlimited None [] ∷ []) ∷ subpart 52 (section 11 (Places 0) (Some 1) [] ∷ section 12 (Places 0) (Some 1) [] ∷ section 21 Unlimited (Some 2) [] ∷ []) ∷ []) ∷ [])), Amended)
    ∷ (registrar (put_student 11 18 [] []), Amended)
    ∷ (student 11 (enrol 11 (any_of 5) 10), Spent 10)
    ∷ (student 11 (enrol 11 (any_of 5) 11), Enrolled (choice 5 None 5 (2 ∷ 21 ∷ [])))
    ∷ [])

-- where no child has a place, the tree tells of each pair
abbrev pub ParentsWithoutAPlace : Type 0
ParentsWithoutAPlace = Answers (
    (registrar (offering 5 (course 5 Unlimited 3 ∷ []) (config 5 Unlimited (subpart 51 (section 1 Unlimited None [] ∷ section 2 Unlimited None [] ∷ []) ∷ subpart 52 (section 11 (Places 0) (Some 1) [] ∷ section 12 (Places 0) (Some 1) [] ∷ section 21 (Places 0) (Some 2) [] ∷ []) ∷ []) ∷ [])), Amended)
    ∷ (registrar (put_student 11 18 [] []), Amended)
    ∷ (student 11 (enrol 11 (any_of 5) 11), Blocked 11 (each (each (each (each (each (leaf SectionFull 11 ∷ leaf SectionFull 12 ∷ leaf Parent 21 ∷ []) ∷ each (leaf Parent 11 ∷ leaf Parent 12 ∷ leaf SectionFull 21 ∷ []) ∷ []) ∷ []) ∷ []) ∷ [])))
    ∷ [])

-- a child in the third subpart of a parent in the first
abbrev pub ThirdSubpart : Type 0
ThirdSubpart = Answers (
    (registrar (offering 5 (course 5 Unlimited 3 ∷ []) (config 5 Unlimited (subpart 1 (section 1 Unlimited None [] ∷ section 2 Unlimited None [] ∷ []) ∷ subpart 2 (section 3 Unlimited None [] ∷ []) ∷ subpart 3 (section 4 Unlimited (Some 2) [] ∷ []) ∷ []) ∷ [])), Amended)
    ∷ (registrar (put_student 11 18 [] []), Amended)
    ∷ (student 11 (enrol 11 (any_of 5) 2000), Enrolled (choice 5 None 5 (2 ∷ 3 ∷ 4 ∷ [])))
    ∷ [])

-- a cancelled section is passed over, and where it is asked for refused
abbrev pub CancelledSection : Type 0
CancelledSection = Answers (
    (registrar (offering 9 (course 9 Unlimited 3 ∷ []) (config 9 Unlimited (subpart 9 (section 91 Unlimited None [] ∷ section 92 Unlimited None [] ∷ []) ∷ []) ∷ [])), Amended)
    ∷ (registrar (put_student 11 18 [] []), Amended)
    ∷ (registrar (Cancel (section_id 91)), Amended)
    ∷ (student 11 (enrol 11 (want (9 ∷ []) (91 ∷ []) 21) 2000), Blocked 5 (each (each (each (each (leaf Cancelled 91 ∷ leaf NotAsked 92 ∷ []) ∷ []) ∷ []) ∷ [])))
    ∷ (student 11 (enrol 11 (any_of 9) 2000), Enrolled (choice 9 None 9 (92 ∷ [])))
    ∷ [])

-- a restriction bars the sections that it doesn't list
abbrev pub Restriction : Type 0
Restriction = Answers (
    (registrar (offering 9 (course 9 Unlimited 3 ∷ []) (config 9 Unlimited (subpart 9 (section 91 Unlimited None [] ∷ section 92 Unlimited None [] ∷ []) ∷ []) ∷ [])), Amended)
    ∷ (registrar (put_student 15 18 [] (curriculum 1 2 [] ∷ [])), Amended)
    ∷ (registrar (restrict 1 9 (curricula 1 [] []) (9 ∷ []) (92 ∷ [])), Amended)
    ∷ (student 15 (enrol 15 (want (9 ∷ []) (91 ∷ []) 21) 2000), Blocked 5 (each (each (each (each (leaf Restricted 91 ∷ leaf NotAsked 92 ∷ []) ∷ []) ∷ []) ∷ [])))
    ∷ (student 15 (enrol 15 (any_of 9) 2000), Enrolled (choice 9 None 9 (92 ∷ [])))
    ∷ (registrar (Cancel (section_id 91)), Amended)
    ∷ [])
