-- Worked examples: scripts on the empty desk, and what a clerk is shown after them.
use Rattle.std.specs.Prelude.{◌≡◌, [], ◌∷◌, None, false, codes}
use Rattle.sect_base.specs.declared.limit.Limit.TheVariants.{Unlimited, Places}
use Rattle.sect_model.specs.Look.{look}
use Rattle.sect_model.specs.Script.{state_after, registrar, student, student_id, one_section, meets, put_student, ask, requests, any_of, enrol, wait}
use Rattle.sect_model.specs.World.{State, empty_state}
use Rattle.sect_shown.specs.Shown.{demand_text, timetable_of}

abbrev pub after_asking : State
after_asking = state_after (
    registrar (one_section 9 91 Unlimited [])
    ∷ registrar (one_section 1 7 (Places 1) [])
    ∷ registrar (put_student 11 18 [] [])
    ∷ registrar (put_student 12 18 [] [])
    ∷ registrar (requests 11 (ask (1 ∷ []) false false ∷ []))
    ∷ registrar (requests 12 (ask (1 ∷ 9 ∷ []) false false ∷ []))
    ∷ student 11 (enrol 11 (any_of 1) 2000)
    ∷ student 12 (wait 12 (any_of 1) None 5)
    ∷ [])

-- two students ask for a course; one holds it, and one waits for its section's place
abbrev pub Wanted : Type 0
Wanted = demand_text (look after_asking) ≡ codes "course 1 asked 2 held 1 waiting 1 limit -\ncourse 9 asked 1 held 0 waiting 0 limit -\n"

-- no course
abbrev pub NoCourse : Type 0
NoCourse = demand_text (look empty_state) ≡ codes "none\n"

abbrev pub after_enrolling : State
after_enrolling = state_after (
    registrar (one_section 2 21 Unlimited (meets 5 108 10 32767 ∷ []))
    ∷ registrar (one_section 4 41 Unlimited (meets 1 96 10 32767 ∷ []))
    ∷ registrar (put_student 11 18 [] [])
    ∷ student 11 (enrol 11 (any_of 2) 2000)
    ∷ student 11 (enrol 11 (any_of 4) 2000)
    ∷ [])

-- a section on two weekdays, and one before it on the first of them
abbrev pub Week : Type 0
Week = timetable_of (look after_enrolling) (student_id 11)
    ≡ codes "student 11\nM/0800-0850/1-15 course 4 section 41\nM/0900-0950/1-15 course 2 section 21\nW/0900-0950/1-15 course 2 section 21\n"

-- a student that nobody knows
abbrev pub UnknownStudent : Type 0
UnknownStudent = timetable_of (look empty_state) (student_id 11) ≡ codes "student 11 unknown\n"
