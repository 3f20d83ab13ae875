-- Worked examples: scripts on the empty desk, and how the reply to the last command is explained.
use Rattle.std.specs.Prelude.{◌≡◌, ℕ, List, [], ◌∷◌, ◌++◌, None, Some, false, true, codes}
use Rattle.sect_base.specs.declared.limit.Limit.TheVariants.{Unlimited, Places}
use Rattle.sect_command.specs.declared.command.Command.TheVariants.{Reserve}
use Rattle.sect_model.specs.Script.{Request, state_after, registrar, student, reservation_id, course, section, subpart, config, offering, one_section, meets, put_student, group, reservation, until, listing, ask, requests, any_of, enrol, batch}
use Rattle.sect_model.specs.Step.{step}
use Rattle.sect_words.specs.Days.{day_text}
use Rattle.sect_explain.specs.Reason.{days_text}
use Rattle.sect_explain.specs.Replied.{reply_explained}

-- after the requests, the reply to the last one is explained so
abbrev pub Explains : List Request → Request → List ℕ → Type 0
Explains before last text =
    reply_explained (state_after before).world last.command (step (state_after before) last.day last.caller last.command).reply ≡ text

-- a full section
abbrev pub FullSection : Type 0
FullSection = Explains (
    registrar (one_section 1 7 (Places 1) [])
    ∷ registrar (put_student 11 18 [] [])
    ∷ registrar (put_student 12 18 [] [])
    ∷ student 11 (enrol 11 (any_of 1) 2000)
    ∷ [])
    (student 12 (enrol 12 (any_of 1) 2000))
    (codes "course 1\n  no reservation\n    configuration 1\n      section 7 is full (rule 16)\n")

-- the section that is in the way, with its meetings
abbrev pub Overlapping : Type 0
Overlapping = Explains (
    registrar (one_section 2 21 Unlimited (meets 1 108 10 32767 ∷ []))
    ∷ registrar (one_section 4 41 Unlimited (meets 1 117 11 32767 ∷ []))
    ∷ registrar (put_student 11 18 [] [])
    ∷ student 11 (enrol 11 (any_of 2) 2000)
    ∷ [])
    (student 11 (enrol 11 (any_of 4) 2000))
    (codes "course 4\n  no reservation\n    configuration 4\n      section 41 overlaps section 21 at M/0900-0950/1-15 (rule 18)\n")

-- the last day of a reservation, which is day 20361
abbrev pub DaysOfAReservation : Type 0
DaysOfAReservation =
    days_text (state_after (
    registrar (one_section 6 61 (Places 1) [])
    ∷ registrar (Reserve (until 20361 (listing (6 ∷ []) (61 ∷ []) (reservation 1 6 (group 4) (Places 1)))))
    ∷ [])).world (reservation_id 1)
    ≡ codes " is not in force: first day -, last day " ++ (day_text 20361 ++ codes " (rule 4)\n")

-- sections of two subparts, each below the one before it
abbrev pub ParentsWithoutAPlace : Type 0
ParentsWithoutAPlace = Explains (
    registrar (offering 5 (course 5 Unlimited 3 ∷ []) (config 5 Unlimited (subpart 51 (section 1 Unlimited None [] ∷ section 2 Unlimited None [] ∷ []) ∷ subpart 52 (section 11 (Places 0) (Some 1) [] ∷ section 21 (Places 0) (Some 2) [] ∷ []) ∷ []) ∷ []))
    ∷ registrar (put_student 11 18 [] [])
    ∷ [])
    (student 11 (enrol 11 (any_of 5) 2000))
    (codes "course 5\n  no reservation\n    configuration 5\n      section 1\n        section 11 is full (rule 16)\n        section 21 wants its parent, which was not chosen (rule 15)\n      section 2\n        section 11 wants its parent, which was not chosen (rule 15)\n        section 21 is full (rule 16)\n")

-- the blocked line of a batch, whose other line is met
abbrev pub BatchWithASubstitute : Type 0
BatchWithASubstitute = Explains (
    registrar (one_section 1 7 (Places 1) [])
    ∷ registrar (one_section 9 91 (Places 1) [])
    ∷ registrar (put_student 11 18 [] [])
    ∷ registrar (put_student 12 18 [] [])
    ∷ student 12 (enrol 12 (any_of 1) 2000)
    ∷ registrar (requests 11 (ask (1 ∷ []) false false ∷ ask (9 ∷ []) false true ∷ []))
    ∷ [])
    (registrar (batch (11 ∷ [])))
    (codes "student 11 rank 1\ncourse 1\n  no reservation\n    configuration 1\n      section 7 is full (rule 16)\n")

-- a reply that doesn't block
abbrev pub NotBlocked : Type 0
NotBlocked = Explains [] (registrar (put_student 11 18 [] [])) (codes "not blocked\n")
