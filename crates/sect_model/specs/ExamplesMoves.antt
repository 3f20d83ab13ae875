-- Worked examples: swaps and batches.
use Rattle.sect_base.specs.declared.limit.Limit.TheVariants.{Unlimited, Places}
use Rattle.sect_base.specs.declared.rule.Rule.TheVariants.{SectionFull, Overlap}
use Rattle.sect_command.specs.declared.reply.LineResult.TheVariants.{Met, Held, Blocked as line_blocked, Waiting as line_waiting, Skipped}
use Rattle.sect_command.specs.declared.reply.Refusal.TheVariants.{NotEnrolled}
use Rattle.sect_command.specs.declared.reply.Reply.TheVariants.{Amended, Enrolled, Dropped, Swapped, Batched, Blocked, Refused}
use Rattle.sect_model.specs.Script.{Answers, registrar, student, course_id, course, section, subpart, config, offering, one_section, meets, put_student, ask, requests, any_of, enrol, drop, swap, unwait, batch, choice, leaf, each, line}
use Rattle.sect_people.specs.declared.row.Ask.TheVariants.{Free}
use Rattle.std.specs.Prelude.{true, false, [], ◌∷◌, None}

-- a swap gives up one course and takes another
abbrev pub Swap : Type 0
Swap = Answers (
    (registrar (one_section 2 21 Unlimited ((meets 1 108 10 32767) ∷ [])), Amended)
    ∷ (registrar (one_section 4 41 Unlimited ((meets 1 117 11 32767) ∷ [])), Amended)
    ∷ (registrar (put_student 11 18 [] []), Amended)
    ∷ (student 11 (enrol 11 (any_of 2) 2000), Enrolled (choice 2 None 2 (21 ∷ [])))
    ∷ (student 11 (swap 11 (2 ∷ []) ((any_of 4) ∷ []) 2000), Swapped ((choice 4 None 4 (41 ∷ [])) ∷ []))
    ∷ (student 11 (drop 11 2), Refused (NotEnrolled (course_id 2)))
    ∷ [])

-- a swap that is blocked changes nothing
abbrev pub SwapBlocked : Type 0
SwapBlocked = Answers (
    (registrar (one_section 2 21 Unlimited ((meets 1 108 10 32767) ∷ [])), Amended)
    ∷ (registrar (one_section 4 41 (Places 0) ((meets 1 117 11 32767) ∷ [])), Amended)
    ∷ (registrar (put_student 11 18 [] []), Amended)
    ∷ (student 11 (enrol 11 (any_of 2) 2000), Enrolled (choice 2 None 2 (21 ∷ [])))
    ∷ (student 11 (swap 11 (2 ∷ []) ((any_of 4) ∷ []) 2000), Blocked 4 (each (each (each (each (leaf SectionFull 41 ∷ []) ∷ []) ∷ []) ∷ [])))
    ∷ (student 11 (drop 11 2), Dropped (course_id 2))
    ∷ [])

-- two wants are taken in turn, and the second is tested beside the first
abbrev pub SwapOfTwo : Type 0
SwapOfTwo = Answers (
    (registrar (one_section 2 21 Unlimited ((meets 1 108 10 32767) ∷ [])), Amended)
    ∷ (registrar (offering 3 (course 3 Unlimited 3 ∷ []) (config 3 Unlimited (subpart 3 (section 31 Unlimited None ((meets 1 108 10 1) ∷ []) ∷ section 32 Unlimited None ((meets 2 108 10 1) ∷ []) ∷ []) ∷ []) ∷ [])), Amended)
    ∷ (registrar (one_section 4 41 Unlimited ((meets 2 108 10 1) ∷ [])), Amended)
    ∷ (registrar (put_student 11 18 [] []), Amended)
    ∷ (student 11 (swap 11 [] ((any_of 2) ∷ (any_of 3) ∷ []) 2000), Swapped ((choice 2 None 2 (21 ∷ [])) ∷ (choice 3 None 3 (32 ∷ [])) ∷ []))
    ∷ (student 11 (swap 11 (3 ∷ []) ((any_of 3) ∷ (any_of 4) ∷ []) 2000), Blocked 9 (each (each (each (each (leaf Overlap 21 ∷ each (each (each (each (leaf Overlap 32 ∷ []) ∷ []) ∷ []) ∷ []) ∷ []) ∷ []) ∷ []) ∷ [])))
    ∷ (student 11 (swap 11 (2 ∷ 3 ∷ []) [] 2000), Swapped [])
    ∷ [])

-- a substitute is met where a request is unmet
abbrev pub BatchWithASubstitute : Type 0
BatchWithASubstitute = Answers (
    (registrar (one_section 1 7 (Places 1) []), Amended)
    ∷ (registrar (one_section 9 91 (Places 1) []), Amended)
    ∷ (registrar (put_student 11 18 [] []), Amended)
    ∷ (registrar (put_student 12 18 [] []), Amended)
    ∷ (student 12 (enrol 12 (any_of 1) 2000), Enrolled (choice 1 None 1 (7 ∷ [])))
    ∷ (registrar (requests 11 (ask (1 ∷ []) false false ∷ ask (9 ∷ []) false true ∷ [])), Amended)
    ∷ (registrar (batch (11 ∷ [])), Batched (line 11 1 (line_blocked 4 (each (each (each (each (leaf SectionFull 7 ∷ []) ∷ []) ∷ []) ∷ []))) ∷ line 11 2 (Met (choice 9 None 9 (91 ∷ []))) ∷ []))
    ∷ [])

-- a wait-listed request needs no substitute
abbrev pub BatchThatWaits : Type 0
BatchThatWaits = Answers (
    (registrar (one_section 1 7 (Places 1) []), Amended)
    ∷ (registrar (one_section 9 91 (Places 1) []), Amended)
    ∷ (registrar (put_student 11 18 [] []), Amended)
    ∷ (registrar (put_student 12 18 [] []), Amended)
    ∷ (student 12 (enrol 12 (any_of 1) 2000), Enrolled (choice 1 None 1 (7 ∷ [])))
    ∷ (registrar (requests 11 (ask (1 ∷ []) true false ∷ ask (9 ∷ []) false true ∷ [])), Amended)
    ∷ (registrar (batch (11 ∷ [])), Batched (line 11 1 (line_waiting 1) ∷ line 11 2 Skipped ∷ []))
    ∷ (registrar (batch []), Batched [])
    ∷ [])

-- a student who is named twice is treated twice, and waits once
abbrev pub BatchNamedTwice : Type 0
BatchNamedTwice = Answers (
    (registrar (one_section 1 7 (Places 1) []), Amended)
    ∷ (registrar (one_section 9 91 (Places 1) []), Amended)
    ∷ (registrar (put_student 11 18 [] []), Amended)
    ∷ (registrar (put_student 12 18 [] []), Amended)
    ∷ (student 12 (enrol 12 (any_of 1) 2000), Enrolled (choice 1 None 1 (7 ∷ [])))
    ∷ (registrar (one_section 4 41 Unlimited []), Amended)
    ∷ (registrar (requests 11 (Free (meets 1 108 10 1) ∷ ask (1 ∷ []) true false ∷ ask (4 ∷ []) false false ∷ ask (9 ∷ []) false true ∷ [])), Amended)
    ∷ (registrar (batch (11 ∷ 11 ∷ [])), Batched (line 11 2 (line_waiting 1) ∷ line 11 3 (Met (choice 4 None 4 (41 ∷ []))) ∷ line 11 4 Skipped ∷ line 11 2 (line_waiting 1) ∷ line 11 3 (Held (course_id 4)) ∷ line 11 4 Skipped ∷ []))
    ∷ (student 11 (unwait 11 1), Amended)
    ∷ [])
