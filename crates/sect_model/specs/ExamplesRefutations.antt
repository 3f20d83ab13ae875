-- Worked examples: which trees refute a move.
use Rattle.sect_base.specs.declared.limit.Limit.TheVariants.{Places}
use Rattle.sect_base.specs.declared.rule.Rule.TheVariants.{SectionFull, SectionReserved}
use Rattle.sect_model.specs.Script.{Covering, state_after, registrar, student, student_id, one_section, put_student, any_of, enrol, leaf, each}
use Rattle.std.specs.Prelude.{true, false, [], ◌∷◌}
use Rattle.sect_model.specs.World.{State}
use Rattle.sect_model.specs.Step.{enrol_move}

abbrev pub after_trees_of_a_full_section : State
after_trees_of_a_full_section = state_after (
    registrar (one_section 1 7 (Places 1) [])
    ∷ registrar (put_student 11 18 [] [])
    ∷ registrar (put_student 12 18 [] [])
    ∷ student 11 (enrol 11 (any_of 1) 2000)
    ∷ [])

-- the tree of the search alone covers: not a leaf, another rule, another number, an option more or less
abbrev pub TreesOfAFullSection : Type 0
TreesOfAFullSection = Covering after_trees_of_a_full_section.world (enrol_move (student_id 12) (any_of 1)) (
    ((each (each (each (each (leaf SectionFull 7 ∷ []) ∷ []) ∷ []) ∷ [])), true)
    ∷ ((leaf SectionFull 7), false)
    ∷ ((each (each (each (each (leaf SectionReserved 7 ∷ []) ∷ []) ∷ []) ∷ [])), false)
    ∷ ((each (each (each (each (leaf SectionFull 8 ∷ []) ∷ []) ∷ []) ∷ [])), false)
    ∷ ((each (each (each (leaf SectionFull 7 ∷ []) ∷ []) ∷ [])), false)
    ∷ ((each (each (each (each (leaf SectionFull 7 ∷ leaf SectionFull 7 ∷ []) ∷ []) ∷ []) ∷ [])), false)
    ∷ ((each (each (each (each [] ∷ []) ∷ []) ∷ [])), false)
    ∷ ((each []), false)
    ∷ [])

abbrev pub after_trees_of_a_free_section : State
after_trees_of_a_free_section = state_after (
    registrar (one_section 1 7 (Places 1) [])
    ∷ registrar (put_student 12 18 [] [])
    ∷ [])

-- no tree covers where there is a choice
abbrev pub TreesOfAFreeSection : Type 0
TreesOfAFreeSection = Covering after_trees_of_a_free_section.world (enrol_move (student_id 12) (any_of 1)) (
    ((each (each (each (each (leaf SectionFull 7 ∷ []) ∷ []) ∷ []) ∷ [])), false)
    ∷ ((each (each (each (each [] ∷ []) ∷ []) ∷ [])), false)
    ∷ [])
