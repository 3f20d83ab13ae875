-- Those before the rank are others.
use Rattle.sect_model.specs.declared.held.Enrolment.{Enrolment}
use Rattle.sect_roster.proofs.AmongLemmas.{rank-within}
use Rattle.sect_roster.proofs.rostered.own_enrolments_stand_within_the_list.Goals as goal

pub returns : goal.returns
returns c = rank-within (λ (e : Enrolment). e.student.0)
