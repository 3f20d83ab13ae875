-- The student's one enrolment in the course is noted.
use Rattle.std.proofs.Common.{◌∙◌, ap, option_copied, sym}
use Rattle.std.specs.Prelude.{◌==◌, find}
use Rattle.sect_model.specs.declared.held.Enrolment.{Enrolment}
use Rattle.sect_wait.proofs.OpenedLemmas.{found-alone, found-some, if-ok}
use Rattle.sect_wait.proofs.leaving.noted.Goals as goal

pub returns-in-Some : goal.returns-in-Some
returns-in-Some c =
    let w = c.args.world.now.world in
    let x = c.in-Some.enrolment.now in
    if-ok c.note.result (λ o notes. (
      x,
      found-alone w c.recall_kept.ensures c.args.student c.args.course c.requires x
          (ap (find (λ (x : Enrolment). x.choice.course.0 == c.args.course.0)) (sym c.enrolments.ensures) ∙ sym c.held.ensures ∙ ap option_copied c.in-Some.is),
      notes,
    )) c.note.ensures

pub returns-in-None : goal.returns-in-None
returns-in-None c =
    let w = c.args.world.now.world in
    found-some w c.recall_kept.ensures c.args.student c.args.course c.requires
    (ap (find (λ (x : Enrolment). x.choice.course.0 == c.args.course.0)) (sym c.enrolments.ensures) ∙ sym c.held.ensures ∙ ap option_copied c.in-None.is)
