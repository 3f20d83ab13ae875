-- A new student comes behind the others, and a known one stays where it is.
use Rattle.std.proofs.Common.{◌∙◌, ap, sym}
use Rattle.std.specs.Option.{is_some, option_map}
use Rattle.sect_people.proofs.PlaceLemmas.{not_both}
use Rattle.sect_people.proofs.ChangeLemmas.{find-none, put_row-new}
use Rattle.sect_people.proofs.people.People.put_student.Goals as goal

pub returns-in_err-add-in-None-clause-known : goal.returns-in_err-add-in-None-clause-known
returns-in_err-add-in-None-clause-known c =
    λ h. absurd (not_both _ h (ap is_some (find-none c.args.self.now c.args.row.id (sym c.place.ensures ∙ c.in-None.is))))

pub returns-in_ok-add-in-None-clause-given_back : goal.returns-in_ok-add-in-None-clause-given_back
returns-in_ok-add-in-None-clause-given_back c =
    sym (ap (option_map (λ s. s.row)) (find-none c.args.self.now c.args.row.id (sym c.place.ensures ∙ c.in-None.is)))

pub returns-in_ok-add-in-None-clause-ok : goal.returns-in_ok-add-in-None-clause-ok
returns-in_ok-add-in-None-clause-ok c =
    c.in_ok-add-in-None.ensures.ok ∙ sym (put_row-new c.args.self.now c.args.row (sym c.place.ensures ∙ c.in-None.is))
