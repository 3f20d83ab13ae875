-- A known student has a place.
use Rattle.std.proofs.Common.{◌∙◌, ap, sym}
use Rattle.std.specs.Option.{is_some}
use Rattle.sect_people.proofs.PlaceLemmas.{not_both}
use Rattle.sect_people.proofs.ChangeLemmas.{find-none}
use Rattle.sect_people.proofs.people.People.set_requests.Goals as goal

pub returns-in-None-clause-given_back : goal.returns-in-None-clause-given_back
returns-in-None-clause-given_back c =
    absurd (not_both _ c.requires (ap is_some (find-none c.args.self.now c.args.student (sym c.place.ensures ∙ c.in-None.is))))

pub returns-in-None-clause-replaced : goal.returns-in-None-clause-replaced
returns-in-None-clause-replaced c =
    absurd (not_both _ c.requires (ap is_some (find-none c.args.self.now c.args.student (sym c.place.ensures ∙ c.in-None.is))))
