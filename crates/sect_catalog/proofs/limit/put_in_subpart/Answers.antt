-- The write is the change at the position, and past the end there is none.
use Rattle.std.proofs.Common.{ap, refl}
use Rattle.sect_catalog.proofs.ChangeLemmas.{changed, past}
use Rattle.sect_catalog.proofs.limit.put_in_subpart.Goals as goal

pub returns-in-Some : goal.returns-in-Some
returns-in-Some c =
    ap (λ ss. record c.args.subpart.now { sections = ss }) (changed (λ s. record s { limit = c.args.limit }) c.args.subpart.now.sections c.args.at.section c.in-Some.section.now _ c.in-Some.ensures.item.3.0 c.in-Some.ensures.item.1 refl)

pub returns-in_default : goal.returns-in_default
returns-in_default c =
    ap (λ ss. record c.args.subpart.now { sections = ss }) (past (λ s. record s { limit = c.args.limit }) c.args.subpart.now.sections c.args.at.section c.get_mut.result _ c.get_mut.ensures.item.3 c.in_default.not-Some)
