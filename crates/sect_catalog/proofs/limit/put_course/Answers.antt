-- The write is the change at the position, and past the end there is none.
use Rattle.std.proofs.Common.{ap, refl}
use Rattle.sect_catalog.proofs.ChangeLemmas.{changed, past}
use Rattle.sect_catalog.proofs.limit.put_course.Goals as goal

pub returns-in-Some : goal.returns-in-Some
returns-in-Some c =
    ap (λ cs. record c.args.row.now { courses = cs }) (changed (λ c'. record c' { limit = c.args.limit }) c.args.row.now.courses c.args.at.config c.in-Some.course.now _ c.in-Some.ensures.item.3.0 c.in-Some.ensures.item.1 refl)

pub returns-in_default : goal.returns-in_default
returns-in_default c =
    ap (λ cs. record c.args.row.now { courses = cs }) (past (λ c'. record c' { limit = c.args.limit }) c.args.row.now.courses c.args.at.config c.get_mut.result _ c.get_mut.ensures.item.3 c.in_default.not-Some)
