-- The write is the change at the position, and past the end there is none.
use Rattle.std.proofs.Common.{ap}
use Rattle.sect_catalog.specs.Limits.{put_in_subpart}
use Rattle.sect_catalog.proofs.ChangeLemmas.{changed, past}
use Rattle.sect_catalog.proofs.limit.put_in_config.Goals as goal

pub returns-in-Some : goal.returns-in-Some
returns-in-Some c =
    ap (λ ps. record c.args.config.now { subparts = ps }) (changed (put_in_subpart c.args.limit c.args.at) c.args.config.now.subparts c.args.at.subpart c.in-Some.subpart.now _ c.in-Some.ensures.item.3.0 c.in-Some.ensures.item.1 c.put_in_subpart.ensures)

pub returns-in_default : goal.returns-in_default
returns-in_default c =
    ap (λ ps. record c.args.config.now { subparts = ps }) (past (put_in_subpart c.args.limit c.args.at) c.args.config.now.subparts c.args.at.subpart c.get_mut.result _ c.get_mut.ensures.item.3 c.in_default.not-Some)
