-- The write is the change at the position, and past the end there is none.
use Rattle.sect_catalog.specs.Limits.{put_at}
use Rattle.sect_catalog.proofs.ChangeLemmas.{changed, past}
use Rattle.sect_catalog.proofs.limit.put_at.Goals as goal

pub returns-in-Some : goal.returns-in-Some
returns-in-Some c =
    (changed (put_at c.args.cap c.args.limit c.args.at) c.args.rows.now.items c.args.at.row c.in-Some.row.now _ c.in-Some.ensures.item.3.0 c.in-Some.ensures.item.1 c.put_in_row.ensures)

pub returns-in_default : goal.returns-in_default
returns-in_default c =
    (past (put_at c.args.cap c.args.limit c.args.at) c.args.rows.now.items c.args.at.row c.get_mut.result _ c.get_mut.ensures.item.3 c.in_default.not-Some)
