use Rattle.std.proofs.Common.{◌≡◌, false}
use Rattle.sect_journal.specs.Standing.{shut}
use Rattle.sect_journal.proofs.Keeps.{settles_none}
use Rattle.sect_journal.proofs.journal.Journal.keep_none.Goals as goal

pub returns-clause-appends : goal.returns-clause-appends
returns-clause-appends g c =
    let old = c.args.self.now in
    let new = c.settle-result.new.self in
    let e = c.settle-result.ensures in
    settles_none g.D.Disk.told old new (new.torn ≡ false) (g.D.Disk.told new.disk ≡ shut (g.D.Disk.told old.disk) old.gate old.torn) c.settle-result.result e.ok e.err e.rows e.moments c.recall_sound-2.ensures
