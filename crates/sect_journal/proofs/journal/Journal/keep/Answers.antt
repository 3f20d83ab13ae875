use Rattle.std.proofs.Common.{map, subst, sym, is_ok}
use Rattle.sect_journal.specs.Standing.{Appends, LeavesNow}
use Rattle.sect_journal.proofs.Keeps.{appends_of}
use Rattle.sect_journal.proofs.journal.Journal.keep.Goals as goal

pub returns-clause-appends : goal.returns-clause-appends
returns-clause-appends g c =
    let told = g.D.Disk.told in
    let rows = map (λ row. row.now) c.args.rows.now in
    let before = c.take_buffer-text.new.self in
    let after = c.add-result.new.self in
    let e = c.add-result.ensures in
    let now = subst (λ s. LeavesNow s.rows s.loose (g.D.Disk.told s.disk)) c.give_buffer.ensures c.recall_sound.ensures in
    let all = appends_of told rows before after c.add-result.result e.rows e.same_rows e.loose e.may_be_loose e.moments now in
    subst (λ s. Appends g.D.Disk.told (map (λ row. row.now) c.args.rows.now) (is_ok c.add-result.result) s c.give_buffer.new.self) c.take_buffer-text.ensures
    (subst (λ s. Appends g.D.Disk.told (map (λ row. row.now) c.args.rows.now) (is_ok c.add-result.result) c.take_buffer-text.new.self s) (sym c.give_buffer.ensures) all)
