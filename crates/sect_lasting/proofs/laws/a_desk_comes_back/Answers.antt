-- By what the journal's law says of the acknowledged rows, which are those of the history.
use Rattle.sect_lasting.proofs.Lasting.{lasts_now, lasts_on}
use Rattle.sect_lasting.proofs.Onward.{one_call_more}
use Rattle.sect_journal.specs.Runs.{begun, unanswered}
use Rattle.std.proofs.Common.{[], ◌++◌, Some, refl}
use Rattle.sect_lasting.proofs.laws.a_desk_comes_back.Goals as goal

pub returns-clause-onward : goal.returns-clause-onward
returns-clause-onward g c = one_call_more g.O.Object.start g.O.Object.stepped g.O.Object.is_row g.D.Disk.told _ _ (λ journal. refl) g.met.O.Object.one_entry

pub returns-clause-between : goal.returns-clause-between
returns-clause-between g c desk calls t over is =
    lasts_now g.O.Object.start g.O.Object.stepped g.O.Object.is_row g.D.Disk.told _ _ (λ journal. refl) g.met.O.Object.one_entry desk calls (unanswered [] calls) over t is
    (c.no_acknowledged_row_is_lost.ensures.between (Some over.before) over.first desk.keeper calls over.opened over.run)

pub returns-clause-within : goal.returns-clause-within
returns-clause-within g c desk calls call after over takes =
    lasts_on g.O.Object.start g.O.Object.stepped g.O.Object.is_row g.D.Disk.told _ _ (λ journal. refl) g.met.O.Object.one_entry desk calls (unanswered [] calls ++ begun call) over after
    (c.no_acknowledged_row_is_lost.ensures.within (Some over.before) over.first desk.keeper after calls call over.opened over.run takes)

pub returns-clause-without : goal.returns-clause-without
returns-clause-without g c desk calls t over is =
    lasts_now g.O.Object.start g.O.Object.stepped g.O.Object.is_row g.D.Disk.told _ _ (λ journal. refl) g.met.O.Object.one_entry desk calls (unanswered [] calls) over t is
    (c.no_acknowledged_row_is_lost.ensures.between (Some over.before) over.first desk.keeper calls over.opened over.run)
    t.now.seen (g.met.D.Disk.reads_an_image desk.keeper.disk t is)
