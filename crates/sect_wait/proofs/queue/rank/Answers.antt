-- The middle tells on which side the rank lies.
use Rattle.std.proofs.Common.{arith, ap, length, ◌<◌, ◌+◌, ◌-◌, ◌/◌}
use Rattle.sect_people.proofs.RankLemmas.{rank_le-length, rank_le, lt_rank}
use Rattle.sect_roster.proofs.PlaceLemmas.{rises}
use Rattle.sect_model.specs.declared.held.Waiting.{Waiting}
use Rattle.sect_wait.proofs.queue.rank.Goals as goal

pub loop-low-init : goal.loop-low-init
loop-low-init c = (omega arith, rank_le-length (λ (e : Waiting). e.ticket) c.args.ticket c.args.entries.now, omega arith)

pub loop-low-preserved-then-entries-middle : goal.loop-low-preserved-then-entries-middle
loop-low-preserved-then-entries-middle c =
    let i = c.loop-low.invariant in
    let key = λ (e : Waiting). e.ticket in
    let within : c.loop-low.low + (c.loop-low.high - c.loop-low.low) / 2 < length c.args.entries.now = omega (arith, i.2, c.loop-low-test.true) in
    let read = ap key c.index-entries-middle.is in
    let past = lt_rank key c.args.ticket c.args.entries.now (c.loop-low.low + (c.loop-low.high - c.loop-low.low) / 2) c.index-entries-middle.result (rises key c.args.entries.now c.requires) within (omega (arith, read, c.if-entries-middle.true)) in
    (omega (arith, past), i.1, i.2)

pub loop-low-preserved : goal.loop-low-preserved
loop-low-preserved c =
    let i = c.loop-low.invariant in
    let key = λ (e : Waiting). e.ticket in
    let within : c.loop-low.low + (c.loop-low.high - c.loop-low.low) / 2 < length c.args.entries.now = omega (arith, i.2, c.loop-low-test.true) in
    let read = ap key c.index-entries-middle.is in
    let past = rank_le key c.args.ticket c.args.entries.now (c.loop-low.low + (c.loop-low.high - c.loop-low.low) / 2) c.index-entries-middle.result within (omega (arith, read, c.if-entries-middle.false)) in
    (i.0, past, omega (arith, within))
