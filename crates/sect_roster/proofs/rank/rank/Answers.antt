-- The middle tells on which side the rank lies.
use Rattle.std.proofs.Common.{arith, ap, length, ◌<◌, ◌+◌, ◌-◌, ◌/◌}
use Rattle.sect_people.proofs.RankLemmas.{rank_le-length, rank_le, lt_rank}
use Rattle.sect_roster.proofs.PlaceLemmas.{rises}
use Rattle.sect_roster.proofs.rank.rank.Goals as goal

pub loop-low-init : goal.loop-low-init
loop-low-init g c = (omega arith, rank_le-length g.T.Keyed.key_of c.args.bound c.args.items.now, omega arith)

pub loop-low-preserved-then-key-bound : goal.loop-low-preserved-then-key-bound
loop-low-preserved-then-key-bound g c =
    let i = c.loop-low.invariant in
    let key = g.T.Keyed.key_of in
    let within : c.loop-low.low + (c.loop-low.high - c.loop-low.low) / 2 < length c.args.items.now = omega (arith, i.2, c.loop-low-test.true) in
    let read = ap key c.index-items-middle.is in
    let past = lt_rank key c.args.bound c.args.items.now (c.loop-low.low + (c.loop-low.high - c.loop-low.low) / 2) c.index-items-middle.result (rises key c.args.items.now c.requires) within (omega (arith, read, c.key.ensures, c.if-key-bound.true)) in
    (omega (arith, past), i.1, i.2)

pub loop-low-preserved : goal.loop-low-preserved
loop-low-preserved g c =
    let i = c.loop-low.invariant in
    let key = g.T.Keyed.key_of in
    let within : c.loop-low.low + (c.loop-low.high - c.loop-low.low) / 2 < length c.args.items.now = omega (arith, i.2, c.loop-low-test.true) in
    let read = ap key c.index-items-middle.is in
    let past = rank_le key c.args.bound c.args.items.now (c.loop-low.low + (c.loop-low.high - c.loop-low.low) / 2) c.index-items-middle.result within (omega (arith, read, c.key.ensures, c.if-key-bound.false)) in
    (i.0, past, omega (arith, within))
