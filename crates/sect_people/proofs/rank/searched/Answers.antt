-- The middle tells on which side the rank lies.
use Rattle.std.proofs.Common.{arith, length, ◌<◌, ◌+◌, ◌-◌, ◌/◌}
use Rattle.sect_people.proofs.RankLemmas.{rank_le-length, rank_le, lt_rank, less, not_less}
use Rattle.sect_people.proofs.rank.searched.Goals as goal

pub loop-low-init : goal.loop-low-init
loop-low-init c = (omega arith, rank_le-length (λ d. d.0) c.args.id.0 c.args.ids.now, omega arith)

pub loop-low-preserved-then-lt : goal.loop-low-preserved-then-lt
loop-low-preserved-then-lt c =
    let i = c.loop-low.invariant in
    let within : c.loop-low.low + (c.loop-low.high - c.loop-low.low) / 2 < length c.args.ids.now = omega (arith, i.2, c.loop-low-test.true) in
    let past = lt_rank (λ d. d.0) c.args.id.0 c.args.ids.now (c.loop-low.low + (c.loop-low.high - c.loop-low.low) / 2) (record { 0 = 0 }) c.requires within (less _ _ c.if-lt.ensures) in
    (omega (arith, past), i.1, i.2)

pub loop-low-preserved : goal.loop-low-preserved
loop-low-preserved c =
    let i = c.loop-low.invariant in
    let within : c.loop-low.low + (c.loop-low.high - c.loop-low.low) / 2 < length c.args.ids.now = omega (arith, i.2, c.loop-low-test.true) in
    let past = rank_le (λ d. d.0) c.args.id.0 c.args.ids.now (c.loop-low.low + (c.loop-low.high - c.loop-low.low) / 2) (record { 0 = 0 }) within (not_less _ _ c.if-lt.ensures) in
    (i.0, past, omega (arith, within))
