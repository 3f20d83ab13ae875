-- The last one before the place is below the bound, and so those before it are.
use Rattle.std.proofs.Common.{◌<◌, ◌-◌, ap, arith, length}
use Rattle.sect_people.proofs.RankLemmas.{lt_rank}
use Rattle.sect_roster.proofs.PlaceLemmas.{rises}
use Rattle.sect_roster.proofs.rank.is_reached.Goals as goal

pub returns-then-key-bound : goal.returns-then-key-bound
returns-then-key-bound g c =
    let key = g.T.Keyed.key_of in
    let read = ap key c.index-items-last.is in
    let within : c.args.place - 1 < length c.args.items.now = omega arith in
    let past = lt_rank key c.args.bound c.args.items.now (c.args.place - 1) c.index-items-last.result (rises key c.args.items.now c.requires) within (omega (arith, read, c.key.ensures, c.if-key-bound.true)) in
    λ h. omega (arith, past)
