-- The one at the place isn't below the bound, and so those behind it aren't.
use Rattle.std.proofs.Common.{◌<◌, ap, arith, length}
use Rattle.sect_people.proofs.RankLemmas.{rank_le, rank_le-length}
use Rattle.sect_roster.proofs.rank.is_passed.Goals as goal

pub returns-then-place-items : goal.returns-then-place-items
returns-then-place-items g c = λ h. omega (arith, rank_le-length g.T.Keyed.key_of c.args.bound c.args.items.now)

pub returns : goal.returns
returns g c =
    let key = g.T.Keyed.key_of in
    let read = ap key c.index-items-place.is in
    let within : c.args.place < length c.args.items.now = omega arith in
    λ h. rank_le key c.args.bound c.args.items.now c.args.place c.index-items-place.result within (omega (arith, read, c.key.ensures, c.if-key-bound.false))
