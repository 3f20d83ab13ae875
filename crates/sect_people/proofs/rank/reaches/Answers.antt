-- The rank is at most the length, and lies before no id that is below.
use Rattle.std.proofs.Common.{◌≤◌, ◌<◌, length, arith}
use Rattle.std.proofs.lemmas.Bool.Decides.{nat_tests}
use Rattle.std.specs.Prelude.{get_or}
use Rattle.sect_people.proofs.RankLemmas.{rank_le-length, rank_le}
use Rattle.sect_people.proofs.rank.reaches.Goals as goal

pub returns-then-place-ids : goal.returns-then-place-ids
returns-then-place-ids c =
    λ _. let end = rank_le-length (λ d. d.0) c.args.id.0 c.args.ids.now in omega (arith, end, c.if-place-ids.true)

pub returns-else-place-ids : goal.returns-else-place-ids
returns-else-place-ids c =
    λ yes.
    let within : c.args.place < length c.args.ids.now = omega (arith, c.requires, c.if-place-ids.false) in
    let least : c.args.id.0 ≤ (get_or c.args.ids.now c.args.place (record { 0 = 0 })).0 = grind (arith, nat_tests, yes) in
    rank_le (λ d. d.0) c.args.id.0 c.args.ids.now c.args.place (record { 0 = 0 }) within least
