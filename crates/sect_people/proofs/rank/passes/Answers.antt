-- An id that is below lies before the rank.
use Rattle.std.proofs.Common.{◌<◌, ◌-◌, length, arith}
use Rattle.std.proofs.lemmas.Bool.Decides.{nat_tests}
use Rattle.std.specs.Prelude.{get_or}
use Rattle.sect_people.proofs.RankLemmas.{lt_rank}
use Rattle.sect_people.proofs.rank.passes.Goals as goal

pub returns-else-place-eq0 : goal.returns-else-place-eq0
returns-else-place-eq0 c =
    λ yes.
    let within : c.args.place - 1 < length c.args.ids.now = omega (arith, c.requires.within, c.if-place-eq0.false) in
    let below : (get_or c.args.ids.now (c.args.place - 1) (record { 0 = 0 })).0 < c.args.id.0 = grind (arith, nat_tests, yes) in
    let past = lt_rank (λ d. d.0) c.args.id.0 c.args.ids.now (c.args.place - 1) (record { 0 = 0 }) c.requires.rising within below in
    omega (arith, past)
