-- there are at most as many as the room
use Rattle.std.proofs.Common.{arith, length, ap, ◌∙◌}
use Rattle.std.proofs.lemmas.List.{length-take}
use Rattle.sect_rules.proofs.path.PathOf.of.Goals as goal

pub push-requires : goal.push-requires
push-requires g c =
    let e = ap (λ p. length p.done) c.loop-choice.invariant ∙ length-take c.loop-choice.choice-index c.args.done.now in
    omega (arith, e, c.requires.room, c.loop-choice-test.true)
