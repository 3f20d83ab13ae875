-- The names of the members are the keys.
use Rattle.std.proofs.Common.{◌∙◌, ap, map}
use Rattle.sect_wire.proofs.Names.{known, known_object}
use Rattle.sect_wire.proofs.field.has_only.Goals as goal

pub loop-name-init : goal.loop-name-init
loop-name-init c =
    ap (known (map (λ n. n.now) c.args.names.now)) (c.into_iter-name-iterator.ensures.into_iter_gives ∙ c.keys-name-items.ensures.rest)
    ∙ known_object (map (λ n. n.now) c.args.names.now) _ _ c.in-Some.ensures
