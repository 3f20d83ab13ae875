-- where a want is left, its choices are few
use Rattle.std.proofs.Common.{arith, length}
use Rattle.std.proofs.lemmas.Option.{slice_get_within}
use Rattle.sect_rules.proofs.wanted.Wanted.new.Goals as goal

pub new-moment-requires-clause-limit : goal.new-moment-requires-clause-limit
new-moment-requires-clause-limit c =
    let within = slice_get_within c.args.mv.now.take (length c.args.done.now) c.args.want c.requires.want in
    omega (arith, within, c.requires.few)

pub invariant_of-result : goal.invariant_of-result
invariant_of-result c = (c.requires.want, c.new-moment.ensures)
