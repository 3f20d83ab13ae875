-- where nothing is given up, they are the student's
use Rattle.std.proofs.Common.{arith, sym, ◌∙◌}
use Rattle.sect_moment.proofs.CreditLemmas.{none-leave}
use Rattle.sect_moment.proofs.held.credits_staying.Goals as goal

pub overflow_cast-result : goal.overflow_cast-result
overflow_cast-result c =
    let same = none-leave c.args.world.now.world c.args.student c.args.give.now (sym c.is_empty.ensures ∙ c.if-is_empty.true) in
    omega (arith, same, c.credits_held.ensures, c.requires)

pub returns-then-is_empty : goal.returns-then-is_empty
returns-then-is_empty c =
    c.credits_held.ensures ∙ none-leave c.args.world.now.world c.args.student c.args.give.now (sym c.is_empty.ensures ∙ c.if-is_empty.true)
