-- The wants tried stand, and the tree of the search has a text.
use Rattle.std.proofs.Common.{◌*◌, ◌++◌, [], ◌∷◌, ◌∙◌, ap, arith, length, subst, sym}
use Rattle.sect_model.specs.Stands.{MoveStands}
use Rattle.sect_best.proofs.PlanLemmas.{fit-more, more-by-one, plan-stands}
use Rattle.sect_best.proofs.ToldLemmas.{told-deeper}
use Rattle.sect_best.proofs.schedule.plan_want.Goals as goal

pub search_in-requires-clause-stands : goal.search_in-requires-clause-stands
search_in-requires-clause-stands g c =
    let w = c.args.world.now.world in
    subst (MoveStands w) (sym (c.of.ensures ∙ c.in_ok-mv.ensures))
    (plan-stands w c.args.student (c.args.planned.kept ++ c.args.want ∷ []) c.requires.known (fit-more w c.args.planned.kept c.args.want c.requires.kept c.requires.fits))

pub judged-requires-clause-outcome : goal.judged-requires-clause-outcome
judged-requires-clause-outcome g c =
    told-deeper (9 * length c.of.result.take) 180
    (omega (arith, ap (λ mv. length mv.take) (c.of.ensures ∙ c.in_ok-mv.ensures), more-by-one c.args.planned.kept c.args.want, c.requires.bound))
    c.in_ok-outcome.outcome c.in_ok-outcome.ensures.text
