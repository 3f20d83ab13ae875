-- One verdict more is told.
use Rattle.std.proofs.Common.{◌∷◌, ◌++◌, [], ◌∙◌, ap, subst, sym}
use Rattle.sect_best.specs.Told.{AreTold}
use Rattle.sect_best.proofs.ToldLemmas.{told-also}
use Rattle.sect_best.proofs.planned.judged_also.Goals as goal

pub returns-clause-told : goal.returns-clause-told
returns-clause-told c =
    subst AreTold (sym (c.from_vec.ensures ∙ c.in_ok-push.ensures.items ∙ ap (λ js. js ++ record { rank = c.args.rank; verdict = c.args.verdict } ∷ []) c.into_vec-verdicts.ensures))
    (told-also c.args.verdicts c.args.rank c.args.verdict c.requires.told c.requires.verdict)
