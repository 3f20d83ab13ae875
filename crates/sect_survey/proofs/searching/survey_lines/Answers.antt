-- The lines of all unmet requests, whose moves fit.
use Rattle.std.proofs.Common.{◌≡◌, ◌∙◌, rules, map, subst, sym, IfOk}
use Rattle.std.specs.Prelude.{All}
use Rattle.sect_model.specs.Premises.{MoveFits}
use Rattle.sect_survey.specs.Survey.{line_of, unmet_move, survey_lines}
use Rattle.sect_survey.proofs.FitLemmas.{moves-fit}
use Rattle.sect_survey.proofs.searching.survey_lines.Goals as goal

pub lines_of-requires : goal.lines_of-requires
lines_of-requires g c =
    let w = c.args.world.now.world in
    (search rules, subst (All (λ u. MoveFits w (unmet_move u))) (sym (c.as_slice.ensures ∙ c.in_ok-views.ensures)) (moves-fit w c.recall_kept.ensures))

pub returns : goal.returns
unfolding survey_lines
returns g c =
    let w = c.args.world.now.world in
    subst (λ us. IfOk c.lines_of.result (λ lines. lines.items ≡ map (line_of w) us)) (c.as_slice.ensures ∙ c.in_ok-views.ensures) c.lines_of.ensures
