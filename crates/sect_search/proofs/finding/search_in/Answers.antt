-- the law of searches with a budget
use Rattle.std.proofs.Common.{◌≡◌, sym, subst}
use Rattle.std.specs.Prelude.{IfOk}
use Rattle.sect_model.proofs.SearchLemmas.{search-answers}
use Rattle.sect_search.proofs.TextLemmas.{result-told}
use Rattle.sect_search.proofs.finding.search_in.Goals as goal

pub returns-clause-outcome : goal.returns-clause-outcome
returns-clause-outcome g c =
    subst (λ o. IfOk c.find.result (λ outcome. outcome ≡ o))
    (sym (search-answers c.args.world.now.world c.args.mv.now c.args.budget (record { checked = c.recall_kept.ensures.rows_pass; reservations_differ = c.recall_kept.ensures.reservations_differ }) c.requires.stands))
    c.find.ensures.found

pub returns-clause-text : goal.returns-clause-text
returns-clause-text g c =
    result-told c.args.world.now.world c.args.mv.now c.args.budget c.find.result (record { checked = c.recall_kept.ensures.rows_pass; reservations_differ = c.recall_kept.ensures.reservations_differ }) c.requires.stands
    (subst (λ o. IfOk c.find.result (λ outcome. outcome ≡ o))
    (sym (search-answers c.args.world.now.world c.args.mv.now c.args.budget (record { checked = c.recall_kept.ensures.rows_pass; reservations_differ = c.recall_kept.ensures.reservations_differ }) c.requires.stands))
    c.find.ensures.found)
    c.find.ensures.numbers
