-- the law of searches with a budget
use Rattle.std.proofs.Common.{◌≡◌, sym, subst}
use Rattle.std.specs.Prelude.{IfOk}
use Rattle.sect_model.proofs.SearchLemmas.{search-answers}
use Rattle.sect_model.proofs.StandLemmas.{stands}
use Rattle.sect_search.specs.One.{listed}
use Rattle.sect_search.proofs.OneLemmas.{one-told}
use Rattle.sect_search.proofs.one.search_one.Goals as goal

pub returns-clause-outcome : goal.returns-clause-outcome
returns-clause-outcome g c =
    let w = c.args.world.now.world in
    let mv = c.args.mv.now in
    subst (λ o. IfOk c.find_one.result (λ found. listed found ≡ o))
    (sym (search-answers w mv c.args.budget (record { checked = c.recall_kept.ensures.rows_pass; reservations_differ = c.recall_kept.ensures.reservations_differ }) (stands w mv c.requires.fits)))
    c.find_one.ensures.found

pub returns-clause-text : goal.returns-clause-text
returns-clause-text g c =
    let w = c.args.world.now.world in
    let mv = c.args.mv.now in
    one-told w mv c.args.budget c.find_one.result (record { checked = c.recall_kept.ensures.rows_pass; reservations_differ = c.recall_kept.ensures.reservations_differ }) (stands w mv c.requires.fits) c.requires.one
    (subst (λ o. IfOk c.find_one.result (λ found. listed found ≡ o))
    (sym (search-answers w mv c.args.budget (record { checked = c.recall_kept.ensures.rows_pass; reservations_differ = c.recall_kept.ensures.reservations_differ }) (stands w mv c.requires.fits)))
    c.find_one.ensures.found)
    c.find_one.ensures.numbers
