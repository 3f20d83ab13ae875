-- what the walk finds is one choice
use Rattle.std.proofs.Common.{◌∙◌, ap, sym}
use Rattle.sect_model.specs.Search.{search_of}
use Rattle.sect_model.proofs.StandLemmas.{stands}
use Rattle.sect_search.specs.Told.{told}
use Rattle.sect_search.proofs.OneLemmas.{one-choice}
use Rattle.sect_search.proofs.one.find_one.Goals as goal

pub into_one-requires : goal.into_one-requires
into_one-requires c =
    let w = c.args.world.now.world in
    let mv = c.args.mv.now in
    let after = c.walk_all.new.walk in
    one-choice w mv c.args.budget after.left after.choices (record { checked = c.recall_kept.ensures.rows_pass; reservations_differ = c.recall_kept.ensures.reservations_differ }) (stands w mv c.requires.fits) c.requires.one
    ((λ i. told (sym c.in-Found.is i) after.choices after.trees.items after.left) ∙ c.in_ok-searched.ensures.found ∙ ap (search_of w mv) c.new-walk.ensures.left)
