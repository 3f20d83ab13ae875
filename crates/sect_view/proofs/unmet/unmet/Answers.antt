-- The students in rising order of id.
use Rattle.std.proofs.Common.{◌∙◌, ap, flat_map}
use Rattle.sect_command.specs.declared.view.View.TheVariants.{Unmet}
use Rattle.sect_people.specs.Changes.{ids_of}
use Rattle.sect_model.specs.Batch.{asks_of}
use Rattle.sect_view.specs.Unmet.{unmet_among}
use Rattle.sect_view.proofs.RowLemmas.{unmet-by-id}
use Rattle.sect_view.proofs.unmet.unmet.Goals as goal

pub returns : goal.returns
returns c =
    let w = c.args.world.now.world in
    ap Unmet
    (c.in_ok-unmet_of.ensures ∙ ap (flat_map (λ s. unmet_among w s (asks_of w s))) (c.ids.ensures.value ∙ ap ids_of c.people.ensures) ∙ unmet-by-id w c.recall_kept.ensures)
