-- The view of unmet requests is of that kind.
use Rattle.std.proofs.Common.{◌≡◌, ◌∙◌, flat_map, sym}
use Rattle.sect_command.specs.declared.view.View.TheVariants.{Unmet}
use Rattle.sect_model.specs.Look.{unmet_views, students_by_id}
use Rattle.sect_survey.proofs.searching.unmet_requests.Goals as goal

pub unreachable-requires : goal.unreachable-requires
unreachable-requires c = c.in_default.not-Unmet _ (c.in_ok-views.ensures 0)

pub returns : goal.returns
returns c =
    let w = c.args.world.now.world in
    let same : Unmet c.in-Unmet.views ≡ Unmet (flat_map (unmet_views w) (students_by_id w)) = sym c.in-Unmet.is ∙ c.in_ok-views.ensures 0 in
    cc
