-- Among the reservations of the offering are all that name the level.
use Rattle.std.proofs.Common.{◌&&◌, ◌∙◌, ap, sym}
use Rattle.std.specs.Option.{is_none}
use Rattle.sect_catalog.specs.Catalogue.{places}
use Rattle.sect_reserve.specs.Audience.{active}
use Rattle.sect_model.specs.Space.{has_unlimited, names}
use Rattle.sect_model.proofs.ListLemmas.{any-filter-both}
use Rattle.sect_space.proofs.world.World.has_unlimited.Goals as goal

pub returns : goal.returns
returns c =
    c.any_unlimited.ensures
    ∙ sym (any-filter-both (λ r. active r c.args.self.now.world.day && names r c.args.level) (λ r. is_none (places r.limit)) c.reservations_near.result.now)
    ∙ ap has_unlimited (sym c.reservations_near.ensures.near)
