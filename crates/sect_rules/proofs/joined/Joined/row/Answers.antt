-- only the roster differs
use Rattle.std.specs.Prelude.{◌≡◌, option_copied}
use Rattle.std.specs.Option.{option_and_then}
use Rattle.std.proofs.Common.{◌∙◌, subst}
use Rattle.sect_model.specs.World.{reservation_of}
use Rattle.sect_moment.specs.Completed.{opened}
use Rattle.sect_moment.specs.Found.{id_of}
use Rattle.sect_rules.specs.Wanted.{met}
use Rattle.sect_rules.proofs.AtLemmas.{reservation-at}
use Rattle.sect_rules.proofs.joined.Joined.row.Goals as goal

pub returns : goal.returns
returns c =
    let s = c.self.inside in
    let v = s.on.now.wanted in
    subst (λ v. option_copied s.row ≡ option_and_then (reservation_of (met v.on.wanted)) v.id) c.self.view_is
    (c.self.invariant.0 ∙ reservation-at v.world v.mv (opened v.done) (id_of s.row))
