-- a section that is an option has room
use Rattle.std.specs.Prelude.{◌≡◌, ◌<◌, length, true, Contains}
use Rattle.std.proofs.Common.{◌∙◌, ap, sym, subst}
use Rattle.sect_catalog.specs.Fault.{are_checked}
use Rattle.sect_model.specs.declared.pick.Pick.TheVariants.{Section}
use Rattle.sect_model.specs.Path.{options_at}
use Rattle.sect_moment.proofs.OwnLemmas.{option-stands, room}
use Rattle.sect_rules.specs.Wanted.{Configured, config_path}
use Rattle.sect_rules.proofs.configured.Configured.recall_room.Goals as goal

pub returns : goal.returns
returns c =
    let s = c.self.inside in
    let v : Configured = record { by = s.by.now; config = s.config; sections = s.sections } in
    let w = v.by.on.wanted.world in
    let option = subst (λ v. Contains (options_at v.by.on.wanted.world v.by.on.wanted.mv (config_path v)) (Section c.args.section)) (sym c.self.view_is) c.requires in
    let same : c.world.result.now.world ≡ w = c.world.ensures ∙ ap (λ q. q.world) c.wanted.ensures ∙ ap (λ on. on.wanted.world) c.on.ensures in
    let checked : are_checked w.catalogue.rows ≡ true = subst (λ v. are_checked v.catalogue.rows ≡ true) same c.recall_kept.ensures.rows_pass in
    subst (λ v. length v.sections < 6) c.self.view_is
    (room w checked (config_path v) c.args.section (option-stands w v.by.on.wanted.mv (config_path v) (Section c.args.section) option))
