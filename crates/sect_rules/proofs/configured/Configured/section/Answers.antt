-- the sections of the next subpart are the options
use Rattle.std.specs.Prelude.{◌≡◌, map, slice_get, Some, IfSome}
use Rattle.std.specs.Option.{option_map}
use Rattle.std.proofs.Common.{◌∙◌, ap, subst}
use Rattle.sect_people.specs.Order.{sorted_by}
use Rattle.sect_model.specs.declared.pick.Pick.TheVariants.{Section}
use Rattle.sect_model.specs.Path.{options_at, want_at}
use Rattle.sect_moment.specs.Completed.{opened}
use Rattle.sect_moment.specs.Found.{IsSection}
use Rattle.sect_rules.specs.Wanted.{Configured, config_path}
use Rattle.sect_rules.proofs.DueLemmas.{at-want}
use Rattle.sect_rules.proofs.configured.Configured.section.Goals as goal

pub returns-clause-value : goal.returns-clause-value
returns-clause-value c =
    let s = c.self.inside in
    let v : Configured = record { by = s.by.now; config = s.config; sections = s.sections } in
    let known = subst (λ q. want_at q.mv (opened q.done) ≡ Some q.want) (c.wanted.ensures ∙ ap (λ on. on.wanted) c.on.ensures) c.recall_want.ensures in
    subst (λ v. option_map (λ row. Section row.now.id) c.section_at.result ≡ slice_get (options_at v.by.on.wanted.world v.by.on.wanted.mv (config_path v)) c.args.i) c.self.view_is
    (c.section_at.ensures.value ∙ ap (λ rows. slice_get (map (λ s. Section s.id) (sorted_by (λ s. s.id.0) rows)) c.args.i) c.self.invariant.1
    ∙ ap (λ xs. slice_get xs c.args.i) (at-want v.by.on.wanted.world v.by.on.wanted.mv (config_path v) v.by.on.wanted.want known))

pub returns-clause-row : goal.returns-clause-row
returns-clause-row c =
    let s = c.self.inside in
    subst (λ v. IfSome c.section_at.result (λ row. IsSection v.by.on.wanted.world row.now)) c.self.view_is
    (c.section_at.ensures.row s.by.now.on.wanted.world c.self.invariant.2)
