-- the configurations of the offering are the options
use Rattle.std.specs.Prelude.{◌≡◌, map, slice_get, Some, IfSome}
use Rattle.std.specs.Option.{option_map}
use Rattle.std.proofs.Common.{◌∙◌, ap, subst}
use Rattle.sect_people.specs.Order.{sorted_by}
use Rattle.sect_model.specs.declared.pick.Pick.TheVariants.{Config}
use Rattle.sect_model.specs.Path.{options_at, want_at}
use Rattle.sect_moment.specs.Completed.{opened}
use Rattle.sect_moment.specs.Found.{IsConfig, id_of}
use Rattle.sect_rules.specs.Wanted.{Joined, joined_path}
use Rattle.sect_rules.proofs.DueLemmas.{at-want}
use Rattle.sect_rules.proofs.joined.Joined.config.Goals as goal

pub returns-clause-value : goal.returns-clause-value
returns-clause-value c =
    let s = c.self.inside in
    let v : Joined = record { on = s.on.now; id = id_of s.row } in
    let known = subst (λ q. want_at q.mv (opened q.done) ≡ Some q.want) c.wanted.ensures c.recall_want.ensures in
    subst (λ v. option_map (λ row. Config row.now.id) c.config_at.result ≡ slice_get (options_at v.on.wanted.world v.on.wanted.mv (joined_path v)) c.args.i) c.self.view_is
    (c.config_at.ensures.value ∙ ap (λ rows. slice_get (map (λ g. Config g.id) (sorted_by (λ g. g.id.0) rows)) c.args.i) c.self.invariant.1
    ∙ ap (λ xs. slice_get xs c.args.i) (at-want v.on.wanted.world v.on.wanted.mv (joined_path v) v.on.wanted.want known))

pub returns-clause-row : goal.returns-clause-row
returns-clause-row c =
    let s = c.self.inside in
    subst (λ v. IfSome c.config_at.result (λ row. IsConfig v.on.wanted.world (Some v.on.course) row.now)) c.self.view_is
    (c.config_at.ensures.row s.on.now.wanted.world (Some s.on.now.course) c.self.invariant.2)
