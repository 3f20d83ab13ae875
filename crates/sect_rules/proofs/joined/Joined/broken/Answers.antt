-- the rules on a configuration, in the world at the choices
use Rattle.std.specs.Prelude.{◌≡◌, Some, None, option_copied, refl}
use Rattle.std.proofs.Common.{◌∙◌, ap, sym, subst}
use Rattle.sect_model.specs.declared.pick.Pick.TheVariants.{Config}
use Rattle.sect_model.specs.World.{offering_of}
use Rattle.sect_model.specs.Path.{want_at}
use Rattle.sect_model.specs.Rules.{leaf_of, first_broken, config_rules}
use Rattle.sect_moment.specs.Completed.{opened}
use Rattle.sect_moment.specs.Found.{IsConfig, id_of}
use Rattle.sect_moment.specs.Ground.{IsGround}
use Rattle.sect_rules.specs.Wanted.{joined_path, met}
use Rattle.sect_rules.proofs.AtLemmas.{config-at, reservation-at}
use Rattle.sect_rules.proofs.DueLemmas.{ground-met, offering-met, config-leaf, config-none}
use Rattle.sect_rules.proofs.FoundLemmas.{its-config}
use Rattle.sect_rules.proofs.joined.Joined.broken.Goals as goal

pub config_rule-requires-clause-ground : goal.config_rule-requires-clause-ground
config_rule-requires-clause-ground c =
    let on = c.self.inside.on.now in
    let known = subst (λ q. want_at q.mv (opened q.done) ≡ Some q.want) c.wanted-wanted.ensures c.recall_want.ensures in
    let m : c.moment.result.now ≡ record { at = met on.wanted; student = on.wanted.mv.student } = c.moment.ensures ∙ (λ i. record { at = met (c.wanted-wanted.ensures i); student = (c.wanted-wanted.ensures i).mv.student }) in
    subst (λ m. IsGround m.at c.course.result c.in-Some.ground.now) (sym m)
    (subst (λ id. IsGround (met on.wanted) id c.in-Some.ground.now) (sym c.course.ensures)
    (ground-met on known (option_copied c.ground.result) c.ground.ensures c.in-Some.ground.now (ap option_copied c.in-Some.is)))

pub config_rule-requires-clause-offering : goal.config_rule-requires-clause-offering
config_rule-requires-clause-offering c =
    let on = c.self.inside.on.now in
    let known = subst (λ q. want_at q.mv (opened q.done) ≡ Some q.want) c.wanted-wanted.ensures c.recall_want.ensures in
    let m : c.moment.result.now ≡ record { at = met on.wanted; student = on.wanted.mv.student } = c.moment.ensures ∙ (λ i. record { at = met (c.wanted-wanted.ensures i); student = (c.wanted-wanted.ensures i).mv.student }) in
    (λ i. offering_of (m i).at (c.course.ensures i)) ∙ offering-met on known (option_copied c.ground.result) c.ground.ensures c.in-Some.ground.now (ap option_copied c.in-Some.is)

pub config_rule-requires-clause-row : goal.config_rule-requires-clause-row
config_rule-requires-clause-row c =
    let on = c.self.inside.on.now in
    let v = on.wanted in
    let known = subst (λ q. want_at q.mv (opened q.done) ≡ Some q.want) c.wanted-wanted.ensures c.recall_want.ensures in
    its-config (met v) on.course (Some on.course) c.in-Some.ground.now.offering.now c.args.row.now refl (offering-met on known (option_copied c.ground.result) c.ground.ensures c.in-Some.ground.now (ap option_copied c.in-Some.is))
    (config-at v.world v.mv (opened v.done) (Some on.course) c.args.row.now (subst (λ v. IsConfig v.on.wanted.world (Some v.on.course) c.args.row.now) (sym c.self.view_is) c.requires))

pub returns-in-Some : goal.returns-in-Some
returns-in-Some c =
    let s = c.self.inside in
    let on = s.on.now in
    let v = on.wanted in
    let known = subst (λ q. want_at q.mv (opened q.done) ≡ Some q.want) c.wanted-wanted.ensures c.recall_want.ensures in
    let m : c.moment.result.now ≡ record { at = met v; student = v.mv.student } = c.moment.ensures ∙ (λ i. record { at = met (c.wanted-wanted.ensures i); student = (c.wanted-wanted.ensures i).mv.student }) in
    subst (λ v. c.config_rule.result ≡ leaf_of v.on.wanted.world v.on.wanted.mv (joined_path v) (Config c.args.row.now.id)) c.self.view_is
    (c.config_rule.ensures
    ∙ (λ i. first_broken (config_rules (m i).at (m i).student c.in-Some.ground.now.offering.now (c.course.ensures i) (option_copied s.row) c.args.row.now.id))
    ∙ config-leaf on known (option_copied c.ground.result) c.ground.ensures (id_of s.row) c.args.row.now.id (option_copied s.row) c.in-Some.ground.now
    (c.self.invariant.0 ∙ reservation-at v.world v.mv (opened v.done) (id_of s.row)) (ap option_copied c.in-Some.is))

pub returns-in-None : goal.returns-in-None
returns-in-None c =
    let s = c.self.inside in
    let known = subst (λ q. want_at q.mv (opened q.done) ≡ Some q.want) c.wanted-wanted.ensures c.recall_want.ensures in
    subst (λ v. None ≡ leaf_of v.on.wanted.world v.on.wanted.mv (joined_path v) (Config c.args.row.now.id)) c.self.view_is
    (config-none s.on.now known (option_copied c.ground.result) c.ground.ensures (id_of s.row) c.args.row.now.id (ap option_copied c.in-None.is))
