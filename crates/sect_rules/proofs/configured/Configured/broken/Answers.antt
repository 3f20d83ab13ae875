-- the rules on a section, in the world at the choices
use Rattle.std.specs.Prelude.{◌≡◌, true, Some, None, option_copied, Contains}
use Rattle.std.proofs.Common.{◌∙◌, ap, sym, subst}
use Rattle.sect_model.specs.declared.pick.Pick.TheVariants.{Section}
use Rattle.sect_model.specs.World.{offering_of}
use Rattle.sect_model.specs.Path.{options_at, want_at}
use Rattle.sect_model.specs.Rules.{leaf_of, first_broken, section_rules}
use Rattle.sect_moment.specs.Completed.{opened}
use Rattle.sect_moment.specs.Found.{IsSection}
use Rattle.sect_moment.specs.Ground.{IsGround, IsGroundOf}
use Rattle.sect_moment.specs.Standing.{own_section}
use Rattle.sect_moment.proofs.OwnLemmas.{option-stands}
use Rattle.sect_rules.specs.Wanted.{Configured, config_path, met}
use Rattle.sect_rules.proofs.AtLemmas.{own-at, section-at}
use Rattle.sect_rules.proofs.DueLemmas.{ground-met, offering-met, section-leaf, section-none}
use Rattle.sect_rules.proofs.configured.Configured.broken.Goals as goal

pub section_rule-requires : goal.section_rule-requires
section_rule-requires c =
    let s = c.self.inside in
    let v : Configured = record { by = s.by.now; config = s.config; sections = s.sections } in
    let on = v.by.on in
    let w = on.wanted.world in
    let mv = on.wanted.mv in
    let turn : c.wanted-wanted.result.now ≡ on.wanted = c.wanted-wanted.ensures ∙ ap (λ on. on.wanted) c.on-on.ensures in
    let known = subst (λ q. want_at q.mv (opened q.done) ≡ Some q.want) turn c.recall_want.ensures in
    let m : c.moment.result.now ≡ record { at = met on.wanted; student = on.wanted.mv.student } = c.moment.ensures ∙ (λ i. record { at = met (turn i); student = (turn i).mv.student }) in
    let course : c.course.result ≡ on.course = c.course.ensures ∙ ap (λ on. on.course) c.on-on.ensures in
    let its = option_copied c.ground.result in
    let ground : IsGroundOf (met on.wanted) (Some on.course) its = subst (λ on. IsGroundOf (met on.wanted) (Some on.course) its) c.on-on.ensures c.ground.ensures in
    let option = subst (λ v. Contains (options_at v.by.on.wanted.world v.by.on.wanted.mv (config_path v)) (Section c.args.row.now.id)) (sym c.self.view_is) c.requires.option in
    let own : own_section (met on.wanted) on.course v.config v.sections c.args.row.now.id ≡ true
    = own-at w mv (opened on.wanted.done) on.course v.config v.sections c.args.row.now.id (option-stands w mv (config_path v) (Section c.args.row.now.id) option) in record {
      ground = subst (λ m. IsGround m.at c.course.result c.in-Some.ground.now) (sym m)
          (subst (λ id. IsGround (met on.wanted) id c.in-Some.ground.now) (sym course) (ground-met on known its ground c.in-Some.ground.now (ap option_copied c.in-Some.is)));
      offering = (λ i. offering_of (m i).at (course i)) ∙ offering-met on known its ground c.in-Some.ground.now (ap option_copied c.in-Some.is);
      own = (λ i. own_section (m i).at (course i) v.config v.sections c.args.row.now.id) ∙ own;
      row = subst (λ m. IsSection m.at c.args.row.now) (sym m)
          (section-at w mv (opened on.wanted.done) c.args.row.now (subst (λ v. IsSection v.by.on.wanted.world c.args.row.now) (sym c.self.view_is) c.requires.row));
    }

pub returns-in-Some : goal.returns-in-Some
returns-in-Some c =
    let s = c.self.inside in
    let v : Configured = record { by = s.by.now; config = s.config; sections = s.sections } in
    let on = v.by.on in
    let turn : c.wanted-wanted.result.now ≡ on.wanted = c.wanted-wanted.ensures ∙ ap (λ on. on.wanted) c.on-on.ensures in
    let known = subst (λ q. want_at q.mv (opened q.done) ≡ Some q.want) turn c.recall_want.ensures in
    let m : c.moment.result.now ≡ record { at = met on.wanted; student = on.wanted.mv.student } = c.moment.ensures ∙ (λ i. record { at = met (turn i); student = (turn i).mv.student }) in
    let course : c.course.result ≡ on.course = c.course.ensures ∙ ap (λ on. on.course) c.on-on.ensures in
    let its = option_copied c.ground.result in
    let ground : IsGroundOf (met on.wanted) (Some on.course) its = subst (λ on. IsGroundOf (met on.wanted) (Some on.course) its) c.on-on.ensures c.ground.ensures in
    let want : c.want.result.now ≡ on.wanted.want = c.want.ensures ∙ ap (λ q. q.want) turn in
    subst (λ v. c.section_rule.result ≡ leaf_of v.by.on.wanted.world v.by.on.wanted.mv (config_path v) (Section c.args.row.now.id)) c.self.view_is
    (c.section_rule.ensures
    ∙ (λ i. first_broken (section_rules (m i).at (m i).student (want i) c.in-Some.ground.now.offering.now (course i) (option_copied c.row.result) v.config v.sections c.args.row.now.id))
    ∙ section-leaf on known its ground v.by.id v.config v.sections c.args.row.now.id (option_copied c.row.result) c.in-Some.ground.now c.row.ensures (ap option_copied c.in-Some.is))

pub returns-in-None : goal.returns-in-None
returns-in-None c =
    let s = c.self.inside in
    let v : Configured = record { by = s.by.now; config = s.config; sections = s.sections } in
    let on = v.by.on in
    let turn : c.wanted-wanted.result.now ≡ on.wanted = c.wanted-wanted.ensures ∙ ap (λ on. on.wanted) c.on-on.ensures in
    let known = subst (λ q. want_at q.mv (opened q.done) ≡ Some q.want) turn c.recall_want.ensures in
    let its = option_copied c.ground.result in
    let ground : IsGroundOf (met on.wanted) (Some on.course) its = subst (λ on. IsGroundOf (met on.wanted) (Some on.course) its) c.on-on.ensures c.ground.ensures in
    subst (λ v. None ≡ leaf_of v.by.on.wanted.world v.by.on.wanted.mv (config_path v) (Section c.args.row.now.id)) c.self.view_is
    (section-none on known its ground v.by.id v.config v.sections c.args.row.now.id (ap option_copied c.in-None.is))
