-- as many sections are due as there are subparts
use Rattle.std.specs.Prelude.{length, Contains}
use Rattle.std.proofs.Common.{rules, sym, ap, subst, ◌∙◌}
use Rattle.sect_model.specs.Path.{options_at, sections_due}
use Rattle.sect_rules.specs.Decided.{subparts_at}
use Rattle.sect_rules.proofs.PathLemmas.{due-parts}
use Rattle.sect_rules.proofs.path.PathOf.extended.Goals as goal

pub extend-requires : goal.extend-requires
extend-requires g c =
    let w = c.args.world.now.world in
    let p = c.args.self.now in
    let same = sym c.copied-path.ensures in (
      search rules,
      (
        c.requires.room,
        (
          subst (λ q. Contains (options_at w c.args.mv.now q) c.args.pick) same c.requires.option,
          ap length (c.subparts_at-subparts.ensures ∙ (λ i. subparts_at w (c.course-2.ensures i) (c.config.ensures i))) ∙ due-parts w p.course p.config ∙ (λ i. sections_due w (same i).course (same i).config),
        ),
      ),
    )
