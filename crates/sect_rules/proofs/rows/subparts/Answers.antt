-- the offering's row has them
use Rattle.std.proofs.Common.{◌∙◌}
use Rattle.std.specs.Prelude.{Some, refl}
use Rattle.sect_moment.proofs.GroundLemmas.{its-offering, no-offering, its-subparts, no-subparts}
use Rattle.sect_rules.proofs.rows.subparts.Goals as goal

pub returns-in-Some : goal.returns-in-Some
returns-in-Some c =
    let w = c.args.world.now.world in
    c.subparts_in.ensures
    ∙ its-subparts w c.args.course c.args.config c.in-Some.ground.offering.now
    (its-offering w c.args.course (Some c.args.course) c.args.ground c.in-Some.ground refl c.in-Some.is c.requires)

pub returns-in-None : goal.returns-in-None
returns-in-None c =
    let w = c.args.world.now.world in
    no-subparts w c.args.course c.args.config (no-offering w c.args.course (Some c.args.course) c.args.ground refl c.in-None.is c.requires)
