-- the offering's row has them
use Rattle.std.proofs.Common.{◌∙◌}
use Rattle.sect_moment.proofs.GroundLemmas.{its-subparts}
use Rattle.sect_moment.proofs.moment.Moment.subparts.Goals as goal

pub returns : goal.returns
returns c = c.subparts_in.ensures ∙ its-subparts c.args.self.now.at c.args.course c.args.config c.args.offering.now c.requires
