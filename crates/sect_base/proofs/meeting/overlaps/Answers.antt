-- The test of bits and bounds is the definition.
use Rattle.std.proofs.Common.{arith}
use Rattle.std.proofs.lemmas.Grind.{common_steps}
use Rattle.std.proofs.lemmas.Bool.Decides.{nat_tests}
use Rattle.sect_base.proofs.OverlapLemmas.{overlap_by_bounds}
use Rattle.sect_base.proofs.meeting.overlaps.Goals as goal

pub returns-then-same_week : goal.returns-then-same_week
returns-then-same_week c = grind (arith, nat_tests, common_steps, overlap_by_bounds c.args.a.now c.args.b.now, c.a.view_is, c.b.view_is)

pub returns-else-same_week : goal.returns-else-same_week
returns-else-same_week c = grind (arith, nat_tests, common_steps, overlap_by_bounds c.args.a.now c.args.b.now, c.a.view_is, c.b.view_is)
