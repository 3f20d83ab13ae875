use Rattle.std.proofs.Common.{ap, ◌∙◌}
use Rattle.sect_base.specs.Pattern.{has_bit}
use Rattle.sect_base.proofs.BitLemmas.{has_bit-ones, shifted_ones, all_ones}
use Rattle.sect_base.proofs.bits.bits_below.Goals as goal

pub returns-then-count-lt64 : goal.returns-then-count-lt64
returns-then-count-lt64 c = λ bit within.
    ap (λ n. has_bit n bit) (shifted_ones c.args.count c.if-count-lt64.true) ∙ has_bit-ones c.args.count bit

pub returns-else-count-lt64 : goal.returns-else-count-lt64
returns-else-count-lt64 c = λ bit within. all_ones c.args.count bit c.if-count-lt64.false within
