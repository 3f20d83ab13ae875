use Rattle.sect_base.proofs.BitLemmas.{shares_bit}
use Rattle.sect_base.proofs.bits.share_bit.Goals as goal

pub returns : goal.returns
returns c = shares_bit c.args.a c.args.b c.ranges.a.fits
