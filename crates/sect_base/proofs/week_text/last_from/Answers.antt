-- The ones that follow.
use Rattle.std.proofs.Common.{arith}
use Rattle.sect_base.proofs.WeekBits.{Ones, in_sixty, last_from}
use Rattle.sect_base.proofs.week_text.last_from.Goals as goal

pub overflow_shr-weeks : goal.overflow_shr-weeks
overflow_shr-weeks c = omega (arith, in_sixty c.args.weeks c.args.first c.requires.bound c.requires.is_in)

pub overflow_add-result : goal.overflow_add-result
overflow_add-result c =
    let ones : Ones c.args.weeks c.args.first c.trailing_ones.result = rw c.trailing_ones.ensures (last_from c.args.weeks c.args.first c.requires.bound c.requires.is_in) in
    record { fits = omega (arith, ones.fits, in_sixty c.args.weeks c.args.first c.requires.bound c.requires.is_in) }

pub overflow_sub-result : goal.overflow_sub-result
overflow_sub-result c =
    let ones : Ones c.args.weeks c.args.first c.trailing_ones.result = rw c.trailing_ones.ensures (last_from c.args.weeks c.args.first c.requires.bound c.requires.is_in) in
    omega (arith, ones.some)

pub returns : goal.returns
returns c = rw c.trailing_ones.ensures (last_from c.args.weeks c.args.first c.requires.bound c.requires.is_in).is_last
