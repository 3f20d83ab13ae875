-- The weeks of the first and the last day, and those between.
use Rattle.std.specs.Prelude.{◌/◌, ◌≤◌}
use Rattle.std.proofs.Common.{arith}
use Rattle.std.proofs.lemmas.Int.{ints}
use Rattle.sect_base.proofs.WeekLemmas.{meets_week, has_bit-week_range, week_range_some, week_range_sixty}
use Rattle.sect_base.proofs.weeks.weeks_of.Goals as goal

pub returns-clause-weeks : goal.returns-clause-weeks
returns-clause-weeks c = λ week.
    let order : c.args.first ≤ c.args.last = omega (arith, ints) in
    let run = has_bit-week_range (c.days_between-from.result / 7) (c.days_between-to.result / 7) week in
    let meets = meets_week c.args.term c.args.first c.args.last c.days_between-from.result c.days_between-to.result week
    c.days_between-from.ensures c.days_between-to.ensures order in
    rw c.week_range.ensures (λ has. meets.0 (run.0 has), λ met. run.1 (meets.1 met))

pub returns-clause-some : goal.returns-clause-some
returns-clause-some c =
    let order : c.args.first ≤ c.args.last = omega (arith, ints) in
    rw c.week_range.ensures (week_range_some (c.days_between-from.result / 7) (c.days_between-to.result / 7) (omega (arith, c.days_between-from.ensures, c.days_between-to.ensures)))

pub returns-clause-bound : goal.returns-clause-bound
returns-clause-bound c = rw c.week_range.ensures (week_range_sixty (c.days_between-from.result / 7) (c.days_between-to.result / 7) (omega arith))
