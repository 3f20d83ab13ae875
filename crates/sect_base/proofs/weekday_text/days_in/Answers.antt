-- The letters that were read are a front of the text.
use Rattle.std.proofs.Common.{arith, get_or}
use Rattle.sect_base.proofs.WeekdayLemmas.{read_letter, weekdays_within, read_back}
use Rattle.sect_base.proofs.weekday_text.days_in.Goals as goal

pub loop-letter-preserved : goal.loop-letter-preserved
loop-letter-preserved c = (
  read_letter c.args.text.now c.loop-letter.letter-index c.loop-letter.days c.weekday_of-days.result (omega arith) c.loop-letter.invariant.0 c.weekday_of-days.ensures,
  rw c.weekday_of-days.ensures (weekdays_within c.loop-letter.days (get_or c.args.text.now c.loop-letter.letter-index 0) c.loop-letter.invariant.1),
)

pub returns-clause-back : goal.returns-clause-back
returns-clause-back c = read_back c.args.text.now c.loop-letter.letter-index c.loop-letter.days c.loop-letter-test.false c.loop-letter.invariant.0
