-- What is written of a day is its text.
use Rattle.sect_words.proofs.DayLaws.{text_of_day}
use Rattle.sect_words.proofs.digits.put_day.Goals as goal

pub returns-clause-written : goal.returns-clause-written
returns-clause-written c = rw (← text_of_day c.print_day.result c.args.day c.print_day.ensures.text) c.put_bytes.ensures.written
