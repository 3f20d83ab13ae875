-- What is printed of a day is its text.
use Rattle.sect_words.proofs.DayLaws.{text_of_day}
use Rattle.sect_words.proofs.spelled.DaySpelled.print.Goals as goal

pub returns-clause-text : goal.returns-clause-text
returns-clause-text c = rw (← text_of_day c.print_day.result c.args.self.now c.print_day.ensures.text) c.print_bytes.ensures.text
