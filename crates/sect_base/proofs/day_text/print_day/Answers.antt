-- A day has one spelling.
use Rattle.sect_base.proofs.DayTexts.{one_spelling}
use Rattle.sect_base.proofs.day_text.print_day.Goals as goal

pub returns-clause-spelling : goal.returns-clause-spelling
returns-clause-spelling c = λ text says. one_spelling text c.spelled.result c.args.day says c.spelled.ensures
