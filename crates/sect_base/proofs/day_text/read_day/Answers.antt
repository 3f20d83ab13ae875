-- A text says one day.
use Rattle.std.specs.Prelude.{Ok}
use Rattle.std.proofs.Common.{ap}
use Rattle.sect_base.proofs.DayTexts.{one_day}
use Rattle.sect_base.proofs.day_text.read_day.Goals as goal

pub returns-in-Some-clause-printed : goal.returns-in-Some-clause-printed
returns-in-Some-clause-printed c = λ day small says. ap Ok (one_day c.args.text.now c.in-Some.day day c.in-Some.ensures.found says)

pub returns-in-None-clause-printed : goal.returns-in-None-clause-printed
returns-in-None-clause-printed c = λ day small says. absurd (c.in-None.ensures.none day small says)
