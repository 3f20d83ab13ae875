use Rattle.sect_base.proofs.WeekdayLemmas.{Lettered}
use Rattle.sect_base.proofs.weekday_text.print_days.Given as goal

abbrev pub invariant-loop-day : goal.invariant-loop-day
invariant-loop-day l = Lettered l.days l.initial.text l.text l.day
