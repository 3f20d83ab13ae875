use Rattle.std.specs.Prelude.{◌≡◌, ◌<◌, ◌^◌, take}
use Rattle.sect_base.proofs.WeekdayLemmas.{days_in}
use Rattle.sect_base.proofs.weekday_text.days_in.Given as goal

abbrev pub invariant-loop-letter : goal.invariant-loop-letter
invariant-loop-letter l = (l.days ≡ days_in (take l.letter-index l.text)) × (l.days < 2 ^ 7)
