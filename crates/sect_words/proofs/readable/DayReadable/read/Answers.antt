-- The day of a word is the one whose text it is.
use Rattle.std.proofs.Common.{subst, sym}
use Rattle.sect_base.specs.DayText.{IsDayText}
use Rattle.sect_words.proofs.DayLaws.{text_of_day}
use Rattle.sect_words.proofs.Dates.{has_day}
use Rattle.sect_words.proofs.Exact.{by_found, by_none}
use Rattle.sect_words.proofs.Values.{exact_day}
use Rattle.sect_words.proofs.readable.DayReadable.read.Goals as goal

pub returns-in-Ok : goal.returns-in-Ok
returns-in-Ok c = by_found exact_day c.args.word.now c.in-Ok.day c.get.ensures.range (text_of_day c.args.word.now c.in-Ok.day c.in-Ok.ensures.ok)

pub returns-in-Err : goal.returns-in-Err
returns-in-Err c = by_none exact_day c.args.word.now (λ day fits is. c.in-Err.ensures.err day fits (subst (λ text. IsDayText text day) (sym is) (has_day day fits)))
