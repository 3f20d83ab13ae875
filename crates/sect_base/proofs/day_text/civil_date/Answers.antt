use Rattle.std.proofs.Common.{◌≡◌, ◌∙◌, arith, pos}
use Rattle.std.proofs.lemmas.Int.{ints}
use Rattle.jiff_core.specs.Calendar.{days_from_civil}
use Rattle.sect_base.proofs.Years.{year_from_1970, year_fits, year_is_pos, year_kept}
use Rattle.sect_base.proofs.day_text.civil_date.Goals as goal

pub overflow_cast-result : goal.overflow_cast-result
overflow_cast-result c =
    let d = c.in-Ok.date in
    let number : days_from_civil d.year d.month d.day ≡ pos c.args.day = c.in-Ok.ensures.value ∙ omega (arith, ints) in
    let late = year_from_1970 d.year d.month d.day c.args.day (d.year_in, d.month_in, d.day_in) number in
    rw (year_kept d.year d.year_in) (year_fits d.year late d.year_in)

pub returns-clause-number : goal.returns-clause-number
returns-clause-number c =
    let d = c.in-Ok.date in
    let number : days_from_civil d.year d.month d.day ≡ pos c.args.day = c.in-Ok.ensures.value ∙ omega (arith, ints) in
    let late = year_from_1970 d.year d.month d.day c.args.day (d.year_in, d.month_in, d.day_in) number in
    rw (year_kept d.year d.year_in, year_is_pos d.year late) number
