use Rattle.std.proofs.Common.{arith, sym, ◌∙◌}
use Rattle.std.proofs.lemmas.Int.{ints}
use Rattle.std.proofs.lemmas.Option.{IfSome_then}
use Rattle.sect_base.proofs.DayTexts.{SaysDate, is_day_text, date_of_text}
use Rattle.sect_base.proofs.day_text.day_of.Goals as goal

pub returns-in_err-day_number-clause-none : goal.returns-in_err-day_number-clause-none
returns-in_err-day_number-clause-none c =
    let says : SaysDate c.args.text.now c.in_ok-century.century c.in_ok-year.year c.in_ok-month.month c.in_ok-date.date = record {
      ten = omega arith;
      first_dash = omega arith;
      second_dash = omega arith;
      century = record { within = c.in_ok-century.ensures.within; tens = c.in_ok-century.ensures.tens; ones = c.in_ok-century.ensures.ones };
      year = record { within = c.in_ok-year.ensures.within; tens = c.in_ok-year.ensures.tens; ones = c.in_ok-year.ensures.ones };
      month = record { within = c.in_ok-month.ensures.within; tens = c.in_ok-month.ensures.tens; ones = c.in_ok-month.ensures.ones };
      date = record { within = c.in_ok-date.ensures.within; tens = c.in_ok-date.ensures.tens; ones = c.in_ok-date.ensures.ones };
    } in
    let refused = c.in_err-day_number.ensures.none in
    rw c.from_residual-in_err-day_number.ensures (λ day range is. refused (rw (c.from.ensures, c.from-2.ensures) (date_of_text c.args.text.now _ _ _ _ day says is)))

pub returns-clause-found : goal.returns-clause-found
returns-clause-found c =
    let says : SaysDate c.args.text.now c.in_ok-century.century c.in_ok-year.year c.in_ok-month.month c.in_ok-date.date = record {
      ten = omega arith;
      first_dash = omega arith;
      second_dash = omega arith;
      century = record { within = c.in_ok-century.ensures.within; tens = c.in_ok-century.ensures.tens; ones = c.in_ok-century.ensures.ones };
      year = record { within = c.in_ok-year.ensures.within; tens = c.in_ok-year.ensures.tens; ones = c.in_ok-year.ensures.ones };
      month = record { within = c.in_ok-month.ensures.within; tens = c.in_ok-month.ensures.tens; ones = c.in_ok-month.ensures.ones };
      date = record { within = c.in_ok-date.ensures.within; tens = c.in_ok-date.ensures.tens; ones = c.in_ok-date.ensures.ones };
    } in
    let found = rw (c.from.ensures, c.from-2.ensures) at c.in_ok-day_number.ensures.found in
    IfSome_then c.new.result c.new.ensures.number (λ day number. is_day_text c.args.text.now _ _ _ _ day says found.0 (sym found.1 ∙ omega (arith, ints, number)))
