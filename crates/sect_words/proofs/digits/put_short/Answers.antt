-- A number below ten has one digit.
use Rattle.std.proofs.Common.{refl}
use Rattle.std.proofs.lemmas.Fmt.{decimal_digit}
use Rattle.sect_words.proofs.digits.put_short.Goals as goal

pub returns-then-number-lt10-clause-written : goal.returns-then-number-lt10-clause-written
returns-then-number-lt10-clause-written c =
    rw (c.put.ensures.written, c.put-digit.ensures.written, decimal_digit c.args.number c.if-number-lt10.true)
    refl
