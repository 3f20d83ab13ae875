-- The number of a word is the one whose text it is.
use Rattle.std.proofs.Common.{◌<◌, ◌^◌, sym, arith}
use Rattle.sect_words.proofs.Exact.{by_found, by_none}
use Rattle.sect_words.proofs.Numbers.{exact_upto}
use Rattle.sect_words.proofs.number.number_up_to.Goals as goal

pub returns-in-Some-clause-value : goal.returns-in-Some-clause-value
returns-in-Some-clause-value c =
    let small : c.args.most < 2 ^ 64 = omega (arith, c.ranges.most.fits) in
    sym (by_found (exact_upto c.args.most small) c.args.word.now c.in-Some.number c.if-number-most.true (sym c.in-Some.ensures.found))

pub returns-in_default-clause-value : goal.returns-in_default-clause-value
returns-in_default-clause-value c =
    let small : c.args.most < 2 ^ 64 = omega (arith, c.ranges.most.fits) in
    sym (by_none (exact_upto c.args.most small) c.args.word.now (λ n fits is. absurd (
    let below : n < 2 ^ 64 = omega (arith, fits, small) in
    let same = c.in-Some.ensures.only n below (sym is) in
    omega (arith, same, fits, c.if-number-most.false))))

pub returns-in_default-2-clause-value : goal.returns-in_default-2-clause-value
returns-in_default-2-clause-value c =
    let small : c.args.most < 2 ^ 64 = omega (arith, c.ranges.most.fits) in
    sym (by_none (exact_upto c.args.most small) c.args.word.now (λ n fits is. c.in_default.ensures.only n (omega (arith, fits, small)) (sym is)))
