-- A text that is a number's is read as that number, and no other text is.
use Rattle.std.proofs.Common.{ap, sym, ◌∙◌, subst, arith, rules}
use Rattle.std.proofs.lemmas.List.{drop_all}
use Rattle.std.proofs.lemmas.Str.Parse.{digit_at}
use Rattle.std.specs.Str.Parse.{AllDigits}
use Rattle.sect_words.proofs.Parsing.{made, past, printed, read_on}
use Rattle.sect_words.proofs.number.long_number.Goals as goal

pub returns-then-not-is_ascii_digit-clause-only : goal.returns-then-not-is_ascii_digit-clause-only
returns-then-not-is_ascii_digit-clause-only c = λ n small is.
    let range = digit_at c.args.word.now c.loop-digit.digit-index (made n c.args.word.now small is).0 c.loop-digit-test.true in
    omega (arith, range, c.if-not-is_ascii_digit.ensures.cases)

pub returns-in_err-checked_mul-clause-only : goal.returns-in_err-checked_mul-clause-only
returns-in_err-checked_mul-clause-only c = λ n small is. absurd (
    let over = past c.loop-digit.number c.loop-digit.digit-index c.args.word.now c.loop-digit-test.true in
    let whole = c.loop-digit.invariant.value ∙ (made n c.args.word.now small is).1 in
    c.in_err-checked_mul.ensures (omega (arith, over, whole, small)))

pub returns-in_err-number-clause-only : goal.returns-in_err-number-clause-only
returns-in_err-number-clause-only c = λ n small is. absurd (
    let over = past c.loop-digit.number c.loop-digit.digit-index c.args.word.now c.loop-digit-test.true in
    let whole = c.loop-digit.invariant.value ∙ (made n c.args.word.now small is).1 in
    c.in_err-number.ensures (omega (arith, over, whole, small, c.in_ok-checked_mul.ensures, c.from.ensures)))

pub returns-clause-found : goal.returns-clause-found
returns-clause-found c =
    let none = drop_all c.loop-digit.digit-index c.args.word.now (omega (arith, c.loop-digit-test.false)) in
    let all = c.loop-digit.invariant.whole (subst (AllDigits 10) (sym none) (search rules)) in
    let value = ap (read_on c.loop-digit.number) (sym none) ∙ c.loop-digit.invariant.value in
    printed c.loop-digit.number c.args.word.now c.requires.plain all value c.loop-digit.invariant.fits

pub returns-clause-only : goal.returns-clause-only
returns-clause-only c = λ n small is.
    let none = drop_all c.loop-digit.digit-index c.args.word.now (omega (arith, c.loop-digit-test.false)) in
    ap (read_on c.loop-digit.number) (sym none) ∙ c.loop-digit.invariant.value ∙ (made n c.args.word.now small is).1
