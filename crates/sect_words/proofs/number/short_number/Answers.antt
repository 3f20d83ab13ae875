-- A text of few digits that is a number's is read as that number, and no other text is.
use Rattle.std.proofs.Common.{ap, sym, ◌∙◌, subst, arith, rules}
use Rattle.std.proofs.lemmas.List.{drop_all}
use Rattle.std.proofs.lemmas.Str.Parse.{digit_at}
use Rattle.std.specs.Str.Parse.{AllDigits}
use Rattle.sect_words.proofs.Parsing.{few, made, printed, read_on, room}
use Rattle.sect_words.proofs.number.short_number.Goals as goal

pub overflow_mul-number : goal.overflow_mul-number
overflow_mul-number c = omega (arith, room c.loop-digit.digit-index c.loop-digit.number 9 c.loop-digit.invariant.below (omega (arith, c.requires.short, c.loop-digit-test.true)) (omega arith))

pub overflow_add-number : goal.overflow_add-number
overflow_add-number c = omega (arith, room c.loop-digit.digit-index c.loop-digit.number 9 c.loop-digit.invariant.below (omega (arith, c.requires.short, c.loop-digit-test.true)) (omega arith), c.from.ensures, c.if-not-is_ascii_digit.ensures.cases)

pub returns-then-not-is_ascii_digit-clause-only : goal.returns-then-not-is_ascii_digit-clause-only
returns-then-not-is_ascii_digit-clause-only c = λ n small is.
    let range = digit_at c.args.word.now c.loop-digit.digit-index (made n c.args.word.now small is).0 c.loop-digit-test.true in
    omega (arith, range, c.if-not-is_ascii_digit.ensures.cases)

pub returns-clause-found : goal.returns-clause-found
returns-clause-found c =
    let none = drop_all c.loop-digit.digit-index c.args.word.now (omega (arith, c.loop-digit-test.false)) in
    let all = c.loop-digit.invariant.whole (subst (AllDigits 10) (sym none) (search rules)) in
    let value = ap (read_on c.loop-digit.number) (sym none) ∙ c.loop-digit.invariant.value in
    printed c.loop-digit.number c.args.word.now c.requires.plain all value (omega (arith, few c.loop-digit.digit-index c.loop-digit.number c.loop-digit.invariant.below (omega (arith, c.requires.short))))

pub returns-clause-only : goal.returns-clause-only
returns-clause-only c = λ n small is.
    let none = drop_all c.loop-digit.digit-index c.args.word.now (omega (arith, c.loop-digit-test.false)) in
    ap (read_on c.loop-digit.number) (sym none) ∙ c.loop-digit.invariant.value ∙ (made n c.args.word.now small is).1
