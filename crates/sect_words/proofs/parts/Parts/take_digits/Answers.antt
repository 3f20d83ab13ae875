-- Digits that end where the part does are the text of the part's number.
use Rattle.std.proofs.Common.{◌≡◌, ◌+◌, ◌-◌, ◌*◌, ◌<◌, ◌≤◌, ◌^◌, Some, refl, ap, sym, ◌∙◌, arith, take}
use Rattle.std.specs.Prelude.{get_or}
use Rattle.sect_words.specs.Parts.{parts_left}
use Rattle.sect_words.specs.Reading.{first_part}
use Rattle.sect_words.specs.ReadingWords.{number_of}
use Rattle.sect_words.proofs.Exact.{by_found}
use Rattle.sect_words.proofs.Fronts.{digits_next, plain_front, read_next_digit, word_front}
use Rattle.sect_words.proofs.Numbers.{exact_upto}
use Rattle.sect_words.proofs.Parsing.{printed, read_on}
use Rattle.sect_words.proofs.parts.Parts.take_digits.Goals as goal

pub loop-count-init : goal.loop-count-init
loop-count-init c =
    let text = c.self.inside.text.now in
    let front = c.begins_number.ensures c.if-not-begins_number.false in
    let value : 0 * 10 + (get_or text 0 0 - 48) ≡ read_on 0 (take 1 text) = read_next_digit 0 0 text front.0 refl in
    record {
      fits = omega (arith, c.from-number.ensures, front);
      some = omega arith;
      within = omega (arith, front);
      digits = digits_next 0 text front.0 (omega (arith, front)) tt;
      value = omega (arith, c.from-number.ensures, value);
    }

pub overflow_mul-number : goal.overflow_mul-number
overflow_mul-number c = omega (arith, c.if-number-lt1000000000000000000.true)

pub overflow_add-number : goal.overflow_add-number
overflow_add-number c = omega (arith, c.if-number-lt1000000000000000000.true, c.from.ensures, c.if-is_ascii_digit.ensures.cases)

pub loop-count-preserved : goal.loop-count-preserved
loop-count-preserved c =
    let text = c.self.inside.text.now in
    let small : c.from.result ≤ 9 = omega (arith, c.from.ensures, c.if-is_ascii_digit.ensures.cases) in
    record {
      fits = omega (arith, c.if-number-lt1000000000000000000.true, small);
      some = omega arith;
      within = omega (arith, c.loop-count-test.true);
      digits = digits_next c.loop-count.count text c.loop-count-test.true (omega (arith, c.if-is_ascii_digit.ensures.cases)) c.loop-count.invariant.digits;
      value = ap (λ k. c.loop-count.number * 10 + k) c.from.ensures ∙ read_next_digit c.loop-count.number c.loop-count.count text c.loop-count-test.true c.loop-count.invariant.value;
    }

pub returns-then-ends_number-clause-reads : goal.returns-then-ends_number-clause-reads
returns-then-ends_number-clause-reads c =
    let text = c.self.inside.text.now in
    let count = c.loop-count.count in
    let number = c.loop-count.number in
    let front = c.begins_number.ensures c.if-not-begins_number.false in
    let is = printed number (take count text) (plain_front text count c.loop-count.invariant.within c.loop-count.invariant.some (omega (arith, front))) c.loop-count.invariant.digits c.loop-count.invariant.value c.loop-count.invariant.fits in
    let most : c.args.most < 2 ^ 64 = omega (arith, c.ranges.most.fits) in
    let value : number_of c.args.most (take count text) ≡ Some number = by_found (exact_upto c.args.most most) (take count text) number c.if-number-most.true (sym is) in
    let first : first_part c.args.self.now ≡ Some (take count text) =
    ap first_part (sym c.self.view_is) ∙ ap (λ b. first_part (parts_left b c.self.inside.mark text)) c.if-self.false ∙ c.ends_number.ensures c.if-ends_number.true in
    word_front (number_of c.args.most) c.args.self.now c.pass.new.self (take count text) number first c.pass.ensures value
