-- The digits end at the text's end or at the mark, which is no digit.
use Rattle.std.proofs.Common.{arith}
use Rattle.std.proofs.lemmas.Bool.{eqb-true}
use Rattle.sect_words.proofs.Fronts.{whole_front, marked_front}
use Rattle.sect_words.proofs.parts.ends_number.Goals as goal

pub returns-then-count-text : goal.returns-then-count-text
returns-then-count-text c = λ _.
    whole_front c.args.mark c.args.text.now c.args.count (λ range. omega (arith, range, c.if-is_ascii_digit.ensures.cases)) c.requires.digits c.if-count-text.true

pub returns-else-count-text : goal.returns-else-count-text
returns-else-count-text c = λ is.
    marked_front c.args.mark c.args.text.now c.args.count (λ range. omega (arith, range, c.if-is_ascii_digit.ensures.cases)) c.requires.digits (omega (arith, c.requires.within, c.if-count-text.false)) (eqb-true _ _ is)
