-- No text of a number begins with a zero before others.
use Rattle.sect_words.proofs.Parsing.{plain}
use Rattle.sect_words.proofs.number.parse_number.Goals as goal

pub returns-then-not-is_plain-clause-only : goal.returns-then-not-is_plain-clause-only
returns-then-not-is_plain-clause-only c = λ n small is.
    let p = plain n c.args.word.now small is in
    let yes = c.is_plain.ensures.only p.0 p.1 in
    cc (yes, c.if-not-is_plain.true)
