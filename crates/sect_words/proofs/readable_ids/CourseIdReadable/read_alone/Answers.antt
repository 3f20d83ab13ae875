-- The digits of the next part are a list of one number.
use Rattle.sect_words.specs.ReadingWords.{u32_of, course_id}
use Rattle.sect_words.proofs.Alone.{digits_alone}
use Rattle.sect_words.proofs.readable_ids.CourseIdReadable.read_alone.Goals as goal

pub returns-clause-alone : goal.returns-clause-alone
returns-clause-alone c =
    digits_alone u32_of course_id c.args.parts.now c.take_digits.new.self c.in_ok-take_digits.field-0 c.in_ok-take_digits.ensures.reads c.in_ok-take_digits.ensures.digits
