-- The meeting of a word is the one whose text it is.
use Rattle.sect_words.proofs.Exact.{by_found, by_none}
use Rattle.sect_words.proofs.Values.{exact_meeting}
use Rattle.sect_words.proofs.readable.MeetingReadable.read.Goals as goal

pub returns-in-Ok : goal.returns-in-Ok
returns-in-Ok c = by_found exact_meeting c.args.word.now c.in-Ok.meeting c.slots.ensures.meeting c.in-Ok.ensures.ok

pub returns-in-Err : goal.returns-in-Err
returns-in-Err c = by_none exact_meeting c.args.word.now (λ meeting fits is. absurd (let read = c.in-Err.ensures.printed meeting fits is in cc))
