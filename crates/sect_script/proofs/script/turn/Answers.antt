use Rattle.std.proofs.Common.{◌≡◌, [], refl, ◌∙◌, arith}
use Rattle.std.proofs.lemmas.Grind.{common_steps}
use Rattle.std.specs.Prelude.{None, Some}
use Rattle.sect_script.proofs.Steps.{progress_more, progress_written, ran_to_end, ran_to_long, ran_to_read_fault, ran_unwritten, ran_out_of_memory, feed_goes_on, last_ends}
use Rattle.sect_script.proofs.script.turn.Goals as goal

pub returns-then-is_empty-clause-ran : goal.returns-then-is_empty-clause-ran
returns-then-is_empty-clause-ran g c = λ left taken old p.
    let read = rw c.in-Ok-EndOfInput.field-0-is at c.in-Ok-EndOfInput.ensures.read in
    let written = rw c.in-Ok-EndOfInput.field-0-is at c.in-Ok-EndOfInput.ensures.written in
    let end = rw c.in-Ok-EndOfInput.field-0-is at c.in-Ok-EndOfInput.ensures.end in
    let none : c.read_line.new.line.items ≡ [] = grind (arith, common_steps) in
    ran_to_end (progress_written _ _ (progress_more _ read.0 p read.1) written) (read.2.2 ∙ none) (end refl)

pub returns-in-Ok-LineFeed-clause-ran : goal.returns-in-Ok-LineFeed-clause-ran
returns-in-Ok-LineFeed-clause-ran g c = λ left taken old p.
    let read = rw c.in-Ok-LineFeed.field-0-is at c.in-Ok-LineFeed.ensures.read in
    let written = rw c.in-Ok-LineFeed.field-0-is at c.in-Ok-LineFeed.ensures.written in
    feed_goes_on g.H.Handler.known g.K.Sink.taken c.read_line.new.sink c.answer_line.new.sink c.answer_line.new.handler c.answer_line.new.gathered.items c.read_line.new.self c.read_line.new.line.items
    c.deref.result.now c.answer_line.result c.deref.ensures.value (progress_written _ _ (progress_more _ read.0 p read.1) written) read.2 c.answer_line.ensures.answered

pub returns-in-None-clause-ran : goal.returns-in-None-clause-ran
returns-in-None-clause-ran g c = λ left taken old p.
    let read = rw c.in-Ok-EndOfInput.field-0-is at c.in-Ok-EndOfInput.ensures.read in
    let written = rw c.in-Ok-EndOfInput.field-0-is at c.in-Ok-EndOfInput.ensures.written in
    let end = rw c.in-Ok-EndOfInput.field-0-is at c.in-Ok-EndOfInput.ensures.end in
    let some : c.read_line.new.line.items ≡ [] → ⊥ = λ none. grind (arith, common_steps) in
    last_ends g.K.Sink.taken c.read_line.new.sink c.answer_line-in-Ok-EndOfInput.new.sink c.answer_line-in-Ok-EndOfInput.new.handler c.answer_line-in-Ok-EndOfInput.new.gathered.items
    c.read_line.new.self c.read_line.new.line.items c.deref-in-Ok-EndOfInput.result.now None c.deref-in-Ok-EndOfInput.ensures.value
    (progress_written _ _ (progress_more _ read.0 p read.1) written) read.2 some (end refl) c.in-None.ensures.answered

pub returns-in-Some-clause-ran : goal.returns-in-Some-clause-ran
returns-in-Some-clause-ran g c = λ left taken old p.
    let read = rw c.in-Ok-EndOfInput.field-0-is at c.in-Ok-EndOfInput.ensures.read in
    let written = rw c.in-Ok-EndOfInput.field-0-is at c.in-Ok-EndOfInput.ensures.written in
    let end = rw c.in-Ok-EndOfInput.field-0-is at c.in-Ok-EndOfInput.ensures.end in
    let some : c.read_line.new.line.items ≡ [] → ⊥ = λ none. grind (arith, common_steps) in
    last_ends g.K.Sink.taken c.read_line.new.sink c.answer_line-in-Ok-EndOfInput.new.sink c.answer_line-in-Ok-EndOfInput.new.handler c.answer_line-in-Ok-EndOfInput.new.gathered.items
    c.read_line.new.self c.read_line.new.line.items c.deref-in-Ok-EndOfInput.result.now (Some c.in-Some.status) c.deref-in-Ok-EndOfInput.ensures.value
    (progress_written _ _ (progress_more _ read.0 p read.1) written) read.2 some (end refl) c.in-Some.ensures.answered

pub returns-in-Err-TooLong-clause-ran : goal.returns-in-Err-TooLong-clause-ran
returns-in-Err-TooLong-clause-ran g c = λ left taken old p.
    let read = rw c.in-Err-TooLong.field-0-is at c.in-Err-TooLong.ensures.read in
    let written = rw c.in-Err-TooLong.field-0-is at c.in-Err-TooLong.ensures.written in
    let (front, more, one, long, is) = read.2 in
    ran_to_long front more (progress_written _ _ (progress_more _ read.0 p read.1) written) is one long

pub returns-in-Err-Failed-clause-ran : goal.returns-in-Err-Failed-clause-ran
returns-in-Err-Failed-clause-ran g c = λ left taken old p.
    let read = rw c.in-Err-Failed.field-0-is at c.in-Err-Failed.ensures.read in
    let written = rw c.in-Err-Failed.field-0-is at c.in-Err-Failed.ensures.written in
    ran_to_read_fault (progress_written _ _ (progress_more _ read.0 p read.1) written) read.2

pub returns-in-Err-Unwritten-clause-ran : goal.returns-in-Err-Unwritten-clause-ran
returns-in-Err-Unwritten-clause-ran g c = λ left taken old p.
    let read = c.in-Err-Unwritten.ensures.read in
    let written = rw c.in-Err-Unwritten.field-0-is at c.in-Err-Unwritten.ensures.written in
    ran_unwritten _ _ (progress_more _ read.0 p read.1) written.0 written.1

pub returns-in-Err-Memory-clause-ran : goal.returns-in-Err-Memory-clause-ran
returns-in-Err-Memory-clause-ran g c = λ left taken old p.
    let read = c.in-Err-Memory.ensures.read in
    let written = rw c.in-Err-Memory.field-0-is at c.in-Err-Memory.ensures.written in
    ran_out_of_memory (progress_written _ _ (progress_more _ read.0 p read.1) written)
