-- Each piece stands before those that were written.
use Rattle.std.proofs.Common.{append_assoc}
use Rattle.sect_words.proofs.spelled_rows.put_choice.Goals as goal

pub returns-clause-written : goal.returns-clause-written
returns-clause-written c =
    rw (c.put_number.ensures.written, c.put_reservation-start.ensures.written, c.put_marked-start.ensures.written, c.put_joined-start.ensures.written, c.as_slice.ensures)
    (simp append_assoc)
