-- Each piece stands before those that were written, and nothing behind the last.
use Rattle.std.proofs.Common.{◌≡◌, drop, [], arith}
use Rattle.std.proofs.lemmas.List.{drop_all}
use Rattle.sect_words.proofs.spelled_rows.put_curriculum_front.Goals as goal

pub returns-clause-written : goal.returns-clause-written
returns-clause-written c =
    let none : drop 64 c.args.bytes.now ≡ [] = drop_all 64 c.args.bytes.now (omega (arith, c.told-bytes)) in
    rw (c.put_number.ensures.written, c.put_marked-start.ensures.written, c.put_first_major-start.ensures.written, none, c.as_slice.ensures)
