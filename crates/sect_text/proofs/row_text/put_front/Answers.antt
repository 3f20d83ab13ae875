-- Each piece stands before those that were written, and nothing behind the last.
use Rattle.std.proofs.Common.{◌≡◌, drop, [], arith}
use Rattle.std.proofs.lemmas.List.{drop_all}
use Rattle.sect_text.proofs.Sentences.{front_bytes}
use Rattle.sect_text.proofs.row_text.put_front.Goals as goal

pub returns-clause-written : goal.returns-clause-written
returns-clause-written c =
    let none : drop 48 c.args.bytes.now ≡ [] = drop_all 48 c.args.bytes.now (omega (arith, c.told-bytes)) in
    rw (c.put_row_mark.ensures.written, c.put_day-start.ensures.written, c.put-start-3.ensures.written, c.put_caller-start.ensures.written, c.put-start-2.ensures.written, c.put_long-start.ensures.written, c.put-start.ensures.written, none)
    (front_bytes c.args.marked c.args.day c.args.id)
