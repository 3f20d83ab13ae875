-- What stands before ` = `, and that, are the front of the row.
use Rattle.sect_read.proofs.RequestText.{part_of_row}
use Rattle.sect_read.proofs.row.request_bytes.Goals as goal

pub returns : goal.returns
returns c = let equals = c.begins_equals.ensures c.if-not-begins_equals.false in
    part_of_row c.args.row.now c.split_at.result.0.now c.split_at.result.1.now c.in_ok-at.at c.split_at.ensures.by_index.0 equals.1 c.if-at-eq0.false c.split_at.ensures.front_len equals.0
