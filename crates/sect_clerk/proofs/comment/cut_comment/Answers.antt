-- A front of what stands behind the start.
use Rattle.std.proofs.Common.{◌∙◌}
use Rattle.sect_clerk.proofs.Cuts.{cut_long, cut_short}
use Rattle.sect_script.specs.Reading.{LINE_LIMIT}
use Rattle.sect_clerk.proofs.comment.cut_comment.Goals as goal

pub returns-then-len-start-gt-MAX_LINE : goal.returns-then-len-start-gt-MAX_LINE
returns-then-len-start-gt-MAX_LINE c = λ before comment is at.
    cut_long before comment c.args.into.now.items c.truncate.new.self.items c.args.start LINE_LIMIT c.truncate.ensures.items is at

pub returns-else-len-start-gt-MAX_LINE : goal.returns-else-len-start-gt-MAX_LINE
returns-else-len-start-gt-MAX_LINE c = λ before comment is at.
    cut_short before comment c.args.into.now.items LINE_LIMIT c.args.start c.len.result is at (c.len.ensures ∙ c.args.into.now.ok.0) c.if-len-start-gt-MAX_LINE.false
