-- The lines before the last of those so far end in no tree.
use Rattle.sect_text.specs.Replies.{IsPiece}
use Rattle.std.proofs.Common.{◌-◌, length}
use Rattle.sect_text.proofs.line_text.piece_len.Given as goal

abbrev pub invariant-loop-len : goal.invariant-loop-len
invariant-loop-len l = IsPiece l.lines l.len

abbrev pub decreases-loop-len : goal.decreases-loop-len
decreases-loop-len l = length l.lines - l.len
