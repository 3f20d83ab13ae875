-- What is appended is taken off the lines that are left.
use Rattle.std.proofs.Common.{◌++◌, ap, ◌∙◌, append_assoc, drop, take, List}
use Rattle.std.specs.Prelude.{flat_map}
use Rattle.std.proofs.lemmas.List.{take_rest}
use Rattle.sect_command.proofs.Printing.{front_stays}
use Rattle.sect_command.specs.declared.reply.Line.{Line}
use Rattle.sect_words.specs.Parts.{behind}
use Rattle.sect_text.specs.Replies.{line_words}
use Rattle.sect_text.proofs.Pieces.{lines_split}
use Rattle.sect_text.proofs.line_text.print_lines.Goals as goal

pub loop-left-preserved : goal.loop-left-preserved
loop-left-preserved c =
    let old = c.loop-left.into.items in
    let new = c.print_piece.new.into.items in
    let left = c.loop-left.left.now in
    let len = c.piece_len-len.result in record {
      text =
          ap (λ (ls : List Line). new ++ behind 32 (flat_map line_words ls)) (take_rest left len)
          ∙ ap (λ bytes. bytes ++ behind 32 (flat_map line_words (drop len left))) c.in_ok-print_piece.ensures.text
          ∙ append_assoc old (behind 32 (flat_map line_words (take len left))) (behind 32 (flat_map line_words (drop len left)))
          ∙ ap (λ bytes. old ++ bytes) (lines_split left len) ∙ c.loop-left.invariant.text;
      front = front_stays c.args.into.now.items old new c.loop-left.invariant.front c.print_piece.ensures.front;
    }
