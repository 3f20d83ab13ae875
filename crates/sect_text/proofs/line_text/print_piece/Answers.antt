-- The fronts of the lines and the tree of the last are their words.
use Rattle.std.proofs.Common.{◌≡◌, ◌++◌, ap, ◌∙◌, append_assoc}
use Rattle.std.specs.Prelude.{flat_map}
use Rattle.sect_command.specs.declared.reply.Line.{Line}
use Rattle.sect_words.specs.Parts.{behind}
use Rattle.sect_text.specs.Replies.{line_front, line_words, tree_rest}
use Rattle.sect_text.proofs.Pieces.{piece_whole}
use Rattle.sect_text.proofs.line_text.print_piece.Goals as goal

pub returns-clause-text : goal.returns-clause-text
returns-clause-text c =
    let old = c.args.into.now.items in
    let lines = c.args.lines.now in
    let last : Line = c.index-lines-lines.result in
    let whole : flat_map line_front lines ++ tree_rest last.result ≡ behind 32 (flat_map line_words lines) =
    ap (λ (l : Line). flat_map line_front lines ++ tree_rest l.result) c.index-lines-lines.is ∙ piece_whole lines last c.requires in
    c.in_ok-print_rest.ensures.text ∙ ap (λ bytes. bytes ++ tree_rest last.result) c.in_ok-print_fronts.ensures.text
    ∙ append_assoc old (flat_map line_front lines) (tree_rest last.result) ∙ ap (λ bytes. old ++ bytes) whole
