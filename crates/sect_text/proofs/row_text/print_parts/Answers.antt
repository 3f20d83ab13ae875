-- The request and the reply behind it are the row.
use Rattle.std.proofs.Common.{◌++◌, ap, ◌∙◌, append_assoc}
use Rattle.sect_text.specs.Replies.{reply_text}
use Rattle.sect_text.specs.Rows.{request_part}
use Rattle.sect_text.proofs.Sentences.{parts_row}
use Rattle.sect_text.proofs.row_text.print_parts.Goals as goal

pub returns-clause-text : goal.returns-clause-text
returns-clause-text c =
    let e = c.args.entry.now in
    let request = request_part e.id e.day e.command in
    c.in_ok-print_answer_words.ensures.text ∙ ap (λ bytes. bytes ++ reply_text e.reply) c.in_ok-print_request.ensures.text
    ∙ append_assoc c.args.into.now.items request (reply_text e.reply) ∙ ap (λ bytes. c.args.into.now.items ++ bytes) (parts_row e)
