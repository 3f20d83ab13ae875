-- The day, the rest and `=`, one behind another, are the request.
use Rattle.std.proofs.Common.{ap, ◌∙◌, ◌++◌, ◌∷◌, []}
use Rattle.sect_text.specs.Rows.{behind_mark}
use Rattle.sect_text.proofs.Sentences.{asked_request}
use Rattle.sect_text.proofs.told_row.copy_request.Goals as goal

pub returns-clause-text : goal.returns-clause-text
returns-clause-text c = λ id day is. asked_request c.args.into.now.items c.args.asked.day.now c.print_dated.new.into.items c.args.asked.rest.now c.print_equals.new.into.items id day c.args.command.now
    (c.in_ok-print_dated.ensures.text ∙ ap (λ marked. c.args.into.now.items ++ behind_mark marked c.args.asked.day.now) c.is_marked.ensures)
    (c.in_ok-print_equals.ensures.text ∙ ap (λ bytes. bytes ++ (32 ∷ 61 ∷ 32 ∷ [])) c.in_ok-print_bytes.ensures.text)
    is
