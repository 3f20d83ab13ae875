-- The parts of a request make it up.
use Rattle.std.proofs.Common.{◌≡◌, ap, sym, ◌∙◌, true}
use Rattle.sect_command.specs.declared.command.Command.{Command}
use Rattle.sect_once.specs.declared.entry.Request.{Request}
use Rattle.sect_text.specs.Rows.{is_marked}
use Rattle.sect_read.specs.ReadingLines.{agrees, request_if}
use Rattle.sect_read.proofs.RowSteps.{request_read}
use Rattle.sect_read.proofs.row.read_request_words.Goals as goal

pub returns : goal.returns
returns c =
    let marked = c.takes-marked.result in
    let command = c.in_ok-command.command in
    let request : Request Command = record { id = c.in_ok-id.id; day = c.in_ok-day.day; command = command } in
    let good : agrees marked (is_marked command) ≡ true = ap (agrees marked) (sym c.is_marked.ensures) ∙ sym c.agree.ensures ∙ c.if-not-agree.false in
    request_read c.args.words.now c.takes-marked.new.self c.word.new.self c.read_id.new.words c.read_command_words.new.words marked c.in_ok-day.day c.in_ok-id.id
    command request c.takes-marked.ensures.found c.takes-marked.ensures.rest c.in_ok-day.ensures.reads c.in_ok-id.ensures c.in_ok-command.ensures (ap (λ b. request_if b request) good)
