-- A line in which no default is written is answered as its request, whose text it has; what is no line is none.
use Rattle.std.proofs.Common.{◌≡◌, ℕ, List, inr, subst}
use Rattle.std.specs.Prelude.{Err}
use Rattle.sect_read.specs.declared.line.LineAsk.{LineAsk}
use Rattle.sect_read.specs.ReadingLines.{front_at, line_at, Says}
use Rattle.sect_read.proofs.Found.{says_only}
use Rattle.sect_read.proofs.Plain.{plain_words, plain_line, plain_rest}
use Rattle.sect_script.specs.declared.script.LineFault.TheVariants as faults
use Rattle.sect_asking.specs.AnswerLines.{answer_line}
use Rattle.sect_asking.proofs.Asking.{answers_request, if_some, is_bad, on_ok}
use Rattle.sect_asking.proofs.asker.Asker.answer_request.Goals as goal

pub returns-in-Err-clause-bad : goal.returns-in-Err-clause-bad
returns-in-Err-clause-bad g c = λ said. let told : c.line_fault.result ≡ faults.Bad = cc in is_bad c.args.line.now c.in-Err.fault c.requires.request
    (λ ask is. says_only c.args.line.now (Err c.in-Err.fault)
    (subst (λ (ws : List (List ℕ)). Says {X = LineAsk} (Err c.in-Err.fault) (line_at (front_at ws))) c.new-words.ensures c.in-Err.ensures.reads) ask is)
    (c.line_fault.ensures told)

pub ask_lent-answer-requires-clause-fits : goal.ask_lent-answer-requires-clause-fits
ask_lent-answer-requires-clause-fits g c =
    let plain = plain_words c.args.line.now c.in-Ok.front c.new-words.result c.read_line_front.new.words c.read_line_command.new.words c.in-Ok-read_line_command.command c.read_line_command.result
    c.new-words.ensures c.in-Ok.ensures.front c.read_line_command.ensures c.in-Ok-read_line_command.is c.if-is_empty.ensures in
    (plain.1, plain.2)

pub ask_lent-answer-requires-clause-rest : goal.ask_lent-answer-requires-clause-rest
ask_lent-answer-requires-clause-rest g c =
    let plain = plain_words c.args.line.now c.in-Ok.front c.new-words.result c.read_line_front.new.words c.read_line_command.new.words c.in-Ok-read_line_command.command c.read_line_command.result
    c.new-words.ensures c.in-Ok.ensures.front c.read_line_command.ensures c.in-Ok-read_line_command.is c.if-is_empty.ensures in
    if_some c.behind_day.result (λ text same. plain_rest c.args.line.now text.now c.in-Ok.front c.in-Ok-read_line_command.command plain same) c.behind_day.ensures

pub returns-then-is_empty-clause-answered : goal.returns-then-is_empty-clause-answered
returns-then-is_empty-clause-answered g c =
    let plain = plain_words c.args.line.now c.in-Ok.front c.new-words.result c.read_line_front.new.words c.read_line_command.new.words c.in-Ok-read_line_command.command c.read_line_command.result
    c.new-words.ensures c.in-Ok.ensures.front c.read_line_command.ensures c.in-Ok-read_line_command.is c.if-is_empty.ensures in
    let acted = answers_request g.O.Object.stepped g.O.Object.is_row g.K.Keeper.rows g.K.Keeper.faults c.args.self.now c.ask_lent-answer.new.self c.args.line.now
    (record { day = c.in-Ok.front.day; id = c.in-Ok.front.id; command = c.in-Ok-read_line_command.command }) c.ask_lent-answer.ensures.0 c.ask_lent-answer.result c.requires.request
    (plain_line c.args.line.now c.in-Ok.front c.in-Ok-read_line_command.command plain) c.ask_lent-answer.ensures.1 c.ask_lent-answer.ensures.2 in
    on_ok c.print_answer.result (λ text. (answer_line c.ask_lent-answer.result, text, acted)) c.print_answer.ensures.text

pub returns-then-is_empty-clause-memory : goal.returns-then-is_empty-clause-memory
returns-then-is_empty-clause-memory g c =
    let plain = plain_words c.args.line.now c.in-Ok.front c.new-words.result c.read_line_front.new.words c.read_line_command.new.words c.in-Ok-read_line_command.command c.read_line_command.result
    c.new-words.ensures c.in-Ok.ensures.front c.read_line_command.ensures c.in-Ok-read_line_command.is c.if-is_empty.ensures in
    let acted = answers_request g.O.Object.stepped g.O.Object.is_row g.K.Keeper.rows g.K.Keeper.faults c.args.self.now c.ask_lent-answer.new.self c.args.line.now
    (record { day = c.in-Ok.front.day; id = c.in-Ok.front.id; command = c.in-Ok-read_line_command.command }) c.ask_lent-answer.ensures.0 c.ask_lent-answer.result c.requires.request
    (plain_line c.args.line.now c.in-Ok.front c.in-Ok-read_line_command.command plain) c.ask_lent-answer.ensures.1 c.ask_lent-answer.ensures.2 in
    λ out. inr (answer_line c.ask_lent-answer.result, acted)
