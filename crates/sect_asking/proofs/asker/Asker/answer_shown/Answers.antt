-- The answer to the request of a line.
use Rattle.std.proofs.Common.{inr}
use Rattle.sect_asking.specs.AnswerLines.{answer_line}
use Rattle.sect_asking.proofs.Asking.{answers_request, on_ok}
use Rattle.sect_asking.proofs.asker.Asker.answer_shown.Goals as goal

pub returns-clause-answered : goal.returns-clause-answered
returns-clause-answered g c =
    let acted = answers_request g.O.Object.stepped g.O.Object.is_row g.K.Keeper.rows g.K.Keeper.faults c.args.self.now c.ask-answer.new.self c.args.line.now
    c.in_ok-ask.ask c.ask-answer.ensures.0 c.ask-answer.result c.requires.request c.in_ok-ask.ensures.found c.ask-answer.ensures.1 c.ask-answer.ensures.2 in
    on_ok c.print_answer.result (λ text. (answer_line c.ask-answer.result, text, acted)) c.print_answer.ensures.text

pub returns-clause-memory : goal.returns-clause-memory
returns-clause-memory g c =
    let acted = answers_request g.O.Object.stepped g.O.Object.is_row g.K.Keeper.rows g.K.Keeper.faults c.args.self.now c.ask-answer.new.self c.args.line.now
    c.in_ok-ask.ask c.ask-answer.ensures.0 c.ask-answer.result c.requires.request c.in_ok-ask.ensures.found c.ask-answer.ensures.1 c.ask-answer.ensures.2 in
    λ out. inr (answer_line c.ask-answer.result, acted)
