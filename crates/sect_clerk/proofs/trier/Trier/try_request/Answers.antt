use Rattle.std.proofs.Common.{inr}
use Rattle.sect_asking.specs.AnswerLines.{answer_line}
use Rattle.sect_clerk.proofs.Trying.{tries_request}
use Rattle.sect_clerk.proofs.trier.Trier.try_request.Goals as goal

pub returns-clause-memory : goal.returns-clause-memory
returns-clause-memory g c = λ out. inr (
  answer_line c.try_ask-answer.result,
  tries_request g.O.Object.stepped g.O.Object.is_row c.args.self.now c.try_ask-answer.new.self c.args.line.now
      c.in_ok-ask.ask c.try_ask-answer.ensures.0 c.try_ask-answer.result c.requires.request c.in_ok-ask.ensures.found
      c.try_ask-answer.ensures.1 c.try_ask-answer.ensures.2 c.try_ask-answer.ensures.3,
)

pub returns-in-Ok-clause-answered : goal.returns-in-Ok-clause-answered
returns-in-Ok-clause-answered g c = (
  answer_line c.try_ask-answer.result,
  c.in-Ok.ensures.text,
  tries_request g.O.Object.stepped g.O.Object.is_row c.args.self.now c.try_ask-answer.new.self c.args.line.now
      c.in_ok-ask.ask c.try_ask-answer.ensures.0 c.try_ask-answer.result c.requires.request c.in_ok-ask.ensures.found
      c.try_ask-answer.ensures.1 c.try_ask-answer.ensures.2 c.try_ask-answer.ensures.3,
)
