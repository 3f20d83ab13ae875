-- What was said was told, and answers what was heard.
use Rattle.sect_answer.specs.Answering.{said_of, sitting}
use Rattle.sect_http.specs.Answers.{Answers}
use Rattle.sect_http.proofs.Short.{told_answers}
use Rattle.sect_http.proofs.Turning.{responds_as_heard}
use Rattle.sect_http.proofs.turn.respond.Goals as goal

pub returns-clause-responds : goal.returns-clause-responds
returns-clause-responds g c = λ pending asked h.
    let old = sitting c.args.pass.now (g.C.Clock.days c.args.clock.now) in
    let new = sitting c.say_ready-said.new.pass (g.C.Clock.days c.say_ready-said.new.clock) in
    let said = said_of c.say_ready-said.result c.say_ready-said.new.text.items in
    let t = rw c.deref.ensures.value at c.tell.ensures.told in
    responds_as_heard (Answers g.O.Object.start g.O.Object.stepped g.O.Object.is_row g.O.Object.looked) c.args.number (g.T.Sink.taken c.args.sink.now) (g.T.Sink.taken c.tell.new.sink)
    old asked new c.args.heard pending c.closes-closing.result said t.0 c.tell.result h c.closes-closing.ensures
    (told_answers g.O.Object.start g.O.Object.stepped g.O.Object.is_row g.O.Object.looked old asked said new c.closes-closing.result c.args.heard.headless t.0
    (c.say_ready-said.ensures.answers asked h.framed h.wish) t.1)
    c.say_ready-said.ensures.shut t.1 t.2
