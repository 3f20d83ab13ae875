-- The ways out of a turn.
use Rattle.std.proofs.Common.{Err, ap, arith, sym}
use Rattle.sect_answer.specs.Answering.{sitting}
use Rattle.sect_http.specs.Answers.{Answers}
use Rattle.sect_http.proofs.Turning.{turn_broken, turn_closed, turn_ended, turn_goes_on, turn_is_not_last}
use Rattle.sect_http.proofs.turn.turn.Goals as goal

pub returns-in-Err-clause-goes : goal.returns-in-Err-clause-goes
returns-in-Err-clause-goes g c = λ left taken first old p.
    turn_ended (Answers g.O.Object.start g.O.Object.stepped g.O.Object.is_row g.O.Object.looked) left (g.S.Source.left c.args.source.now) (g.S.Source.left c.hear.new.source) taken (g.T.Sink.taken c.args.sink.now)
    first c.args.step.now old (sitting c.args.pass.now (g.C.Clock.days c.args.clock.now)) c.args.number c.args.room.now c.hear.new.room c.in-Err.end
    (λ e. c.in-Err.ensures.others (ap Err e)) p c.hear.ensures.takes c.in-Err.ensures.hears

pub returns-in-Err-responded-clause-goes : goal.returns-in-Err-responded-clause-goes
returns-in-Err-responded-clause-goes g c = λ left taken first old p.
    let h = c.in-Ok.ensures.hears in
    turn_broken (Answers g.O.Object.start g.O.Object.stepped g.O.Object.is_row g.O.Object.looked) left (g.S.Source.left c.args.source.now) (g.S.Source.left c.hear.new.source)
    taken (g.T.Sink.taken c.args.sink.now) (g.T.Sink.taken c.respond-responded.new.sink) first c.args.step.now c.pass_gate.new.step
    old (sitting c.args.pass.now (g.C.Clock.days c.args.clock.now)) c.args.number c.args.room.now c.hear.new.room c.in-Ok.heard h.0
    (sitting c.respond-responded.new.pass (g.C.Clock.days c.respond-responded.new.clock)) c.in-Err-responded.field-0
    p c.hear.ensures.takes h.1 (c.in-Err-responded.ensures.responds c.hear.new.room h.0 h.1) c.pass_gate.ensures

pub returns-then-closing-clause-goes : goal.returns-then-closing-clause-goes
returns-then-closing-clause-goes g c = λ left taken first old p.
    let h = c.in-Ok.ensures.hears in
    turn_closed (Answers g.O.Object.start g.O.Object.stepped g.O.Object.is_row g.O.Object.looked) left (g.S.Source.left c.args.source.now) (g.S.Source.left c.hear.new.source)
    taken (g.T.Sink.taken c.args.sink.now) (g.T.Sink.taken c.respond-responded.new.sink) first c.args.step.now c.pass_gate-2.new.step
    old (sitting c.args.pass.now (g.C.Clock.days c.args.clock.now)) c.args.number c.args.room.now c.hear.new.room c.in-Ok.heard h.0
    (sitting c.respond-responded.new.pass (g.C.Clock.days c.respond-responded.new.clock)) c.in-Ok-responded.closing c.if-closing.true
    p c.hear.ensures.takes h.1 (c.in-Ok-responded.ensures.responds c.hear.new.room h.0 h.1) (omega (arith, c.pass_gate.ensures, c.pass_gate-2.ensures))

pub returns-else-closing-clause-goes : goal.returns-else-closing-clause-goes
returns-else-closing-clause-goes g c = λ left taken first old p.
    let h = c.in-Ok.ensures.hears in
    rw c.consume.ensures (
    turn_goes_on (Answers g.O.Object.start g.O.Object.stepped g.O.Object.is_row g.O.Object.looked) left (g.S.Source.left c.args.source.now) (g.S.Source.left c.hear.new.source)
    taken (g.T.Sink.taken c.args.sink.now) (g.T.Sink.taken c.respond-responded.new.sink) first c.args.step.now c.pass_gate-2.new.step
    old (sitting c.args.pass.now (g.C.Clock.days c.args.clock.now)) c.args.number c.args.room.now c.hear.new.room c.in-Ok.heard h.0
    (sitting c.respond-responded.new.pass (g.C.Clock.days c.respond-responded.new.clock)) c.in-Ok-responded.closing c.if-closing.false
    p c.hear.ensures.takes h.1 (c.in-Ok-responded.ensures.responds c.hear.new.room h.0 h.1) (omega (arith, c.pass_gate.ensures, c.pass_gate-2.ensures))
    )

pub returns-else-closing-clause-more : goal.returns-else-closing-clause-more
returns-else-closing-clause-more g c = λ none.
    let h = c.in-Ok.ensures.hears in
    let left = g.S.Source.left c.args.source.now in
    let taken = g.T.Sink.taken c.args.sink.now in (
      turn_is_not_last (Answers g.O.Object.start g.O.Object.stepped g.O.Object.is_row g.O.Object.looked) left left (g.S.Source.left c.hear.new.source)
          taken taken (g.T.Sink.taken c.respond-responded.new.sink) c.args.step.now c.args.step.now c.pass_gate-2.new.step
          (sitting c.args.pass.now (g.C.Clock.days c.args.clock.now)) (sitting c.args.pass.now (g.C.Clock.days c.args.clock.now)) c.args.number c.args.room.now c.hear.new.room c.in-Ok.heard h.0
          (sitting c.respond-responded.new.pass (g.C.Clock.days c.respond-responded.new.clock)) c.in-Ok-responded.closing c.if-closing.false
          (c.in-Ok-responded.ensures.responds c.hear.new.room h.0 h.1) c.requires.number,
      omega (arith, c.pass_gate.ensures, c.pass_gate-2.ensures),
    )
