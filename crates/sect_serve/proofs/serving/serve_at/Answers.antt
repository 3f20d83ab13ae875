-- The office was closed behind its workers.
use Rattle.std.proofs.Common.{map, ◌∙◌}
use Rattle.sect_http.specs.Answers.{Answers}
use Rattle.sect_turn.specs.Passes.{front, opening, own_calls}
use Rattle.sect_serve.proofs.Closing.{closes}
use Rattle.sect_serve.proofs.serving.serve_at.Goals as goal

pub returns-clause-serves : goal.returns-clause-serves
returns-clause-serves g c = λ opened was first_is place_is.
    let now = c.work_all-pass.result.0 in
    let ran = c.work_all-pass.ensures in
    closes g.O.Object.start g.O.Object.stepped g.O.Object.is_row c.an_entry_has_one_row.ensures g.K.Keeper.rows g.K.Keeper.faults
    (Answers g.O.Object.start g.O.Object.stepped g.O.Object.is_row g.O.Object.looked) g.L.In.Source.left g.L.Out.Sink.taken g.L.In.Source.faults g.L.Out.Sink.faults g.L.Link.connections g.L.Link.faults
    opened c.in-Ok.desk c.close-in-Ok.result (map (λ s. s.link) c.args.works.items) c.work_all-pass.result.2.items (map (λ s. g.C.Clock.days s.clock) c.args.works.items) c.args.sessions c.work_all-pass.result.1
    (front c.args.pass) (front now) (opening now) (own_calls now) was first_is (ran.same.1 ∙ place_is) ran.grown c.in-Ok.ensures.front (ran.served c.in-Ok.desk.log c.in-Ok.ensures.front)
    c.in-Ok.ensures.calls c.in-Ok.ensures.base c.recall_sound.ensures c.close-in-Ok.ensures
