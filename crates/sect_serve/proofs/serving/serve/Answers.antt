-- The desk was served, or nothing could begin.
use Rattle.std.proofs.Common.{IfSome, length, map, take, refl, subst, arith}
use Rattle.std.proofs.lemmas.List.{length-map}
use Rattle.sect_http.specs.Answers.{Answers}
use Rattle.sect_serve.specs.Serving.{Serves}
use Rattle.sect_serve.proofs.Closing.{stays_unserved}
use Rattle.sect_serve.proofs.Fronts.{answers_grow}
use Rattle.sect_serve.proofs.serving.serve.Goals as goal

pub returns-in_default-clause-serves : goal.returns-in_default-clause-serves
returns-in_default-clause-serves g c =
    let many = length-map c.args.clocks.items g.C.Clock.days in
    let enough = c.requires.clocks in
    let some = c.requires.links.0 in
    stays_unserved g.O.Object.start g.O.Object.stepped g.O.Object.is_row c.an_entry_has_one_row.ensures g.K.Keeper.rows g.K.Keeper.faults
    (Answers g.O.Object.start g.O.Object.stepped g.O.Object.is_row g.O.Object.looked) g.L.In.Source.left g.L.Out.Sink.taken g.L.In.Source.faults g.L.Out.Sink.faults g.L.Link.connections g.L.Link.faults
    c.args.desk c.args.desk c.close.result c.args.links.items (map g.C.Clock.days c.args.clocks.items) c.args.sessions
    (answers_grow g.O.Object.start g.O.Object.stepped g.O.Object.is_row g.O.Object.looked) c.recall_sound.ensures refl c.close.ensures (omega (arith, many, enough)) (omega (arith, some))

pub returns-in-Err-clause-serves : goal.returns-in-Err-clause-serves
returns-in-Err-clause-serves g c =
    let many = length-map c.args.clocks.items g.C.Clock.days in
    let enough = c.requires.clocks in
    let some = c.requires.links.0 in
    stays_unserved g.O.Object.start g.O.Object.stepped g.O.Object.is_row c.an_entry_has_one_row.ensures g.K.Keeper.rows g.K.Keeper.faults
    (Answers g.O.Object.start g.O.Object.stepped g.O.Object.is_row g.O.Object.looked) g.L.In.Source.left g.L.Out.Sink.taken g.L.In.Source.faults g.L.Out.Sink.faults g.L.Link.connections g.L.Link.faults
    c.args.desk c.in-Err.desk c.close-in-Err.result c.args.links.items (map g.C.Clock.days c.args.clocks.items) c.args.sessions
    (answers_grow g.O.Object.start g.O.Object.stepped g.O.Object.is_row g.O.Object.looked) c.recall_sound.ensures c.in-Err.ensures.err c.close-in-Err.ensures (omega (arith, many, enough)) (omega (arith, some))

pub returns-in-Ok-open-clause-serves : goal.returns-in-Ok-open-clause-serves
returns-in-Ok-open-clause-serves g c =
    let made = c.servers-works.ensures in
    let begun = c.in-Ok-open.ensures.pass in
    subst (λ links. IfSome c.serve_at.result.1 (λ back. Serves g.O.Object.start g.O.Object.stepped g.O.Object.is_row g.K.Keeper.rows g.K.Keeper.faults
    (Answers g.O.Object.start g.O.Object.stepped g.O.Object.is_row g.O.Object.looked) g.L.In.Source.left g.L.Out.Sink.taken g.L.In.Source.faults g.L.Out.Sink.faults g.L.Link.connections g.L.Link.faults
    c.args.desk back links c.serve_at.result.2.items (take (length c.args.links.items) (map g.C.Clock.days c.args.clocks.items)) c.args.sessions c.serve_at.result.0)) made.links
    (subst (λ days. IfSome c.serve_at.result.1 (λ back. Serves g.O.Object.start g.O.Object.stepped g.O.Object.is_row g.K.Keeper.rows g.K.Keeper.faults
    (Answers g.O.Object.start g.O.Object.stepped g.O.Object.is_row g.O.Object.looked) g.L.In.Source.left g.L.Out.Sink.taken g.L.In.Source.faults g.L.Out.Sink.faults g.L.Link.connections g.L.Link.faults
    c.args.desk back (map (λ s. s.link) c.servers-works.result.items) c.serve_at.result.2.items days c.args.sessions c.serve_at.result.0)) made.days
    (c.serve_at.ensures.serves c.args.desk c.recall_sound.ensures begun.0 begun.3))
