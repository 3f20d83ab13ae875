-- The links were served over the machine's history.
use Rattle.std.proofs.Common.{sym, ◌∙◌}
use Rattle.std.specs.Prelude.{length, map, take}
use Rattle.sect_app.proofs.Connections.{link_rose, serves_desk}
use Rattle.sect_app.proofs.serving.serve_desk.Goals as goal

pub returns-in-Ok-clause-serves : goal.returns-in-Ok-clause-serves
returns-in-Ok-clause-serves g c = λ read wrote.
    serves_desk g.K.Keeper.rows g.K.Keeper.faults g.L.In.Source.left g.L.Out.Sink.taken g.L.In.Source.faults g.L.Out.Sink.faults g.L.Link.connections g.L.Link.faults
    c.args.keeper c.in-Ok.desk c.args.links.items c.serve-end.result.2.items (take (length c.args.links.items) (map g.C.Clock.days c.args.clocks.items)) c.args.sessions
    c.serve-end.result.0 c.serve_status.result read wrote c.serve-end.result.1 c.serve_status.ensures.status c.replays_are_good.ensures c.in-Ok.ensures.opens c.serve-end.ensures.serves

pub returns-in-Ok-clause-link_fault : goal.returns-in-Ok-clause-link_fault
returns-in-Ok-clause-link_fault g c = λ is.
    link_rose g.K.Keeper.rows g.K.Keeper.faults g.L.In.Source.left g.L.Out.Sink.taken g.L.In.Source.faults g.L.Out.Sink.faults g.L.Link.connections g.L.Link.faults
    c.in-Ok.desk c.args.links.items c.serve-end.result.2.items (take (length c.args.links.items) (map g.C.Clock.days c.args.clocks.items)) c.args.sessions
    c.serve-end.result.0 c.serve-end.result.1 c.serve-end.ensures.keeper c.serve-end.ensures.serves (sym c.serve_status.ensures.status ∙ is)

pub returns-in-Ok-clause-back : goal.returns-in-Ok-clause-back
returns-in-Ok-clause-back g c = c.serve-end.ensures.keeper

pub returns-in-Ok-clause-others : goal.returns-in-Ok-clause-others
returns-in-Ok-clause-others g c = c.serve_status.ensures.others

pub returns-in-Ok-clause-keeper_fault : goal.returns-in-Ok-clause-keeper_fault
returns-in-Ok-clause-keeper_fault g c = λ is. absurd (c.serve_status.ensures.kept is)
