-- What the workers did, as one.
use Rattle.std.proofs.Common.{◌≡◌, Ok, Err, IfErr, IfOk, map, subst, sym, ap, ◌∙◌, arith}
use Rattle.std.proofs.lemmas.List.{length-map}
use mathlib.Core.List.{IsPrefix}
use Rattle.sect_http.specs.Answers.{Answers}
use Rattle.sect_office.specs.Works.{AddsRuns}
use Rattle.sect_turn.specs.Passes.{front, own_calls}
use Rattle.sect_serve.specs.Working.{WorkerDid}
use Rattle.sect_serve.proofs.Fronts.{answers_grow}
use Rattle.sect_serve.proofs.Workers.{links_served, no_link_served}
use Rattle.sect_serve.proofs.serving.work_all.Goals as goal

pub returns-in-Ok-clause-served : goal.returns-in-Ok-clause-served
returns-in-Ok-clause-served g c = λ log longer.
    let now = c.run_requests-pass.result.0 in
    let runs = subst (λ r. IfOk r (λ given. AddsRuns (λ w first seen calls x. WorkerDid (Answers g.O.Object.start g.O.Object.stepped g.O.Object.is_row g.O.Object.looked)
    g.L.In.Source.left g.L.Out.Sink.taken g.L.In.Source.faults g.L.Out.Sink.faults (g.L.Link.connections w.link) (g.L.Link.connections x.link) (g.L.Link.faults w.link) (g.L.Link.faults x.link)
    (g.C.Clock.days w.clock) w.sessions x.end first seen calls) (front c.args.pass) (front now) c.args.works.items given.items (own_calls c.args.pass) (own_calls now))) c.in-Ok.is
    c.run_requests-pass.ensures.runs in
    links_served (Answers g.O.Object.start g.O.Object.stepped g.O.Object.is_row g.O.Object.looked) g.L.In.Source.left g.L.Out.Sink.taken g.L.In.Source.faults g.L.Out.Sink.faults
    g.L.Link.connections g.L.Link.faults c.args.sessions (front c.args.pass) log
    (λ w first seen calls x. WorkerDid (Answers g.O.Object.start g.O.Object.stepped g.O.Object.is_row g.O.Object.looked)
    g.L.In.Source.left g.L.Out.Sink.taken g.L.In.Source.faults g.L.Out.Sink.faults (g.L.Link.connections w.link) (g.L.Link.connections x.link) (g.L.Link.faults w.link) (g.L.Link.faults x.link)
    (g.C.Clock.days w.clock) w.sessions x.end first seen calls)
    (λ w. w.link) (λ w. g.C.Clock.days w.clock) (λ w. w.sessions) (λ x. x.link) (λ x. x.end) (λ w seen calls x did. did)
    (answers_grow g.O.Object.start g.O.Object.stepped g.O.Object.is_row g.O.Object.looked) (front now) longer
    c.args.works.items c.in-Ok.given.items (own_calls c.args.pass) (own_calls now) c.collect-end.result.1.items c.collect-end.result.0 c.requires.fresh.0 c.requires.works.2 runs
    c.collect-end.ensures.links c.collect-end.ensures.end

pub returns-in-Err-clause-served : goal.returns-in-Err-clause-served
returns-in-Err-clause-served g c = λ log longer.
    let now = c.run_requests-pass.result.0 in
    let none = subst (λ r. IfErr r (λ back. (now ≡ c.args.pass) × (back.1 ≡ c.args.works))) c.in-Err.is c.run_requests-pass.ensures.err in
    let links = length-map c.args.works.items (λ s. s.link) in
    let days = length-map c.args.works.items (λ s. g.C.Clock.days s.clock) in
    let some = c.requires.works.0 in
    no_link_served (Answers g.O.Object.start g.O.Object.stepped g.O.Object.is_row g.O.Object.looked) g.L.In.Source.left g.L.Out.Sink.taken g.L.In.Source.faults g.L.Out.Sink.faults
    g.L.Link.connections g.L.Link.faults c.args.sessions (front c.args.pass) log (subst (λ p. IsPrefix (front p) log) none.0 longer)
    (answers_grow g.O.Object.start g.O.Object.stepped g.O.Object.is_row g.O.Object.looked)
    (map (λ s. s.link) c.args.works.items) c.links_of.result.items (map (λ s. g.C.Clock.days s.clock) c.args.works.items) (own_calls now)
    (links ∙ sym days) (omega (arith, links, some)) (c.links_of.ensures ∙ ap (λ v. map (λ s. s.link) v.items) none.1) (ap own_calls none.0 ∙ c.requires.fresh.0)
