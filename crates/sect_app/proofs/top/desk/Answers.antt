-- Valid input ends Done, or for want of memory.
use Rattle.std.proofs.Common.{sym, ap, ◌∙◌, subst}
use Rattle.std.specs.Prelude.{length, map, take}
use Rattle.std.specs.String.{string_bytes}
use Rattle.sect_usage.specs.declared.words.Words.{Words}
use Rattle.sect_usage.specs.Grammar.{words_of}
use Rattle.sect_app.proofs.Valid.{does_well, quiet_serving, same_words, serves_well, serving_opens, unfaulted}
use Rattle.sect_app.specs.Machine.{DeskDoes}
use Rattle.sect_app.specs.Top.{sessions_in}
use Rattle.sect_app.proofs.top.desk.Goals as goal

pub returns-in-Some-sessions_in-clause-valid : goal.returns-in-Some-sessions_in-clause-valid
returns-in-Some-sessions_in-clause-valid g c = λ asked is valid none.
    let served = c.serve_desk in
    let mine = same_words (words_of (map string_bytes c.args.words.now)) c.in-Some.asked asked c.in-Some.ensures is in
    let told = ap sessions_in (sym mine) ∙ sym c.in-Some-sessions_in.ensures in
    let opens = serving_opens asked c.in-Some-sessions_in.sessions (g.K.Keeper.rows c.args.keeper) (g.S.Source.left c.args.source.now) told valid in
    serves_well g.K.Keeper.rows g.K.Keeper.faults g.L.In.Source.left g.L.Out.Sink.taken g.L.In.Source.faults g.L.Out.Sink.faults g.L.Link.connections g.L.Link.faults
    c.args.keeper served.result.1 c.args.links.items served.result.2.items (take (length c.args.links.items) (map g.C.Clock.days c.args.clocks.items))
    c.in-Some-sessions_in.sessions (g.S.Source.left c.args.source.now) (g.T.Sink.taken c.args.sink.now) served.result.0 opens served.ensures.back
    (served.ensures.serves (g.S.Source.left c.args.source.now) (g.T.Sink.taken c.args.sink.now))
    (quiet_serving g.S.Source.faults g.T.Sink.faults g.L.Link.faults g.K.Keeper.faults c.args.source.now c.args.source.now c.args.sink.now c.args.sink.now
    c.args.links.items served.result.2.items c.args.keeper served.result.1 served.result.0 none served.ensures.others.1 served.ensures.others.2
    served.ensures.keeper_fault served.ensures.link_fault served.ensures.back)

pub returns-in-None-sessions_in-clause-valid : goal.returns-in-None-sessions_in-clause-valid
returns-in-None-sessions_in-clause-valid g c = λ asked is valid none.
    let done = c.do_asked-status in
    let mine = same_words (words_of (map string_bytes c.args.words.now)) c.in-Some.asked asked c.in-Some.ensures is in
    let told = ap sessions_in (sym mine) ∙ sym c.in-None-sessions_in.ensures in
    let does = subst (λ (words : Words). DeskDoes g.K.Keeper.rows g.K.Keeper.faults words c.args.keeper done.result.1
    (g.S.Source.left c.args.source.now) (g.S.Source.left done.new.source) (g.T.Sink.taken c.args.sink.now) (g.T.Sink.taken done.new.sink)
    (g.C.Clock.days c.first_of-clock.result) done.result.0) mine done.ensures.does in
    does_well g.K.Keeper.rows g.K.Keeper.faults c.args.keeper done.result.1
    (g.S.Source.left c.args.source.now) (g.S.Source.left done.new.source) (g.T.Sink.taken c.args.sink.now) (g.T.Sink.taken done.new.sink)
    (g.C.Clock.days c.first_of-clock.result) done.result.0 asked told does valid
    (unfaulted done.result.0 (λ e. none.of_source (done.ensures.read_fault e)) (λ e. none.of_sink (done.ensures.write_fault e))
    (λ e. none.of_keeper (done.ensures.keeper_fault e)) (λ e. absurd (done.ensures.others.1 e)))
