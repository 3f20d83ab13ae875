use Rattle.std.proofs.Common.{subst}
use Rattle.sect_app.specs.Made.{Prints, Tally, summary_line}
use Rattle.sect_app.proofs.maker.tell.Goals as goal

pub returns-in-Ok-clause-prints : goal.returns-in-Ok-clause-prints
returns-in-Ok-clause-prints g c =
    subst (λ (t : Tally). Prints (summary_line c.args.offerings t) (g.T.Sink.taken c.args.sink.now) (g.T.Sink.taken c.write_summary.new.sink) c.write_summary.result)
    c.in-Ok.ensures c.write_summary.ensures.prints
