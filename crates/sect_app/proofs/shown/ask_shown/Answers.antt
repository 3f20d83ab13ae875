use Rattle.std.proofs.Common.{◌+◌, length, sym}
use Rattle.sect_app.proofs.Outcomes.{shown_bad, shown_early, shown_goes_on, shown_open}
use Rattle.sect_app.proofs.shown.ask_shown.Goals as goal

pub returns-in-Some-clause-asked : goal.returns-in-Some-clause-asked
returns-in-Some-clause-asked g c = λ table term first taken old read ended s.
    shown_early g.T.Sink.taken c.ask_each.new.next c.in-Some.end s (c.in-Some.ensures.asked (first + length s.before) s.so_far.next_is s.so_far.numbers)

pub returns-in-Some-open_without-clause-asked : goal.returns-in-Some-open_without-clause-asked
returns-in-Some-open_without-clause-asked g c = λ table term first taken old read ended s.
    shown_open g.T.Sink.taken c.in-Some-open_without.line s (c.in_default.ensures.asked (first + length s.before) s.so_far.next_is s.so_far.numbers) (sym c.in-Some-open_without.ensures)

pub returns-in-Some-bad-clause-asked : goal.returns-in-Some-bad-clause-asked
returns-in-Some-bad-clause-asked g c = λ table term first taken old read ended s.
    shown_bad g.T.Sink.taken c.in-Some-bad.line c.in-Some-bad.field s (c.in_default.ensures.asked (first + length s.before) s.so_far.next_is s.so_far.numbers)
    (sym c.in_default-open_without.ensures) c.in-Some-bad.is

pub returns-in-None-clause-asked : goal.returns-in-None-clause-asked
returns-in-None-clause-asked g c = λ table term first taken old read ended s.
    shown_goes_on g.T.Sink.taken s (c.in_default.ensures.asked (first + length s.before) s.so_far.next_is s.so_far.numbers)
    (sym c.in_default-open_without.ensures) c.in-None.is
