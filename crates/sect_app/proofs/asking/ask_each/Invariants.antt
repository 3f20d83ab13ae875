-- some were asked, the rest stands ahead
use Rattle.std.proofs.Common.{◌≡◌, ◌≤◌, ◌^◌, ℕ, length}
use Rattle.std.specs.Vec.Iter.{into_iter_items, into_iter_len}
use Rattle.sect_app.specs.Fitting.{FitGiven}
use Rattle.sect_app.specs.Asking.{AnswersNumbered}
use Rattle.sect_app.specs.Numbers.{number_at}
use Rattle.sect_app.proofs.Each.{DoneSoFar}
use Rattle.sect_app.proofs.asking.ask_each.Given as goal

abbrev pub invariant-loop-it : goal.invariant-loop-it
invariant-loop-it g l = record {
  so_far : (at : ℕ) → l.fn.next ≡ number_at at → at ≤ 2 ^ 64
      → DoneSoFar (AnswersNumbered g.O.Object.stepped g.O.Object.is_row g.K.Keeper.rows g.K.Keeper.faults) g.T.Sink.taken at l.fn.given.items (into_iter_items l.it-iterator) l.fn.asker l.asker l.fn.sink l.sink l.gathered.items l.next;
  left : into_iter_len l.it-iterator ≡ length (into_iter_items l.it-iterator);
  fit : FitGiven (into_iter_items l.it-iterator);
  write_faults : g.T.Sink.faults l.fn.sink ≤ g.T.Sink.faults l.sink;
}
