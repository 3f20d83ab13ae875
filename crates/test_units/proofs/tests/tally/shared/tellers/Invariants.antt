use Rattle.std.proofs.Common.{◌≤◌, vec_len}
use Rattle.test_units.proofs.tests.tally.shared.tellers.Given as goal

abbrev pub invariant-loop-caller : goal.invariant-loop-caller
invariant-loop-caller g l = (vec_len l.works ≤ l.caller) × (l.caller ≤ l.callers)
