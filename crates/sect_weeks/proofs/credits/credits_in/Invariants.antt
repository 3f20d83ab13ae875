-- the sum so far, of at most 255 each
use Rattle.std.proofs.Common.{◌≡◌, ◌≤◌, ◌*◌, take}
use Rattle.sect_weeks.specs.Credits.{all_credits}
use Rattle.sect_weeks.proofs.credits.credits_in.Given as goal

abbrev pub invariant-loop-enrolment : goal.invariant-loop-enrolment
invariant-loop-enrolment l = record {
  sum : l.total ≡ all_credits l.catalogue.rows (take l.enrolment-index l.held);
  few : l.total ≤ 255 * l.enrolment-index;
}
