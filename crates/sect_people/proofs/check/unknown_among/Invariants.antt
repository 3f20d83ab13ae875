-- what is found is found in the rest
use Rattle.std.proofs.Common.{◌≡◌, drop}
use Rattle.std.specs.Prelude.{find}
use Rattle.sect_people.specs.Fault.{is_unknown}
use Rattle.sect_people.proofs.check.unknown_among.Given as goal

abbrev pub invariant-loop-course : goal.invariant-loop-course
invariant-loop-course l = find (is_unknown l.known) l.courses ≡ find (is_unknown l.known) (drop l.course-index l.courses)
