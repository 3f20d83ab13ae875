-- those of the enrolments so far that are in the section
use Rattle.std.proofs.Common.{◌≡◌, map, filter, take}
use Rattle.sect_base.specs.declared.limit.Level.TheVariants.{Section}
use Rattle.sect_model.specs.Counts.{is_at}
use Rattle.sect_model.specs.Look.{held_view}
use Rattle.sect_view.proofs.roll.held_in.Given as goal

abbrev pub invariant-loop-enrolment : goal.invariant-loop-enrolment
invariant-loop-enrolment l = l.held.items ≡ map held_view (filter (is_at l.world.world (Section l.section)) (take l.enrolment-index l.enrolment-items))
