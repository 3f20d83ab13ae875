-- so many options were looked at: each took some of the budget
use Rattle.std.proofs.Common.{◌≡◌, ◌+◌, ◌*◌}
use Rattle.sect_rules.specs.Due.{wanted_place, course_place, joined_place, config_place}
use Rattle.sect_search.proofs.LookLemmas.{Passed}
use Rattle.sect_search.proofs.walk.+walking.Given as goal

abbrev pub decreases-below_want : goal.decreases-below_want
decreases-below_want g l = 4 * l.decisions

abbrev pub decreases-below_course : goal.decreases-below_course
decreases-below_course g l = 4 * l.decisions

abbrev pub decreases-below_reservation : goal.decreases-below_reservation
decreases-below_reservation g l = 4 * l.decisions

abbrev pub decreases-below_config : goal.decreases-below_config
decreases-below_config g l = 4 * l.decisions

abbrev pub decreases-visit_course : goal.decreases-visit_course
decreases-visit_course g l = 4 * l.decisions + 3

abbrev pub decreases-visit_reservation : goal.decreases-visit_reservation
decreases-visit_reservation g l = 4 * l.decisions + 3

abbrev pub decreases-visit_config : goal.decreases-visit_config
decreases-visit_config g l = 4 * l.decisions + 3

abbrev pub decreases-visit_section : goal.decreases-visit_section
decreases-visit_section g l = 4 * l.decisions + 3

abbrev pub decreases-behind_section : goal.decreases-behind_section
decreases-behind_section g l = 4 * l.decisions + 2

abbrev pub decreases-ended : goal.decreases-ended
decreases-ended g l = 4 * l.decisions + 1

abbrev pub invariant-below_want-courses : goal.invariant-below_want-courses
invariant-below_want-courses g l = record {
  passed : Passed (wanted_place l.wanted) l.decisions l.initial.walk.trees.items l.budget l.walk.trees.items l.at l.walk.left;
  whole : l.budget ≡ l.initial.walk.left;
}

abbrev pub decreases-below_want-courses : goal.decreases-below_want-courses
decreases-below_want-courses g l = l.walk.left

abbrev pub invariant-below_course-reservations : goal.invariant-below_course-reservations
invariant-below_course-reservations g l = record {
  passed : Passed (course_place l.on) l.decisions l.initial.walk.trees.items l.budget l.walk.trees.items l.at l.walk.left;
  whole : l.budget ≡ l.initial.walk.left;
}

abbrev pub decreases-below_course-reservations : goal.decreases-below_course-reservations
decreases-below_course-reservations g l = l.walk.left

abbrev pub invariant-below_reservation-configs : goal.invariant-below_reservation-configs
invariant-below_reservation-configs g l = record {
  passed : Passed (joined_place l.by) l.decisions l.initial.walk.trees.items l.budget l.walk.trees.items l.at l.walk.left;
  whole : l.budget ≡ l.initial.walk.left;
}

abbrev pub decreases-below_reservation-configs : goal.decreases-below_reservation-configs
decreases-below_reservation-configs g l = l.walk.left

abbrev pub invariant-below_config-sections : goal.invariant-below_config-sections
invariant-below_config-sections g l = record {
  passed : Passed (config_place l.inside) l.decisions l.initial.walk.trees.items l.budget l.walk.trees.items l.at l.walk.left;
  whole : l.budget ≡ l.initial.walk.left;
}

abbrev pub decreases-below_config-sections : goal.decreases-below_config-sections
decreases-below_config-sections g l = l.walk.left
