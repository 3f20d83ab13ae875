-- the ids so far are new
use Rattle.std.proofs.Common.{◌≡◌, find, map, drop}
use Rattle.std.specs.Option.{option_map}
use Rattle.sect_catalog.specs.Place.{is_taken}
use Rattle.sect_catalog.proofs.known.known_course.Given as goal

abbrev pub invariant-loop-course : goal.invariant-loop-course
invariant-loop-course l =
    option_map (λ id. id.1) (find (is_taken l.index l.row) (map (λ c. (1, c.id.0)) l.courses)) ≡ option_map (λ id. id.1) (find (is_taken l.index l.row) (map (λ c. (1, c.id.0)) (drop l.course-index l.courses)))
