-- the ids so far are new
use Rattle.std.proofs.Common.{◌≡◌, find, flat_map, drop}
use Rattle.std.specs.Option.{option_map}
use Rattle.sect_catalog.specs.Fault.{subpart_ids}
use Rattle.sect_catalog.specs.Place.{is_taken}
use Rattle.sect_catalog.proofs.known.known_in_subparts.Given as goal

abbrev pub invariant-loop-subpart : goal.invariant-loop-subpart
invariant-loop-subpart l =
    option_map (λ id. id.1) (find (is_taken l.index l.row) (flat_map subpart_ids l.subparts)) ≡ option_map (λ id. id.1) (find (is_taken l.index l.row) (flat_map subpart_ids (drop l.subpart-index l.subparts)))
