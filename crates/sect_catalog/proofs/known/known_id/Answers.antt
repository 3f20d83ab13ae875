-- The offering's own id is new: the courses' come next, then those of the configurations.
use Rattle.std.proofs.Common.{sym, ◌∙◌, ap, map, flat_map}
use Rattle.sect_catalog.specs.Fault.{config_ids}
use Rattle.sect_catalog.specs.Place.{is_taken}
use Rattle.sect_catalog.proofs.KnownLemmas.{first_id, row_found, row_passed}
use Rattle.sect_catalog.proofs.known.known_id.Goals as goal

pub returns-in-Some : goal.returns-in-Some
returns-in-Some c =
    row_found (is_taken c.args.index.now c.args.row.now) (0, c.args.row.now.id.0) (map (λ c. (1, c.id.0)) c.args.row.now.courses) (flat_map config_ids c.args.row.now.configs)
    c.known_course.result c.in-Some.id (sym c.if-is_taken.ensures)
    (c.known_course.ensures ∙ ap (λ cs. first_id (is_taken c.args.index.now c.args.row.now) (map (λ c. (1, c.id.0)) cs)) c.as_slice.ensures) c.in-Some.is

pub returns : goal.returns
returns c =
    row_passed (is_taken c.args.index.now c.args.row.now) (0, c.args.row.now.id.0) (map (λ c. (1, c.id.0)) c.args.row.now.courses) (flat_map config_ids c.args.row.now.configs)
    c.known_course.result c.known_in_configs.result (sym c.if-is_taken.ensures)
    (c.known_course.ensures ∙ ap (λ cs. first_id (is_taken c.args.index.now c.args.row.now) (map (λ c. (1, c.id.0)) cs)) c.as_slice.ensures) c.in_default.not-Some
    (c.known_in_configs.ensures ∙ ap (λ gs. first_id (is_taken c.args.index.now c.args.row.now) (flat_map config_ids gs)) c.as_slice-2.ensures)
