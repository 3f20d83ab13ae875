-- the courses, then the configurations
use Rattle.std.proofs.Common.{◌∙◌, ◌++◌, sym, ap, map, flat_map}
use Rattle.sect_catalog.specs.Fault.{config_ids}
use Rattle.sect_catalog.specs.Apart.{past_all, no_floors}
use Rattle.sect_catalog.proofs.ApartLemmas.{past-first, past-both, stopped-first}
use Rattle.sect_catalog.proofs.apart.past_row.Goals as goal

pub returns-in_err-floors-2 : goal.returns-in_err-floors-2
returns-in_err-floors-2 c =
    let o = c.args.row.now in
    c.from_residual-in_err-floors-2.ensures
    ∙ stopped-first c.in_ok-floors.floors c.past_courses.result (map (λ c. (1, c.id.0)) o.courses) (flat_map config_ids o.configs)
    (c.past_courses.ensures ∙ ap (λ cs. past_all c.in_ok-floors.floors (map (λ c. (1, c.id.0)) cs)) c.as_slice.ensures) c.in_err-floors-2.was
    ∙ sym (past-first no_floors c.in_ok-floors.floors c.past.result (0, o.id.0) (map (λ c. (1, c.id.0)) o.courses ++ flat_map config_ids o.configs) c.past.ensures c.in_ok-floors.was)

pub returns : goal.returns
returns c =
    let o = c.args.row.now in
    c.past_configs.ensures ∙ ap (λ gs. past_all c.in_ok-floors-2.floors (flat_map config_ids gs)) c.as_slice-2.ensures
    ∙ sym
    (past-first no_floors c.in_ok-floors.floors c.past.result (0, o.id.0) (map (λ c. (1, c.id.0)) o.courses ++ flat_map config_ids o.configs) c.past.ensures c.in_ok-floors.was
    ∙ past-both c.in_ok-floors.floors c.in_ok-floors-2.floors c.past_courses.result (map (λ c. (1, c.id.0)) o.courses) (flat_map config_ids o.configs)
    (c.past_courses.ensures ∙ ap (λ cs. past_all c.in_ok-floors.floors (map (λ c. (1, c.id.0)) cs)) c.as_slice.ensures) c.in_ok-floors-2.was)
