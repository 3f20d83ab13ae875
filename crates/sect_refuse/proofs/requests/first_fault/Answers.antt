-- by the courses in rising order as by those of the rows
use Rattle.std.proofs.Common.{◌∙◌, ap, sym, subst}
use Rattle.std.specs.List.Sorted.{IsNonDecreasingBy}
use Rattle.sect_people.specs.Fault.{fault_of}
use Rattle.sect_catalog.specs.Rising.{rising_courses}
use Rattle.sect_refuse.proofs.CourseLemmas.{courses-rise, fault-same}
use Rattle.sect_refuse.proofs.requests.first_fault.Goals as goal

pub check_asks-requires : goal.check_asks-requires
check_asks-requires c = subst (IsNonDecreasingBy (λ c. c.0)) (sym c.course_ids.ensures) (courses-rise c.catalogue.result.now.rows)

pub returns : goal.returns
returns c =
    c.err.ensures.value ∙ c.check_asks.ensures ∙ ap (fault_of c.args.asks.now) c.course_ids.ensures
    ∙ ap (λ k. fault_of c.args.asks.now (rising_courses k.rows)) c.catalogue.ensures
    ∙ fault-same c.args.asks.now c.args.world.now.world.catalogue.rows
