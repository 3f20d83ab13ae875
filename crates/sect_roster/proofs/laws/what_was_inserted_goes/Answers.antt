-- Nothing else has the new id, and nothing of the student stands behind the new enrolment.
use Rattle.sect_roster.proofs.UndoneLemmas.{dropped-last, last-inserted, taken-back}
use Rattle.sect_roster.proofs.laws.what_was_inserted_goes.Goals as goal

pub returns-clause-enrolment : goal.returns-clause-enrolment
returns-clause-enrolment c = λ es e ordered. (last-inserted e es ordered, dropped-last e es ordered)

pub returns-clause-reservation : goal.returns-clause-reservation
returns-clause-reservation c = λ rs r new. taken-back (λ r. r.offering.0) (λ r. r.id.0) r rs new

pub returns-clause-restriction : goal.returns-clause-restriction
returns-clause-restriction c = λ rs r new. taken-back (λ r. r.offering.0) (λ r. r.id.0) r rs new
