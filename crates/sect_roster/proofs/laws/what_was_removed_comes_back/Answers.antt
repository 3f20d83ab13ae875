-- The one that passes stands at its first place.
use Rattle.sect_model.specs.World.{is_in}
use Rattle.sect_roster.proofs.UndoneLemmas.{put-back, put-row-back}
use Rattle.sect_roster.proofs.laws.what_was_removed_comes_back.Goals as goal

pub returns-clause-enrolment : goal.returns-clause-enrolment
returns-clause-enrolment c = λ es student course place e one found at. put-back (is_in student course) es place e one found at

pub returns-clause-reservation : goal.returns-clause-reservation
returns-clause-reservation c = λ rs id place r ordered differ found at. put-row-back (λ r. r.offering.0) (λ r. r.id.0) id.0 rs place r ordered differ found at

pub returns-clause-restriction : goal.returns-clause-restriction
returns-clause-restriction c = λ rs id place r ordered differ found at. put-row-back (λ r. r.offering.0) (λ r. r.id.0) id.0 rs place r ordered differ found at
