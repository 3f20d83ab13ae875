-- the law stands in the lemmas
use Rattle.sect_weeks.proofs.ToldLemmas.{enrolled-is-told, left-is-told, kept-is-told}
use Rattle.sect_weeks.proofs.laws.weeks_follow_enrolments.Goals as goal

pub returns-clause-enrolled : goal.returns-clause-enrolled
returns-clause-enrolled c = enrolled-is-told

pub returns-clause-left : goal.returns-clause-left
returns-clause-left c = left-is-told

pub returns-clause-kept : goal.returns-clause-kept
returns-clause-kept c = kept-is-told
