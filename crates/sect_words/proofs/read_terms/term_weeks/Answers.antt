-- The weeks answered are the set of those that the days meet.
use Rattle.sect_words.proofs.TermLaws.{weeks_is}
use Rattle.sect_words.proofs.read_terms.term_weeks.Goals as goal

pub returns-clause-value : goal.returns-clause-value
returns-clause-value c = weeks_is c.args.term c.args.first c.args.last c.weeks_of.result c.weeks_of.ensures.found c.weeks_of.ensures.weeks c.weeks_of.ensures.bound
