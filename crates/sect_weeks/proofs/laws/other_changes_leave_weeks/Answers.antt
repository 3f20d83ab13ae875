-- the law stands in the lemmas
use Rattle.sect_weeks.proofs.QuietLemmas.{quiet-keeps-weeks, quiet-keeps-credits, quiet-is-told, back-is-told}
use Rattle.sect_weeks.proofs.laws.other_changes_leave_weeks.Goals as goal

pub returns : goal.returns
returns c = record { weeks = quiet-keeps-weeks; credits = quiet-keeps-credits; told = quiet-is-told; back = back-is-told }
