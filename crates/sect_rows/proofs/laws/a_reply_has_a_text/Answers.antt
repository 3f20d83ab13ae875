-- By the lemmas of steps.
use Rattle.sect_rows.proofs.Steps.{step-fits}
use Rattle.sect_rows.proofs.laws.a_reply_has_a_text.Goals as goal

pub returns : goal.returns
returns c = step-fits
