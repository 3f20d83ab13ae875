-- the law stands in the lemmas
use Rattle.sect_best.proofs.LawLemmas.{unmet-is-refuted}
use Rattle.sect_best.proofs.laws.unmet_requests_are_refuted.Goals as goal

pub returns : goal.returns
returns c = unmet-is-refuted
