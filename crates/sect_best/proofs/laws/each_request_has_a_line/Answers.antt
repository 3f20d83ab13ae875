-- the law stands in the lemmas
use Rattle.sect_best.proofs.LawLemmas.{each-has-a-line}
use Rattle.sect_best.proofs.laws.each_request_has_a_line.Goals as goal

pub returns : goal.returns
returns c = each-has-a-line
