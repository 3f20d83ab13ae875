-- the law stands in the lemmas
use Rattle.sect_model.proofs.SpaceLemmas.{unreserved-alone}
use Rattle.sect_model.proofs.laws.unreserved_space_alone_counts.Goals as goal

pub returns : goal.returns
returns c = unreserved-alone
