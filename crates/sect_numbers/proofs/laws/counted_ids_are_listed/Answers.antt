-- Each row names its id.
use Rattle.sect_numbers.proofs.IdLemmas.{counted-id}
use Rattle.sect_numbers.proofs.laws.counted_ids_are_listed.Goals as goal

pub returns : goal.returns
returns c = counted-id
