-- at most four wants have at most 36 brackets
use Rattle.std.proofs.Common.{length}
use Rattle.sect_search.proofs.TextLemmas.{told-four}
use Rattle.sect_model.proofs.StandLemmas.{stands}
use Rattle.sect_search.proofs.finding.search_lent.Goals as goal

pub search_in-requires-clause-stands : goal.search_in-requires-clause-stands
search_in-requires-clause-stands g c = stands c.args.world.now.world c.args.mv.now c.requires

pub returns-clause-text : goal.returns-clause-text
returns-clause-text g c = told-four (length c.args.mv.now.take) c.search_in.result c.requires.few_taken c.search_in.ensures.text
