-- the laws stand in the lemmas
use Rattle.sect_model.proofs.RestLemmas.{rest-is-path, rest-has-options, rest-extends}
use Rattle.sect_model.proofs.laws.the_rest_is_a_path.Goals as goal

pub returns-clause-rules : goal.returns-clause-rules
returns-clause-rules c = rest-is-path

pub returns-clause-options : goal.returns-clause-options
returns-clause-options c = rest-has-options

pub returns-clause-extends : goal.returns-clause-extends
returns-clause-extends c = rest-extends
