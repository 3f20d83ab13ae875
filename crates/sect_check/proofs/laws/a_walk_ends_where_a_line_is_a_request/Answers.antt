use Rattle.sect_check.proofs.OfLines.{passes_requests}
use Rattle.sect_check.proofs.laws.a_walk_ends_where_a_line_is_a_request.Goals as goal

pub returns : goal.returns
returns c = passes_requests
