use Rattle.std.proofs.Common.{sym, ◌∙◌}
use Rattle.sect_head.proofs.Bounds.{body_bound}
use Rattle.sect_http.proofs.hear.framed.Goals as goal

pub returns-clause-bound : goal.returns-clause-bound
returns-clause-bound c = λ n is. body_bound c.requires.head.0 n (sym (c.framing.ensures c.requires.head.0 c.requires.head.1) ∙ is)
