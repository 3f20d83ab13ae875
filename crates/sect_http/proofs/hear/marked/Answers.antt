use Rattle.std.proofs.Common.{◌∙◌}
use Rattle.sect_http.proofs.Heads.{is_head_at}
use Rattle.sect_http.proofs.hear.marked.Goals as goal

pub returns : goal.returns
returns c = λ h at. record { closing = c.closes_by.ensures h at; headless = c.is_head.ensures ∙ is_head_at c.of.result.now h.method (c.of.ensures ∙ at.method) }
