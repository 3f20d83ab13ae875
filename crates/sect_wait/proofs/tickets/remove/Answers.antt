-- The closure only tests the ticket.
use Rattle.std.proofs.Common.{◌==◌, not, rules}
use Rattle.std.proofs.lemmas.Fn.{filter_same}
use Rattle.sect_wait.proofs.tickets.remove.Goals as goal

pub returns : goal.returns
returns c = filter_same _ (λ t. not (t == c.args.ticket)) _ (λ x b f t. search rules) c.args.tickets.now.items c.retain.new.self.items c.retain.ensures.filtered
