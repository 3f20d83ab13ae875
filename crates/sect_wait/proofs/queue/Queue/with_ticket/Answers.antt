-- The entry of the ticket is looked at alone, or no entry has it.
use Rattle.std.proofs.Common.{◌∙◌, ap, sym, List, map, filter, option_copied}
use Rattle.std.specs.Option.{option_map_or}
use Rattle.sect_model.specs.declared.held.Waiting.{Waiting}
use Rattle.sect_model.specs.Rules.{least}
use Rattle.sect_refuse.specs.Tickets.{is_shared, lesser, with_entry}
use Rattle.sect_wait.proofs.SharedLemmas.{with-one}
use Rattle.sect_wait.proofs.queue.Queue.with_ticket.Goals as goal

pub returns-in-Some : goal.returns-in-Some
returns-in-Some c =
    let student = c.args.student in
    let courses = c.args.courses.now in
    let best = c.args.best in
    c.lesser.ensures ∙ ap (lesser best) c.ticket_of.ensures
    ∙ ap (λ (es : List Waiting). lesser best (least (map (λ (e : Waiting). e.ticket) (filter (is_shared student courses) es)))) c.from_ref.ensures.value
    ∙ with-one student courses best c.in-Some.entry.now
    ∙ ap (λ o. option_map_or (with_entry student courses best) o best) (sym (ap option_copied c.in-Some.is) ∙ c.entry.ensures)
