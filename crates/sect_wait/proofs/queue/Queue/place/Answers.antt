-- What stands at the rank of the ticket is its entry, or no entry has it.
use Rattle.std.proofs.Common.{◌∙◌, ◌==◌, ap, sym, option_copied}
use Rattle.std.specs.List.{slice_get}
use Rattle.sect_people.specs.Index.{rank}
use Rattle.sect_model.specs.declared.held.Waiting.{Waiting}
use Rattle.sect_model.specs.Kept.{is_ordered_by}
use Rattle.sect_roster.proofs.FoundLemmas.{got, found-past, found-own, found-other}
use Rattle.sect_wait.proofs.QueueLemmas.{in-order, found-place, no-place}
use Rattle.sect_wait.proofs.queue.Queue.place.Goals as goal

pub rank-place-requires : goal.rank-place-requires
rank-place-requires c = ap (is_ordered_by (λ e. e.ticket)) c.as_slice.ensures.value ∙ in-order c.self.inside.entries.items c.self.inside.next c.self.invariant.queue.in_order

pub returns-in_err-entry : goal.returns-in_err-entry
returns-in_err-entry c =
    let es = c.self.inside.entries.items in
    let key = λ (e : Waiting). e.ticket in
    let at = c.rank-place.ensures ∙ ap (rank key c.args.ticket) c.as_slice.ensures.value in
    let ordered = in-order es c.self.inside.next c.self.invariant.queue.in_order in
    let read = got c.get.result c.deref.result.now c.rank-place.result c.get.ensures.lookup.3 ∙ ap (λ fs. slice_get fs c.rank-place.result) c.deref.ensures.value in
    rw (← c.self.view_is) (c.from_residual.ensures ∙ no-place (λ e. e.ticket == c.args.ticket) es (found-past key c.args.ticket es ordered c.rank-place.result at (sym (ap option_copied c.in_err-entry.was) ∙ read)))

pub returns-then-entry-ticket : goal.returns-then-entry-ticket
returns-then-entry-ticket c =
    let es = c.self.inside.entries.items in
    let key = λ (e : Waiting). e.ticket in
    let at = c.rank-place.ensures ∙ ap (rank key c.args.ticket) c.as_slice.ensures.value in
    let ordered = in-order es c.self.inside.next c.self.invariant.queue.in_order in
    let read = got c.get.result c.deref.result.now c.rank-place.result c.get.ensures.lookup.3 ∙ ap (λ fs. slice_get fs c.rank-place.result) c.deref.ensures.value in
    rw (← c.self.view_is)
    (found-place key c.args.ticket es c.rank-place.result c.in_ok-entry.entry.now ordered at
    (found-own key c.args.ticket es ordered c.rank-place.result at c.in_ok-entry.entry.now (sym (ap option_copied c.in_ok-entry.was) ∙ read) c.if-entry-ticket.true))

pub returns-else-entry-ticket : goal.returns-else-entry-ticket
returns-else-entry-ticket c =
    let es = c.self.inside.entries.items in
    let key = λ (e : Waiting). e.ticket in
    let at = c.rank-place.ensures ∙ ap (rank key c.args.ticket) c.as_slice.ensures.value in
    let ordered = in-order es c.self.inside.next c.self.invariant.queue.in_order in
    let read = got c.get.result c.deref.result.now c.rank-place.result c.get.ensures.lookup.3 ∙ ap (λ fs. slice_get fs c.rank-place.result) c.deref.ensures.value in
    rw (← c.self.view_is)
    (no-place (λ e. e.ticket == c.args.ticket) es
    (found-other key c.args.ticket es ordered c.rank-place.result at c.in_ok-entry.entry.now (sym (ap option_copied c.in_ok-entry.was) ∙ read) c.if-entry-ticket.false))
