-- What stands at the place of the ticket is its entry.
use Rattle.std.proofs.Common.{◌∙◌, ◌==◌, ap, sym, option_copied}
use Rattle.std.specs.List.{slice_get}
use Rattle.std.specs.Option.{option_and_then}
use Rattle.sect_model.specs.declared.held.Waiting.{Waiting}
use Rattle.sect_roster.proofs.FoundLemmas.{got, find-position}
use Rattle.sect_wait.proofs.queue.Queue.entry.Goals as goal

pub returns-in_err-place : goal.returns-in_err-place
returns-in_err-place c =
    let es = c.args.self.now.queue.entries in
    ap option_copied c.from_residual.ensures ∙ ap (option_and_then (slice_get es)) (sym c.in_err-place.was ∙ c.place.ensures) ∙ find-position (λ (e : Waiting). e.ticket == c.args.ticket) es

pub returns : goal.returns
returns c =
    let es = c.args.self.now.queue.entries in
    let place = c.in_ok-place.place in
    got c.get.result c.deref.result.now place c.get.ensures.lookup.3 ∙ ap (λ fs. slice_get fs place) c.deref.ensures.value ∙ ap (λ v. slice_get v.queue.entries place) c.self.view_is
    ∙ ap (option_and_then (slice_get es)) (sym c.in_ok-place.was ∙ c.place.ensures) ∙ find-position (λ (e : Waiting). e.ticket == c.args.ticket) es
