-- The entry leaves where it stands, and stands nowhere else.
use Rattle.std.proofs.Common.{◌∙◌, ◌==◌, ◌++◌, ap, sym}
use Rattle.std.specs.List.{find, position_or_len}
use Rattle.std.specs.Option.{option_map, option_to_list}
use Rattle.std.proofs.lemmas.List.{append-nil}
use Rattle.sect_model.specs.declared.held.Waiting.{Waiting}
use Rattle.sect_roster.proofs.FoundLemmas.{is_none}
use Rattle.sect_model.proofs.ListLemmas.{any-find}
use Rattle.sect_wait.specs.declared.back.QueueBack.TheVariants.{Left}
use Rattle.sect_wait.proofs.QueueLemmas.{placed, not-placed, without-none}
use Rattle.sect_wait.proofs.UndoLemmas.{left-undoable, since-left}
use Rattle.sect_wait.proofs.queue.Queue.leave.Goals as goal

pub returns-in_ok-take-in-Some-clause-found : goal.returns-in_ok-take-in-Some-clause-found
returns-in_ok-take-in-Some-clause-found c = sym (placed (λ e. e.ticket == c.args.ticket) c.args.self.now.queue.entries c.in-Some.place (sym c.place.ensures ∙ c.in-Some.is)).some

pub returns-in_ok-take-in-Some-clause-undoable : goal.returns-in_ok-take-in-Some-clause-undoable
returns-in_ok-take-in-Some-clause-undoable c =
    left-undoable c.args.self.now c.take.new.self c.args.ticket c.args.undo.now c.take.new.undo c.recall_kept.ensures.kept c.recall_kept.ensures.bound
    c.in_ok-take-in-Some.ensures.ok c.in_ok-take-in-Some.ensures.room c.in_ok-take-in-Some.ensures.recorded

pub returns-in-None-clause-found : goal.returns-in-None-clause-found
returns-in-None-clause-found c = sym (not-placed (λ e. e.ticket == c.args.ticket) c.args.self.now.queue.entries (sym c.place.ensures ∙ c.in-None.is))

pub returns-in-None-clause-ok : goal.returns-in-None-clause-ok
returns-in-None-clause-ok c =
    let q = c.args.self.now.queue in
    let none = without-none q.entries c.args.ticket (not-placed (λ e. e.ticket == c.args.ticket) q.entries (sym c.place.ensures ∙ c.in-None.is)) in
    λ i. record { entries = sym none i; next = q.next }

pub returns-in-None-clause-recorded : goal.returns-in-None-clause-recorded
returns-in-None-clause-recorded c =
    let q = c.args.self.now.queue in
    let p = λ (e : Waiting). e.ticket == c.args.ticket in
    let none = is_none (find p q.entries) (any-find p q.entries ∙ not-placed p q.entries (sym c.place.ensures ∙ c.in-None.is)) in
    sym (append-nil c.args.undo.now) ∙ ap (λ o. c.args.undo.now ++ option_to_list (option_map (Left (position_or_len p q.entries)) o)) (sym none)

pub returns-in_ok-take-in-Some-clause-since : goal.returns-in_ok-take-in-Some-clause-since
returns-in_ok-take-in-Some-clause-since c =
    since-left c.args.self.now.queue c.take.new.self.queue c.args.ticket c.args.undo.now c.take.new.undo c.recall_kept.ensures.kept
    c.in_ok-take-in-Some.ensures.ok c.in_ok-take-in-Some.ensures.recorded
