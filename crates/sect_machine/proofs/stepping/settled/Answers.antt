-- The day, the answer, and settling, one after the other.
use Rattle.std.proofs.Common.{◌≡◌, ap, subst, sym}
use Rattle.sect_model.specs.World.{State}
use Rattle.sect_model.specs.Step.{on_day}
use Rattle.sect_wait.specs.Queued.{state_of}
use Rattle.sect_machine.specs.Tracked.{Tracked}
use Rattle.sect_model.specs.Kept.{KeptState}
use Rattle.sect_model.proofs.StepLemmas.{day-state}
use Rattle.sect_machine.proofs.OpeningLemmas.{day-others}
use Rattle.sect_machine.proofs.StepLemmas.{answered-kept, placed-is, stepped-is}
use Rattle.sect_machine.proofs.TrackLemmas.{tracks-world, tracks-both}
use Rattle.sect_machine.proofs.stepping.settled.Goals as goal

pub returns-in_err-reply-clause-tracked : goal.returns-in_err-reply-clause-tracked
returns-in_err-reply-clause-tracked g c =
    let w = c.args.world.now in
    let q = c.args.queue.now in
    let day : Tracked w c.args.undo.now.backs q c.args.queue_undo.now c.set_day.new.world c.set_day.new.undo.backs q c.args.queue_undo.now
    = tracks-world w c.set_day.new.world c.args.undo.now.backs c.set_day.new.undo.backs q c.args.queue_undo.now c.set_day.ensures.since c.set_day.ensures.undoable c.requires.queue_undoable in
    tracks-both day c.answer.ensures.tracked

pub answer-requires-clause-kept : goal.answer-requires-clause-kept
answer-requires-clause-kept g c =
    let s : State = state_of c.args.world.now.world c.args.queue.now.queue in
    let on : state_of c.set_day.new.world.world c.args.queue.now.queue ≡ on_day s c.args.day = ap (λ v. state_of v c.args.queue.now.queue) c.in_ok-set_day.ensures.ok in
    subst KeptState (sym on) (day-state s c.args.day c.requires.kept)

pub answer-requires-clause-others : goal.answer-requires-clause-others
answer-requires-clause-others g c =
    day-others c.args.world.now.world c.set_day.new.world.world c.args.queue.now.queue.entries c.args.day c.args.marks.now c.mark_day.new.marks c.requires.kept.world c.requires.kept.entries_fit
    c.in_ok-set_day.ensures.ok c.requires.others c.in_ok-mark_day.ensures

pub place_all-requires-clause-fit : goal.place_all-requires-clause-fit
place_all-requires-clause-fit g c =
    let s : State = state_of c.args.world.now.world c.args.queue.now.queue in
    let t : State = state_of c.set_day.new.world.world c.args.queue.now.queue in
    let u : State = state_of c.answer.new.world.world c.answer.new.queue.queue in
    let on : t ≡ on_day s c.args.day = ap (λ v. state_of v c.args.queue.now.queue) c.in_ok-set_day.ensures.ok in
    (answered-kept s t u c.args.day c.args.caller c.args.command.now c.in_ok-reply.reply c.requires.kept on c.in_ok-reply.ensures.acted).entries_fit

pub returns-clause-acted : goal.returns-clause-acted
returns-clause-acted g c =
    let s : State = state_of c.args.world.now.world c.args.queue.now.queue in
    let t : State = state_of c.set_day.new.world.world c.args.queue.now.queue in
    let u : State = state_of c.answer.new.world.world c.answer.new.queue.queue in
    let v : State = state_of c.place_all.new.world.world c.place_all.new.queue.queue in
    let on : t ≡ on_day s c.args.day = ap (λ x. state_of x c.args.queue.now.queue) c.in_ok-set_day.ensures.ok in
    stepped-is s t u v c.args.day c.args.caller c.args.command.now c.in_ok-reply.reply c.place_all.result on c.in_ok-reply.ensures.acted c.place_all.ensures.settled

pub returns-clause-placed : goal.returns-clause-placed
returns-clause-placed g c =
    let s : State = state_of c.args.world.now.world c.args.queue.now.queue in
    let t : State = state_of c.set_day.new.world.world c.args.queue.now.queue in
    let u : State = state_of c.answer.new.world.world c.answer.new.queue.queue in
    let on : t ≡ on_day s c.args.day = ap (λ x. state_of x c.args.queue.now.queue) c.in_ok-set_day.ensures.ok in
    placed-is s t u c.args.day c.args.caller c.args.command.now c.in_ok-reply.reply c.place_all.result on c.in_ok-reply.ensures.acted c.place_all.ensures.placed

pub returns-clause-tracked : goal.returns-clause-tracked
returns-clause-tracked g c =
    let w = c.args.world.now in
    let q = c.args.queue.now in
    let day : Tracked w c.args.undo.now.backs q c.args.queue_undo.now c.set_day.new.world c.set_day.new.undo.backs q c.args.queue_undo.now
    = tracks-world w c.set_day.new.world c.args.undo.now.backs c.set_day.new.undo.backs q c.args.queue_undo.now c.set_day.ensures.since c.set_day.ensures.undoable c.requires.queue_undoable in
    tracks-both (tracks-both day c.answer.ensures.tracked) c.place_all.ensures.tracked
