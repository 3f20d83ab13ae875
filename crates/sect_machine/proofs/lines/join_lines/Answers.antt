-- Each turn joins the next line.
use Rattle.std.proofs.Common.{◌≡◌, ◌<◌, ◌∙◌, ◌++◌, [], ◌∷◌, ap, arith, get_or, length, subst, take}
use Rattle.std.proofs.Math.ListN.{length-set}
use Rattle.sect_command.specs.declared.reply.Line.{Line}
use Rattle.sect_model.specs.Batch.{join_line}
use Rattle.sect_wait.specs.Queued.{state_of}
use Rattle.sect_machine.specs.Answering.{answered_of, waiting_line}
use Rattle.sect_wait.proofs.UndoLemmas.{since-joins}
use Rattle.sect_machine.proofs.AnsweredLemmas.{joining-more}
use Rattle.sect_machine.proofs.lines.join_lines.Goals as goal

pub returns-in_err-ticket-clause-since : goal.returns-in_err-ticket-clause-since
returns-in_err-ticket-clause-since c =
    since-joins c.args.queue.now.queue c.loop-place.queue.queue c.join_line.new.queue.queue c.args.queue_undo.now c.loop-place.queue_undo c.join_line.new.queue_undo c.loop-place.invariant.since c.join_line.ensures.since

pub loop-place-preserved : goal.loop-place-preserved
loop-place-preserved c =
    let w = c.args.world.now.world in
    let lines = c.loop-place.lines.items in
    let n = c.loop-place.place in
    let none : Line = c.index.result.now in
    let few : n < length lines = omega (arith, c.loop-place.invariant.length) in
    let read : c.index.result.now ≡ get_or lines n none = c.index.ensures in record {
      length = ap length (c.set_ticket.ensures none) ∙ length-set lines n (waiting_line (get_or lines n none) c.in_ok-ticket.ticket) ∙ c.loop-place.invariant.length;
      since = since-joins c.args.queue.now.queue c.loop-place.queue.queue c.join_line.new.queue.queue c.args.queue_undo.now c.loop-place.queue_undo c.join_line.new.queue_undo c.loop-place.invariant.since c.join_line.ensures.since;
      undoable = c.join_line.ensures.undoable;
      joining =
          joining-more w c.args.queue.now.queue c.args.lines.items n c.loop-place.queue.queue lines none c.in_ok-ticket.ticket c.join_line.new.queue.queue c.set_ticket.new.lines.items few
          c.loop-place.invariant.joining (subst (λ line. join_line (record { state = state_of w c.loop-place.queue.queue; lines = take n lines }) (answered_of w line)
          ≡ record { state = state_of w c.join_line.new.queue.queue; lines = take n lines ++ waiting_line line c.in_ok-ticket.ticket ∷ [] }) read (c.in_ok-ticket.ensures.joined (take n lines)))
          (c.set_ticket.ensures none);
    }
