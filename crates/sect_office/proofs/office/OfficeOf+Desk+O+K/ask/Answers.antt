use Rattle.std.proofs.Common.{◌∙◌}
use Rattle.sect_once.proofs.Acting.{follows_answer}
use Rattle.sect_turn.specs.Passes.{calls_after}
use Rattle.sect_office.proofs.Shown.{follows_prefix, shows_answer}
use Rattle.sect_office.proofs.office.OfficeOf+Desk+O+K.ask.Goals as goal

pub give-requires-clause-follows : goal.give-requires-clause-follows
give-requires-clause-follows g c = rw c.take-desk.ensures.front
    (follows_answer g.O.Object.stepped g.O.Object.is_row g.K.Keeper.rows g.K.Keeper.faults c.args.id c.args.day c.args.command c.take-desk.result c.ask-answer.new.self c.ask-answer.result c.ask-answer.ensures.answer)

pub returns-clause-grown : goal.returns-clause-grown
returns-clause-grown g c =
    let follows = follows_answer g.O.Object.stepped g.O.Object.is_row g.K.Keeper.rows g.K.Keeper.faults c.args.id c.args.day c.args.command c.take-desk.result c.ask-answer.new.self c.ask-answer.result c.ask-answer.ensures.answer in
    rw c.give.ensures.front (follows_prefix _ c.take-desk.result.log c.ask-answer.new.self.log c.take-desk.ensures.grown follows)

pub returns-clause-shows : goal.returns-clause-shows
returns-clause-shows g c =
    rw c.give.ensures.front
    (shows_answer g.O.Object.stepped g.O.Object.is_row g.K.Keeper.rows g.K.Keeper.faults c.args.id c.args.day c.args.command _ c.take-desk.result c.ask-answer.new.self _ _ c.ask-answer.result c.take-desk.ensures.grown c.ask-answer.ensures.answer
    (c.give.ensures.own ∙ (λ k. calls_after (c.take-desk.ensures.same.2 k) (c.take-desk.ensures.front k) c.ask-answer.new.self.log)))
