use Rattle.std.proofs.Common.{refl}
use Rattle.sect_clerk.proofs.trier.Trier.try_ask.Goals as goal

pub returns : goal.returns
returns g c =
    rw (← c.self.view_is, c.would_answer.ensures.same)
    (c.asked_on-day.result, c.asked_on-day.ensures.on, c.would_answer.ensures.answer, refl)
