-- the sum over the rows of the offering is the sum over the active ones that name the level
use Rattle.std.proofs.Common.{◌∙◌, ◌+◌, ◌&&◌, sym, ap, sum_by}
use Rattle.sect_reserve.specs.Audience.{active}
use Rattle.sect_reserve.specs.declared.row.Reservation.{Reservation}
use Rattle.sect_model.specs.Space.{names, remaining}
use Rattle.sect_model.proofs.RosterLemmas.{part-sum}
use Rattle.sect_space.proofs.world.World.taken.Goals as goal

pub held_back-requires : goal.held_back-requires
held_back-requires c = c.reservations_near.ensures.bound

pub returns-clause-value : goal.returns-clause-value
returns-clause-value c =
    let w = c.args.self.now.world in
    let p = λ (r : Reservation). active r w.day && names r c.args.level in
    (λ i. (c.from.ensures ∙ c.count.ensures) i + (c.held_back.ensures.value
    ∙ sym (part-sum (remaining w) p c.reservations_near.result.now)
    ∙ ap (sum_by (remaining w)) (sym c.reservations_near.ensures.near)) i)
