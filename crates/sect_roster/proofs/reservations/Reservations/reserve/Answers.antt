-- The room of the listing is that of the reservations.
use Rattle.std.proofs.Common.{◌≤◌, ◌-◌, subst, IsOk}
use Rattle.sect_roster.specs.Slots.{capacity_of, number_of}
use Rattle.sect_roster.proofs.reservations.Reservations.reserve.Goals as goal

pub returns-clause-enough : goal.returns-clause-enough
returns-clause-enough c =
    subst (λ v. c.args.n ≤ capacity_of v.rooms c.args.offering.0 - number_of (λ r. r.offering.0) c.args.offering.0 v.items → c.args.n ≤ v.spare → IsOk c.reserve.result) c.self.view_is
    c.reserve.ensures.enough
