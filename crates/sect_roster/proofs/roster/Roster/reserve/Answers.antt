-- The room of the slots is that of the roster.
use Rattle.std.proofs.Common.{◌≤◌, ◌-◌, subst, IsOk}
use Rattle.sect_roster.specs.Slots.{capacity_of}
use Rattle.sect_roster.specs.Rostered.{number_held}
use Rattle.sect_roster.proofs.roster.Roster.reserve.Goals as goal

pub returns-clause-enough : goal.returns-clause-enough
returns-clause-enough c =
    subst (λ v. c.args.n ≤ capacity_of v.rooms c.args.student.0 - number_held c.args.student.0 v.items → IsOk c.reserve.result) c.self.view_is c.reserve.ensures.enough
