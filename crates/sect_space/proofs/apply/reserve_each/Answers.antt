-- A student who has room needs no memory.
use Rattle.std.proofs.Common.{◌≤◌, ◌-◌, ap, sym, subst, arith}
use Rattle.std.proofs.lemmas.Bool.{false≢true}
use Rattle.sect_roster.specs.Slots.{capacity_of}
use Rattle.sect_roster.specs.Rostered.{number_held}
use Rattle.sect_space.specs.Room.{HasRoomFor}
use Rattle.sect_space.proofs.apply.reserve_each.Goals as goal

pub returns-in_err-reserve-clause-enough : goal.returns-in_err-reserve-clause-enough
returns-in_err-reserve-clause-enough c =
    λ all.
    let l = c.loop-student in
    let s = c.student-item.result in
    let m = s.row.id.0 in
    let has : HasRoomFor c.args.roster.now c.args.n s = subst (HasRoomFor c.args.roster.now c.args.n) (sym c.student-item.is) (all l.student-index s c.loop-student-test.true) in
    let more : c.args.n ≤ capacity_of l.roster.rooms m - number_held m l.roster.items = omega (arith, has, l.invariant.1 m, ap (number_held m) l.invariant.0) in
    absurd (false≢true (c.in_err-reserve.ensures.enough (subst (λ row. c.args.n ≤ capacity_of l.roster.rooms row.id.0 - number_held row.id.0 l.roster.items) (sym c.row.ensures) more)))
