-- An id that stands there isn't below, so no more ids are below than stand before it.
use Rattle.std.proofs.Common.{◌≤◌, ap, arith, sym}
use Rattle.std.proofs.lemmas.Bool.{eqb-true}
use Rattle.std.specs.Prelude.{◌≡◌, get_or}
use Rattle.sect_base.specs.declared.ids.StudentId.{StudentId}
use Rattle.sect_people.proofs.RankLemmas.{rank_le}
use Rattle.sect_people.proofs.rank.stands_at.Goals as goal

pub returns-then-eq-clause-rank : goal.returns-then-eq-clause-rank
returns-then-eq-clause-rank c =
    λ yes.
    let at = c.in-Some.ensures.lookup.3 in
    let d = c.in-Some.own.now in
    let same : d.0 ≡ c.args.id.0 = eqb-true d.0 c.args.id.0 (sym c.if-eq.ensures) in
    let least : c.args.id.0 ≤ (get_or c.args.ids.now c.args.place d).0 = omega (arith, same, ap (λ (x : StudentId). x.0) (at.1 d)) in
    omega (arith, rank_le (λ d. d.0) c.args.id.0 c.args.ids.now c.args.place d at.0 least, c.passes.ensures yes)
