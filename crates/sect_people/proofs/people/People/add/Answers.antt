-- The student stands behind the others, and the id and the place at the rank.
use Rattle.std.proofs.Common.{◌∙◌, ap, sym, subst, arith, ◌++◌, ◌∷◌, []}
use Rattle.std.specs.List.{insert}
use Rattle.std.specs.List.Sorted.{IsNonDecreasingBy}
use Rattle.sect_people.specs.Student.{Student}
use Rattle.sect_people.specs.Index.{place_of, rank}
use Rattle.sect_people.proofs.RankLemmas.{rank_le-length}
use Rattle.sect_people.proofs.IndexLemmas.{ids-rise}
use Rattle.sect_people.proofs.ChangeLemmas.{keeps-as, added, same-length}
use Rattle.sect_people.proofs.people.People.add.Goals as goal

pub rank-rank-requires : goal.rank-rank-requires
rank-rank-requires c =
    subst (IsNonDecreasingBy (λ d. d.0)) (sym (c.as_slice.ensures.value ∙ c.reserve-2.ensures.items ∙ c.self.invariant.ids_right)) (ids-rise c.self.inside.students.items)

pub insert-requires : goal.insert-requires
insert-requires c =
    let i = c.self.inside in
    let at = c.rank-rank.ensures ∙ ap (rank (λ d. d.0) c.args.row.id.0) (c.as_slice.ensures.value ∙ c.reserve-2.ensures.items) in
    omega (arith, at, rank_le-length (λ d. d.0) c.args.row.id.0 i.ids.items, same-length i.students.items i.ids.items i.places.items c.self.invariant, i.places.ok.0, c.reserve-3.ensures.len)

pub insert-requires-2 : goal.insert-requires-2
insert-requires-2 c =
    let i = c.self.inside in
    let at = c.rank-rank.ensures ∙ ap (rank (λ d. d.0) c.args.row.id.0) (c.as_slice.ensures.value ∙ c.reserve-2.ensures.items) in
    omega (arith, at, rank_le-length (λ d. d.0) c.args.row.id.0 i.ids.items, i.ids.ok.0, c.reserve-2.ensures.len)

pub invariant_of-self-2 : goal.invariant_of-self-2
invariant_of-self-2 c =
    let i = c.self.inside in
    let at = c.rank-rank.ensures ∙ ap (rank (λ d. d.0) c.args.row.id.0) (c.as_slice.ensures.value ∙ c.reserve-2.ensures.items) in
    let s : Student = record { row = c.args.row; asks = [] } in
    keeps-as
    (c.in_ok-push.ensures.items ∙ (λ j. c.reserve.ensures.items j ++ c.new.ensures j ∷ []))
    (c.in_ok-insert-2.ensures.items ∙ ap (λ ds. insert ds c.rank-rank.result c.args.row.id) c.reserve-2.ensures.items)
    (c.in_ok-insert.ensures.items ∙ ap (λ ns. insert ns c.rank-rank.result c.len.result) c.reserve-3.ensures.items)
    (added i.students.items i.ids.items i.places.items c.self.invariant s c.rank-rank.result c.len.result
    (ap (λ ss. place_of (λ s. s.row.id.0) ss c.args.row.id.0) c.self.view_is ∙ c.requires) at
    (c.len.ensures ∙ c.reserve.ensures.len ∙ i.students.ok.0))
