-- Where the id stands at the guessed place, that is its rank.
use Rattle.std.proofs.Common.{◌≡◌, ◌∙◌, ap, sym, subst, refl, arith, Some}
use Rattle.std.specs.List.{slice_get}
use Rattle.std.specs.List.Sorted.{IsNonDecreasingBy}
use Rattle.std.proofs.lemmas.Bool.{eq-eqb}
use Rattle.sect_people.specs.Index.{place_of, rank}
use Rattle.sect_people.proofs.IndexLemmas.{ids-rise, found-at, found-within}
use Rattle.sect_people.proofs.people.People.place.Goals as goal

pub stands_at-requires-clause-rising : goal.stands_at-requires-clause-rising
stands_at-requires-clause-rising c =
    subst (IsNonDecreasingBy (λ d. d.0)) (sym (c.as_slice-2.ensures.value ∙ c.self.invariant.ids_right)) (ids-rise c.self.inside.students.items)

pub index-requires : goal.index-requires
index-requires c =
    let i = c.self.inside in
    let r = c.guess-place.result in
    let at : r ≡ rank (λ d. d.0) c.args.id.0 i.ids.items = c.if-stands_at.ensures.rank refl ∙ ap (rank (λ d. d.0) c.args.id.0) c.as_slice-2.ensures.value in
    let read : slice_get i.ids.items r ≡ Some c.args.id = ap (λ ds. slice_get ds r) (sym c.as_slice-2.ensures.value) ∙ sym (c.if-stands_at.ensures.there refl) in
    omega (arith, found-within i.students.items i.ids.items i.places.items c.self.invariant c.args.id.0 r at c.args.id read, i.places.ok.0)

pub returns-then-stands_at : goal.returns-then-stands_at
returns-then-stands_at c =
    let i = c.self.inside in
    let r = c.guess-place.result in
    let at : r ≡ rank (λ d. d.0) c.args.id.0 i.ids.items = c.if-stands_at.ensures.rank refl ∙ ap (rank (λ d. d.0) c.args.id.0) c.as_slice-2.ensures.value in
    let read : slice_get i.ids.items r ≡ Some c.args.id = ap (λ ds. slice_get ds r) (sym c.as_slice-2.ensures.value) ∙ sym (c.if-stands_at.ensures.there refl) in
    found-at i.students.items i.ids.items i.places.items c.self.invariant c.args.id.0 r at c.args.id read (eq-eqb c.args.id.0 c.args.id.0 refl) c.index.result.now c.index.ensures
    ∙ ap (λ ss. place_of (λ s. s.row.id.0) ss c.args.id.0) c.self.view_is
