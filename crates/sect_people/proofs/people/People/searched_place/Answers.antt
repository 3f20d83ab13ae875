-- The rank tells the entry, if there is one.
use Rattle.std.proofs.Common.{◌≡◌, ◌∙◌, ap, sym, subst, Some, None, option_copied}
use Rattle.std.specs.List.{slice_get}
use Rattle.std.specs.List.Sorted.{IsNonDecreasingBy}
use Rattle.sect_people.specs.Index.{place_of, rank}
use Rattle.sect_people.proofs.IndexLemmas.{ids-rise, got, found-none, found-other, found-at}
use Rattle.sect_people.proofs.people.People.searched_place.Goals as goal

pub rank-rank-requires : goal.rank-rank-requires
rank-rank-requires c =
    subst (IsNonDecreasingBy (λ d. d.0)) (sym (c.as_slice.ensures.value ∙ c.self.invariant.ids_right)) (ids-rise c.self.inside.students.items)

pub returns-in_err-found : goal.returns-in_err-found
returns-in_err-found c =
    let i = c.self.inside in
    let at : c.rank-rank.result ≡ rank (λ d. d.0) c.args.id.0 i.ids.items = c.rank-rank.ensures ∙ ap (rank (λ d. d.0) c.args.id.0) c.as_slice.ensures.value in
    let read : slice_get i.ids.items c.rank-rank.result ≡ None =
    ap (λ ds. slice_get ds c.rank-rank.result) (sym c.deref.ensures.value) ∙ sym (got c.get.result c.deref.result.now c.rank-rank.result c.get.ensures.lookup.3) ∙ ap option_copied c.in_err-found.was in
    c.from_residual.ensures ∙ found-none i.students.items i.ids.items i.places.items c.self.invariant c.args.id.0 c.rank-rank.result at read
    ∙ ap (λ ss. place_of (λ s. s.row.id.0) ss c.args.id.0) c.self.view_is

pub returns-then-eq : goal.returns-then-eq
returns-then-eq c =
    let i = c.self.inside in
    let at : c.rank-rank.result ≡ rank (λ d. d.0) c.args.id.0 i.ids.items = c.rank-rank.ensures ∙ ap (rank (λ d. d.0) c.args.id.0) c.as_slice.ensures.value in
    let read : slice_get i.ids.items c.rank-rank.result ≡ Some c.in_ok-found.field-0.now =
    ap (λ ds. slice_get ds c.rank-rank.result) (sym c.deref.ensures.value) ∙ sym (got c.get.result c.deref.result.now c.rank-rank.result c.get.ensures.lookup.3) ∙ ap option_copied c.in_ok-found.was in
    found-at i.students.items i.ids.items i.places.items c.self.invariant c.args.id.0 c.rank-rank.result at c.in_ok-found.field-0.now read (sym c.if-eq.ensures) c.index.result.now c.index.ensures
    ∙ ap (λ ss. place_of (λ s. s.row.id.0) ss c.args.id.0) c.self.view_is

pub returns-else-eq : goal.returns-else-eq
returns-else-eq c =
    let i = c.self.inside in
    let at : c.rank-rank.result ≡ rank (λ d. d.0) c.args.id.0 i.ids.items = c.rank-rank.ensures ∙ ap (rank (λ d. d.0) c.args.id.0) c.as_slice.ensures.value in
    let read : slice_get i.ids.items c.rank-rank.result ≡ Some c.in_ok-found.field-0.now =
    ap (λ ds. slice_get ds c.rank-rank.result) (sym c.deref.ensures.value) ∙ sym (got c.get.result c.deref.result.now c.rank-rank.result c.get.ensures.lookup.3) ∙ ap option_copied c.in_ok-found.was in
    found-other i.students.items i.ids.items i.places.items c.self.invariant c.args.id.0 c.rank-rank.result at c.in_ok-found.field-0.now read (sym c.if-eq.ensures)
    ∙ ap (λ ss. place_of (λ s. s.row.id.0) ss c.args.id.0) c.self.view_is
