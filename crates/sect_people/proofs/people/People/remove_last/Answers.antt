-- The last student goes, with the id and the place at the rank.
use Rattle.std.proofs.Common.{◌≡◌, ◌∙◌, ◌<◌, ◌-◌, suc, ap, sym, subst, refl, arith, length, Some}
use Rattle.std.specs.List.{slice_get}
use Rattle.std.specs.List.Sorted.{IsNonDecreasingBy}
use Rattle.std.specs.Option.{option_map}
use Rattle.std.proofs.lemmas.Option.{slice_get_read}
use Rattle.sect_people.specs.Index.{rank}
use Rattle.sect_people.proofs.IndexLemmas.{ids-rise}
use Rattle.sect_people.proofs.ChangeLemmas.{keeps-as, last-removed, last-within}
use Rattle.sect_people.proofs.people.People.remove_last.Goals as goal

pub rank-rank-requires : goal.rank-rank-requires
rank-rank-requires c =
    subst (IsNonDecreasingBy (λ d. d.0)) (sym (c.as_slice.ensures.value ∙ c.self.invariant.ids_right)) (ids-rise c.self.inside.students.items)

pub remove-requires : goal.remove-requires
remove-requires c =
    let i = c.self.inside in
    let some : 0 < length i.students.items = subst (λ ss. 0 < length ss) (sym c.self.view_is) c.requires in
    let len : suc (c.len-last.result - 1) ≡ length i.students.items = omega (arith, some, c.len-last.ensures, i.students.ok.0) in
    let at = c.rank-rank.ensures ∙ (λ j. rank (λ d. d.0) (c.row.ensures j).id.0 (c.as_slice.ensures.value j)) in
    let w = last-within i.students.items i.ids.items i.places.items c.self.invariant c.index.result.now (c.len-last.result - 1) c.rank-rank.result len c.index.ensures at in
    omega (arith, w, i.ids.ok.0)

pub invariant_of-self : goal.invariant_of-self
invariant_of-self c =
    let i = c.self.inside in
    let some : 0 < length i.students.items = subst (λ ss. 0 < length ss) (sym c.self.view_is) c.requires in
    let len : suc (c.len-last.result - 1) ≡ length i.students.items = omega (arith, some, c.len-last.ensures, i.students.ok.0) in
    let at = c.rank-rank.ensures ∙ (λ j. rank (λ d. d.0) (c.row.ensures j).id.0 (c.as_slice.ensures.value j)) in
    keeps-as c.remove-3.ensures.items c.remove.ensures.items c.remove-2.ensures.items
    (last-removed i.students.items i.ids.items i.places.items c.self.invariant c.index.result.now (c.len-last.result - 1) c.rank-rank.result len c.index.ensures at)

pub returns-clause-row : goal.returns-clause-row
returns-clause-row c =
    let i = c.self.inside in
    let some : 0 < length i.students.items = subst (λ ss. 0 < length ss) (sym c.self.view_is) c.requires in
    let last : c.len-last.result - 1 ≡ length i.students.items - 1 = omega (arith, c.len-last.ensures, i.students.ok.0) in
    let read = slice_get_read i.students.items (length i.students.items) (c.len-last.result - 1) c.remove-3.result refl (omega (arith, some, last)) c.remove-3.ensures.value in
    ap Some c.into_row.ensures ∙ ap (option_map (λ s. s.row)) (sym read ∙ ap (slice_get i.students.items) last)
    ∙ ap (λ ss. option_map (λ s. s.row) (slice_get ss (length ss - 1))) c.self.view_is
