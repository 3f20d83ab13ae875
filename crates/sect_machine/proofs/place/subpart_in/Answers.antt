-- The first configuration that has the section.
use Rattle.std.proofs.Common.{◌≡◌, ◌+◌, ◌≤◌, ◌∷◌, ◌∙◌, arith, drop, length, ap, sym}
use Rattle.std.proofs.lemmas.List.{drop_more, drop_all}
use Rattle.std.specs.Prelude.{Some, None}
use Rattle.sect_machine.proofs.PlaceLemmas.{id_in, subparts_in, id-found, id-passed}
use Rattle.sect_machine.proofs.place.subpart_in.Goals as goal

pub loop-config-init : goal.loop-config-init
loop-config-init c = ap (λ gs. id_in c.args.section (subparts_in gs)) c.as_slice-config-items.ensures

pub returns-in-Some : goal.returns-in-Some
returns-in-Some c =
    let s = c.args.section in
    let gs = c.as_slice-config-items.result.now in
    let i = c.loop-config.config-index in
    let g = c.config-item.result in
    let at : drop i gs ≡ g ∷ drop (i + 1) gs = drop_more gs i g c.loop-config-test.true ∙ ap (λ x. x ∷ drop (i + 1) gs) (sym c.config-item.is) in
    let has : id_in s g.subparts ≡ Some c.in-Some.id = sym (ap (id_in s) c.as_slice.ensures) ∙ sym c.subpart_of.ensures ∙ c.in-Some.is in
    sym (sym c.loop-config.invariant ∙ ap (λ x. id_in s (subparts_in x)) at ∙ id-found s g (drop (i + 1) gs) c.in-Some.id has)

pub loop-config-preserved : goal.loop-config-preserved
loop-config-preserved c =
    let s = c.args.section in
    let gs = c.as_slice-config-items.result.now in
    let i = c.loop-config.config-index in
    let g = c.config-item.result in
    let at : drop i gs ≡ g ∷ drop (i + 1) gs = drop_more gs i g c.loop-config-test.true ∙ ap (λ x. x ∷ drop (i + 1) gs) (sym c.config-item.is) in
    let none : id_in s g.subparts ≡ None = sym (ap (id_in s) c.as_slice.ensures) ∙ sym c.subpart_of.ensures ∙ c.in-None.is in
    sym (id-passed s g (drop (i + 1) gs) none) ∙ sym (ap (λ x. id_in s (subparts_in x)) at) ∙ c.loop-config.invariant

pub returns : goal.returns
returns c =
    let gs = c.as_slice-config-items.result.now in
    let i = c.loop-config.config-index in
    let all : length gs ≤ i = omega (arith, c.loop-config-test.false) in
    sym (ap (λ x. id_in c.args.section (subparts_in x)) (drop_all i gs all)) ∙ c.loop-config.invariant
