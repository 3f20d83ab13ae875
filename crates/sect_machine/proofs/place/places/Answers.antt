-- Each turn adds the place of the next section.
use Rattle.std.proofs.Common.{◌≡◌, ◌+◌, ◌≤◌, ◌∷◌, ◌++◌, ◌∙◌, arith, drop, flat_map, get_or, length, ap, subst, sym}
use Rattle.std.proofs.lemmas.List.{drop_more, drop_all, append-nil}
use Rattle.sect_base.specs.declared.ids.SectionId.{SectionId}
use Rattle.sect_model.specs.Change.{place_of}
use Rattle.sect_machine.proofs.PlaceLemmas.{PlacesOn, places-more}
use Rattle.sect_machine.proofs.place.places.Goals as goal

pub loop-section-init : goal.loop-section-init
loop-section-init c = record { led = ap (λ ps. ps ++ flat_map (place_of c.args.world.now.world) c.args.sections.now) c.new-places.ensures.items; own = c.requires }

pub loop-section-preserved : goal.loop-section-preserved
loop-section-preserved c =
    let w = c.args.world.now.world in
    let ss = c.args.sections.now in
    let i = c.loop-section.section-index in
    let none : SectionId = record { 0 = 0 } in
    let s : SectionId = get_or ss i none in
    let at : drop i ss ≡ s ∷ drop (i + 1) ss = drop_more ss i none c.loop-section-test.true in
    places-more w c.recall_kept.ensures.rows_pass c.args.offering ss c.loop-section.places.items c.add_place.new.places.items s (drop (i + 1) ss)
    (subst (PlacesOn w c.args.offering ss c.loop-section.places.items) at c.loop-section.invariant) c.in_ok-add_place.ensures

pub returns : goal.returns
returns c =
    let w = c.args.world.now.world in
    let ss = c.args.sections.now in
    let i = c.loop-section.section-index in
    let all : length ss ≤ i = omega (arith, c.loop-section-test.false) in
    c.from_vec.ensures ∙ sym (append-nil c.loop-section.places.items) ∙ sym (ap (λ x. c.loop-section.places.items ++ flat_map (place_of w) x) (drop_all i ss all)) ∙ c.loop-section.invariant.led
