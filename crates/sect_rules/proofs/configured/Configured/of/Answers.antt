-- the sections of the next subpart
use Rattle.std.specs.Prelude.{◌≡◌}
use Rattle.std.specs.List.{All}
use Rattle.std.proofs.Common.{◌∙◌, ap, sym, subst}
use Rattle.sect_model.specs.Choice.{subparts_of}
use Rattle.sect_moment.specs.Found.{IsSection}
use Rattle.sect_rules.specs.Wanted.{sections_on}
use Rattle.sect_rules.proofs.configured.Configured.of.Goals as goal

pub next_sections-requires : goal.next_sections-requires
next_sections-requires c =
    let by = c.args.by.now in
    let w : c.world.result.now.world ≡ by.on.wanted.world = c.world.ensures ∙ ap (λ v. v.world) c.wanted.ensures ∙ ap (λ v. v.wanted.world) c.on-on.ensures in
    let course : c.course.result ≡ by.on.course = c.course.ensures ∙ ap (λ v. v.course) c.on-on.ensures in
    c.requires ∙ (λ i. subparts_of (sym w i) (sym course i) c.args.config)

pub invariant_of-result : goal.invariant_of-result
invariant_of-result c =
    let by = c.args.by.now in
    let w : c.world.result.now.world ≡ by.on.wanted.world = c.world.ensures ∙ ap (λ v. v.world) c.wanted.ensures ∙ ap (λ v. v.wanted.world) c.on-on.ensures in
    let course : c.course.result ≡ by.on.course = c.course.ensures ∙ ap (λ v. v.course) c.on-on.ensures in (
      c.requires,
      c.new-rows.ensures ∙ c.next_sections.ensures.value ∙ (λ i. sections_on (w i) (course i) c.args.config (c.as_slice.ensures i)),
      subst (λ v. All (IsSection v) c.new-rows.result) w (subst (All (IsSection c.world.result.now.world)) (sym c.new-rows.ensures) c.next_sections.ensures.found),
    )
