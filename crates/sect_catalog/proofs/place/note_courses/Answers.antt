-- One course's entry more.
use Rattle.std.proofs.Common.{◌∙◌, ap, ◌++◌, ◌∷◌, [], get_or}
use Rattle.std.proofs.lemmas.List.{get_or_default}
use Rattle.sect_base.specs.declared.limit.Limit.TheVariants.{Unlimited}
use Rattle.sect_catalog.specs.declared.row.CourseRow.{CourseRow}
use Rattle.sect_catalog.specs.Place.{course_entry}
use Rattle.sect_catalog.proofs.PlacedLemmas.{noted}
use Rattle.sect_catalog.proofs.place.note_courses.Goals as goal

pub loop-config-preserved : goal.loop-config-preserved
loop-config-preserved c =
    let d : CourseRow = record { id = record { 0 = 0 }; limit = Unlimited; credits = 0 } in
    let x : CourseRow = get_or c.args.courses.now c.loop-config.config d in
    noted (course_entry c.args.at) c.args.courses.now c.loop-config.config x c.args.entries.now.items c.loop-config.entries.items c.push.new.self.items c.loop-config-test.true
    (get_or_default c.args.courses.now c.loop-config.config d x c.loop-config-test.true) c.loop-config.invariant
    (c.in_ok-push.ensures.items ∙ ap (λ id. c.loop-config.entries.items ++ (id, record c.args.at { config = c.loop-config.config }) ∷ []) c.key.ensures)
