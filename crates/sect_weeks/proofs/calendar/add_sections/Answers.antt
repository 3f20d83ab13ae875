-- one section more
use Rattle.sect_weeks.specs.Taken.{meetings_in, meetings_take}
use Rattle.sect_weeks.proofs.AddLemmas.{adds-more}
use Rattle.sect_weeks.proofs.calendar.add_sections.Goals as goal

pub loop-section-preserved : goal.loop-section-preserved
loop-section-preserved c =
    adds-more (λ s. meetings_take (meetings_in c.args.catalogue.now.rows s)) c.args.sections.now c.loop-section.section-index (record { 0 = 0 })
    c.args.calendar.now c.loop-section.calendar c.add_section.new.calendar c.loop-section-test.true c.loop-section.invariant c.add_section.ensures
