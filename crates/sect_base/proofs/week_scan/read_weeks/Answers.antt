-- A text that says weeks is scanned as them.
use Rattle.std.specs.Prelude.{◌≡◌, false, refl}
use Rattle.std.proofs.Common.{arith, sym, ◌∙◌, ap}
use Rattle.std.proofs.lemmas.Bool.{both_ways}
use Rattle.sect_base.specs.WeekText.{weeks_text}
use Rattle.sect_base.proofs.WeekScans.{one_set}
use Rattle.sect_base.proofs.week_scan.read_weeks.Goals as goal
use Rattle.sect_base.proofs.week_scan.read_weeks.Goals.{else-weeks-ne0-via-then-weeks-ne0+else-spells_weeks, else-weeks-ne0-via-else-weeks-ne0}

pub returns-else-weeks-ne0-clause-none : goal.returns-else-weeks-ne0-clause-none
returns-else-weeks-ne0-clause-none c = λ weeks says.
    let same : c.weeks_in-weeks.result ≡ weeks = c.weeks_in-weeks.ensures.weeks ∙ one_set c.args.text.now weeks says in
    elim c.else-weeks-ne0.branch [
      | else-weeks-ne0-via-then-weeks-ne0+else-spells_weeks w ↦
          both_ways false refl (w.if-spells_weeks.ensures.1 (says.is_text ∙ ap weeks_text (sym same)))
      | else-weeks-ne0-via-else-weeks-ne0 w ↦ omega (arith, same, says.some_week, w.if-weeks-ne0.false)
    ]
