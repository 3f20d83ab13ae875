-- in place, or none behind the others
use Rattle.std.proofs.Common.{◌∙◌}
use Rattle.sect_rules.proofs.OptionLemmas.{none-option, past-options}
use Rattle.sect_rules.proofs.RisingLemmas.{plain-option}
use Rattle.sect_rules.proofs.parted.plain_option.Goals as goal

pub returns-then-i-rows-clause-value : goal.returns-then-i-rows-clause-value
returns-then-i-rows-clause-value c = c.row_option.ensures.value ∙ plain-option c.args.rows.now c.args.i c.requires c.if-i-rows.true

pub returns-then-i-rows-2-clause-value : goal.returns-then-i-rows-2-clause-value
returns-then-i-rows-2-clause-value c = none-option c.args.rows.now c.args.i c.if-i-rows-2.true

pub returns-else-i-rows-2-clause-value : goal.returns-else-i-rows-2-clause-value
returns-else-i-rows-2-clause-value c = past-options c.args.rows.now c.args.i c.if-i-rows.false c.if-i-rows-2.false
