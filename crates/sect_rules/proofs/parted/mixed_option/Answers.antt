-- obligatory ones, the others, and none
use Rattle.std.proofs.Common.{◌∙◌, arith}
use Rattle.sect_rules.proofs.OptionLemmas.{must-option, other-option, none-option, past-options}
use Rattle.sect_rules.proofs.parted.mixed_option.Goals as goal

pub returns-then-i-musts-clause-value : goal.returns-then-i-musts-clause-value
returns-then-i-musts-clause-value c =
    let rs = c.args.rows.now in
    c.part_option.ensures.value ∙ must-option rs c.args.i (omega (arith, c.requires.musts, c.if-i-musts.true))

pub returns-then-i-rows-clause-value : goal.returns-then-i-rows-clause-value
returns-then-i-rows-clause-value c =
    let rs = c.args.rows.now in
    c.part_option-then-i-rows.ensures.value ∙ other-option rs c.args.i c.args.musts c.requires.musts c.if-i-musts.false c.if-i-rows.true

pub returns-then-i-rows-2-clause-value : goal.returns-then-i-rows-2-clause-value
returns-then-i-rows-2-clause-value c =
    none-option c.args.rows.now c.args.i c.if-i-rows-2.true

pub returns-else-i-rows-2-clause-value : goal.returns-else-i-rows-2-clause-value
returns-else-i-rows-2-clause-value c =
    past-options c.args.rows.now c.args.i c.if-i-rows.false c.if-i-rows-2.false
