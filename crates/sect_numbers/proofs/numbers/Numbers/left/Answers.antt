-- The numbers of the world with one enrolment less.
use Rattle.sect_numbers.proofs.ToldLemmas.{ready-out, told-out}
use Rattle.sect_numbers.proofs.numbers.Numbers.left.Goals as goal

pub step-requires : goal.step-requires
step-requires c = ready-out c.requires.0 c.requires.1 c.args.enrolment.now c.args.offering c.args.over c.requires.3 c.args.self.now c.requires.2

pub returns-clause-told : goal.returns-clause-told
returns-clause-told c = λ w more told one. told-out w more c.args.enrolment.now c.args.offering c.args.over one c.args.self.now c.step.new.self told c.step.ensures
