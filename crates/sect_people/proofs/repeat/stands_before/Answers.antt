-- A course that isn't before is in the requests or nowhere.
use Rattle.std.proofs.Common.{◌∙◌}
use Rattle.sect_people.proofs.RepeatLemmas.{any-before}
use Rattle.sect_people.proofs.repeat.stands_before.Goals as goal

pub returns-else-contains : goal.returns-else-contains
returns-else-contains c = c.stands_in.ensures ∙ any-before c.args.course c.args.before.now c.args.earlier.now c.if-contains.ensures.value
