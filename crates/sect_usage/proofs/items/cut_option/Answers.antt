-- What stands behind the first `=` is a text.
use Rattle.sect_usage.proofs.Texts.{behind_equals}
use Rattle.sect_usage.proofs.items.cut_option.Goals as goal

pub with_value-requires : goal.with_value-requires
with_value-requires c = behind_equals c.args.text.now c.in-Some.at c.requires c.in-Some.ensures
