-- By the rows, one after the other.
use Rattle.sect_app.proofs.TableTexts.{tables_fit}
use Rattle.sect_app.proofs.fitting.each_command_of_a_table_has_a_text.Goals as goal

pub returns : goal.returns
returns c = tables_fit
