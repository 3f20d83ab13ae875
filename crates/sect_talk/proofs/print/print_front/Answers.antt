-- The pieces are the front of the page.
use Rattle.sect_talk.specs.Pages.{page_front}
use Rattle.sect_talk.proofs.print.print_front.Goals as goal

pub returns-clause-text : goal.returns-clause-text
unfolding page_front
returns-clause-text c = rw (← c.code_text.ensures, ← c.phrase.ensures, ← c.kind_text.ensures) c.append_all.ensures.text
