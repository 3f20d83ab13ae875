-- The constant is the text, by computation.
use Rattle.std.proofs.Common.{refl}
use Rattle.std.specs.Fmt.{digits}
use Rattle.sect_talk.specs.Pages.{code_text, page_end, page_front, phrase}
use Rattle.sect_talk.proofs.print.no_memory_page.Goals as goal

pub returns : goal.returns
unfolding digits code_text page_end page_front phrase
returns c = refl
