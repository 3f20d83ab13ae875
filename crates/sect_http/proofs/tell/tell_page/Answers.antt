-- The page is told, or that memory was wanted for it.
use Rattle.std.proofs.Common.{refl, sym, ap, ◌∙◌, inl, inr}
use Rattle.sect_talk.specs.Said.{no_memory}
use Rattle.sect_talk.specs.declared.page.Page.{Page}
use Rattle.sect_http.proofs.Telling.{page_long, page_told}
use Rattle.sect_http.proofs.tell.tell_page.Goals as goal

pub returns-in-Ok-clause-told : goal.returns-in-Ok-clause-told
returns-in-Ok-clause-told g c = (
  record { page = c.args.page; body = c.args.text.now },
  inl refl,
  c.tell_text.ensures.told (record { page = c.args.page; body = c.args.text.now }) c.args.closing c.args.headless
      (c.deref.ensures.value
      ∙ page_told c.args.page c.with_closing-closed.result c.args.closing c.args.headless c.args.text.now c.args.out.now.items c.print_page.new.into.items c.with_closing-closed.ensures c.requires.empty
      c.in-Ok.ensures.text)
      (ap (λ (p : Page). p.closing) c.with_closing-closed.ensures),
)

pub returns-in-Err-clause-told : goal.returns-in-Err-clause-told
returns-in-Err-clause-told g c = (
  no_memory,
  inr (refl, page_long c.args.page c.with_closing-closed.result c.args.closing c.args.headless c.args.text.now c.args.out.now.items _ c.with_closing-closed.ensures c.requires.empty c.requires.room c.in-Err.ensures.room),
  c.tell_want.ensures.told c.args.closing,
)
