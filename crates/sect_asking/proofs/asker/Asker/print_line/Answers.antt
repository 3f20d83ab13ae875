use Rattle.std.proofs.Common.{sym, subst}
use Rattle.sect_asking.specs.Asks.{HasReply}
use Rattle.sect_asking.proofs.Asking.{told_line}
use Rattle.sect_asking.proofs.asker.Asker.print_line.Goals as goal

pub returns-in-Some-clause-text : goal.returns-in-Some-clause-text
returns-in-Some-clause-text g c = rw (told_line g.O.Object.is_told g.met.O.TextObject.tells_texts c.self.inside.desk.log c.args.answer.now c.in-Done.place c.in-Done.reply c.in-Some.text.now
    (subst (λ a. HasReply a.desk.log c.args.answer.now) (sym c.self.view_is) c.requires) c.in-Done.is c.in-Some.ensures)
    c.print_told.ensures.text
