use Rattle.std.proofs.Common.{arith, ap, ◌∙◌, drop}
use Rattle.sect_once.proofs.Acting.{told_from}
use Rattle.sect_once.proofs.Logs.{history-log_of}
use Rattle.sect_once.proofs.desk.Desk.reply_text.Goals as goal

pub returns-then-from : goal.returns-then-from
returns-then-from g c = rw (← c.self.view_is, history-log_of 0 c.self.inside.unkept.items c.self.inside.past.entries)
    (told_from g.O.Object.is_told c.self.inside.past.entries c.self.inside.row.items c.self.inside.reply_at c.in_ok-at.at c.args.place c.bytes_from.result.now
    c.self.invariant.last c.in_ok-at.was (omega (arith, c.from.ensures, c.if-from.true, c.from-2.ensures, c.acted.ensures))
    (c.bytes_from.ensures ∙ ap (drop c.in_ok-at.at) c.as_slice.ensures.value))
