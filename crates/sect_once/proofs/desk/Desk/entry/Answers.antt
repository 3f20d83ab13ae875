use Rattle.std.proofs.Common.{arith, ap, sym, ◌∙◌, length}
use Rattle.sect_once.specs.History.{history}
use Rattle.sect_once.proofs.Logs.{history-log_of}
use Rattle.sect_once.proofs.desk.Desk.entry.Goals as goal

pub entry-requires : goal.entry-requires
entry-requires g c = let same = ap (λ d. length (history d.log)) (sym c.self.view_is) ∙ ap length (history-log_of 0 c.self.inside.unkept.items c.self.inside.past.entries) in
    omega (arith, same, c.requires)

pub returns : goal.returns
returns g c = rw (← c.self.view_is, history-log_of 0 c.self.inside.unkept.items c.self.inside.past.entries) c.entry.ensures
