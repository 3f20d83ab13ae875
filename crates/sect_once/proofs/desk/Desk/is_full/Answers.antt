use Rattle.std.proofs.Common.{arith, ap, sym, length, inr, ◌∙◌, ⊎_elim}
use Rattle.sect_once.proofs.Logs.{history-log_of}
use Rattle.sect_once.proofs.desk.Desk.is_full.Goals as goal

pub returns-else-notes-ge-MOST_NOTES : goal.returns-else-notes-ge-MOST_NOTES
returns-else-notes-ge-MOST_NOTES g c = let long = c.notes.ensures ∙ ap (λ d. length d.log) (sym c.self.view_is) in
    rw (← c.self.view_is, history-log_of 0 c.self.inside.unkept.items c.self.inside.past.entries)
    (λ h. inr (c.is_heavy.ensures.0 h), λ f. ⊎_elim (λ big. absurd (omega (arith, long, big))) (λ heavy. c.is_heavy.ensures.1 heavy) f)
