use Rattle.std.proofs.Common.{sym, subst}
use Rattle.sect_once.specs.History.{HasRow, entries_of}
use Rattle.sect_once.proofs.Pasts.{key_free, past_added, past_adds, past_same, row_behind}
use Rattle.sect_once.proofs.past.Past.act.Goals as goal

pub keep-requires : goal.keep-requires
keep-requires g c = key_free g.O.Object.start g.O.Object.stepped g.O.Object.is_row (g.O.Object.state c.self.inside.object.value) (entries_of g.O.Object.entry_of c.self.inside.rows.texts) c.self.inside.places.keys c.self.inside.rows.texts c.args.self.now c.self.invariant c.self.view_is
    c.args.id c.key_of-key.result c.key_of-key.ensures.key c.key_of-key.ensures.small c.requires.new

pub invariant_of-self-in-Ok-keep : goal.invariant_of-self-in-Ok-keep
invariant_of-self-in-Ok-keep g c = past_added g.O.Object.start g.O.Object.stepped g.O.Object.is_row g.O.Object.entry_of g.met.O.Object.reads_row
    (g.O.Object.state c.self.inside.object.value) (g.O.Object.state c.step_in.new.object.value) c.self.inside.rows.texts c.keep.new.rows.texts c.self.inside.places.keys c.keep.new.places.keys
    c.args.id c.args.day c.args.command.now c.in-Ok-step_in.reply c.key_of-key.result c.as_slice-text.result.now c.args.self.now c.self.invariant c.self.view_is c.in-Ok-keep.ensures.added
    c.in-Ok-step_in.ensures.state c.in-Ok-step_in.ensures.reply c.requires.notes c.requires.new c.key_of-key.ensures.small c.key_of-key.ensures.key c.in-Ok-keep.ensures.keys
    (subst (g.O.Object.is_row (record { id = c.args.id; day = c.args.day; command = c.args.command.now; reply = c.in-Ok-step_in.reply })) (sym c.as_slice-text.ensures.value) (c.in-Ok-print_reply.ensures.row c.args.id c.args.day c.args.command.now c.in-Ok.ensures (subst (λ reply. HasRow g.O.Object.is_row (record { id = c.args.id; day = c.args.day; command = c.args.command.now; reply = reply })) (sym c.in-Ok-step_in.ensures.reply)
    (row_behind g.O.Object.start g.O.Object.stepped g.O.Object.is_row g.O.Object.may_ask g.met.O.Object.next_has_row (g.O.Object.state c.self.inside.object.value) (entries_of g.O.Object.entry_of c.self.inside.rows.texts) c.self.inside.places.keys c.self.inside.rows.texts
    c.self.invariant c.args.id c.args.day c.args.command.now c.requires.askable))))

pub returns-in-Ok-keep-clause-ok : goal.returns-in-Ok-keep-clause-ok
returns-in-Ok-keep-clause-ok g c = past_adds g.O.Object.start g.O.Object.stepped g.O.Object.is_row g.O.Object.entry_of g.met.O.Object.reads_row
    (g.O.Object.state c.self.inside.object.value) (g.O.Object.state c.step_in.new.object.value) c.self.inside.rows.texts c.keep.new.rows.texts c.self.inside.places.keys _ _
    c.args.id c.args.day c.args.command.now c.in-Ok-step_in.reply c.as_slice-text.result.now c.args.self.now c.self.invariant c.self.view_is c.in-Ok-keep.ensures.added
    c.in-Ok-step_in.ensures.state c.in-Ok-step_in.ensures.reply
    (subst (g.O.Object.is_row (record { id = c.args.id; day = c.args.day; command = c.args.command.now; reply = c.in-Ok-step_in.reply })) (sym c.as_slice-text.ensures.value) (c.in-Ok-print_reply.ensures.row c.args.id c.args.day c.args.command.now c.in-Ok.ensures (subst (λ reply. HasRow g.O.Object.is_row (record { id = c.args.id; day = c.args.day; command = c.args.command.now; reply = reply })) (sym c.in-Ok-step_in.ensures.reply)
    (row_behind g.O.Object.start g.O.Object.stepped g.O.Object.is_row g.O.Object.may_ask g.met.O.Object.next_has_row (g.O.Object.state c.self.inside.object.value) (entries_of g.O.Object.entry_of c.self.inside.rows.texts) c.self.inside.places.keys c.self.inside.rows.texts
    c.self.invariant c.args.id c.args.day c.args.command.now c.requires.askable)))) c.in-Ok-keep.ensures.rows

pub invariant_of-self-in-Err-keep : goal.invariant_of-self-in-Err-keep
invariant_of-self-in-Err-keep g c = past_same g.O.Object.start g.O.Object.stepped g.O.Object.is_row g.O.Object.entry_of g.met.O.Object.reads_row
    (g.O.Object.state c.self.inside.object.value) (g.O.Object.state c.take_back-in-Err.new.object.value) c.self.inside.rows.texts c.keep.new.rows.texts c.self.inside.places.keys c.keep.new.places.keys
    c.self.invariant (c.take_back-in-Err.ensures (g.O.Object.state c.self.inside.object.value) c.in-Ok-step_in.ensures.undo) c.in-Err.ensures.added_stay c.in-Err.ensures.keys_stay
