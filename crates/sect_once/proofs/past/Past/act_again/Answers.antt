-- The row is that of the entry whose reply is printed behind the request.
use Rattle.std.proofs.Common.{refl, sym, subst, ◌∙◌}
use Rattle.sect_once.specs.declared.entry.Entry.{Entry}
use Rattle.sect_once.specs.History.{HasRow, entries_of}
use Rattle.sect_once.proofs.Openings.{few}
use Rattle.sect_once.proofs.Pasts.{key_free, past_added, past_resumed, past_same, row_behind}
use Rattle.sect_once.proofs.past.Past.act_again.Goals as goal

pub add-requires : goal.add-requires
add-requires g c = key_free g.O.Object.start g.O.Object.stepped g.O.Object.is_row (g.O.Object.state c.self.inside.object.value) (entries_of g.O.Object.entry_of c.self.inside.rows.texts) c.self.inside.places.keys c.self.inside.rows.texts c.args.self.now c.self.invariant c.self.view_is
    c.args.id c.key_of-key.result c.key_of-key.ensures.key c.key_of-key.ensures.small c.requires.new

pub invariant_of-self-in-Ok-add : goal.invariant_of-self-in-Ok-add
invariant_of-self-in-Ok-add g c = past_added g.O.Object.start g.O.Object.stepped g.O.Object.is_row g.O.Object.entry_of g.met.O.Object.reads_row
    (g.O.Object.state c.self.inside.object.value) (g.O.Object.state c.step_in.new.object.value) c.self.inside.rows.texts c.add.new.rows.texts c.self.inside.places.keys c.add.new.places.keys
    c.args.id c.args.day c.args.command.now c.in_ok-reply.reply c.key_of-key.result c.args.row.now c.args.self.now c.self.invariant c.self.view_is c.in-Ok-add.ensures.rows
    c.in_ok-reply.ensures.state c.in_ok-reply.ensures.reply (few g.O.Object.is_row c.args.self.now.entries c.requires.room) c.requires.new
    c.key_of-key.ensures.small c.key_of-key.ensures.key c.in-Ok-add.ensures.keys
    (subst (g.O.Object.is_row (record { id = c.args.id; day = c.args.day; command = c.args.command.now; reply = c.in_ok-reply.reply })) (sym c.as_slice.ensures.value ∙ c.is_same.ensures c.if-not-is_same.false)
    (c.in-Ok.ensures.row c.args.id c.args.day c.args.command.now c.requires.text (subst (λ reply. HasRow g.O.Object.is_row (record { id = c.args.id; day = c.args.day; command = c.args.command.now; reply = reply })) (sym c.in_ok-reply.ensures.reply)
    (row_behind g.O.Object.start g.O.Object.stepped g.O.Object.is_row g.O.Object.may_ask g.met.O.Object.next_has_row (g.O.Object.state c.self.inside.object.value) (entries_of g.O.Object.entry_of c.self.inside.rows.texts) c.self.inside.places.keys c.self.inside.rows.texts
    c.self.invariant c.args.id c.args.day c.args.command.now c.requires.askable))))

pub returns-in-Ok-add-clause-taken : goal.returns-in-Ok-add-clause-taken
returns-in-Ok-add-clause-taken g c =
    let made : Entry g.row.O-Command.Denot g.row.O-Reply.Denot = record { id = c.args.id; day = c.args.day; command = c.args.command.now; reply = c.in_ok-reply.reply } in
    let written : g.O.Object.is_row made c.args.row.now =
    (subst (g.O.Object.is_row (record { id = c.args.id; day = c.args.day; command = c.args.command.now; reply = c.in_ok-reply.reply })) (sym c.as_slice.ensures.value ∙ c.is_same.ensures c.if-not-is_same.false)
    (c.in-Ok.ensures.row c.args.id c.args.day c.args.command.now c.requires.text (subst (λ reply. HasRow g.O.Object.is_row (record { id = c.args.id; day = c.args.day; command = c.args.command.now; reply = reply })) (sym c.in_ok-reply.ensures.reply)
    (row_behind g.O.Object.start g.O.Object.stepped g.O.Object.is_row g.O.Object.may_ask g.met.O.Object.next_has_row (g.O.Object.state c.self.inside.object.value) (entries_of g.O.Object.entry_of c.self.inside.rows.texts) c.self.inside.places.keys c.self.inside.rows.texts
    c.self.invariant c.args.id c.args.day c.args.command.now c.requires.askable)))) in
    let more = past_resumed g.O.Object.start g.O.Object.stepped g.O.Object.is_row g.O.Object.entry_of g.met.O.Object.reads_row
    (g.O.Object.state c.self.inside.object.value) (g.O.Object.state c.step_in.new.object.value) c.self.inside.rows.texts c.add.new.rows.texts c.self.inside.places.keys
    made c.args.row.now c.args.self.now c.self.invariant c.self.view_is c.in-Ok-add.ensures.rows (sym c.in_ok-reply.ensures.reply) written in
    (made, refl, written, more.0, more.1)

pub invariant_of-self-in-Err : goal.invariant_of-self-in-Err
invariant_of-self-in-Err g c = past_same g.O.Object.start g.O.Object.stepped g.O.Object.is_row g.O.Object.entry_of g.met.O.Object.reads_row
    (g.O.Object.state c.self.inside.object.value) (g.O.Object.state c.take_back-in-Err.new.object.value) c.self.inside.rows.texts c.add.new.rows.texts c.self.inside.places.keys c.add.new.places.keys
    c.self.invariant (c.take_back-in-Err.ensures (g.O.Object.state c.self.inside.object.value) c.in_ok-reply.ensures.undo) c.in-Err.ensures.rows_stay c.in-Err.ensures.keys_stay
