use Rattle.std.proofs.Common.{sym, ◌∙◌}
use Rattle.sect_once.specs.History.{entries_of}
use Rattle.sect_once.proofs.Openings.{few}
use Rattle.sect_once.proofs.Pasts.{key_free, past_added, past_resumed, past_same}
use Rattle.sect_once.proofs.past.Past.resume.Goals as goal

pub add-requires : goal.add-requires
add-requires g c = key_free g.O.Object.start g.O.Object.stepped g.O.Object.is_row (g.O.Object.state c.self.inside.object.value) (entries_of g.O.Object.entry_of c.self.inside.rows.texts) c.self.inside.places.keys c.self.inside.rows.texts c.args.self.now c.self.invariant c.self.view_is
    c.args.entry.id c.key_of-key.result c.key_of-key.ensures.key c.key_of-key.ensures.small c.requires.new

pub invariant_of-self-in-Ok : goal.invariant_of-self-in-Ok
invariant_of-self-in-Ok g c = past_added g.O.Object.start g.O.Object.stepped g.O.Object.is_row g.O.Object.entry_of g.met.O.Object.reads_row
    (g.O.Object.state c.self.inside.object.value) (g.O.Object.state c.step_in.new.object.value) c.self.inside.rows.texts c.add.new.rows.texts c.self.inside.places.keys c.add.new.places.keys
    c.args.entry.id c.args.entry.day c.args.entry.command c.args.entry.reply c.key_of-key.result c.args.row.now c.args.self.now c.self.invariant c.self.view_is c.in-Ok.ensures.rows
    c.in_ok-reply.ensures.state (sym (c.same_reply.ensures.0 c.if-not-same_reply.false) ∙ c.in_ok-reply.ensures.reply) (few g.O.Object.is_row c.args.self.now.entries c.requires.room) c.requires.new
    c.key_of-key.ensures.small c.key_of-key.ensures.key c.in-Ok.ensures.keys c.requires.written

pub returns-in-Ok-clause-resumed : goal.returns-in-Ok-clause-resumed
returns-in-Ok-clause-resumed g c = past_resumed g.O.Object.start g.O.Object.stepped g.O.Object.is_row g.O.Object.entry_of g.met.O.Object.reads_row
    (g.O.Object.state c.self.inside.object.value) (g.O.Object.state c.step_in.new.object.value) c.self.inside.rows.texts c.add.new.rows.texts c.self.inside.places.keys
    c.args.entry c.args.row.now c.args.self.now c.self.invariant c.self.view_is c.in-Ok.ensures.rows
    (sym c.in_ok-reply.ensures.reply ∙ c.same_reply.ensures.0 c.if-not-same_reply.false) c.requires.written

pub invariant_of-self-in-Err : goal.invariant_of-self-in-Err
invariant_of-self-in-Err g c = past_same g.O.Object.start g.O.Object.stepped g.O.Object.is_row g.O.Object.entry_of g.met.O.Object.reads_row
    (g.O.Object.state c.self.inside.object.value) (g.O.Object.state c.take_back-in-Err.new.object.value) c.self.inside.rows.texts c.add.new.rows.texts c.self.inside.places.keys c.add.new.places.keys
    c.self.invariant (c.take_back-in-Err.ensures (g.O.Object.state c.self.inside.object.value) c.in_ok-reply.ensures.undo) c.in-Err.ensures.rows_stay c.in-Err.ensures.keys_stay
