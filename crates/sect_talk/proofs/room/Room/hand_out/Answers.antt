use Rattle.std.proofs.Common.{sym}
use Rattle.sect_talk.proofs.Stored.{drop-stored}
use Rattle.sect_talk.proofs.room.Room.hand_out.Goals as goal

pub returns : goal.returns
returns c =
    let fits = c.self.invariant in
    rw (← c.self.view_is) (sym (drop-stored c.self.inside.bytes.items c.self.inside.start c.self.inside.end c.args.count fits.0 fits.1 (rw c.self.view_is c.requires)))
