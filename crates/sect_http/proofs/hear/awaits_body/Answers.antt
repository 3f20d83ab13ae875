-- The connection ended in the body, or the source failed there.
use Rattle.std.proofs.Common.{refl, inr}
use Rattle.sect_http.proofs.Heads.{begins_more, cut_in_body}
use Rattle.sect_http.proofs.hear.awaits_body.Goals as goal

pub returns-in-Err-clause-hears : goal.returns-in-Err-clause-hears
returns-in-Err-clause-hears g c =
    let r = c.requires.head in
    let bytes = c.await_body.ensures.takes in (
      refl,
      inr (cut_in_body c.await_body.new.room c.args.head.now r.0 c.args.len
          (begins_more c.args.room.now c.await_body.new.room c.args.head.now r.0 bytes.0 bytes.2 r.1 c.requires.short) r.3 c.in-Err.ensures.fault),
    )
