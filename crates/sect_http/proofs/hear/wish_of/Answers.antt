use Rattle.std.proofs.Common.{take, drop}
use Rattle.sect_http.proofs.Heads.{asks_whole}
use Rattle.sect_http.proofs.hear.wish_of.Goals as goal

pub returns-in-Ok : goal.returns-in-Ok
returns-in-Ok c = λ h b same. asks_whole c.args.bytes.now c.args.head.now h (take c.args.len (drop c.args.head.now.len c.args.bytes.now)) c.in-Ok.errand c.args.closing b c.in-Ok.ensures.errand c.in-Ok.ensures.fits same
