use Rattle.std.proofs.Common.{refl}
use Rattle.sect_talk.specs.Asked.{Head}
use Rattle.sect_http.proofs.Heads.{refused_head}
use Rattle.sect_http.proofs.hear.refused.Goals as goal

pub returns : goal.returns
returns c = (Head c.requires.0, refused_head c.args.bytes.now _ c.args.head.now c.requires.0 c.args.why c.requires.1 c.requires.3 refl c.requires.2.headless refl)
