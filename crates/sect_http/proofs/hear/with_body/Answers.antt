use Rattle.std.proofs.Common.{refl, take, drop}
use Rattle.sect_talk.specs.Asked.{Whole}
use Rattle.sect_http.proofs.Heads.{heard_whole}
use Rattle.sect_http.proofs.hear.with_body.Goals as goal

pub returns : goal.returns
returns c =
    let h = c.requires.head.0 in
    let b = c.requires.head.1 in
    let m = c.requires.head.2 in
    let body = take c.args.len (drop c.args.head.now.len c.args.bytes.now) in
    (Whole h body, heard_whole c.args.bytes.now _ c.args.head.now h c.args.len b c.requires.there c.requires.head.3 refl m.headless (c.wish_of-wish.ensures h b m.closing))
