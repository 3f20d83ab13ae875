-- The place stands before the space, and nothing behind it.
use Rattle.std.proofs.Common.{◌≡◌, drop, [], arith, refl}
use Rattle.std.proofs.lemmas.List.{drop_all}
use Rattle.sect_asking.proofs.answer.put_place.Goals as goal

pub returns-clause-written : goal.returns-clause-written
returns-clause-written c =
    let none : drop 24 c.args.bytes.now ≡ [] = drop_all 24 c.args.bytes.now (omega (arith, c.told-bytes)) in
    rw (c.put_long.ensures.written, c.from.ensures, c.put-start.ensures.written, none) refl
