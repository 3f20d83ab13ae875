-- Nothing was said, so that memory was wanted.
use Rattle.std.proofs.Common.{refl, inl}
use Rattle.sect_talk.specs.Said.{no_memory}
use Rattle.sect_http.proofs.tell.tell.Goals as goal

pub returns-in-Err-clause-told : goal.returns-in-Err-clause-told
returns-in-Err-clause-told g c = rw c.in-Err.is (no_memory, inl refl, c.tell_want.ensures.told c.args.closing)
