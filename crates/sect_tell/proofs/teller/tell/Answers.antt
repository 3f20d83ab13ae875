use Rattle.std.proofs.Common.{inl}
use Rattle.sect_tell.proofs.teller.tell.Goals as goal

pub returns-in-Ok-clause-tells : goal.returns-in-Ok-clause-tells
returns-in-Ok-clause-tells g c = λ left. inl (record {
  opened = c.in-Ok.desk;
  opens = c.in-Ok.ensures.opens;
  back_is = c.leave.ensures;
  prints = c.write_text-status.ensures.prints;
})
