use Rattle.std.proofs.Common.{arith, refl, rules}
use Rattle.sect_once.proofs.TallyRows.{row_read}
use Rattle.sect_once.proofs.tally.entry_of.Goals as goal

pub returns-clause-found : goal.returns-clause-found
returns-clause-found c = record {
  day = c.in_ok-day.ensures.found.1;
  caller = omega (arith, c.in_ok-caller.ensures.found.1, c.u32_at-2.type_inv);
  number = c.u64_at-number.type_inv;
  command = (let h = c.type_inv.row 17 in search rules);
  reply = c.u64_at-reply.type_inv;
  is = row_read c.args.row.now _ c.u32_at.result c.u32_at-2.result c.requires c.u32_at.ensures c.in_ok-day.ensures.found.0 c.in_ok-caller.ensures.found.0 c.u32_at-2.ensures c.in_ok-caller.ensures.found.1
      c.u64_at-number.ensures refl c.u64_at-reply.ensures;
}
