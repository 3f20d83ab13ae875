use Rattle.std.proofs.Common.{arith}
use Rattle.sect_machine.specs.Standing.{state_in}
use Rattle.sect_once.specs.History.{history}
use Rattle.sect_tell.proofs.Verified.{acted_more, blocked_more, few_blocked, few_verified, replied_in, verified_more}
use Rattle.sect_tell.proofs.audits.audit_on.Goals as goal

pub plus-blocked-requires : goal.plus-blocked-requires
plus-blocked-requires g c =
    omega (arith, few_blocked (history c.args.desk.now.log) c.loop-place.place, c.loop-place.invariant.blocked_is, c.loop-place-test.true, c.acted-place-end.type_inv)

pub is_verified-requires : goal.is_verified-requires
is_verified-requires g c = record {
  replied = replied_in (state_in c.loop-place.machine) (history c.args.desk.now.log) c.loop-place.place c.in_ok-entry.entry
      c.loop-place.invariant.state c.requires.sound.legal.replies c.in_ok-entry.ensures;
}

pub plus-verified-requires : goal.plus-verified-requires
plus-verified-requires g c =
    omega (arith, few_verified (history c.args.desk.now.log) c.loop-place.place, c.loop-place.invariant.verified_is, c.loop-place-test.true, c.acted-place-end.type_inv)

pub loop-place-preserved : goal.loop-place-preserved
loop-place-preserved g c = record {
  state = acted_more (history c.args.desk.now.log) c.loop-place.place c.in_ok-entry.entry (state_in c.loop-place.machine) (state_in c.is_verified.new.machine)
      (state_in c.act.new.machine) c.loop-place.invariant.state c.in_ok-is_verified.ensures.state c.in_ok-act.ensures c.in_ok-entry.ensures;
  blocked_is = blocked_more (history c.args.desk.now.log) c.loop-place.place c.in_ok-entry.entry c.loop-place.blocked c.plus-blocked.result c.is_blocked.result
      c.loop-place.invariant.blocked_is c.plus-blocked.ensures c.is_blocked.ensures c.in_ok-entry.ensures;
  verified_is = verified_more (history c.args.desk.now.log) c.loop-place.place c.in_ok-entry.entry (state_in c.loop-place.machine) c.loop-place.verified
      c.plus-verified.result c.in_ok-is_verified.field-0 c.loop-place.invariant.state c.loop-place.invariant.verified_is c.plus-verified.ensures
      c.in_ok-is_verified.ensures.answer c.in_ok-entry.ensures;
}
