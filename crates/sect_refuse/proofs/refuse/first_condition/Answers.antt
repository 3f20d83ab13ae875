-- No condition looks at a budget, a class or a last day.
use Rattle.std.proofs.Common.{◌∙◌, ap, sym}
use Rattle.sect_refuse.specs.Refused.{own_refusal, refused_with}
use Rattle.sect_refuse.proofs.refuse.first_condition.Goals as goal

pub returns-in-Expire : goal.returns-in-Expire
returns-in-Expire c = c.expire.ensures c.in-Expire.expiry ∙ ap (refused_with c.args.world.now.world c.args.entries.now) (sym c.in-Expire.is)

pub returns-in-Enrol : goal.returns-in-Enrol
returns-in-Enrol c = c.enrol.ensures c.in-Enrol.budget ∙ ap (refused_with c.args.world.now.world c.args.entries.now) (sym c.in-Enrol.is)

pub returns-in-Swap : goal.returns-in-Swap
returns-in-Swap c = c.swap.ensures c.in-Swap.budget ∙ ap (refused_with c.args.world.now.world c.args.entries.now) (sym c.in-Swap.is)

pub returns-in-Wait : goal.returns-in-Wait
returns-in-Wait c = c.wait.ensures c.in-Wait.class ∙ ap (refused_with c.args.world.now.world c.args.entries.now) (sym c.in-Wait.is)

pub wait-requires : goal.wait-requires
wait-requires c = record { own = c.requires.own ∙ ap (own_refusal c.args.entries.now) c.in-Wait.is }

pub unwait-requires : goal.unwait-requires
unwait-requires c = record { own = c.requires.own ∙ ap (own_refusal c.args.entries.now) c.in-Unwait.is }
