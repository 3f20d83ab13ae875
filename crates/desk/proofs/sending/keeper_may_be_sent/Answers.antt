-- a keeper may be sent, by its parts
use denote.Param.Send.{IsSend, sendable}
use denote.Param.SendFields.{variants_send}
use Rattle.std.proofs.Crossing.{crosses}
use Rattle.sect_real.specs.contracts.any.AnyKeeper as AnyKeeper
use Rattle.desk.proofs.sending.keeper_may_be_sent.Goals as goal

pub returns : goal.returns
returns c =
    variants_send AnyKeeper.enum (tt, ((search (sendable, crosses) depth 30, tt), ((search (sendable, crosses) depth 30, tt), tt)))
