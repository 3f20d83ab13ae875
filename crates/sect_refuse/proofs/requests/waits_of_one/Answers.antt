-- a student has at most 20 requests
use Rattle.std.proofs.Common.{◌≡◌, ap, arith, length}
use Rattle.sect_model.specs.Batch.{asks_of}
use Rattle.sect_refuse.proofs.WaitLemmas.{asks-few}
use Rattle.sect_refuse.proofs.requests.waits_of_one.Goals as goal

pub returns-clause-bound : goal.returns-clause-bound
returns-clause-bound c =
    let same : length c.asks.result.now ≡ length (asks_of c.args.world.now.world c.args.student) = ap length c.asks.ensures in
    omega (arith, same, asks-few c.args.world.now.world c.recall_kept.ensures c.args.student)
