-- the laws stand in the lemmas
use Rattle.std.proofs.Common.{refl}
use Rattle.sect_wait.proofs.UndoLemmas.{since-none, since-joins, since-undone, since-recorded}
use Rattle.sect_wait.proofs.laws.changes_are_undone.Goals as goal

pub returns : goal.returns
returns c = record {
  none = λ q backs. since-none q q backs backs refl refl;
  joined = since-joins;
  queue = since-undone;
  recorded = since-recorded;
}
