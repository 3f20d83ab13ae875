use Rattle.sect_talk.proofs.Fronts.{head_stays}
use Rattle.sect_talk.proofs.law.a_head_stays.Goals as goal

pub returns-clause-at : goal.returns-clause-at
returns-clause-at c bytes more spans r h within at = head_stays bytes more spans r h within at
