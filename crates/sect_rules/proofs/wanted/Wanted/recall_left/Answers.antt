-- where the want stands, there are as many before it
use Rattle.std.proofs.Common.{◌<◌, length, subst}
use Rattle.std.proofs.lemmas.Option.{slice_get_within}
use Rattle.sect_rules.proofs.wanted.Wanted.recall_left.Goals as goal

pub returns : goal.returns
returns c =
    let s = c.self.inside in
    subst (λ v. length v.done < length v.mv.take) c.self.view_is (slice_get_within s.mv.now.take (length s.done.now) s.want c.self.invariant.0)
