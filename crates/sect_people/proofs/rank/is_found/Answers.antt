-- A binary search finds what is there.
use Rattle.std.proofs.Common.{◌∙◌}
use Rattle.sect_people.proofs.RankLemmas.{search-any}
use Rattle.sect_people.proofs.rank.is_found.Goals as goal

pub returns : goal.returns
returns c =
    c.is_ok.ensures.value
    ∙ search-any (λ d. d.0) c.args.id.0 c.args.known.now c.binary_search.result c.requires c.binary_search.ensures.bound c.binary_search.ensures.position
