-- the row is one of those that are found
use Rattle.sect_moment.specs.Found.{IsConfig}
use Rattle.sect_rules.proofs.FoundLemmas.{all-contained}
use Rattle.sect_rules.proofs.joined.config_at.Goals as goal

pub returns-clause-row : goal.returns-clause-row
returns-clause-row c = λ w course h. all-contained (IsConfig w course) c.args.rows.now c.in_ok-row.row.now h c.in_ok-row.ensures.among
