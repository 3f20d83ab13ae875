-- the reservations take what isn't counted
use Rattle.std.proofs.Common.{◌≡◌, ◌-◌, ◌∙◌, arith}
use Rattle.sect_model.specs.Counts.{count_of}
use Rattle.sect_moment.specs.Reserved.{takes_all}
use Rattle.sect_moment.proofs.ReservedLemmas.{space-taken}
use Rattle.sect_moment.proofs.moment.Moment.is_taken.Goals as goal

pub returns : goal.returns
returns c =
    let v = c.args.self.now.at in
    let left : c.saturating_sub.result ≡ c.args.places - count_of v c.args.level = omega (arith, c.saturating_sub.ensures, c.requires.count) in
    c.takes_all.ensures
    ∙ (λ i. takes_all v c.args.level (left i) (c.requires.rows i))
    ∙ space-taken v c.args.offering c.args.level c.args.places c.requires.own
