-- where the reservation breaks no rule, the places follow
use Rattle.std.proofs.Common.{sym, ◌∙◌}
use Rattle.std.specs.Prelude.{Some, None, option_copied}
use Rattle.sect_model.specs.Rules.{first_broken, chosen_rules, none_rules, offering_rules, reservation_rules}
use Rattle.sect_moment.proofs.LeastLemmas.{first-next}
use Rattle.sect_moment.proofs.moment.Moment.reservation_rule.Goals as goal
use Rattle.sect_moment.proofs.moment.Moment.reservation_rule.Goals.{in-Some, in-None}

pub returns-in-None-broken : goal.returns-in-None-broken
returns-in-None-broken c =
    let v = c.args.self.now in
    let o = c.args.ground.now.offering.now in
    elim c.match-r.branch [
      | in-Some w ↦ c.offering_rule.ensures
          ∙ (λ i. first_broken (offering_rules v.at (option_copied (w.in-Some.is i)) o c.args.course))
          ∙ first-next (chosen_rules v.at v.student c.args.course w.in-Some.r.now) (offering_rules v.at (Some w.in-Some.r.now) o c.args.course)
          (sym c.in-None-broken.is ∙ w.broken-is ∙ w.chosen_rule-broken.ensures)
          ∙ (λ i. first_broken (reservation_rules v.at v.student o c.args.course (option_copied (sym w.in-Some.is i))))
      | in-None w ↦ c.offering_rule.ensures
          ∙ (λ i. first_broken (offering_rules v.at (option_copied (w.in-None.is i)) o c.args.course))
          ∙ first-next (none_rules v.at v.student o c.args.course) (offering_rules v.at None o c.args.course)
          (sym c.in-None-broken.is ∙ w.broken-is ∙ w.none_rule-broken.ensures)
          ∙ (λ i. first_broken (reservation_rules v.at v.student o c.args.course (option_copied (sym w.in-None.is i))))
    ]
