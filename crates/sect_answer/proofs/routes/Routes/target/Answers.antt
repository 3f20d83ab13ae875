-- A path's target is the one that its route reads.
use Rattle.sect_answer.proofs.RoutePaths.{found_option, only_target}
use Rattle.sect_answer.proofs.Routed.{routed}
use Rattle.sect_answer.proofs.Utf8.{utf8}
use Rattle.std.proofs.Common.{◌∙◌, sym}
use Rattle.sect_answer.proofs.routes.Routes.target.Goals as goal

pub returns-in_default-clause-only : goal.returns-in_default-clause-only
returns-in_default-clause-only c = λ t target. absurd (c.in_default.ensures.cases.0 (utf8 c.args.path.now t target))

pub returns-in_err-route-clause-only : goal.returns-in_err-route-clause-only
returns-in_err-route-clause-only c = λ t target. absurd (
    let none = c.in_err-route.was in
    cc (none, c.route_at.ensures, c.in-Ok.ensures.cases.0, routed c.args.path.now t target))

pub returns-clause-found : goal.returns-clause-found
returns-clause-found c = found_option c.in_ok-route.route c.args.path.now c.target_in.result c.target_in.ensures

pub returns-clause-only : goal.returns-clause-only
returns-clause-only c = only_target c.in_ok-route.route c.args.path.now _ c.target_in.result c.target_in.ensures c.in-Ok.ensures.cases.0 (sym c.route_at.ensures ∙ c.in_ok-route.was)
