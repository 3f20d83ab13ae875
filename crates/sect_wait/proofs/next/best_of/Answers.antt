-- Each turn takes one entry more into account, and an entry behind the best so far changes nothing.
use Rattle.std.proofs.Common.{[], ◌≤◌, ◌∷◌, ◌+◌, ◌++◌, ◌∙◌, arith, length, sym, subst, take, ap, cond}
use Rattle.std.proofs.lemmas.List.{take_all, take_more}
use Rattle.std.specs.Option.{option_or}
use Rattle.sect_wait.specs.Placing.{IsBest, OthersTried}
use Rattle.sect_wait.specs.Opened.{is_sought}
use Rattle.sect_wait.specs.Touched.{count_sought}
use Rattle.sect_wait.proofs.CountLemmas.{again-at, again-both, at-least, sought-more}
use Rattle.sect_wait.proofs.MarkLemmas.{each-at}
use Rattle.sect_wait.proofs.NextLemmas.{best-stays, tried-behind}
use Rattle.sect_wait.proofs.next.best_of.Goals as goal

pub better-requires-clause-others : goal.better-requires-clause-others
better-requires-clause-others g c = each-at c.args.entries.now c.loop-entry.entry-index c.entry-item.result c.loop-entry-test.true c.entry-item.is c.requires.others

pub loop-entry-preserved-then-is_behind : goal.loop-entry-preserved-then-is_behind
loop-entry-preserved-then-is_behind g c =
    let w = c.args.world.now.world in
    let m = c.args.marks.now in
    let es = c.args.entries.now in
    let i = c.loop-entry.entry-index in
    let e = c.entry-item.result in
    let before = take i es in
    let best = c.loop-entry.best in
    let left = c.loop-entry.left in
    let more = take_more es i e c.loop-entry-test.true ∙ ap (λ e. before ++ e ∷ []) (sym c.entry-item.is) in
    let behind = sym c.if-is_behind.true ∙ c.is_behind.ensures in (
      subst (λ fs. IsBest w fs best) (sym more) (best-stays w before e best behind c.loop-entry.invariant.0),
      subst (λ fs. OthersTried w fs best m.spent left) (sym more) (tried-behind w before e m.spent best left behind c.loop-entry.invariant.1),
      sought-more m c.args.opened.now es i e c.args.steps.now c.loop-entry.steps c.loop-entry.steps c.loop-entry-test.true c.entry-item.is c.loop-entry.invariant.2
          (at-least c.loop-entry.steps (cond (is_sought m c.args.opened.now e) 1 0)),
      c.loop-entry.invariant.3,
    )

pub loop-entry-preserved : goal.loop-entry-preserved
loop-entry-preserved g c =
    let w = c.args.world.now.world in
    let es = c.args.entries.now in
    let i = c.loop-entry.entry-index in
    let before = take i es in
    let more = take_more es i c.entry-item.result c.loop-entry-test.true ∙ ap (λ e. before ++ e ∷ []) (sym c.entry-item.is) in
    let new = option_or c.in_ok-better.field-0 c.loop-entry.best in
    let best : IsBest w (before ++ c.entry-item.result ∷ []) new = c.in_ok-better.ensures.best before c.loop-entry.invariant.0 in
    let others : OthersTried w (before ++ c.entry-item.result ∷ []) new c.args.marks.now.spent c.better.new.left = c.in_ok-better.ensures.others before c.loop-entry.invariant.1 in (
      subst (λ o. IsBest w (take (i + 1) es) o) (sym c.or-best.ensures) (subst (λ fs. IsBest w fs new) (sym more) best),
      subst (λ o. OthersTried w (take (i + 1) es) o c.args.marks.now.spent c.better.new.left) (sym c.or-best.ensures) (subst (λ fs. OthersTried w fs new c.args.marks.now.spent c.better.new.left) (sym more) others),
      sought-more c.args.marks.now c.args.opened.now es i c.entry-item.result c.args.steps.now c.loop-entry.steps c.better.new.steps c.loop-entry-test.true c.entry-item.is c.loop-entry.invariant.2 c.better.ensures.steps,
      again-both c.args.marks.now c.args.opened.now es c.args.left.now.again.items c.loop-entry.left.again.items c.better.new.left.again.items c.loop-entry.invariant.3
          (again-at c.args.marks.now c.args.opened.now es i c.entry-item.result c.loop-entry.left.again.items c.better.new.left.again.items c.loop-entry-test.true c.entry-item.is c.in_ok-better.ensures.again),
    )

pub returns-clause-steps : goal.returns-clause-steps
returns-clause-steps g c =
    let es = c.args.entries.now in
    let past : length es ≤ c.loop-entry.entry-index = omega (arith, c.loop-entry-test.false) in
    subst (λ fs. c.loop-entry.steps ≤ c.args.steps.now + count_sought c.args.marks.now c.args.opened.now fs) (take_all c.loop-entry.entry-index es past) c.loop-entry.invariant.2
