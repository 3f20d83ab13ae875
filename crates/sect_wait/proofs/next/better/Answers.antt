-- The entry comes before the best so far.
use Rattle.std.proofs.Common.{◌∙◌, [], ◌∷◌, ◌++◌, Some, ap, inl, refl, sym, subst}
use Rattle.std.specs.Option.{option_map}
use Rattle.sect_base.specs.declared.choice.Choice.{Choice}
use Rattle.sect_wait.specs.Placing.{IsBest, OthersTried}
use Rattle.sect_wait.proofs.NextLemmas.{best-found, best-unplaced, tried-found, tried-unplaced, tried-unsought, unsought-unplaced}
use Rattle.sect_wait.proofs.CountLemmas.{again-one}
use Rattle.sect_wait.proofs.next.better.Goals as goal

pub returns-then-not-seeks-clause-best : goal.returns-then-not-seeks-clause-best
returns-then-not-seeks-clause-best g c = λ before b.
    best-unplaced c.args.world.now.world before c.args.entry.now c.args.best.now
    (unsought-unplaced c.args.world.now.world c.args.entry.now c.args.marks.now c.args.opened.now (sym c.seeks.ensures ∙ c.if-not-seeks.true) c.requires.others) b

pub returns-then-not-seeks-clause-others : goal.returns-then-not-seeks-clause-others
returns-then-not-seeks-clause-others g c = λ before b.
    tried-unsought c.args.world.now.world before c.args.entry.now c.args.marks.now.spent c.args.best.now c.args.left.now
    (c.requires.others c.args.entry.now (inl refl) (sym c.seeks.ensures ∙ c.if-not-seeks.true)) b

pub returns-in-Some-clause-best : goal.returns-in-Some-clause-best
returns-in-Some-clause-best g c = λ before b.
    let w = c.args.world.now.world in
    let e = c.args.entry.now in
    let found = ap (option_map (λ (x : Choice). x ∷ [])) (sym c.in-Some.is) ∙ c.in_ok-choice.ensures.choice in
    subst (λ x. IsBest w (before ++ e ∷ []) (Some x)) (sym c.chosen.ensures)
    (best-found w before e c.args.best.now c.in-Some.choice (sym c.requires.ahead) found b)

pub returns-in-Some-clause-others : goal.returns-in-Some-clause-others
returns-in-Some-clause-others g c = λ before b.
    let w = c.args.world.now.world in
    let e = c.args.entry.now in
    subst (λ x. OthersTried w (before ++ e ∷ []) (Some x) c.args.marks.now.spent c.placement.new.left) (sym c.chosen.ensures)
    (tried-found w before e c.args.marks.now.spent c.args.best.now c.in-Some.choice c.args.left.now c.placement.new.left (sym c.requires.ahead) c.placement.ensures.kept b)

pub returns-in-None-clause-others : goal.returns-in-None-clause-others
returns-in-None-clause-others g c = λ before b.
    tried-unplaced c.args.world.now.world before c.args.entry.now c.args.marks.now.spent c.args.best.now c.args.left.now c.placement.new.left c.placement.ensures.kept c.in_ok-choice.ensures.others b

pub returns-in-Some-clause-again : goal.returns-in-Some-clause-again
returns-in-Some-clause-again g c =
    again-one c.args.marks.now c.args.opened.now c.args.entry.now c.args.left.now.again.items c.placement.new.left.again.items (sym c.seeks.ensures ∙ c.if-not-seeks.false) c.in_ok-choice.ensures.again

pub returns-in-None-clause-again : goal.returns-in-None-clause-again
returns-in-None-clause-again g c =
    again-one c.args.marks.now c.args.opened.now c.args.entry.now c.args.left.now.again.items c.placement.new.left.again.items (sym c.seeks.ensures ∙ c.if-not-seeks.false) c.in_ok-choice.ensures.again
