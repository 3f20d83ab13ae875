-- Each turn takes the next choice.
use Rattle.std.proofs.Common.{◌≡◌, ◌+◌, ◌≤◌, ◌∷◌, ◌∙◌, arith, drop, length, refl, subst, sym, ap}
use Rattle.std.proofs.lemmas.List.{drop_more, drop_all}
use Rattle.sect_model.specs.World.{enrol_all}
use Rattle.sect_space.proofs.Steps.{since-none, since-both}
use Rattle.sect_machine.proofs.MoveLemmas.{TakesOn, takes-next, takes-more}
use Rattle.sect_machine.proofs.moves.take.Goals as goal

pub loop-choice-init : goal.loop-choice-init
loop-choice-init c = (record { led = refl; wants = c.requires.allowed.0; allowed = c.requires.allowed.1; known = c.requires.known }, since-none c.args.world.now.world c.args.undo.now.backs, c.requires.undoable)

pub make-requires-clause-fits : goal.make-requires-clause-fits
make-requires-clause-fits c =
    let w = c.args.world.now.world in
    let v = c.loop-choice.world.world in
    let cs = c.args.choices.now in
    let i = c.loop-choice.choice-index in
    let choice = c.choice-item.result in
    let at : drop i cs ≡ choice ∷ drop (i + 1) cs = drop_more cs i choice c.loop-choice-test.true ∙ ap (λ x. x ∷ drop (i + 1) cs) (sym c.choice-item.is) in
    takes-next w v c.args.student cs choice (drop (i + 1) cs) (subst (TakesOn w v c.args.student cs) at c.loop-choice.invariant.0)

pub loop-choice-preserved : goal.loop-choice-preserved
loop-choice-preserved c =
    let w = c.args.world.now.world in
    let v = c.loop-choice.world.world in
    let u = c.make.new.world.world in
    let cs = c.args.choices.now in
    let i = c.loop-choice.choice-index in
    let choice = c.choice-item.result in
    let at : drop i cs ≡ choice ∷ drop (i + 1) cs = drop_more cs i choice c.loop-choice-test.true ∙ ap (λ x. x ∷ drop (i + 1) cs) (sym c.choice-item.is) in (
      takes-more w v u c.args.student cs choice (drop (i + 1) cs) (subst (TakesOn w v c.args.student cs) at c.loop-choice.invariant.0) c.in_ok-make.ensures.ok,
      since-both w v u c.args.undo.now.backs c.loop-choice.undo.backs c.make.new.undo.backs c.loop-choice.invariant.1 c.make.ensures.since,
      c.make.ensures.undoable,
    )

pub returns-in_err-make-clause-since : goal.returns-in_err-make-clause-since
returns-in_err-make-clause-since c =
    since-both c.args.world.now.world c.loop-choice.world.world c.make.new.world.world c.args.undo.now.backs c.loop-choice.undo.backs c.make.new.undo.backs c.loop-choice.invariant.1 c.make.ensures.since

pub returns-clause-ok : goal.returns-clause-ok
returns-clause-ok c =
    let v = c.loop-choice.world.world in
    let cs = c.args.choices.now in
    let i = c.loop-choice.choice-index in
    let all : length cs ≤ i = omega (arith, c.loop-choice-test.false) in
    sym (ap (enrol_all v c.args.student) (drop_all i cs all)) ∙ c.loop-choice.invariant.0.led
