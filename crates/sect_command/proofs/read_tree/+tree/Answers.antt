-- What each turn of the loop reads.
use Rattle.std.proofs.Common.{◌≡◌, Some, None, Bool, true, false, length, ap, sym, ◌∙◌}
use Rattle.sect_command.specs.Reading.{tree_in, mark_in}
use Rattle.sect_command.proofs.OptionSteps.{no_option, no_mark, closed, next_option}
use Rattle.sect_command.proofs.read_tree.+tree.Goals as goal

pub read_options-returns-in_default : goal.read_options-returns-in_default
read_options-returns-in_default t c =
    let r : tree_in c.args.deep c.loop-turn.rest.now ≡ None = sym (rw c.in_default.is at c.in_ok-option.ensures) in
    no_option (tree_in c.args.deep) (length c.args.text.now) c.loop-turn._turn c.loop-turn.options.items c.loop-turn.rest.now _ c.loop-turn-test.true c.loop-turn.invariant r

pub read_options-returns-in_default-read_mark : goal.read_options-returns-in_default-read_mark
read_options-returns-in_default-read_mark t c =
    let r : tree_in c.args.deep c.loop-turn.rest.now ≡ Some (c.in-Some.option, c.in-Some.behind.now) = sym (rw c.in-Some.is at c.in_ok-option.ensures) in
    let m : mark_in c.in-Some.behind.now ≡ None = sym c.in_default-read_mark.ensures in
    no_mark (tree_in c.args.deep) (length c.args.text.now) c.loop-turn._turn c.loop-turn.options.items c.loop-turn.rest.now _ c.in-Some.option c.in-Some.behind.now c.loop-turn-test.true c.loop-turn.invariant r m

pub read_options-returns-then-last : goal.read_options-returns-then-last
read_options-returns-then-last t c =
    let r : tree_in c.args.deep c.loop-turn.rest.now ≡ Some (c.in-Some.option, c.in-Some.behind.now) = sym (rw c.in-Some.is at c.in_ok-option.ensures) in
    let m : mark_in c.in-Some.behind.now ≡ Some (true, c.in-Some-read_mark.behind.now) = sym c.in-Some-read_mark.ensures ∙ ap (λ (b : Bool). Some (b, c.in-Some-read_mark.behind.now)) c.if-last.true in
    closed (tree_in c.args.deep) (length c.args.text.now) c.loop-turn._turn c.loop-turn.options.items c.loop-turn.rest.now _ c.in-Some.option c.in-Some.behind.now c.in-Some-read_mark.behind.now c.push.new.self.items c.loop-turn-test.true c.loop-turn.invariant r m c.in_ok-push.ensures.items

pub read_options-loop-turn-preserved : goal.read_options-loop-turn-preserved
read_options-loop-turn-preserved t c =
    let r : tree_in c.args.deep c.loop-turn.rest.now ≡ Some (c.in-Some.option, c.in-Some.behind.now) = sym (rw c.in-Some.is at c.in_ok-option.ensures) in
    let m : mark_in c.in-Some.behind.now ≡ Some (false, c.in-Some-read_mark.behind.now) = sym c.in-Some-read_mark.ensures ∙ ap (λ (b : Bool). Some (b, c.in-Some-read_mark.behind.now)) c.if-last.false in
    next_option (tree_in c.args.deep) (length c.args.text.now) c.loop-turn._turn c.loop-turn.options.items c.loop-turn.rest.now _ c.in-Some.option c.in-Some.behind.now c.in-Some-read_mark.behind.now c.push.new.self.items c.loop-turn-test.true c.loop-turn.invariant r m c.in_ok-push.ensures.items
