-- Each turn tells the lines of some requests more.
use Rattle.std.proofs.Common.{◌≡◌, ◌≤◌, ◌∙◌, ap, arith, length, subst}
use Rattle.sect_model.specs.Batch.{asks_of}
use Rattle.sect_space.proofs.Steps.{since-both}
use Rattle.sect_batch.specs.Lines.{ToldOn}
use Rattle.sect_batch.proofs.BatchLemmas.{same-asks, told-all}
use Rattle.sect_batch.proofs.batching.student_lines.Goals as goal

pub returns-in_err-place-clause-since : goal.returns-in_err-place-clause-since
returns-in_err-place-clause-since g c =
    since-both c.args.world.now.world c.loop-place.world.world c.some_lines.new.world.world c.args.undo.now.backs c.loop-place.undo.backs c.some_lines.new.undo.backs c.loop-place.invariant.1 c.some_lines.ensures.since

pub loop-place-preserved : goal.loop-place-preserved
loop-place-preserved g c =
    let w = c.args.world.now.world in
    let v = c.loop-place.world.world in
    let same : asks_of v c.args.student ≡ asks_of w c.args.student = same-asks v w c.args.student c.loop-place.invariant.0 in
    let more : ToldOn c.args.student (asks_of w c.args.student) v c.loop-place.lines c.loop-place.place c.some_lines.new.world.world c.some_lines.new.lines c.in_ok-place.place =
    subst (λ asks. ToldOn c.args.student asks v c.loop-place.lines c.loop-place.place c.some_lines.new.world.world c.some_lines.new.lines c.in_ok-place.place) same c.in_ok-place.ensures.told in (
      c.some_lines.ensures.students ∙ c.loop-place.invariant.0,
      since-both w v c.some_lines.new.world.world c.args.undo.now.backs c.loop-place.undo.backs c.some_lines.new.undo.backs c.loop-place.invariant.1 c.some_lines.ensures.since,
      c.some_lines.ensures.undoable,
      λ b t. more b (c.loop-place.invariant.3 b t),
    )

pub returns-clause-told : goal.returns-clause-told
returns-clause-told g c =
    let w = c.args.world.now.world in
    let asks = asks_of w c.args.student in
    let all : length asks ≤ c.loop-place.place = omega (arith, c.loop-place-test.false, ap length c.asks-count.ensures) in
    told-all c.args.student asks w c.args.lines.now c.loop-place.place c.loop-place.world.world c.loop-place.lines all c.loop-place.invariant.3
