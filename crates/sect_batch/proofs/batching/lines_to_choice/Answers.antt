-- Each turn puts a line, and stops where it has a choice.
use Rattle.std.proofs.Common.{arith, subst, Some, None}
use Rattle.sect_model.specs.Batch.{asks_of}
use Rattle.sect_batch.specs.Lines.{IsPut, taking}
use Rattle.sect_batch.proofs.BatchLemmas.{choice-fits, few-asks, ask-at-fits, found-at, put-on, told-on}
use Rattle.sect_batch.proofs.batching.lines_to_choice.Goals as goal

pub answer_ask-requires-clause-place : goal.answer_ask-requires-clause-place
answer_ask-requires-clause-place g c =
    let w = c.args.world.now.world in
    let at = found-at (asks_of w c.args.student) c.asks-asks.result.now c.loop-place.place c.index-asks-place.result c.asks-asks.ensures c.loop-place-test.true c.index-asks-place.is in
    omega (arith, at.0, few-asks w c.recall_kept.ensures c.args.student)

pub answer_ask-requires-clause-fits : goal.answer_ask-requires-clause-fits
answer_ask-requires-clause-fits g c =
    let w = c.args.world.now.world in
    let at = found-at (asks_of w c.args.student) c.asks-asks.result.now c.loop-place.place c.index-asks-place.result c.asks-asks.ensures c.loop-place-test.true c.index-asks-place.is in
    ask-at-fits w c.recall_kept.ensures c.args.student c.loop-place.place c.index-asks-place.result at.1

pub rank-requires : goal.rank-requires
rank-requires g c =
    let w = c.args.world.now.world in
    let at = found-at (asks_of w c.args.student) c.asks-asks.result.now c.loop-place.place c.index-asks-place.result c.asks-asks.ensures c.loop-place-test.true c.index-asks-place.is in
    omega (arith, at.0, few-asks w c.recall_kept.ensures c.args.student)

pub returns-in-Some-clause-told : goal.returns-in-Some-clause-told
returns-in-Some-clause-told g c =
    let w = c.args.world.now.world in
    let asks = asks_of w c.args.student in
    let place = c.loop-place.place in
    let at = found-at asks c.asks-asks.result.now place c.index-asks-place.result c.asks-asks.ensures c.loop-place-test.true c.index-asks-place.is in
    told-on c.args.student asks w c.args.lines.now c.args.from place w c.loop-place.lines (taking w c.args.student (Some c.in-Some.choice)) c.put_line.new.lines at.0 c.loop-place.invariant.2
    (put-on w c.args.student place c.rank.result c.loop-place.lines c.put_line.new.lines c.in_ok-answer.answer (Some c.in-Some.choice) c.index-asks-place.result
    c.rank.ensures at.1 c.in_ok-answer.ensures.answer (subst (IsPut c.args.student c.rank.result c.in_ok-answer.answer c.loop-place.lines c.put_line.new.lines) c.in-Some.is c.in_ok-choice.ensures))

pub returns-in-Some-clause-fits : goal.returns-in-Some-clause-fits
returns-in-Some-clause-fits g c =
    choice-fits c.args.world.now.world c.args.student c.rank.result c.loop-place.lines c.put_line.new.lines c.in_ok-answer.answer (Some c.in-Some.choice) c.in_ok-answer.ensures.met
    (subst (IsPut c.args.student c.rank.result c.in_ok-answer.answer c.loop-place.lines c.put_line.new.lines) c.in-Some.is c.in_ok-choice.ensures)

pub loop-place-preserved : goal.loop-place-preserved
loop-place-preserved g c =
    let w = c.args.world.now.world in
    let asks = asks_of w c.args.student in
    let place = c.loop-place.place in
    let at = found-at asks c.asks-asks.result.now place c.index-asks-place.result c.asks-asks.ensures c.loop-place-test.true c.index-asks-place.is in (
      omega (arith, c.loop-place.invariant.0),
      omega (arith, at.0),
      told-on c.args.student asks w c.args.lines.now c.args.from place w c.loop-place.lines w c.put_line.new.lines at.0 c.loop-place.invariant.2
          (put-on w c.args.student place c.rank.result c.loop-place.lines c.put_line.new.lines c.in_ok-answer.answer None c.index-asks-place.result
          c.rank.ensures at.1 c.in_ok-answer.ensures.answer (subst (IsPut c.args.student c.rank.result c.in_ok-answer.answer c.loop-place.lines c.put_line.new.lines) c.in_default.is c.in_ok-choice.ensures)),
    )
