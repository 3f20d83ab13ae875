use Rattle.std.proofs.Common.{◌≡◌, ◌∷◌, ◌∙◌, length, sym, ap, subst, arith}
use Rattle.std.proofs.lemmas.List.{nil_from_length}
use Rattle.std.specs.Vec.Iter.{into_iter_items}
use Rattle.sect_app.specs.Fitting.{FitGiven}
use Rattle.sect_app.specs.Asking.{AnswersNumbered}
use Rattle.sect_app.proofs.Each.{each_all, each_fault, each_one, each_without}
use Rattle.sect_app.proofs.asking.ask_each.Goals as goal

pub returns-in-Some-ask_one-clause-asked : goal.returns-in-Some-ask_one-clause-asked
returns-in-Some-ask_one-clause-asked g c = λ at is small.
    each_fault (AnswersNumbered g.O.Object.stepped g.O.Object.is_row g.K.Keeper.rows g.K.Keeper.faults) g.T.Sink.taken c.in-Some.it (into_iter_items c.next.new.self) c.in-Some-next.number
    c.ask_one.new.asker c.ask_one.new.sink c.ask_one.new.gathered.items c.loop-it.next c.in-Some-ask_one.end (c.loop-it.invariant.so_far at is small) c.in-Some.ensures.steps.0 c.in-Some-next.is c.in-Some-ask_one.ensures.asked

pub returns-in_default-clause-asked : goal.returns-in_default-clause-asked
returns-in_default-clause-asked g c = λ at is small.
    each_without (AnswersNumbered g.O.Object.stepped g.O.Object.is_row g.K.Keeper.rows g.K.Keeper.faults) g.T.Sink.taken c.in-Some.it (into_iter_items c.next.new.self)
    c.write_before.new.sink c.write_before.result (c.loop-it.invariant.so_far at is small) c.in-Some.ensures.steps.0 c.in_default.is c.write_before.ensures.written

pub returns-clause-asked : goal.returns-clause-asked
returns-clause-asked g c = λ at is small.
    each_all (AnswersNumbered g.O.Object.stepped g.O.Object.is_row g.K.Keeper.rows g.K.Keeper.faults) g.T.Sink.taken
    c.write_before-2.new.sink c.write_before-2.result (c.loop-it.invariant.so_far at is small) (nil_from_length (into_iter_items c.loop-it.it-iterator) (sym c.loop-it.invariant.left ∙ c.in-None.ensures.steps.0)) c.write_before-2.ensures.written

pub loop-it-preserved : goal.loop-it-preserved
loop-it-preserved g c =
    let steps : into_iter_items c.loop-it.it-iterator ≡ c.in-Some.it ∷ into_iter_items c.next.new.self = c.in-Some.ensures.steps.0 in
    let was = c.loop-it.invariant.left in
    let gone = c.in-Some.ensures.steps.1 in
    let short = ap length steps in
    let asked = c.in_default-ask_one.ensures.asked in
    record {
      so_far = λ at is small.
          each_one (AnswersNumbered g.O.Object.stepped g.O.Object.is_row g.K.Keeper.rows g.K.Keeper.faults) g.T.Sink.taken c.in-Some.it (into_iter_items c.next.new.self) c.in-Some-next.number
          c.ask_one.new.asker c.ask_one.new.sink c.ask_one.new.gathered.items c.number_after.result (c.loop-it.invariant.so_far at is small) steps c.in-Some-next.is asked c.number_after.ensures;
      left = omega arith;
      fit = (subst FitGiven steps c.loop-it.invariant.fit).1;
      write_faults = omega (arith, c.loop-it.invariant.write_faults, c.ask_one.ensures.write_faults);
    }
