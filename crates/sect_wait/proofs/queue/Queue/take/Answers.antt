-- The one entry of the ticket stands at its first place.
use Rattle.std.proofs.Common.{Some, ◌≡◌, ◌∙◌, ◌==◌, ◌++◌, ◌<◌, ap, arith, cond, subst, sym, not, length, filter}
use Rattle.std.specs.List.{find, position, remove}
use Rattle.std.specs.Option.{option_map, option_to_list}
use Rattle.sect_model.specs.declared.held.Waiting.{Waiting}
use Rattle.sect_model.specs.Kept.{tickets_rise}
use Rattle.sect_model.specs.Settle.{without}
use Rattle.sect_model.proofs.TicketLemmas.{rise-filter}
use Rattle.sect_roster.proofs.PlaceLemmas.{place-within, read-one, remove-one}
use Rattle.sect_wait.specs.declared.back.QueueBack.TheVariants.{Left}
use Rattle.sect_model.proofs.Members.{find-member}
use Rattle.std.proofs.lemmas.Bool.{eqb-true}
use Rattle.sect_wait.specs.Indexed.{count_givers, KeepsOtherTickets, KeepsOthersOwn}
use Rattle.sect_wait.proofs.GiverLemmas.{givers-left, less-same}
use Rattle.sect_wait.proofs.IndexLemmas.{index-left}
use Rattle.sect_wait.proofs.QueueLemmas.{Placed, placed, one-ticket}
use Rattle.sect_wait.proofs.queue.Queue.take.Goals as goal

pub invariant_of-self-2 : goal.invariant_of-self-2
invariant_of-self-2 c =
    let es = c.self.inside.entries.items in
    let p = λ (e : Waiting). e.ticket == c.args.ticket in
    let at : Placed p es c.args.place = placed p es c.args.place (ap (λ v. position p v.queue.entries) c.self.view_is ∙ c.requires) in
    let one : length (filter p es) ≡ 1 = one-ticket es c.self.inside.next c.args.ticket c.self.invariant.queue.in_order at.found in
    let left : c.remove-entry.new.self.items ≡ without es c.args.ticket = c.remove-entry.ensures.items ∙ ap (remove es) at.at ∙ remove-one p es one in
    let read : Some c.remove-entry.result ≡ find p es = read-one p es c.args.place c.remove-entry.result at.some at.at c.remove-entry.ensures.value in
    let own : c.remove-entry.result.ticket ≡ c.args.ticket = eqb-true c.remove-entry.result.ticket c.args.ticket (find-member p es c.remove-entry.result (sym read)).1 in
    let within : c.args.place < length es = omega (arith, at.at, place-within p es at.some) in
    let i = c.self.inside.index in
    let j = c.strike.new.self in
    record {
      queue = record {
        in_order = ap (λ fs. tickets_rise fs c.self.inside.next) left ∙ rise-filter (λ e. not (p e)) es c.self.inside.next c.self.invariant.queue.in_order;
        first = c.self.invariant.queue.first;
      };
      index = index-left i j es c.remove-entry.new.self.items c.args.ticket left c.strike.ensures.whole (subst (λ t. KeepsOthersOwn t i.students j.students) own c.strike.ensures.students)
          (subst (λ t. KeepsOtherTickets t i.courses j.courses) own c.strike.ensures.courses) c.self.invariant.index;
      givers = less-same c.without_giver-self-inside.result (cond c.is_some.result 1 0) (count_givers c.remove-entry.new.self.items) c.self.inside.givers c.without_giver-self-inside.ensures
          (givers-left c.self.inside.givers es c.remove-entry.new.self.items c.self.invariant.givers c.is_some.result c.remove-entry.result c.args.place c.is_some.ensures c.remove-entry.ensures.items within c.remove-entry.ensures.value);
    }

pub without_giver-self-inside-requires : goal.without_giver-self-inside-requires
without_giver-self-inside-requires c =
    let es = c.self.inside.entries.items in
    let p = λ (e : Waiting). e.ticket == c.args.ticket in
    let at : Placed p es c.args.place = placed p es c.args.place (ap (λ v. position p v.queue.entries) c.self.view_is ∙ c.requires) in
    let within : c.args.place < length es = omega (arith, at.at, place-within p es at.some) in
    omega (arith, givers-left c.self.inside.givers es c.remove-entry.new.self.items c.self.invariant.givers c.is_some.result c.remove-entry.result c.args.place c.is_some.ensures c.remove-entry.ensures.items within c.remove-entry.ensures.value)

pub returns-clause-ok : goal.returns-clause-ok
returns-clause-ok c =
    let es = c.self.inside.entries.items in
    let p = λ (e : Waiting). e.ticket == c.args.ticket in
    let at : Placed p es c.args.place = placed p es c.args.place (ap (λ v. position p v.queue.entries) c.self.view_is ∙ c.requires) in
    let one : length (filter p es) ≡ 1 = one-ticket es c.self.inside.next c.args.ticket c.self.invariant.queue.in_order at.found in
    let left : c.remove-entry.new.self.items ≡ without es c.args.ticket = c.remove-entry.ensures.items ∙ ap (remove es) at.at ∙ remove-one p es one in
    rw (← c.self.view_is) (λ i. record { entries = left i; next = c.self.inside.next })

pub returns-clause-recorded : goal.returns-clause-recorded
returns-clause-recorded c =
    let es = c.self.inside.entries.items in
    let p = λ (e : Waiting). e.ticket == c.args.ticket in
    let at : Placed p es c.args.place = placed p es c.args.place (ap (λ v. position p v.queue.entries) c.self.view_is ∙ c.requires) in
    let read : Some c.remove-entry.result ≡ find p es = read-one p es c.args.place c.remove-entry.result at.some at.at c.remove-entry.ensures.value in
    rw (← c.self.view_is, ← c.undo.view_is)
    (c.in_ok-push.ensures.items
    ∙ (λ i. c.reserve.ensures.items i ++ option_to_list (option_map (Left (at.at i)) (read i))))
