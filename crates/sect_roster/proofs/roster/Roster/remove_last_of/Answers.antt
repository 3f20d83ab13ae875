-- The last of the student's enrolments goes.
use Rattle.std.proofs.Common.{◌≡◌, ◌∙◌, ◌+◌, ◌-◌, ◌==◌, ap, sym, arith, length}
use Rattle.std.specs.Prelude.{ℕ, cond}
use Rattle.std.specs.List.{list_any}
use Rattle.std.proofs.lemmas.Bool.{eq-eqb}
use Rattle.sect_people.specs.Index.{rank}
use Rattle.sect_model.specs.declared.held.Enrolment.{Enrolment}
use Rattle.sect_model.specs.World.{insert_enrolment}
use Rattle.sect_roster.specs.Last.{last_of, drop_last_of}
use Rattle.sect_roster.specs.Slots.{number_of}
use Rattle.sect_roster.proofs.AmongLemmas.{among-last, number-insert}
use Rattle.sect_roster.proofs.LastLemmas.{drop-put, last-put}
use Rattle.sect_roster.proofs.OwnLemmas.{some-pass}
use Rattle.sect_roster.proofs.roster.Roster.remove_last_of.Goals as goal

pub overflow_sub-count : goal.overflow_sub-count
overflow_sub-count c =
    let n = c.args.student.0 in
    let some = some-pass (λ e. e.student.0 == n) c.self.inside.slots.items (ap (λ v. list_any (λ e. e.student.0 == n) v.items) c.self.view_is ∙ c.requires) in
    omega (arith, some, ap length c.rows_of-count.ensures)

pub remove-enrolment-requires : goal.remove-enrolment-requires
remove-enrolment-requires c =
    let n = c.args.student.0 in
    let some = some-pass (λ e. e.student.0 == n) c.self.inside.slots.items (ap (λ v. list_any (λ e. e.student.0 == n) v.items) c.self.view_is ∙ c.requires) in
    omega (arith, some, ap length c.rows_of-count.ensures)

pub returns-clause-enrolment : goal.returns-clause-enrolment
returns-clause-enrolment c =
    let key = λ (e : Enrolment). e.student.0 in
    let n = c.args.student.0 in
    let es = c.self.inside.slots.items in
    let e = c.remove-enrolment.result in
    let less = c.remove-enrolment.new.self.items in
    let place = length c.rows_of-count.result.now - 1 in
    let last : place ≡ number_of key (key e) less = omega (
      arith,
      ap length c.rows_of-count.ensures,
      ap (number_of key n) c.remove-enrolment.ensures.back,
      number-insert key n less (rank key (key e) less + place) e,
      ap {B = ℕ} (λ b. cond b 1 0) (eq-eqb (key e) n c.remove-enrolment.ensures.number),
      ap (λ m. number_of key m less) c.remove-enrolment.ensures.number,
    ) in
    let back : es ≡ insert_enrolment e less = c.remove-enrolment.ensures.back ∙ among-last key place e less c.recall_order.ensures last in
    let own : e.student ≡ c.args.student = λ i. record { 0 = c.remove-enrolment.ensures.number i } in
    sym (last-put e less c.recall_order.ensures) ∙ (λ i. last_of (own i) (sym back i)) ∙ ap (λ v. last_of c.args.student v.items) c.self.view_is

pub returns-clause-rest : goal.returns-clause-rest
returns-clause-rest c =
    let key = λ (e : Enrolment). e.student.0 in
    let n = c.args.student.0 in
    let es = c.self.inside.slots.items in
    let e = c.remove-enrolment.result in
    let less = c.remove-enrolment.new.self.items in
    let place = length c.rows_of-count.result.now - 1 in
    let last : place ≡ number_of key (key e) less = omega (
      arith,
      ap length c.rows_of-count.ensures,
      ap (number_of key n) c.remove-enrolment.ensures.back,
      number-insert key n less (rank key (key e) less + place) e,
      ap {B = ℕ} (λ b. cond b 1 0) (eq-eqb (key e) n c.remove-enrolment.ensures.number),
      ap (λ m. number_of key m less) c.remove-enrolment.ensures.number,
    ) in
    let back : es ≡ insert_enrolment e less = c.remove-enrolment.ensures.back ∙ among-last key place e less c.recall_order.ensures last in
    let own : e.student ≡ c.args.student = λ i. record { 0 = c.remove-enrolment.ensures.number i } in
    let rest : less ≡ drop_last_of c.args.student es = sym (drop-put e less c.recall_order.ensures) ∙ (λ i. drop_last_of (own i) (sym back i)) in
    λ i. record {
      items = (rest ∙ ap (λ v. drop_last_of c.args.student v.items) c.self.view_is) i;
      rooms = (c.remove-enrolment.ensures.rooms ∙ ap (λ v. v.rooms) c.self.view_is) i;
    }

pub returns-clause-back : goal.returns-clause-back
returns-clause-back c =
    let key = λ (e : Enrolment). e.student.0 in
    let n = c.args.student.0 in
    let es = c.self.inside.slots.items in
    let e = c.remove-enrolment.result in
    let less = c.remove-enrolment.new.self.items in
    let place = length c.rows_of-count.result.now - 1 in
    let last : place ≡ number_of key (key e) less = omega (
      arith,
      ap length c.rows_of-count.ensures,
      ap (number_of key n) c.remove-enrolment.ensures.back,
      number-insert key n less (rank key (key e) less + place) e,
      ap {B = ℕ} (λ b. cond b 1 0) (eq-eqb (key e) n c.remove-enrolment.ensures.number),
      ap (λ m. number_of key m less) c.remove-enrolment.ensures.number,
    ) in
    let back : es ≡ insert_enrolment e less = c.remove-enrolment.ensures.back ∙ among-last key place e less c.recall_order.ensures last in
    let own : e.student ≡ c.args.student = λ i. record { 0 = c.remove-enrolment.ensures.number i } in
    sym (ap (λ v. v.items) c.self.view_is) ∙ back
