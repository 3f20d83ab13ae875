-- A student has at most 20 requests.
use Rattle.std.proofs.Common.{◌≤◌, ◌∙◌, ap, subst, length}
use Rattle.std.specs.Option.{option_map}
use Rattle.sect_people.specs.Student.{find_student}
use Rattle.sect_view.proofs.AskLemmas.{asks-few, asks-lent}
use Rattle.sect_view.proofs.unmet.add_unmet.Goals as goal

pub add_asks-requires : goal.add_asks-requires
add_asks-requires c =
    let w = c.args.world.now.world in
    subst (λ xs. length xs ≤ 20) (asks-lent (find_student w.students c.args.student) c.in-Some.asks.now (c.in-Some.ensures ∙ ap (λ ss. option_map (λ s. s.asks) (find_student ss c.args.student)) c.people.ensures))
    (asks-few w c.recall_kept.ensures c.args.student)
