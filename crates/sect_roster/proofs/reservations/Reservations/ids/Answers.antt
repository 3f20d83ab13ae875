-- The marks stand in order of id.
use Rattle.std.proofs.Common.{◌∙◌, ap, sym, map}
use Rattle.std.proofs.lemmas.List.{take_all}
use Rattle.sect_people.specs.Order.{sorted_by}
use Rattle.sect_reserve.specs.declared.row.Reservation.{Reservation}
use Rattle.sect_roster.proofs.IdLemmas.{map-both, reservation_id}
use Rattle.sect_roster.proofs.reservations.Reservations.ids.Goals as goal

pub returns : goal.returns
returns c =
    let id = λ (r : Reservation). r.id.0 in
    let marks = c.marks-mark-items.result.now in
    c.loop-mark.invariant
    ∙ ap (map (λ m. reservation_id m.id)) (take_all c.loop-mark.mark-index marks c.loop-mark-test.false)
    ∙ sym (map-both reservation_id (λ m. m.id) marks)
    ∙ ap (map reservation_id) c.marks-mark-items.ensures
    ∙ map-both reservation_id id (sorted_by id c.self.inside.listing.items)
    ∙ ap (λ v. map (λ r. r.id) (sorted_by id v.items)) c.self.view_is
