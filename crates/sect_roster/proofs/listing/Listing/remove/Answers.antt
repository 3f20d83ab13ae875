-- The row goes from its place among those of its offering, and the mark from the id's rank.
use Rattle.std.proofs.Common.{◌≡◌, ◌∙◌, ◌==◌, ◌+◌, ◌≤◌, ap, sym, subst, true, not, Some}
use Rattle.std.specs.List.{filter, find, position}
use Rattle.std.specs.Option.{is_some, option_map}
use Rattle.sect_people.specs.Index.{rank}
use Rattle.sect_model.proofs.ListLemmas.{found-passes}
use Rattle.sect_roster.specs.Slots.{rows_of, number_of, capacity_of}
use Rattle.sect_roster.proofs.InsertLemmas.{find-dropped, left-of}
use Rattle.sect_roster.proofs.KeepsLemmas.{keeps-as, drop-keeps, marked, once-row}
use Rattle.sect_roster.proofs.SpotLemmas.{own-id, place-among, place-told, read-among}
use Rattle.sect_roster.proofs.listing.Listing.remove.Goals as goal

pub take_mark-requires-clause-some : goal.take_mark-requires-clause-some
take_mark-requires-clause-some g c =
    let p = λ (r : g.row.R.Denot). g.R.Filed.id_of r == c.args.id in
    let i = c.self.inside in
    marked g.R.Keyed.key_of g.R.Filed.id_of i.slots.items i.marks.items c.self.invariant c.args.id ∙ ap (λ v. is_some (find p v.items)) c.self.view_is ∙ c.requires

pub remove-requires : goal.remove-requires
remove-requires g c =
    let key = g.R.Keyed.key_of in
    let id = g.R.Filed.id_of in
    let p = λ (r : g.row.R.Denot). id r == c.args.id in
    let rs = c.self.inside.slots.items in
    let some : is_some (find p rs) ≡ true = ap (λ v. is_some (find p v.items)) c.self.view_is ∙ c.requires in
    let known : option_map key (find p rs) ≡ Some c.known_offering-offering.result = ap (λ v. option_map key (find p v.items)) c.self.view_is ∙ sym c.known_offering-offering.ensures in
    place-among key p c.known_offering-offering.result rs known c.rows_of.result.now c.first_of-place.result c.rows_of.ensures c.first_of-place.ensures

pub invariant_of-self : goal.invariant_of-self
invariant_of-self g c =
    let key = g.R.Keyed.key_of in
    let id = g.R.Filed.id_of in
    let p = λ (r : g.row.R.Denot). id r == c.args.id in
    let rs = c.self.inside.slots.items in
    let some : is_some (find p rs) ≡ true = ap (λ v. is_some (find p v.items)) c.self.view_is ∙ c.requires in
    let known : option_map key (find p rs) ≡ Some c.known_offering-offering.result = ap (λ v. option_map key (find p v.items)) c.self.view_is ∙ sym c.known_offering-offering.ensures in
    let row : Some c.remove.result ≡ find p rs = c.remove.ensures.row ∙ read-among key p c.known_offering-offering.result rs known c.rows_of.result.now c.first_of-place.result c.rows_of.ensures c.first_of-place.ensures in
    let left : c.remove.new.self.items ≡ filter (λ r. not (p r)) rs = left-of p rs c.remove.new.self.items (rank key (key c.remove.result) c.remove.new.self.items + c.first_of-place.result) c.remove.result
    c.remove.ensures.back (found-passes p rs c.remove.result (sym row)) (once-row key id rs c.self.inside.marks.items c.self.invariant c.args.id some) in
    keeps-as key id c.remove.new.self.items (filter (λ r. not (p r)) rs) c.take_mark.new.marks.items (filter (λ m. not (m.id == c.args.id)) c.self.inside.marks.items) left c.take_mark.ensures.items
    (drop-keeps key id rs c.self.inside.marks.items c.self.invariant c.args.id)

pub returns-clause-row : goal.returns-clause-row
returns-clause-row g c =
    let key = g.R.Keyed.key_of in
    let id = g.R.Filed.id_of in
    let p = λ (r : g.row.R.Denot). id r == c.args.id in
    let rs = c.self.inside.slots.items in
    let some : is_some (find p rs) ≡ true = ap (λ v. is_some (find p v.items)) c.self.view_is ∙ c.requires in
    let known : option_map key (find p rs) ≡ Some c.known_offering-offering.result = ap (λ v. option_map key (find p v.items)) c.self.view_is ∙ sym c.known_offering-offering.ensures in
    let row : Some c.remove.result ≡ find p rs = c.remove.ensures.row ∙ read-among key p c.known_offering-offering.result rs known c.rows_of.result.now c.first_of-place.result c.rows_of.ensures c.first_of-place.ensures in
    row ∙ ap (λ v. find p v.items) c.self.view_is

pub returns-clause-id : goal.returns-clause-id
returns-clause-id g c =
    let key = g.R.Keyed.key_of in
    let id = g.R.Filed.id_of in
    let p = λ (r : g.row.R.Denot). id r == c.args.id in
    let rs = c.self.inside.slots.items in
    let some : is_some (find p rs) ≡ true = ap (λ v. is_some (find p v.items)) c.self.view_is ∙ c.requires in
    let known : option_map key (find p rs) ≡ Some c.known_offering-offering.result = ap (λ v. option_map key (find p v.items)) c.self.view_is ∙ sym c.known_offering-offering.ensures in
    let row : Some c.remove.result ≡ find p rs = c.remove.ensures.row ∙ read-among key p c.known_offering-offering.result rs known c.rows_of.result.now c.first_of-place.result c.rows_of.ensures c.first_of-place.ensures in
    own-id id c.args.id rs c.remove.result row

pub returns-clause-place : goal.returns-clause-place
returns-clause-place g c =
    let key = g.R.Keyed.key_of in
    let id = g.R.Filed.id_of in
    let p = λ (r : g.row.R.Denot). id r == c.args.id in
    let rs = c.self.inside.slots.items in
    let some : is_some (find p rs) ≡ true = ap (λ v. is_some (find p v.items)) c.self.view_is ∙ c.requires in
    let known : option_map key (find p rs) ≡ Some c.known_offering-offering.result = ap (λ v. option_map key (find p v.items)) c.self.view_is ∙ sym c.known_offering-offering.ensures in
    place-told key p c.known_offering-offering.result rs known c.rows_of.result.now c.first_of-place.result c.rows_of.ensures c.first_of-place.ensures
    ∙ ap (λ m. position p (rows_of key m rs)) (sym c.remove.ensures.number) ∙ ap (λ v. position p (rows_of key (key c.remove.result) v.items)) c.self.view_is

pub returns-clause-rest : goal.returns-clause-rest
returns-clause-rest g c =
    let key = g.R.Keyed.key_of in
    let id = g.R.Filed.id_of in
    let p = λ (r : g.row.R.Denot). id r == c.args.id in
    let rs = c.self.inside.slots.items in
    let some : is_some (find p rs) ≡ true = ap (λ v. is_some (find p v.items)) c.self.view_is ∙ c.requires in
    let known : option_map key (find p rs) ≡ Some c.known_offering-offering.result = ap (λ v. option_map key (find p v.items)) c.self.view_is ∙ sym c.known_offering-offering.ensures in
    let row : Some c.remove.result ≡ find p rs = c.remove.ensures.row ∙ read-among key p c.known_offering-offering.result rs known c.rows_of.result.now c.first_of-place.result c.rows_of.ensures c.first_of-place.ensures in
    let left : c.remove.new.self.items ≡ filter (λ r. not (p r)) rs = left-of p rs c.remove.new.self.items (rank key (key c.remove.result) c.remove.new.self.items + c.first_of-place.result) c.remove.result
    c.remove.ensures.back (found-passes p rs c.remove.result (sym row)) (once-row key id rs c.self.inside.marks.items c.self.invariant c.args.id some) in
    left ∙ ap (λ v. filter (λ r. not (p r)) v.items) c.self.view_is

pub returns-clause-gone : goal.returns-clause-gone
returns-clause-gone g c =
    let key = g.R.Keyed.key_of in
    let id = g.R.Filed.id_of in
    let p = λ (r : g.row.R.Denot). id r == c.args.id in
    let rs = c.self.inside.slots.items in
    let some : is_some (find p rs) ≡ true = ap (λ v. is_some (find p v.items)) c.self.view_is ∙ c.requires in
    let known : option_map key (find p rs) ≡ Some c.known_offering-offering.result = ap (λ v. option_map key (find p v.items)) c.self.view_is ∙ sym c.known_offering-offering.ensures in
    let row : Some c.remove.result ≡ find p rs = c.remove.ensures.row ∙ read-among key p c.known_offering-offering.result rs known c.rows_of.result.now c.first_of-place.result c.rows_of.ensures c.first_of-place.ensures in
    let left : c.remove.new.self.items ≡ filter (λ r. not (p r)) rs = left-of p rs c.remove.new.self.items (rank key (key c.remove.result) c.remove.new.self.items + c.first_of-place.result) c.remove.result
    c.remove.ensures.back (found-passes p rs c.remove.result (sym row)) (once-row key id rs c.self.inside.marks.items c.self.invariant c.args.id some) in
    ap (λ xs. is_some (find p xs)) left ∙ ap is_some (find-dropped p rs)

pub returns-clause-room : goal.returns-clause-room
returns-clause-room g c =
    let key = g.R.Keyed.key_of in
    let n = c.known_offering-offering.result in
    subst (λ m. number_of key m c.args.self.now.items ≤ capacity_of c.args.self.now.rooms m) (sym c.remove.ensures.number)
    (subst (λ v. number_of key n v.items ≤ capacity_of v.rooms n) c.self.view_is c.remove.ensures.room)
