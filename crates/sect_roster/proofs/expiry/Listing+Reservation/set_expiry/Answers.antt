-- Taken out, changed and put back at its place, the reservation has the new expiry day.
use Rattle.std.proofs.Common.{◌≡◌, ◌∙◌, ◌==◌, ◌+◌, ap, sym, arith, true, false, not, Some, map, refl}
use Rattle.std.specs.List.{filter, find}
use Rattle.std.specs.Option.{is_some, option_map}
use Rattle.std.proofs.lemmas.Bool.{eq-eqb}
use Rattle.sect_reserve.specs.declared.row.Reservation.{Reservation}
use Rattle.sect_people.specs.Index.{rank}
use Rattle.sect_model.specs.Change.{expire}
use Rattle.sect_model.proofs.ListLemmas.{found-passes}
use Rattle.sect_roster.specs.Slots.{number_of, capacity_of, put_among}
use Rattle.sect_roster.proofs.ExpiryLemmas.{expired, expiry-keeps}
use Rattle.sect_roster.proofs.InsertLemmas.{count-more, find-dropped, left-of}
use Rattle.sect_roster.proofs.KeepsLemmas.{keeps-as, once-row}
use Rattle.sect_roster.proofs.SpotLemmas.{place-among, read-among}
use Rattle.sect_roster.proofs.expiry.Listing+Reservation.set_expiry.Goals as goal

pub remove-row-requires : goal.remove-row-requires
remove-row-requires c =
    let key = λ (r : Reservation). r.offering.0 in
    let id = λ (r : Reservation). r.id.0 in
    let p = λ (r : Reservation). r.id.0 == c.args.id.0 in
    let rs = c.self.inside.slots.items in
    let some : is_some (find p rs) ≡ true = ap (λ v. is_some (find p v.items)) c.self.view_is ∙ c.requires in
    let known : option_map key (find p rs) ≡ Some c.known_offering-offering.result = ap (λ v. option_map key (find p v.items)) c.self.view_is ∙ sym c.known_offering-offering.ensures in
    place-among key p c.known_offering-offering.result rs known c.rows_of.result.now c.first_of-place.result c.rows_of.ensures c.first_of-place.ensures

pub put_back-requires-clause-room : goal.put_back-requires-clause-room
put_back-requires-clause-room c =
    let key = λ (r : Reservation). r.offering.0 in
    let n = c.known_offering-offering.result in
    let rest = c.remove-row.new.self.items in
    let same : c.replace_expiry-old.new.row.offering.0 ≡ n = ap (λ r. r.offering.0) c.replace_expiry-old.ensures.replaced ∙ c.remove-row.ensures.number in
    let one = ap (number_of key n) c.remove-row.ensures.back
    ∙ count-more (λ r. r.offering.0 == n) rest (rank key (key c.remove-row.result) rest + c.first_of-place.result) c.remove-row.result (eq-eqb (key c.remove-row.result) n c.remove-row.ensures.number) in
    omega (
      arith,
      one,
      c.remove-row.ensures.room,
      ap (λ rooms. capacity_of rooms n) c.remove-row.ensures.rooms,
      ap (λ m. number_of key m rest) same,
      ap (capacity_of c.remove-row.new.self.rooms) same,
    )

pub invariant_of-self : goal.invariant_of-self
invariant_of-self c =
    let key = λ (r : Reservation). r.offering.0 in
    let id = λ (r : Reservation). r.id.0 in
    let p = λ (r : Reservation). r.id.0 == c.args.id.0 in
    let rs = c.self.inside.slots.items in
    let some : is_some (find p rs) ≡ true = ap (λ v. is_some (find p v.items)) c.self.view_is ∙ c.requires in
    let known : option_map key (find p rs) ≡ Some c.known_offering-offering.result = ap (λ v. option_map key (find p v.items)) c.self.view_is ∙ sym c.known_offering-offering.ensures in
    let row : Some c.remove-row.result ≡ find p rs = c.remove-row.ensures.row ∙ read-among key p c.known_offering-offering.result rs known c.rows_of.result.now c.first_of-place.result c.rows_of.ensures c.first_of-place.ensures in
    let mine = found-passes p rs c.remove-row.result (sym row) in
    let rest = c.remove-row.new.self.items in
    let left : rest ≡ filter (λ r. not (p r)) rs = left-of p rs rest (rank key (key c.remove-row.result) rest + c.first_of-place.result) c.remove-row.result
    c.remove-row.ensures.back mine (once-row key id rs c.self.inside.marks.items c.self.invariant c.args.id.0 some) in
    let none : is_some (find p rest) ≡ false = ap (λ xs. is_some (find p xs)) left ∙ ap is_some (find-dropped p rs) in
    let set : c.put_back.new.self.items ≡ map (expire c.args.id c.args.expiry) rs
    = ap (λ v. v.items) c.put_back.ensures
    ∙ ap (λ r. put_among key c.first_of-place.result r rest) c.replace_expiry-old.ensures.replaced
    ∙ expired c.args.id c.args.expiry rs rest c.first_of-place.result c.remove-row.result c.remove-row.ensures.back mine none in
    keeps-as key id c.put_back.new.self.items (map (expire c.args.id c.args.expiry) rs) c.self.inside.marks.items c.self.inside.marks.items set refl
    (expiry-keeps c.args.id c.args.expiry rs c.self.inside.marks.items c.self.invariant)

pub returns-clause-given_back : goal.returns-clause-given_back
returns-clause-given_back c =
    let key = λ (r : Reservation). r.offering.0 in
    let id = λ (r : Reservation). r.id.0 in
    let p = λ (r : Reservation). r.id.0 == c.args.id.0 in
    let rs = c.self.inside.slots.items in
    let some : is_some (find p rs) ≡ true = ap (λ v. is_some (find p v.items)) c.self.view_is ∙ c.requires in
    let known : option_map key (find p rs) ≡ Some c.known_offering-offering.result = ap (λ v. option_map key (find p v.items)) c.self.view_is ∙ sym c.known_offering-offering.ensures in
    let row : Some c.remove-row.result ≡ find p rs = c.remove-row.ensures.row ∙ read-among key p c.known_offering-offering.result rs known c.rows_of.result.now c.first_of-place.result c.rows_of.ensures c.first_of-place.ensures in
    ap Some c.replace_expiry-old.ensures.given_back ∙ ap (option_map (λ r. r.expiry)) row ∙ ap (λ v. option_map (λ r. r.expiry) (find p v.items)) c.self.view_is

pub returns-clause-changed : goal.returns-clause-changed
returns-clause-changed c =
    let key = λ (r : Reservation). r.offering.0 in
    let id = λ (r : Reservation). r.id.0 in
    let p = λ (r : Reservation). r.id.0 == c.args.id.0 in
    let rs = c.self.inside.slots.items in
    let some : is_some (find p rs) ≡ true = ap (λ v. is_some (find p v.items)) c.self.view_is ∙ c.requires in
    let known : option_map key (find p rs) ≡ Some c.known_offering-offering.result = ap (λ v. option_map key (find p v.items)) c.self.view_is ∙ sym c.known_offering-offering.ensures in
    let row : Some c.remove-row.result ≡ find p rs = c.remove-row.ensures.row ∙ read-among key p c.known_offering-offering.result rs known c.rows_of.result.now c.first_of-place.result c.rows_of.ensures c.first_of-place.ensures in
    let mine = found-passes p rs c.remove-row.result (sym row) in
    let rest = c.remove-row.new.self.items in
    let left : rest ≡ filter (λ r. not (p r)) rs = left-of p rs rest (rank key (key c.remove-row.result) rest + c.first_of-place.result) c.remove-row.result
    c.remove-row.ensures.back mine (once-row key id rs c.self.inside.marks.items c.self.invariant c.args.id.0 some) in
    let none : is_some (find p rest) ≡ false = ap (λ xs. is_some (find p xs)) left ∙ ap is_some (find-dropped p rs) in
    let set : c.put_back.new.self.items ≡ map (expire c.args.id c.args.expiry) rs
    = ap (λ v. v.items) c.put_back.ensures
    ∙ ap (λ r. put_among key c.first_of-place.result r rest) c.replace_expiry-old.ensures.replaced
    ∙ expired c.args.id c.args.expiry rs rest c.first_of-place.result c.remove-row.result c.remove-row.ensures.back mine none in
    let rooms = ap (λ v. v.rooms) c.put_back.ensures ∙ c.remove-row.ensures.rooms ∙ ap (λ v. v.rooms) c.self.view_is in
    λ i. record { items = (set ∙ ap (λ v. map (expire c.args.id c.args.expiry) v.items) c.self.view_is) i; rooms = rooms i; spare = (c.self.view_is i).spare }
