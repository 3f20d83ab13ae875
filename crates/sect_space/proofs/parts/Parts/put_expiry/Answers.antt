-- The offering stays, so no room goes.
use Rattle.std.proofs.Common.{◌∙◌, ap, arith, length}
use Rattle.std.proofs.lemmas.List.{length-map}
use Rattle.std.specs.Option.{option_map_or}
use Rattle.sect_reserve.specs.declared.row.Reservation.{Reservation}
use Rattle.sect_model.specs.Change.{expire}
use Rattle.sect_space.specs.declared.back.Back.TheVariants.{ExpiryReplaced}
use Rattle.sect_space.specs.Back.{no_change, reservation_offering}
use Rattle.sect_space.specs.Parts.{roomed_of}
use Rattle.sect_space.proofs.RoomLemmas.{expired-offering, same-in}
use Rattle.sect_space.proofs.parts.Parts.put_expiry.Goals as goal

pub returns : goal.returns
returns c =
    let old = c.args.self.now in
    let new = c.set_expiry-old.new.self in
    let f = expire c.args.id c.args.expiry in
    let items = ap (λ v. v.items) c.set_expiry-old.ensures.changed in
    let n = ap length items ∙ length-map old.reservations.items f in
    let w = (roomed_of old).world in
    record {
      world = λ i. record {
        catalogue = old.catalogue;
        students = old.people;
        reservations = items i;
        restrictions = old.restrictions.items;
        roster = old.roster.items;
        day = old.day;
      };
      recorded =
          (λ i. ExpiryReplaced c.args.id (c.reservation_offering-offering.ensures i) c.set_expiry-old.result)
          ∙ ap (λ o. option_map_or (ExpiryReplaced c.args.id (reservation_offering w c.args.id)) o (no_change w)) c.set_expiry-old.ensures.given_back;
      room = record {
        roster = λ n. omega arith;
        reservations =
            same-in (λ (r : Reservation). r.offering.0) old.reservations.items new.items old.reservations.rooms new.rooms f (expired-offering c.args.id c.args.expiry) items
            (ap (λ v. v.rooms) c.set_expiry-old.ensures.changed);
        restrictions = λ n. omega arith;
        reservation_ids = omega (arith, n, ap (λ v. v.spare) c.set_expiry-old.ensures.changed);
        restriction_ids = omega arith;
      };
    }
