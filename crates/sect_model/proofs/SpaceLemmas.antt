-- Space without first days, and without a reservation.
use Rattle.std.specs.Prelude.{◌≡◌, ℕ, ◌+◌, pos, ◌-ℤ◌, Bool, true, ◌&&◌, nat_le, cond, List, [], ◌∷◌, filter, sum_by, Option, Some, None, refl, false}
use Rattle.std.specs.List.{list_all}
use Rattle.std.specs.Option.{option_map, option_map_or, is_none}
use Rattle.std.proofs.Common.{sym, ◌∙◌, ap}
use Rattle.sect_reserve.specs.Audience.{active}
use Rattle.sect_reserve.specs.Lasting.{lasts}
use Rattle.sect_model.specs.Data.{Reservation, Level}
use Rattle.sect_model.specs.World.{World}
use Rattle.sect_model.specs.Counts.{count_of}
use Rattle.sect_model.specs.Space.{places_at, names, remaining, has_unlimited}
use Rattle.sect_model.specs.Before.{have_no_first_day}
use Rattle.sect_base.specs.declared.limit.Level.TheVariants.{Offering, Config, Section}
use Rattle.std.specs.Option.{option_and_then}
use Rattle.std.specs.Prelude.{map}
use Rattle.sect_model.specs.Data.{Choice, OfferingRow}
use Rattle.sect_model.specs.World.{offering_of, used_by, reservation_of}
use Rattle.sect_model.specs.Space.{is_open, has_place, has_space_for, has_unreserved}
use Rattle.sect_model.specs.Allowed.{is_allowed, is_allowed_in, fits_want, fits_student, fits_reservation, fits_space, fits_only, levels_of, leaves_reserved}
use Rattle.sect_model.specs.Laws.{ExpiriesDecide, UnreservedAlone}
use Rattle.sect_model.proofs.Members.{all-of, all-at, both, known-test}
use Rattle.sect_model.proofs.CoverLemmas.{both-left, both-right}

no-first : (day : ℕ) (first : Option ℕ) (rest : Bool) → is_none first ≡ true → option_map_or (λ f. nat_le f day) first true && rest ≡ rest
no-first day None rest none = refl
no-first day (Some f) rest none = cc

same-active : (w : World) (level : Level) (rs : List Reservation) → have_no_first_day rs ≡ true
    → filter (λ r. active r w.day && names r level) rs ≡ filter (λ r. lasts r w.day && names r level) rs
same-active w level [] none = refl
same-active w level (r ∷ rs) none = λ i. cond (no-first w.day r.first (lasts r w.day) (both-left _ _ none) i && names r level)
    (r ∷ same-active w level rs (both-right (is_none r.first) (have_no_first_day rs) none) i)
    (same-active w level rs (both-right (is_none r.first) (have_no_first_day rs) none) i)

pub expiries-decide : ExpiriesDecide
expiries-decide w level none =
    ap (λ rs. option_map (λ limit. cond (has_unlimited rs) (pos 0) (pos limit -ℤ pos (count_of w level + sum_by (remaining w) rs))) (places_at w level))
    (same-active w level w.reservations none)

-- ---- without a reservation unreserved space alone counts

open-unreserved : (w : World) (level : Level) (r : Option Reservation) → r ≡ None → is_open w r level ≡ true → has_space_for w None level ≡ true
open-unreserved w level None e h = both-right (has_place w level) (has_space_for w None level) h
open-unreserved w level (Some x) e h = cc

list_all-map : {X Y : Type 0} (p : Y → Bool) (f : X → Y) (xs : List X) → list_all p (map f xs) ≡ list_all (λ x. p (f x)) xs
list_all-map p f [] = refl
list_all-map p f (x ∷ xs) = ap (λ b. p (f x) && b) (list_all-map p f xs)

levels-unreserved : (w : World) (o : OfferingRow) (choice : Choice) → used_by w choice ≡ None → fits_space w o choice ≡ true → leaves_reserved w o choice ≡ true
levels-unreserved w o choice none h =
    let each = all-of (has_space_for w None) (levels_of o choice)
    (λ level m. open-unreserved w level (used_by w choice) none (all-at (is_open w (used_by w choice)) (levels_of o choice) h level m)) in
    both (has_unreserved w (Offering o.id) && has_unreserved w (Config choice.config)) (list_all (λ s. has_unreserved w (Section s)) choice.sections)
    (both (has_unreserved w (Offering o.id)) (has_unreserved w (Config choice.config))
    (both-left (has_unreserved w (Offering o.id)) _ each)
    (both-left (has_unreserved w (Config choice.config)) _ (both-right (has_unreserved w (Offering o.id)) _ each)))
    (sym (list_all-map (has_space_for w None) Section choice.sections) ∙ both-right (has_unreserved w (Config choice.config)) _ (both-right (has_unreserved w (Offering o.id)) _ each))

pub unreserved-alone : UnreservedAlone
unfolding is_allowed
unreserved-alone w student want choice none h =
    let o = known-test (is_allowed_in w student want choice) (offering_of w choice.course) h in
    let space = both-right (fits_want w want choice && fits_student w student o.0 choice && fits_reservation w student o.0 choice) (fits_space w o.0 choice)
    (both-left _ _ (both-left _ _ (both-left _ _ (both-left _ (fits_only want choice) o.2)))) in
    ap (λ x. option_map_or (λ o. leaves_reserved w o choice) x false) o.1 ∙ levels-unreserved w o.0 choice (ap (option_and_then (reservation_of w)) none) space
