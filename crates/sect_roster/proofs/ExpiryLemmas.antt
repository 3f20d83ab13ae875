-- A reservation that is taken out, changed and put back is the change of its expiry day.
use Rattle.std.specs.Prelude.{◌≡◌, ℕ, zero, suc, ◌+◌, Bool, true, false, ◌==◌, cond, List, [], ◌∷◌, map, find, insert, Option, Some, refl}
use Rattle.std.specs.Option.{is_some}
use Rattle.std.proofs.Common.{sym, ◌∙◌, ap}
use Rattle.sect_base.specs.declared.ids.ReservationId.{ReservationId}
use Rattle.sect_reserve.specs.declared.row.Reservation.{Reservation}
use Rattle.sect_people.specs.Index.{rank}
use Rattle.sect_model.specs.Change.{expire}
use Rattle.sect_model.proofs.Members.{not_both}
use Rattle.sect_roster.specs.Filed.{Keeps}
use Rattle.sect_roster.specs.Slots.{put_among}
use Rattle.sect_roster.specs.declared.mark.Mark.{Mark}
use Rattle.sect_roster.proofs.KeepsLemmas.{change-keeps}

map-insert : {X Y : Type 0} (f : X → Y) (xs : List X) (k : ℕ) (x : X) → map f (insert xs k x) ≡ insert (map f xs) k (f x)
map-insert f [] zero x = refl
map-insert f [] (suc k) x = refl
map-insert f (y ∷ ys) zero x = refl
map-insert f (y ∷ ys) (suc k) x = ap (λ zs. f y ∷ zs) (map-insert f ys k x)

module _ (id : ReservationId) (day : Option ℕ) where
  -- where no row has the id, none is changed
  none-expired : (rows : List Reservation) → is_some (find (λ r. r.id.0 == id.0) rows) ≡ false → map (expire id day) rows ≡ rows
  none-expired [] h = refl
  none-expired (r ∷ rs) h = by_test (r.id.0 == id.0) h (λ g. none-expired rs g)
    where
      by_test : (b : Bool) → is_some (cond b (Some r) (find (λ r. r.id.0 == id.0) rs)) ≡ false → (is_some (find (λ r. r.id.0 == id.0) rs) ≡ false → map (expire id day) rs ≡ rs)
          → cond b (record r { expiry = day }) r ∷ map (expire id day) rs ≡ r ∷ rs
      by_test true h ih = absurd (not_both true refl h)
      by_test false h ih = ap (λ xs. r ∷ xs) (ih h)

  pub expired : (rows rest : List Reservation) (place : ℕ) (row : Reservation) → rows ≡ put_among (λ r. r.offering.0) place row rest → row.id.0 == id.0 ≡ true → is_some (find (λ r. r.id.0 == id.0) rest) ≡ false
      → put_among (λ r. r.offering.0) place (record row { expiry = day }) rest ≡ map (expire id day) rows
  expired rows rest place row is mine none =
      let at = rank (λ r. r.offering.0) row.offering.0 rest + place in
      (λ i. insert ((sym (none-expired rest none)) i) at (cond (sym mine i) (record row { expiry = day }) row))
      ∙ sym (map-insert (expire id day) rest at row)
      ∙ ap (map (expire id day)) (sym is)

  -- a change of the expiry day alone
  expire-same : {Y : Type 0} (get : Reservation → Y) → ((r : Reservation) → get (record r { expiry = day }) ≡ get r) → (r : Reservation) → get (expire id day r) ≡ get r
  expire-same get same r = by_test (r.id.0 == id.0)
    where
      by_test : (b : Bool) → get (cond b (record r { expiry = day }) r) ≡ get r
      by_test true = same r
      by_test false = refl

  pub expiry-keeps : (rows : List Reservation) (marks : List Mark) → Keeps (λ r. r.offering.0) (λ r. r.id.0) rows marks → Keeps (λ r. r.offering.0) (λ r. r.id.0) (map (expire id day) rows) marks
  expiry-keeps rows marks k = change-keeps (λ r. r.offering.0) (λ r. r.id.0) rows marks k (expire id day) (expire-same (λ r. r.offering.0) (λ r. refl)) (expire-same (λ r. r.id.0) (λ r. refl))
