-- What undoing a change of a list gives back.
use Rattle.std.specs.Prelude.{◌≡◌, ℕ, Bool, true, false, not, ◌==◌, List, length, map, filter, find, insert, position, Some, refl}
use Rattle.std.specs.List.{position_or_len}
use Rattle.std.specs.Option.{is_some}
use Rattle.std.proofs.Common.{sym, ◌∙◌, ap}
use Rattle.std.proofs.lemmas.Bool.{eq-eqb}
use Rattle.sect_people.specs.Order.{all_differ}
use Rattle.sect_model.specs.declared.held.Enrolment.{Enrolment}
use Rattle.sect_model.specs.World.{insert_enrolment, put_behind}
use Rattle.sect_model.specs.Kept.{is_ordered, is_ordered_by}
use Rattle.sect_model.proofs.ListLemmas.{any-find, some-is}
use Rattle.sect_model.proofs.PutLemmas.{filter-put}
use Rattle.sect_roster.specs.Last.{last_of, drop_last_of}
use Rattle.sect_roster.specs.Slots.{rows_of, put_among}
use Rattle.sect_roster.proofs.AmongLemmas.{comes-back}
use Rattle.sect_roster.proofs.FoundLemmas.{find-among}
use Rattle.sect_roster.proofs.InsertLemmas.{none-found, once}
use Rattle.sect_roster.proofs.LastLemmas.{drop-put, last-put}
use Rattle.sect_roster.proofs.PlaceLemmas.{none-filter, one-any, place-some, put-one-back}

-- the one that passes, taken out and put back at its place
pub put-back : {X : Type 0} (p : X → Bool) (xs : List X) (k : ℕ) (x : X) → length (filter p xs) ≡ 1 → Some x ≡ find p xs → Some k ≡ position p xs
    → insert (filter (λ y. not (p y)) xs) k x ≡ xs
put-back p xs k x one found at =
    let same : k ≡ position_or_len p xs = sym (some-is k (position_or_len p xs) (sym (at ∙ place-some p xs (one-any p xs one)))) in
    ap (λ j. insert (filter (λ y. not (p y)) xs) j x) same ∙ put-one-back p xs x one found

-- the row of an id, taken out and put back at its place among those of its offering
pub put-row-back : {X : Type 0} (key id : X → ℕ) (n : ℕ) (xs : List X) (k : ℕ) (x : X) → is_ordered_by key xs ≡ true → all_differ (map id xs) ≡ true → Some x ≡ find (λ y. id y == n) xs
    → Some k ≡ position (λ y. id y == n) (rows_of key (key x) xs) → put_among key k x (filter (λ y. not (id y == n)) xs) ≡ xs
put-row-back key id n xs k x h differ found at =
    let p = λ (y : _). id y == n in
    let own = rows_of key (key x) xs in
    let among = find-among p (λ y. key y == key x) xs x (sym found) (eq-eqb (key x) (key x) refl) in
    let same : k ≡ position_or_len p own = sym (some-is k (position_or_len p own) (sym (at ∙ place-some p own (sym (any-find p own) ∙ ap is_some among)))) in
    ap (λ j. put_among key j x (filter (λ y. not (p y)) xs)) same ∙ comes-back key p (key x) xs x h (once id n xs differ (ap is_some (sym found))) found refl

-- a row of a new id, put behind and taken out
pub taken-back : {X : Type 0} (key id : X → ℕ) (x : X) (xs : List X) → is_some (find (λ y. id y == id x) xs) ≡ false
    → filter (λ y. not (id y == id x)) (put_behind key x xs) ≡ xs
taken-back key id x xs new =
    filter-put key (λ y. not (id y == id x)) x xs (ap not (eq-eqb (id x) (id x) refl))
    ∙ none-filter (λ y. id y == id x) xs (none-found (λ y. id y == id x) xs new)

-- an enrolment, put behind the others of its student and taken out as the student's last
pub dropped-last : (e : Enrolment) (es : List Enrolment) → is_ordered es ≡ true → drop_last_of e.student (insert_enrolment e es) ≡ es
dropped-last e es h = drop-put e es h

-- and it is the student's last
pub last-inserted : (e : Enrolment) (es : List Enrolment) → is_ordered es ≡ true → last_of e.student (insert_enrolment e es) ≡ Some e
last-inserted e es h = last-put e es h
