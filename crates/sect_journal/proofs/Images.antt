-- What images have in common with what a read gives.
use Rattle.std.proofs.Common.{◌≡◌, ◌≢◌, inl, inr, ℕ, ◌+◌, ◌-◌, ◌<◌, ◌≤◌, Bool, false, true, ◌&&◌, nat_le, nat_lt, List, [], ◌∷◌, ◌++◌, length, get_or, take, drop, map, All, Contains, Ok, Option, Some, None, refl, sym, ◌∙◌, ap, arith, append-nil, length-take, length-drop}
use Rattle.std.proofs.lemmas.Bool.{cases_eq}
use Rattle.std.proofs.lemmas.Bool.Decides.{nat_tests}
use Rattle.std.proofs.lemmas.List.{length-take-le, take-take, take-append-drop, drop_more, get_or-take, get_or-drop, ext_get_or}
use Rattle.std.proofs.lemmas.List.Elements.{All-head, All-tail, All-weaker}
use Rattle.sect_journal.specs.declared.journal.Span.{Span}
use Rattle.sect_journal.specs.Disk.{Content, Told, IsImage, is_touched, reach}
use Rattle.sect_journal.specs.Text.{journal_rows, with_rows, rows_from, rows_behind}
use Rattle.sect_journal.specs.Standing.{IsFront, IsAtRest, IsTorn, HasRows, IsKept, Leaves, LeavesNow, cut, rows_at, loose_at}
use Rattle.sect_journal.proofs.Front.{reads_closed}

-- a place below each range
untouched_below : (ranges : List (ℕ × ℕ)) (k i : ℕ) → All (λ range. k ≤ range.0) ranges → i < k → is_touched ranges i ≡ false
untouched_below [] k i all lt = refl
untouched_below (range ∷ ranges) k i all lt =
    let here : k ≤ range.0 = All-head (λ range. k ≤ range.0) range ranges all in
    let rest = untouched_below ranges k i (All-tail (λ range. k ≤ range.0) range ranges all) lt in
    let not_here : (nat_le range.0 i && nat_lt i (range.0 + range.1)) ≡ false = grind (arith, nat_tests) in
    rw not_here rest

-- a place behind the one byte that is written
untouched_behind : (ranges : List (ℕ × ℕ)) (gate i : ℕ) → All (λ range. range ≡ (gate, 1)) ranges → gate + 1 ≤ i → is_touched ranges i ≡ false
untouched_behind [] gate i all lt = refl
untouched_behind (range ∷ ranges) gate i all lt =
    let here : range ≡ (gate, 1) = All-head (λ range. range ≡ (gate, 1)) range ranges all in
    let rest = untouched_behind ranges gate i (All-tail (λ range. range ≡ (gate, 1)) range ranges all) lt in
    let start : range.0 ≡ gate = ap (λ r. r.0) here in
    let one : range.1 ≡ 1 = ap (λ r. r.1) here in
    let not_here : (nat_le range.0 i && nat_lt i (range.0 + range.1)) ≡ false = grind (arith, nat_tests) in
    rw not_here rest

reach_same : (ranges : List (ℕ × ℕ)) (gate size : ℕ) → All (λ range. range ≡ (gate, 1)) ranges → gate < size → reach size ranges ≡ size
reach_same [] gate size all lt = refl
reach_same (range ∷ ranges) gate size all lt =
    let here : range ≡ (gate, 1) = All-head (λ range. range ≡ (gate, 1)) range ranges all in
    let rest = reach_same ranges gate size (All-tail (λ range. range ≡ (gate, 1)) range ranges all) lt in
    let start : range.0 ≡ gate = ap (λ r. r.0) here in
    let one : range.1 ≡ 1 = ap (λ r. r.1) here in
    omega arith

-- what no write reached is in each image
pub image_front : (c : Content) (image : List ℕ) (k : ℕ) → IsImage c image → k ≤ length c.durable → All (λ range. k ≤ range.0) c.pending → take k image ≡ take k c.durable
image_front c image k is le all =
    let long : length (take k image) ≡ k = length-take-le k image (omega (arith, is.no_shorter)) in
    let durable_long : length (take k c.durable) ≡ k = length-take-le k c.durable le in
    ext_get_or 0 (take k image) (take k c.durable) (long ∙ sym durable_long) (λ i lt.
    let below : i < k = omega arith in
    get_or-take k image i 0 below
    ∙ is.outside i (omega arith) (untouched_below c.pending k i all below)
    ∙ sym (get_or-take k c.durable i 0 below))

pub record SameBehind (c : Content) (image : List ℕ) (gate : ℕ) : Type 0 where
  pub size : length image ≡ length c.durable
  pub same : drop (gate + 1) image ≡ drop (gate + 1) c.durable

pub image_behind : (c : Content) (image : List ℕ) (gate : ℕ) → IsImage c image → gate < length c.durable → All (λ range. range ≡ (gate, 1)) c.pending → SameBehind c image gate
image_behind c image gate is lt all =
    let far = reach_same c.pending gate (length c.durable) all lt in
    let size : length image ≡ length c.durable = omega (arith, is.no_shorter, is.no_longer, far) in
    let long : length (drop (gate + 1) image) ≡ length image - (gate + 1) = length-drop (gate + 1) image in
    let durable_long : length (drop (gate + 1) c.durable) ≡ length c.durable - (gate + 1) = length-drop (gate + 1) c.durable in
    record {
      size = size;
      same = ext_get_or 0 (drop (gate + 1) image) (drop (gate + 1) c.durable) (omega arith) (λ i lt.
          get_or-drop (gate + 1) image i 0
          ∙ is.outside (gate + 1 + i) (omega arith) (untouched_behind c.pending gate (gate + 1 + i) all (omega arith))
          ∙ sym (get_or-drop (gate + 1) c.durable i 0));
    }

-- bytes with the same front are read alike up to the gate
pub reads_at_gate : (seen image : List ℕ) (gate : ℕ) (rows : List (List ℕ)) → IsFront (take gate seen) rows → take gate image ≡ take gate seen → gate < length image
    → journal_rows image ≡ with_rows rows (rows_from (length (take gate seen)) 0 (get_or image gate 0 ∷ drop (gate + 1) image))
reads_at_gate seen image gate rows front same lt =
    let whole : image ≡ take gate seen ++ get_or image gate 0 ∷ drop (gate + 1) image =
    sym (take-append-drop gate image) ∙ ap (λ l. l ++ drop gate image) same ∙ ap (λ l. take gate seen ++ l) (drop_more image gate 0 lt) in
    ap (λ l. journal_rows l) whole ∙ front (get_or image gate 0 ∷ drop (gate + 1) image)

-- a closed gate ends it
pub reads_at_closed : (seen image : List ℕ) (gate : ℕ) (rows : List (List ℕ)) → IsFront (take gate seen) rows → take gate image ≡ take gate seen → gate < length image → get_or image gate 0 ≢ 1
    → journal_rows image ≡ Ok rows
reads_at_closed seen image gate rows front same lt shut =
    reads_at_gate seen image gate rows front same lt
    ∙ ap (λ r. with_rows rows r) (reads_closed (length (take gate seen)) (get_or image gate 0) (drop (gate + 1) image) shut)
    ∙ ap (λ l. Ok l) (append-nil rows)

-- at rest each image opens to the rows
pub rest_opens : (c : Content) (spans : List Span) (gate : ℕ) → HasRows c.seen spans gate → IsAtRest c gate → (image : List ℕ) → IsImage c image → journal_rows image ≡ Ok (map (cut c.seen) spans)
rest_opens c spans gate has rest image is =
    let seen_long : length (take (gate + 1) c.seen) ≡ gate + 1 = length-take-le (gate + 1) c.seen (omega (arith, has.within)) in
    let durable_long : gate + 1 ≤ length c.durable = omega (arith, ap length rest.front, seen_long, length-take (gate + 1) c.durable) in
    let front : take (gate + 1) image ≡ take (gate + 1) c.seen = image_front c image (gate + 1) is durable_long (All-weaker (λ range. gate < range.0) (λ range. gate + 1 ≤ range.0) (λ range lt. omega arith) c.pending rest.behind) ∙ rest.front in
    let same : take gate image ≡ take gate c.seen =
    sym (take-take gate (gate + 1) image (omega arith)) ∙ ap (λ l. take gate l) front ∙ take-take gate (gate + 1) c.seen (omega arith) in
    let byte : get_or image gate 0 ≡ get_or c.seen gate 0 =
    sym (get_or-take (gate + 1) image gate 0 (omega arith)) ∙ ap (λ l. get_or l gate 0) front ∙ get_or-take (gate + 1) c.seen gate 0 (omega arith) in
    reads_at_closed c.seen image gate (map (cut c.seen) spans) has.front same (omega (arith, is.no_shorter)) (λ open_gate. rest.closed.closed (sym byte ∙ open_gate))

pub rest_leaves : (c : Content) (spans : List Span) (gate : ℕ) (more : List (List (List ℕ))) → HasRows c.seen spans gate → IsAtRest c gate → Leaves (map (cut c.seen) spans) more c
rest_leaves c spans gate more has rest image is = inl (rest_opens c spans gate has rest image is)

pub only_one : {X : Type 0} (x : X) → Contains (x ∷ []) x
only_one x = (0, omega arith, refl)

-- torn, each opens to them, or to them and the group behind the gate
pub torn_leaves : (c : Content) (spans : List Span) (gate : ℕ) → HasRows c.seen spans gate → IsTorn c gate → Leaves (map (cut c.seen) spans) (rows_behind gate (drop (gate + 1) c.seen) ∷ []) c
torn_leaves c spans gate has torn image is =
    let rows = map (cut c.seen) spans in
    let bytes = drop (gate + 1) c.seen in
    let front : take gate image ≡ take gate c.seen =
    image_front c image gate is (omega (arith, torn.inside)) (All-weaker (λ range. range ≡ (gate, 1)) (λ range. gate ≤ range.0) (λ range e. let start : range.0 ≡ gate = ap (λ r. r.0) e in omega arith) c.pending torn.at_gate) ∙ torn.front in
    let behind = image_behind c image gate is torn.inside torn.at_gate in
    let inside : gate < length image = omega (arith, behind.size, torn.inside) in
    elim (cases_eq (get_or image gate 0) 1) [
      | inl open_gate ↦ inr (
        rows_behind gate bytes,
        only_one (rows_behind gate bytes),
        reads_at_gate c.seen image gate rows has.front front inside
            ∙ ap (λ b. with_rows rows (rows_from (length (take gate c.seen)) 0 (b ∷ drop (gate + 1) image))) open_gate
            ∙ ap (λ l. with_rows rows (rows_from (length (take gate c.seen)) 0 (1 ∷ l))) (behind.same ∙ torn.back)
            ∙ ap (λ k. with_rows rows (rows_from k 0 (1 ∷ bytes))) (length-take-le gate c.seen (omega (arith, has.within)))
            ∙ ap (λ r. with_rows rows r) torn.whole,
      )
      | inr shut ↦ inl (reads_at_closed c.seen image gate rows has.front front inside shut)
    ]

-- so the type says of what a crash now may leave
pub kept_leaves : (told : Option Told) (spans : List Span) (gate : ℕ) (torn : Bool) → IsKept told spans gate torn → LeavesNow (rows_at told spans) (loose_at told gate torn) told
kept_leaves None spans gate torn kept = tt
kept_leaves (Some t) spans gate false kept = rest_leaves t.now spans gate [] kept.0 kept.1
kept_leaves (Some t) spans gate true kept = torn_leaves t.now spans gate kept.0 kept.1
