-- What a journal is once it is opened.
use Rattle.std.proofs.Common.{◌≡◌, ℕ, ◌+◌, ◌<◌, ◌≤◌, false, List, [], ◌∷◌, Option, Some, None, refl, sym, subst, arith}
use Rattle.std.proofs.lemmas.List.Elements.{All-nil}
use Rattle.sect_journal.specs.declared.journal.Span.{Span}
use Rattle.sect_journal.specs.Disk.{Content, Told, IsImage, put, synced, touched, after_sync}
use Rattle.sect_journal.specs.Standing.{IsClosed, IsAtRest, HasRows, LeavesNow, rows_at, loose_at}
use Rattle.sect_journal.specs.Opening.{EndsAt, HoldsRows, IsOpened, formatted}
use Rattle.sect_journal.proofs.Front.{front_none}
use Rattle.sect_journal.proofs.Images.{rest_opens, rest_leaves}

-- what a read gives is an image of what is durable
seen_is_image : (c : Content) → IsImage (synced c) c.seen
seen_is_image c = record { no_shorter = omega arith; no_longer = omega arith; outside = λ i lt untouched. refl }

rests : (c : Content) (gate : ℕ) → IsClosed c.seen gate → IsAtRest (synced c) gate
rests c gate closed = record { front = refl; closed = closed; behind = All-nil (λ (range : ℕ × ℕ). gate < range.0) }

record Opens (told : Option Told) (spans : List Span) : Type 0 where
  rows : HoldsRows told (rows_at (after_sync told) spans)
  now : LeavesNow (rows_at (after_sync told) spans) [] (after_sync told)

opens : (told : Option Told) (spans : List Span) (gate : ℕ) → EndsAt (after_sync told) spans gate → Opens told spans
opens None spans gate ends = record { rows = refl; now = tt }
opens (Some t) spans gate ends =
    let rest = rests t.now gate ends.1 in
    record {
      rows = rest_opens (synced t.now) spans gate ends.0 rest t.now.seen (seen_is_image t.now);
      now = rest_leaves (synced t.now) spans gate [] ends.0 rest;
    }

loose_none : (told : Option Told) (gate : ℕ) → loose_at told gate false ≡ []
loose_none None gate = refl
loose_none (Some t) gate = refl

module _ {D : Type 0} (told : D → Option Told) (before : Option Told) (disk : D) (spans : List Span) (gate room : ℕ) where
  pub is_opened : told disk ≡ after_sync before → EndsAt (after_sync before) spans gate
      → IsOpened told before (record { disk = disk; rows = rows_at (told disk) spans; loose = loose_at (told disk) gate false; gate = gate; torn = false; room = room })
  is_opened is ends =
      let o = opens before spans gate ends in
      record {
        rows = subst (λ t. HoldsRows before (rows_at t spans)) (sym is) o.rows;
        loose = loose_none (told disk) gate;
        synced = is;
        now = subst (λ t. LeavesNow (rows_at t spans) [] t) (sym is) o.now;
      }

formatted_told : (t : Told) → LeavesNow [] [] (formatted (Some t))
formatted_told t =
    let seen = put t.now.seen 0 (0 ∷ []) in
    let c = touched t.now 0 1 seen in
    let has : HasRows seen [] 0 = record { within = omega arith; inside = All-nil (λ (span : Span). span.start + span.length ≤ 0); front = front_none } in
    rest_leaves (synced c) [] 0 [] has (rests c 0 (record { inside = omega arith; closed = λ is. absurd (omega arith) }))

pub formatted_leaves : (told new : Option Told) → new ≡ formatted told → LeavesNow [] [] new
formatted_leaves None new is = subst (λ t. LeavesNow [] [] t) (sym is) tt
formatted_leaves (Some t) new is = subst (λ u. LeavesNow [] [] u) (sym is) (formatted_told t)
