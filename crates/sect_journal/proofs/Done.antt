-- What the writes of a journal have done once they are durable.
use Rattle.std.proofs.Common.{◌≡◌, inr, ℕ, ◌+◌, ◌<◌, ◌≤◌, ◌^◌, Bool, true, false, List, [], ◌∷◌, ◌++◌, length, get_or, take, drop, map, Option, Some, None, Ok, refl, sym, ◌∙◌, ap, subst, arith}
use Rattle.std.proofs.lemmas.List.{length-take-le, drop_at, get_or_at, drop_more, map-append, length-map}
use Rattle.std.proofs.lemmas.List.Elements.{All-nil}
use Rattle.sect_journal.specs.declared.journal.Span.{Span}
use Rattle.sect_journal.specs.Disk.{Content, Told, IsImage, Torn, put, touched, goes_to, synced, after_write, after_sync, Stays}
use Rattle.sect_journal.specs.Text.{journal_rows, rows_from, rows_or_none, rows_behind, gate_byte, records_of}
use Rattle.sect_journal.specs.Standing.{IsAtRest, IsTorn, HasRows, IsKept, Leaves, cut, rows_at, loose_at, where_told, spans_of, gate_behind}
use Rattle.sect_journal.proofs.Groups.{group_reads, behind_text, walks}
use Rattle.sect_journal.proofs.Images.{rest_opens, rest_leaves, torn_leaves, only_one}
use Rattle.sect_journal.proofs.Writes.{put_torn}
use Rattle.sect_journal.proofs.Keeps.{rows_same, has_same, torn_front, rest_goes_on, torn_goes_on, stays_two}

-- the byte that was written at a gate
byte_put : (old : List ℕ) (gate b : ℕ) → gate ≤ length old → get_or (put old gate (b ∷ [])) gate 0 ≡ b
byte_put old gate b le = get_or_at (take gate old) b (drop 1 (drop gate old)) 0 gate (length-take-le gate old le)

-- a piece that was written, and what stands behind it
drop_put : (old : List ℕ) (at : ℕ) (piece : List ℕ) → at ≤ length old → drop at (put old at piece) ≡ piece ++ drop (length piece) (drop at old)
drop_put old at piece le = drop_at (take at old) (piece ++ drop (length piece) (drop at old)) at (length-take-le at old le)

-- the gate was closed: the rows are as they were, and none is loose
pub record Shut (told new : Option Told) (spans : List Span) (gate : ℕ) (torn : Bool) : Type 0 where
  pub kept : IsKept new spans gate false
  pub rows : rows_at new spans ≡ rows_at told spans
  pub loose : loose_at new gate false ≡ []
  pub stays : Stays told new (Leaves (rows_at told spans) (loose_at told gate torn))

shut_told : (t : Told) (spans : List Span) (gate : ℕ) → HasRows t.now.seen spans gate → IsTorn t.now gate → Shut (Some t) (after_sync (after_write (Some t) gate (0 ∷ []))) spans gate true
shut_told t spans gate has torn =
    let old = t.now.seen in
    let seen = put old gate (0 ∷ []) in
    let write : Torn gate 1 old seen = put_torn old gate (0 ∷ []) (omega (arith, has.within)) in
    let rows = rows_same old seen gate spans write.before has.inside in
    let inside : gate < length seen = omega (arith, has.within, write.no_shorter) in
    let has_new = has_same old seen spans gate has write.before inside in
    let c = touched t.now gate 1 seen in
    let torn_new = torn_goes_on t.now gate seen torn write in
    let rest : IsAtRest (synced c) gate = record {
      front = refl;
      closed = record { inside = inside; closed = λ opens. absurd (let e : 0 ≡ 1 = sym (byte_put old gate 0 (omega (arith, has.within))) ∙ opens in omega arith) };
      behind = All-nil (λ (range : ℕ × ℕ). gate < range.0);
    } in
    let more = rows_behind gate (drop (gate + 1) old) ∷ [] in
    let P = Leaves (map (cut old) spans) more in
    let loose : rows_behind gate (drop (gate + 1) seen) ∷ [] ≡ more = ap (λ l. rows_behind gate l ∷ []) write.after in
    record {
      kept = (has_new, rest);
      rows = rows;
      loose = refl;
      stays = (
        goes_to (goes_to t c) (synced c),
        refl,
        stays_two t c (synced c) P (torn_leaves t.now spans gate has torn)
            (subst (λ r. Leaves r more c) rows (subst (λ m. Leaves (map (cut seen) spans) m c) loose (torn_leaves c spans gate has_new torn_new)))
            (subst (λ r. Leaves r more (synced c)) rows (rest_leaves (synced c) spans gate more has_new rest)),
      );
    }

pub shut_done : (told new : Option Told) (spans : List Span) (gate : ℕ) (torn : Bool) → torn ≡ true → IsKept told spans gate torn → new ≡ after_sync (after_write told gate (0 ∷ [])) → Shut told new spans gate torn
shut_done told new spans gate false is_torn kept is = absurd (cc)
shut_done None new spans gate true is_torn kept is = subst (λ u. Shut None u spans gate true) (sym is) (record { kept = tt; rows = refl; loose = refl; stays = refl })
shut_done (Some t) new spans gate true is_torn kept is = subst (λ u. Shut (Some t) u spans gate true) (sym is) (shut_told t spans gate kept.0 kept.1)

pub some_mapped : {X : Type 0} (f : X → List ℕ) (xs : List X) → 0 < length xs → 0 < length (map f xs)
some_mapped f xs some = omega (arith, length-map xs f)

-- before some rows the gate is open
opens_some : (rows : List (List ℕ)) → 0 < length rows → gate_byte rows ≡ 1
opens_some [] some = absurd (omega arith)
opens_some (row ∷ rows) some = refl

-- the records stand behind the gate, which is to be opened or to be closed
pub record Staged (told new : Option Told) (rows : List (List ℕ)) (spans : List Span) (gate : ℕ) : Type 0 where
  pub kept : IsKept new spans gate true
  pub rows_are : rows_at new spans ≡ rows_at told spans
  pub loose : loose_at new gate true ≡ where_told new (rows ∷ [])
  pub stays : Stays told new (Leaves (rows_at told spans) (rows ∷ []))

stage_told : (t : Told) (rows : List (List ℕ)) (spans : List Span) (gate : ℕ) → 0 < length rows → length (records_of rows) < 2 ^ 64 → HasRows t.now.seen spans gate → IsAtRest t.now gate
    → Staged (Some t) (after_sync (after_write (Some t) (gate + 1) (records_of rows))) rows spans gate
stage_told t rows spans gate some short has rest =
    let old = t.now.seen in
    let text = records_of rows in
    let n = length text in
    let seen = put old (gate + 1) text in
    let write : Torn (gate + 1) n old seen = put_torn old (gate + 1) text (omega (arith, has.within)) in
    let front : take gate seen ≡ take gate old = torn_front old seen (gate + 1) n gate write (omega arith) in
    let same = rows_same old seen gate spans front has.inside in
    let inside : gate < length seen = omega (arith, has.within, write.no_shorter) in
    let has_new = has_same old seen spans gate has front inside in
    let tail = drop n (drop (gate + 1) old) in
    let behind : drop (gate + 1) seen ≡ text ++ tail = drop_put old (gate + 1) text (omega (arith, has.within)) in
    let reads : rows_from gate 0 (1 ∷ drop (gate + 1) seen) ≡ Ok rows =
    ap (λ l. rows_from gate 0 (1 ∷ l)) behind ∙ ap (λ b. rows_from gate 0 (b ∷ (text ++ tail))) (sym (opens_some rows some)) ∙ group_reads gate rows tail short in
    let group_is : rows_behind gate (drop (gate + 1) seen) ≡ rows = ap (λ r. rows_or_none r) reads in
    let c = touched t.now (gate + 1) n seen in
    let rest_new = rest_goes_on t.now gate n seen rest write in
    let torn : IsTorn (synced c) gate = record {
      front = refl;
      back = refl;
      inside = inside;
      whole = reads ∙ ap (λ r. Ok r) (sym group_is);
      at_gate = All-nil (λ (range : ℕ × ℕ). range ≡ (gate, 1));
    } in
    let P = Leaves (map (cut old) spans) (rows ∷ []) in
    let loose : rows_behind gate (drop (gate + 1) seen) ∷ [] ≡ rows ∷ [] = ap (λ r. r ∷ []) group_is in
    record {
      kept = (has_new, torn);
      rows_are = same;
      loose = loose;
      stays = (
        goes_to (goes_to t c) (synced c),
        refl,
        stays_two t c (synced c) P (rest_leaves t.now spans gate (rows ∷ []) has rest)
            (subst (λ r. Leaves r (rows ∷ []) c) same (rest_leaves c spans gate (rows ∷ []) has_new rest_new))
            (subst (λ r. Leaves r (rows ∷ []) (synced c)) same (subst (λ m. Leaves (map (cut seen) spans) m (synced c)) loose (torn_leaves (synced c) spans gate has_new torn))),
      );
    }

pub stage_done : (told new : Option Told) (rows : List (List ℕ)) (text : List ℕ) (spans : List Span) (gate : ℕ) (torn : Bool) → torn ≡ false → 0 < length rows → text ≡ records_of rows → gate + 1 + length text < 2 ^ 62
    → IsKept told spans gate torn → new ≡ after_sync (after_write told (gate + 1) text) → Staged told new rows spans gate
stage_done told new rows text spans gate true is_torn some text_is bound kept is = absurd (cc)
stage_done None new rows text spans gate false is_torn some text_is bound kept is = subst (λ u. Staged None u rows spans gate) (sym is) (record { kept = tt; rows_are = refl; loose = refl; stays = refl })
stage_done (Some t) new rows text spans gate false is_torn some text_is bound kept is =
    let short : length (records_of rows) < 2 ^ 64 = omega (arith, ap length text_is) in
    subst (λ u. Staged (Some t) u rows spans gate) (sym (is ∙ ap (λ x. after_sync (after_write (Some t) (gate + 1) x)) text_is)) (stage_told t rows spans gate some short kept.0 kept.1)

-- the bound of what was written
pub stage_bound : (rows : List (List ℕ)) (text : List ℕ) (gate : ℕ) → text ≡ records_of rows → gate + 1 + length text < 2 ^ 62 → gate_behind gate rows < 2 ^ 62
stage_bound rows text gate text_is bound = omega (arith, behind_text gate rows, ap length text_is)

-- the gate was opened: the rows behind it count
pub record Admitted (told new : Option Told) (rows : List (List ℕ)) (spans : List Span) (gate : ℕ) (torn : Bool) : Type 0 where
  pub kept : IsKept new (spans ++ spans_of gate rows) (gate_behind gate rows) false
  pub rows_are : rows_at new (spans ++ spans_of gate rows) ≡ rows_at told spans ++ where_told told rows
  pub loose : loose_at new (gate_behind gate rows) false ≡ []
  pub stays : Stays told new (Leaves (rows_at told spans) (loose_at told gate torn))

-- where it opens to the rows and one group more
opens_to_more : (c : Content) (rows group : List (List ℕ)) → ((image : List ℕ) → IsImage c image → journal_rows image ≡ Ok (rows ++ group)) → Leaves rows (group ∷ []) c
opens_to_more c rows group opens image is = inr (group, only_one group, opens image is)

admit_told : (t : Told) (spans : List Span) (gate : ℕ) → HasRows t.now.seen spans gate → IsTorn t.now gate
    → Admitted (Some t) (after_sync (after_write (Some t) gate (1 ∷ []))) (rows_behind gate (drop (gate + 1) t.now.seen)) spans gate true
admit_told t spans gate has torn =
    let old = t.now.seen in
    let group = rows_behind gate (drop (gate + 1) old) in
    let seen = put old gate (1 ∷ []) in
    let write : Torn gate 1 old seen = put_torn old gate (1 ∷ []) (omega (arith, has.within)) in
    let same = rows_same old seen gate spans write.before has.inside in
    let inside : gate < length seen = omega (arith, has.within, write.no_shorter) in
    let has_new = has_same old seen spans gate has write.before inside in
    let c = touched t.now gate 1 seen in
    let torn_new = torn_goes_on t.now gate seen torn write in
    let reads : rows_from gate 0 (drop gate seen) ≡ Ok group =
    ap (λ l. rows_from gate 0 l) (drop_more seen gate 0 inside)
    ∙ ap (λ b. rows_from gate 0 (b ∷ drop (gate + 1) seen)) (byte_put old gate 1 (omega (arith, has.within)))
    ∙ ap (λ l. rows_from gate 0 (1 ∷ l)) write.after
    ∙ torn.whole in
    let walked = walks (goes_to (goes_to t c) (synced c)) spans gate group (record { within = omega arith; inside = has_new.inside; front = has_new.front }) reads in
    let rest : IsAtRest (synced c) (gate_behind gate group) = record { front = refl; closed = walked.closed; behind = All-nil (λ (range : ℕ × ℕ). gate_behind gate group < range.0) } in
    let rows_new : map (cut seen) (spans ++ spans_of gate group) ≡ map (cut old) spans ++ group =
    map-append (cut seen) spans (spans_of gate group) ∙ ap (λ l. l ++ map (cut seen) (spans_of gate group)) same ∙ ap (λ l. map (cut old) spans ++ l) walked.rows_are in
    let more = group ∷ [] in
    let P = Leaves (map (cut old) spans) more in
    let loose : rows_behind gate (drop (gate + 1) seen) ∷ [] ≡ more = ap (λ l. rows_behind gate l ∷ []) write.after in
    record {
      kept = (walked.has, rest);
      rows_are = rows_new;
      loose = refl;
      stays = (
        goes_to (goes_to t c) (synced c),
        refl,
        stays_two t c (synced c) P (torn_leaves t.now spans gate has torn)
            (subst (λ r. Leaves r more c) same (subst (λ m. Leaves (map (cut seen) spans) m c) loose (torn_leaves c spans gate has_new torn_new)))
            (opens_to_more (synced c) (map (cut old) spans) group (λ image is. rest_opens (synced c) (spans ++ spans_of gate group) (gate_behind gate group) walked.has rest image is ∙ ap (λ r. Ok r) rows_new)),
      );
    }

pub admit_done : (told new : Option Told) (rows : List (List ℕ)) (spans : List Span) (gate : ℕ) (torn : Bool) → torn ≡ true → loose_at told gate torn ≡ where_told told (rows ∷ []) → IsKept told spans gate torn
    → new ≡ after_sync (after_write told gate (1 ∷ [])) → Admitted told new rows spans gate torn
admit_done told new rows spans gate false is_torn loose kept is = absurd (cc)
admit_done None new rows spans gate true is_torn loose kept is = subst (λ u. Admitted None u rows spans gate true) (sym is) (record { kept = tt; rows_are = refl; loose = refl; stays = refl })
admit_done (Some t) new rows spans gate true is_torn loose kept is =
    let same : rows_behind gate (drop (gate + 1) t.now.seen) ≡ rows = cc in
    subst (λ u. Admitted (Some t) u rows spans gate true) (sym is) (subst (λ r. Admitted (Some t) (after_sync (after_write (Some t) gate (1 ∷ []))) r spans gate true) same (admit_told t spans gate kept.0 kept.1))
