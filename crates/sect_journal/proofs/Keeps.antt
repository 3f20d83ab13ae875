-- What the writes of a journal keep, wherever they stop.
use Rattle.std.proofs.Common.{◌≡◌, ◌⊎◌, inl, inr, ⊎_elim, ℕ, ◌+◌, ◌<◌, ◌≤◌, Bool, true, false, List, [], ◌∷◌, ◌++◌, length, get_or, take, drop, map, All, Contains, Option, Some, None, Result, Ok, Err, OnOk, OnErr, is_ok, refl, sym, ◌∙◌, ap, subst, arith, append_assoc, append-nil}
use Rattle.std.proofs.lemmas.List.{take-take, drop-take, get_or-take}
use Rattle.std.proofs.lemmas.List.Elements.{All-nil, All-head, All-tail, All-push, All-cons, All-append, All-weaker, All-contains_itself, Contains-append_left, Contains-append_right}
use Rattle.sect_journal.specs.declared.journal.Span.{Span}
use Rattle.sect_journal.specs.Disk.{Content, Told, Torn, touched, goes_to, Tears, moments, StaysIn, Stays}
use Rattle.sect_journal.specs.Text.{rows_from, rows_behind}
use Rattle.sect_journal.specs.Standing.{IsFront, IsAtRest, IsTorn, HasRows, IsKept, Leaves, cut, rows_at, loose_at, where_told, LeavesNow, Standing, Appends}
use Rattle.sect_journal.proofs.Images.{rest_leaves, torn_leaves}

cut_same : (old new : List ℕ) (gate : ℕ) (span : Span) → take gate new ≡ take gate old → span.start + span.length ≤ gate → cut new span ≡ cut old span
cut_same old new gate span same le =
    let m = span.start + span.length in
    let front : take m new ≡ take m old = sym (take-take m gate new le) ∙ ap (λ l. take m l) same ∙ take-take m gate old le in
    sym (drop-take span.start span.length new) ∙ ap (λ l. drop span.start l) front ∙ drop-take span.start span.length old

-- the rows lie in front of the gate
pub rows_same : (old new : List ℕ) (gate : ℕ) (spans : List Span) → take gate new ≡ take gate old → All (λ span. span.start + span.length ≤ gate) spans → map (cut new) spans ≡ map (cut old) spans
rows_same old new gate [] same all = refl
rows_same old new gate (span ∷ spans) same all =
    ap (λ r. r ∷ map (cut new) spans) (cut_same old new gate span same (All-head (λ s. s.start + s.length ≤ gate) span spans all))
    ∙ ap (λ l. cut old span ∷ l) (rows_same old new gate spans same (All-tail (λ s. s.start + s.length ≤ gate) span spans all))

pub has_same : (old new : List ℕ) (spans : List Span) (gate : ℕ) → HasRows old spans gate → take gate new ≡ take gate old → gate < length new → HasRows new spans gate
has_same old new spans gate has same lt = record {
  within = lt;
  inside = has.inside;
  front = subst (λ rows. IsFront (take gate new) rows) (sym (rows_same old new gate spans same has.inside)) (subst (λ l. IsFront l (map (cut old) spans)) (sym same) has.front);
}

pub torn_front : (old new : List ℕ) (at n k : ℕ) → Torn at n old new → k ≤ at → take k new ≡ take k old
torn_front old new at n k torn le = sym (take-take k at new le) ∙ ap (λ l. take k l) torn.before ∙ take-take k at old le

-- a write behind the gate
pub rest_goes_on : (c : Content) (gate n : ℕ) (seen : List ℕ) → IsAtRest c gate → Torn (gate + 1) n c.seen seen → IsAtRest (touched c (gate + 1) n seen) gate
rest_goes_on c gate n seen rest torn =
    let byte : get_or seen gate 0 ≡ get_or c.seen gate 0 =
    sym (get_or-take (gate + 1) seen gate 0 (omega arith)) ∙ ap (λ l. get_or l gate 0) torn.before ∙ get_or-take (gate + 1) c.seen gate 0 (omega arith) in
    record {
      front = rest.front ∙ sym torn.before;
      closed = record { inside = omega (arith, rest.closed.inside, torn.no_shorter); closed = λ opens. rest.closed.closed (sym byte ∙ opens) };
      behind = All-push (λ range. gate < range.0) c.pending (gate + 1, n) rest.behind (omega arith);
    }

-- a write of the gate
pub torn_goes_on : (c : Content) (gate : ℕ) (seen : List ℕ) → IsTorn c gate → Torn gate 1 c.seen seen → IsTorn (touched c gate 1 seen) gate
torn_goes_on c gate seen torn write = record {
  front = torn.front ∙ sym write.before;
  back = torn.back ∙ sym write.after;
  inside = torn.inside;
  whole = subst (λ l. rows_from gate 0 (1 ∷ l) ≡ Ok (rows_behind gate l)) (sym write.after) torn.whole;
  at_gate = All-push (λ range. range ≡ (gate, 1)) c.pending (gate, 1) torn.at_gate refl;
}

-- all is kept, and each moment leaves the rows, or these and the row behind the gate
pub record Halted (told new : Option Told) (spans : List Span) (gate : ℕ) (torn : Bool) : Type 0 where
  pub kept : IsKept new spans gate torn
  pub rows : rows_at new spans ≡ rows_at told spans
  pub loose : loose_at new gate torn ≡ loose_at told gate torn
  pub stays : Stays told new (Leaves (rows_at told spans) (loose_at told gate torn))

-- one moment more
pub stays_one : (t : Told) (c : Content) (P : Content → Type 0) → P t.now → P c → StaysIn t (goes_to t c) P
stays_one t c P first here = record { later = c ∷ []; grows = refl; first = first; each = All-cons P c [] here (All-nil P) }

-- two
pub stays_two : (t : Told) (c d : Content) (P : Content → Type 0) → P t.now → P c → P d → StaysIn t (goes_to (goes_to t c) d) P
stays_two t c d P first here there = record { later = d ∷ c ∷ []; grows = refl; first = first; each = All-cons P d (c ∷ []) there (All-cons P c [] here (All-nil P)) }

pub stays_none : (t : Told) (P : Content → Type 0) → P t.now → StaysIn t t P
stays_none t P first = record { later = []; grows = refl; first = first; each = All-nil P }

rest_halts : (t : Told) (n : ℕ) (seen : List ℕ) (spans : List Span) (gate : ℕ) → HasRows t.now.seen spans gate → IsAtRest t.now gate → Torn (gate + 1) n t.now.seen seen
    → Halted (Some t) (Some (goes_to t (touched t.now (gate + 1) n seen))) spans gate false
rest_halts t n seen spans gate has rest torn =
    let front = torn_front t.now.seen seen (gate + 1) n gate torn (omega arith) in
    let rows = rows_same t.now.seen seen gate spans front has.inside in
    let has_new = has_same t.now.seen seen spans gate has front (omega (arith, has.within, torn.no_shorter)) in
    let rest_new = rest_goes_on t.now gate n seen rest torn in
    let c = touched t.now (gate + 1) n seen in
    record {
      kept = (has_new, rest_new);
      rows = rows;
      loose = refl;
      stays = (goes_to t c, refl, stays_one t c (Leaves (map (cut t.now.seen) spans) []) (rest_leaves t.now spans gate [] has rest) (subst (λ r. Leaves r [] c) rows (rest_leaves c spans gate [] has_new rest_new)));
    }

torn_halts : (t : Told) (seen : List ℕ) (spans : List Span) (gate : ℕ) → HasRows t.now.seen spans gate → IsTorn t.now gate → Torn gate 1 t.now.seen seen
    → Halted (Some t) (Some (goes_to t (touched t.now gate 1 seen))) spans gate true
torn_halts t seen spans gate has torn write =
    let rows = rows_same t.now.seen seen gate spans write.before has.inside in
    let has_new = has_same t.now.seen seen spans gate has write.before (omega (arith, has.within, write.no_shorter)) in
    let torn_new = torn_goes_on t.now gate seen torn write in
    let c = touched t.now gate 1 seen in
    let loose : rows_behind gate (drop (gate + 1) seen) ∷ [] ≡ rows_behind gate (drop (gate + 1) t.now.seen) ∷ [] = ap (λ l. rows_behind gate l ∷ []) write.after in
    let more = rows_behind gate (drop (gate + 1) t.now.seen) ∷ [] in
    record {
      kept = (has_new, torn_new);
      rows = rows;
      loose = loose;
      stays = (
        goes_to t c,
        refl,
        stays_one t c (Leaves (map (cut t.now.seen) spans) more) (torn_leaves t.now spans gate has torn)
            (subst (λ r. Leaves r more c) rows (subst (λ m. Leaves (map (cut seen) spans) m c) loose (torn_leaves c spans gate has_new torn_new))),
      );
    }

-- nothing was written
halts_here : (told : Option Told) (spans : List Span) (gate : ℕ) (torn : Bool) → IsKept told spans gate torn → Halted told told spans gate torn
halts_here None spans gate torn kept = record { kept = tt; rows = refl; loose = refl; stays = refl }
halts_here (Some t) spans gate false kept = record { kept = kept; rows = refl; loose = refl; stays = (t, refl, stays_none t (Leaves (map (cut t.now.seen) spans) []) (rest_leaves t.now spans gate [] kept.0 kept.1)) }
halts_here (Some t) spans gate true kept = record { kept = kept; rows = refl; loose = refl; stays = (t, refl, stays_none t (Leaves (map (cut t.now.seen) spans) (rows_behind gate (drop (gate + 1) t.now.seen) ∷ [])) (torn_leaves t.now spans gate kept.0 kept.1)) }

-- a write behind the gate may stop anywhere
pub halts_rest : (told new : Option Told) (n : ℕ) (spans : List Span) (gate : ℕ) → IsKept told spans gate false → (new ≡ told) ⊎ Tears told (gate + 1) n new → Halted told new spans gate false
halts_rest told new n spans gate kept (inl same) = subst (λ u. Halted told u spans gate false) (sym same) (halts_here told spans gate false kept)
halts_rest None new n spans gate kept (inr none) = subst (λ u. Halted None u spans gate false) (sym none) (halts_here None spans gate false kept)
halts_rest (Some t) new n spans gate kept (inr (seen, torn, is)) = subst (λ u. Halted (Some t) u spans gate false) (sym is) (rest_halts t n seen spans gate kept.0 kept.1 torn)

-- so may one of the gate
pub halts_torn : (told new : Option Told) (spans : List Span) (gate : ℕ) → IsKept told spans gate true → (new ≡ told) ⊎ Tears told gate 1 new → Halted told new spans gate true
halts_torn told new spans gate kept (inl same) = subst (λ u. Halted told u spans gate true) (sym same) (halts_here told spans gate true kept)
halts_torn None new spans gate kept (inr none) = subst (λ u. Halted None u spans gate true) (sym none) (halts_here None spans gate true kept)
halts_torn (Some t) new spans gate kept (inr (seen, torn, is)) = subst (λ u. Halted (Some t) u spans gate true) (sym is) (torn_halts t seen spans gate kept.0 kept.1 torn)

-- nothing is to be done
pub halts_unchanged : (told : Option Told) (spans : List Span) (gate : ℕ) (torn : Bool) → IsKept told spans gate torn → Halted told told spans gate torn
halts_unchanged = halts_here

pub halts_unless_torn : (told new : Option Told) (n : ℕ) (spans : List Span) (gate : ℕ) (torn : Bool) → torn ≡ false → IsKept told spans gate torn → (new ≡ told) ⊎ Tears told (gate + 1) n new → Halted told new spans gate torn
halts_unless_torn told new n spans gate false is kept halts = halts_rest told new n spans gate kept halts
halts_unless_torn told new n spans gate true is kept halts = absurd (cc)

pub halts_if_torn : (told new : Option Told) (spans : List Span) (gate : ℕ) (torn : Bool) → torn ≡ true → IsKept told spans gate torn → (new ≡ told) ⊎ Tears told gate 1 new → Halted told new spans gate torn
halts_if_torn told new spans gate true is kept halts = halts_torn told new spans gate kept halts
halts_if_torn told new spans gate false is kept halts = absurd (cc)

-- what is true at each moment may be said more weakly
pub stays_weaker : (told new : Option Told) (P Q : Content → Type 0) → ((c : Content) → P c → Q c) → Stays told new P → Stays told new Q
stays_weaker None new P Q f stays = stays
stays_weaker (Some t) new P Q f (u, is, s) = (u, is, record { later = s.later; grows = s.grows; first = f t.now s.first; each = All-weaker P Q f s.later s.each })

-- one stretch of time after another
stays_join_told : (t u v : Told) (P : Content → Type 0) → StaysIn t u P → StaysIn u v P → StaysIn t v P
stays_join_told t u v P early late = record {
  later = late.later ++ early.later;
  grows = late.grows ∙ ap (λ l. late.later ++ l) early.grows ∙ sym (append_assoc late.later early.later (moments t));
  first = early.first;
  each = All-append P late.later early.later late.each early.each;
}

pub stays_join : (told mid new : Option Told) (P : Content → Type 0) → Stays told mid P → Stays mid new P → Stays told new P
stays_join None mid new P early late = subst (λ u. Stays u new P) early late
stays_join (Some t) mid new P (u, is, s) late = joined (subst (λ m. Stays m new P) is late)
  where
    joined : Stays (Some u) new P → Stays (Some t) new P
    joined (v, is_new, later) = (v, is_new, stays_join_told t u v P s later)

-- more rows may follow than are said to
pub leaves_more : (rows : List (List ℕ)) (more most : List (List (List ℕ))) → ((group : List (List ℕ)) → Contains more group → Contains most group) → (c : Content) → Leaves rows more c → Leaves rows most c
leaves_more rows more most wider c leaves image is = ⊎_elim (λ same. inl same) (λ follows. inr (follows.0, wider follows.0 follows.1, follows.2)) (leaves image is)

none_contained : {X : Type 0} (x : X) → Contains {X = X} [] x → ⊥
none_contained x (k, lt, is) = omega arith

-- with no loose group any may be said to follow
pub stays_rest : (told new : Option Told) (rows : List (List ℕ)) (more : List (List (List ℕ))) → Stays told new (Leaves rows []) → Stays told new (Leaves rows more)
stays_rest told new rows more stays = stays_weaker told new (Leaves rows []) (Leaves rows more) (leaves_more rows [] more (λ group none. absurd (none_contained group none))) stays

loose_none : (told : Option Told) (gate : ℕ) (torn : Bool) → torn ≡ false → loose_at told gate torn ≡ []
loose_none None gate torn is = refl
loose_none (Some t) gate false is = refl
loose_none (Some t) gate true is = absurd (cc)

pub halts_staging : (told new : Option Told) (n : ℕ) (spans : List Span) (gate : ℕ) (torn : Bool) (more : List (List (List ℕ))) → torn ≡ false → IsKept told spans gate torn → (new ≡ told) ⊎ Tears told (gate + 1) n new
    → Stays told new (Leaves (rows_at told spans) more)
halts_staging told new n spans gate torn more is kept halts =
    stays_rest told new (rows_at told spans) more (subst (λ l. Stays told new (Leaves (rows_at told spans) l)) (loose_none told gate torn is) ((halts_unless_torn told new n spans gate torn is kept halts).stays))

-- what holds in any case holds at an error
pub on_err_of : {T E P : Type 0} (result : Result T E) → P → OnErr result P
on_err_of (Ok x) p = tt
on_err_of (Err e) p = p

-- an append whose writes haven't begun
pub stays_here : (told : Option Told) (rows : List (List ℕ)) (loose : List (List (List ℕ))) (group : List (List ℕ)) → LeavesNow rows loose told → Stays told told (Leaves rows (loose ++ group ∷ []))
stays_here None rows loose group now = refl
stays_here (Some t) rows loose group now = (t, refl, stays_none t (Leaves rows (loose ++ group ∷ [])) (leaves_more rows loose (loose ++ group ∷ []) (λ r has. Contains-append_left loose (group ∷ []) r has) t.now now))

-- the gate is being closed
pub stays_settling : (told new : Option Told) (rows : List (List ℕ)) (loose : List (List (List ℕ))) (group : List (List ℕ)) → Stays told new (Leaves rows loose) → Stays told new (Leaves rows (loose ++ group ∷ []))
stays_settling told new rows loose group stays = stays_weaker told new (Leaves rows loose) (Leaves rows (loose ++ group ∷ [])) (leaves_more rows loose (loose ++ group ∷ []) (λ r has. Contains-append_left loose (group ∷ []) r has)) stays

-- the record is being written
pub stays_staging : (told mid new : Option Told) (rows rows_mid : List (List ℕ)) (loose : List (List (List ℕ))) (group : List (List ℕ)) → Stays told mid (Leaves rows loose) → rows_mid ≡ rows → Stays mid new (Leaves rows_mid (group ∷ []))
    → Stays told new (Leaves rows (loose ++ group ∷ []))
stays_staging told mid new rows rows_mid loose group early same late =
    let P = Leaves rows (loose ++ group ∷ []) in
    stays_join told mid new P (stays_settling told mid rows loose group early)
    (stays_weaker mid new (Leaves rows (group ∷ [])) P (leaves_more rows (group ∷ []) (loose ++ group ∷ []) (λ r has. Contains-append_right loose (group ∷ []) r has)) (subst (λ r. Stays mid new (Leaves r (group ∷ []))) same late))

where_contained : (told : Option Told) (group r : List (List ℕ)) → Contains (where_told told (group ∷ [])) r → Contains (group ∷ []) r
where_contained None group r has = absurd (none_contained r has)
where_contained (Some t) group r has = has

-- the gate is being opened
pub stays_admitting : (told mid new place : Option Told) (rows rows_mid : List (List ℕ)) (loose loose_mid : List (List (List ℕ))) (group : List (List ℕ)) → Stays told mid (Leaves rows (loose ++ group ∷ [])) → rows_mid ≡ rows → loose_mid ≡ where_told place (group ∷ [])
    → Stays mid new (Leaves rows_mid loose_mid) → Stays told new (Leaves rows (loose ++ group ∷ []))
stays_admitting told mid new place rows rows_mid loose loose_mid group early same loose_is late =
    let P = Leaves rows (loose ++ group ∷ []) in
    let one = where_told place (group ∷ []) in
    let here : Stays mid new (Leaves rows one) = subst (λ r. Stays mid new (Leaves r one)) same (subst (λ l. Stays mid new (Leaves rows_mid l)) loose_is late) in
    stays_join told mid new P early
    (stays_weaker mid new (Leaves rows one) P (leaves_more rows one (loose ++ group ∷ []) (λ r has. Contains-append_right loose (group ∷ []) r (where_contained place group r has))) here)

-- which rows may be loose after an error
pub loose_as_before : (new loose : List (List (List ℕ))) (group : List (List ℕ)) → new ≡ loose → All (Contains (loose ++ group ∷ [])) new
loose_as_before new loose group same = subst (λ l. All (Contains (loose ++ group ∷ [])) l) (sym same) (All-weaker (Contains loose) (Contains (loose ++ group ∷ [])) (λ r has. Contains-append_left loose (group ∷ []) r has) loose (All-contains_itself loose))

pub none_is_loose : (new loose : List (List (List ℕ))) (group : List (List ℕ)) → new ≡ [] → All (Contains (loose ++ group ∷ [])) new
none_is_loose new loose group none = subst (λ l. All (Contains (loose ++ group ∷ [])) l) (sym none) (All-nil (Contains (loose ++ group ∷ [])))

pub group_is_loose : (place : Option Told) (new loose : List (List (List ℕ))) (group : List (List ℕ)) → new ≡ where_told place (group ∷ []) → All (Contains (loose ++ group ∷ [])) new
group_is_loose place new loose group is =
    subst (λ l. All (Contains (loose ++ group ∷ [])) l) (sym is)
    (All-weaker (Contains (where_told place (group ∷ []))) (Contains (loose ++ group ∷ [])) (λ r has. Contains-append_right loose (group ∷ []) r (where_contained place group r has)) (where_told place (group ∷ [])) (All-contains_itself (where_told place (group ∷ []))))

module _ {D T E : Type 0} (told : D → Option Told) (group : List (List ℕ)) (old new : Standing D) where
  -- all that an append does
  pub appends_of : (result : Result T E) → OnOk result (new.rows ≡ old.rows ++ where_told (told old.disk) group) → OnErr result (new.rows ≡ old.rows)
      → OnOk result (new.loose ≡ []) → OnErr result (All (Contains (old.loose ++ group ∷ [])) new.loose) → Stays (told old.disk) (told new.disk) (Leaves old.rows (old.loose ++ group ∷ []))
      → LeavesNow new.rows new.loose (told new.disk) → Appends told group (is_ok result) old new
  appends_of (Ok x) rows same loose may moments now = record { rows = rows; loose = subst (λ l. All (Contains {X = List (List ℕ)} []) l) (sym loose) (All-nil (Contains {X = List (List ℕ)} [])); moments = moments; now = now }
  appends_of (Err e) rows same loose may moments now = record { rows = same; loose = may; moments = moments; now = now }

no_group : (place : Option Told) (rows : List (List ℕ)) → rows ≡ rows ++ where_told {X = List ℕ} place []
no_group None rows = sym (append-nil rows)
no_group (Some t) rows = sym (append-nil rows)

module _ {D T E : Type 0} (told : D → Option Told) (old new : Standing D) where
  -- so does the closing of a gate, for a group without rows
  pub settles_none : (P Q : Type 0) (result : Result T E) → OnOk result (P × (new.loose ≡ []) × Q) → OnErr result (new.loose ≡ old.loose) → new.rows ≡ old.rows
      → Stays (told old.disk) (told new.disk) (Leaves old.rows old.loose) → LeavesNow new.rows new.loose (told new.disk) → Appends told [] (is_ok result) old new
  settles_none P Q (Ok x) (p, loose, q) same rows stays now =
      let done : Result T E = Ok x in
      appends_of told [] old new done (rows ∙ no_group (told old.disk) old.rows) tt loose tt (stays_settling (told old.disk) (told new.disk) old.rows old.loose [] stays) now
  settles_none P Q (Err e) done same rows stays now =
      let failed : Result T E = Err e in
      appends_of told [] old new failed tt rows tt (loose_as_before new.loose old.loose [] same) (stays_settling (told old.disk) (told new.disk) old.rows old.loose [] stays) now
