-- A past with one more entry.
use Rattle.std.proofs.Common.{◌≡◌, ℕ, ◌^◌, ◌<◌, true, eqb, List, [], ◌∷◌, ◌++◌, length, sum_by, refl, sym, ap, ◌∙◌, subst, arith, Option, None, Some, cond, length-append, slice_get}
use Rattle.std.specs.Prelude.{IfNone, IfSome}
use Rattle.sect_base.specs.declared.limit.Id.{Id}
use Rattle.sect_base.specs.declared.limit.Caller.{Caller}
use Rattle.sect_once.specs.declared.entry.Entry.{Entry}
use Rattle.sect_edge.specs.Keeper.{AddsRow}
use Rattle.sect_once.specs.Desks.{Adds, IsPast, IsTrail, NextHasRow, Trail}
use Rattle.sect_once.specs.Opening.{HasActed, Resumes}
use Rattle.sect_once.specs.History.{entries_of, state_after, HasRow, HaveBytes, IsNew, key_of}
use Rattle.sect_once.specs.Places.{placed}
use Rattle.sect_once.proofs.Logs.{state_after-append, IsReplay-append, get-lt, index-append, index-finds, index-free, index-misses, index-once}
use Rattle.sect_once.proofs.Rows.{entries-append, rows-append, zip-get, zip-length}
use Rattle.sect_once.proofs.Slots.{placed-more}

module _ {O C R : Type 0} (start : O) (stepped : O → ℕ → Caller → C → O × R) (is_row : Entry C R → List ℕ → Type 0) where
  past_longer : (object : O) (entries : List (Entry C R)) (places : List ℕ) (rows : List (List ℕ)) (e : Entry C R) (row : List ℕ)
      → IsPast start stepped is_row object entries places rows
      → (stepped object e.day e.id.caller e.command).1 ≡ e.reply → length entries < 2 ^ 20 → IsNew e.id entries → e.id.number < 2 ^ 64
      → is_row e row
      → IsPast start stepped is_row (stepped object e.day e.id.caller e.command).0 (entries ++ e ∷ []) (places ++ key_of e.id ∷ []) (rows ++ row ∷ [])
  past_longer object entries places rows e row p reply room new small written = record {
    replayed = ap (λ (s : O). (stepped s e.day e.id.caller e.command).0) p.replayed ∙ sym (state_after-append stepped start entries e);
    replies = IsReplay-append stepped start entries e p.replies (ap (λ (s : O). (stepped s e.day e.id.caller e.command).1) (sym p.replayed) ∙ reply);
    index = index-append places (places ++ key_of e.id ∷ []) entries e p.index new small
        (λ q. placed-more places (key_of e.id) (index-free places entries e.id p.index new small) q ∙ ap (λ (n : ℕ). cond (eqb (key_of e.id) q) (Some n) (placed places q)) (p.as_many ∙ sym (zip-length is_row entries rows p.are_rows)));
    as_many = let n = length-append places (key_of e.id ∷ []) in let m = length-append rows (row ∷ []) in let same = p.as_many in omega (arith, n, m, same);
    are_rows = rows-append is_row entries rows e row p.are_rows written;
    short = omega (arith, length-append entries (e ∷ []));
  }

  -- the rows are as many as the entries, of which there are at most 2^20
  pub as_many : (object : O) (entries : List (Entry C R)) (places : List ℕ) (rows : List (List ℕ)) (trail : Trail O C R) → IsPast start stepped is_row object entries places rows
      → record { object = object; entries = entries } ≡ trail → (length rows ≡ length trail.entries) × (length rows < 2 ^ 32)
  as_many object entries places rows trail p is =
      let same = zip-length is_row entries rows p.are_rows in
      let short = p.short in
      (sym same ∙ ap (λ (t : Trail O C R). length t.entries) is, omega (arith, same, short))

  module _ (entry_of : List ℕ → Option (Entry C R)) (reads : (e : Entry C R) (row : List ℕ) → is_row e row → entry_of row ≡ Some e) where
    -- one entry more, as the code finds the parts
    pub past_added : (object object' : O) (rows rows' : List (List ℕ)) (places places' : List ℕ)
        (id : Id) (day : ℕ) (command : C) (reply : R) (key : ℕ) (row : List ℕ) (trail : Trail O C R)
        → IsPast start stepped is_row object (entries_of entry_of rows) places rows → record { object = object; entries = entries_of entry_of rows } ≡ trail
        → rows' ≡ rows ++ row ∷ [] → object' ≡ (stepped object day id.caller command).0 → reply ≡ (stepped object day id.caller command).1
        → length trail.entries < 2 ^ 20 → IsNew id trail.entries → id.number < 2 ^ 64
        → key ≡ key_of id → places' ≡ places ++ key ∷ [] → is_row (record { id = id; day = day; command = command; reply = reply }) row
        → IsPast start stepped is_row object' (entries_of entry_of rows') places' rows'
    past_added object object' rows rows' places places' id day command reply key row trail p is rows_are state replied room new small key_is keys_are written =
        let made : Entry C R = record { id = id; day = day; command = command; reply = reply } in
        let es : List (Entry C R) = entries_of entry_of rows in
        let entries_are : entries_of entry_of rows' ≡ es ++ made ∷ [] = ap (entries_of entry_of) rows_are ∙ entries-append is_row entry_of reads rows made row written in
        let places_are : places' ≡ places ++ key_of id ∷ [] = keys_are ∙ ap (λ (k : ℕ). places ++ k ∷ []) key_is in
        subst (λ (z : O × List (Entry C R) × List ℕ × List (List ℕ)). IsPast start stepped is_row z.0 z.1 z.2 z.3) (λ i. (sym state i, sym entries_are i, sym places_are i, sym rows_are i))
        (past_longer object es places rows made row p (sym replied)
        (subst (λ (t : Trail O C R). length t.entries < 2 ^ 20) (sym is) room) (subst (λ (t : Trail O C R). IsNew id t.entries) (sym is) new) small written)

    -- what a request that acted adds, as the code finds the parts
    pub past_adds : (object object' : O) (rows rows' : List (List ℕ)) (places : List ℕ) (told told' : Option (List (List ℕ)))
        (id : Id) (day : ℕ) (command : C) (reply : R) (row : List ℕ) (trail : Trail O C R)
        → IsPast start stepped is_row object (entries_of entry_of rows) places rows → record { object = object; entries = entries_of entry_of rows } ≡ trail
        → rows' ≡ rows ++ row ∷ [] → object' ≡ (stepped object day id.caller command).0 → reply ≡ (stepped object day id.caller command).1
        → is_row (record { id = id; day = day; command = command; reply = reply }) row → AddsRow told told' row
        → Adds stepped is_row (record { id = id; day = day; command = command; reply = reply }) trail (record { object = object'; entries = entries_of entry_of rows' }) told told'
    past_adds object object' rows rows' places told told' id day command reply row trail p is rows_are state replied written added = record {
      object = state ∙ ap (λ (t : Trail O C R). (stepped t.object day id.caller command).0) is;
      reply = replied ∙ ap (λ (t : Trail O C R). (stepped t.object day id.caller command).1) is;
      entries = ap (entries_of entry_of) rows_are ∙ entries-append is_row entry_of reads rows (record { id = id; day = day; command = command; reply = reply }) row written
          ∙ ap (λ (t : Trail O C R). t.entries ++ record { id = id; day = day; command = command; reply = reply } ∷ []) is;
      row = row;
      written = written;
      added = added;
    }

    -- what an entry that is taken again adds, as the code finds the parts
    pub past_resumed : (object object' : O) (rows rows' : List (List ℕ)) (places : List ℕ) (e : Entry C R) (row : List ℕ) (trail : Trail O C R)
        → IsPast start stepped is_row object (entries_of entry_of rows) places rows → record { object = object; entries = entries_of entry_of rows } ≡ trail
        → rows' ≡ rows ++ row ∷ [] → (stepped object e.day e.id.caller e.command).1 ≡ e.reply → is_row e row
        → Resumes start stepped is_row trail (record { object = object'; entries = entries_of entry_of rows' }) e true
    past_resumed object object' rows rows' places e row trail p is rows_are replied written = (
      ap (λ (s : O). (stepped s e.day e.id.caller e.command).1) (sym (p.replayed ∙ ap (λ (t : Trail O C R). state_after stepped start t.entries) is)) ∙ replied,
      ap (entries_of entry_of) rows_are ∙ entries-append is_row entry_of reads rows e row written ∙ ap (λ (t : Trail O C R). t.entries ++ e ∷ []) is,
    )

    -- nothing more, as the code finds the parts
    pub past_same : (object object' : O) (rows rows' : List (List ℕ)) (places places' : List ℕ)
        → IsPast start stepped is_row object (entries_of entry_of rows) places rows → object' ≡ object → rows' ≡ rows → places' ≡ places
        → IsPast start stepped is_row object' (entries_of entry_of rows') places' rows'
    past_same object object' rows rows' places places' p state rows_are places_are =
        subst (λ (z : O × List (List ℕ) × List ℕ). IsPast start stepped is_row z.0 (entries_of entry_of z.1) z.2 z.1) (λ i. (sym state i, sym rows_are i, sym places_are i)) p

  -- the key of a new id has no place
  pub key_free : (object : O) (entries : List (Entry C R)) (places : List ℕ) (rows : List (List ℕ)) (trail : Trail O C R)
      → IsPast start stepped is_row object entries places rows → record { object = object; entries = entries } ≡ trail → (id : Id) (key : ℕ) → key ≡ key_of id → id.number < 2 ^ 64 → IsNew id trail.entries → placed places key ≡ None
  key_free object entries places rows trail p is id key key_is small new =
      ap (placed places) key_is ∙ index-free places entries id p.index (subst (λ (t : Trail O C R). IsNew id t.entries) (sym is) new) small

  -- the place of an id is that of its entry
  place_found : (object : O) (entries : List (Entry C R)) (places : List ℕ) (rows : List (List ℕ)) (trail : Trail O C R)
      → IsPast start stepped is_row object entries places rows → record { object = object; entries = entries } ≡ trail → (id : Id) (place : ℕ) → id.number < 2 ^ 64 → placed places (key_of id) ≡ Some place
      → HasActed start stepped is_row id trail.entries × (place < length trail.entries) × ((e : Entry C R) → slice_get trail.entries place ≡ Some e → e.id ≡ id)
  place_found object entries places rows trail p is id place small found =
      let t = index-finds places entries id place p.index small found in
      subst (λ (t : Trail O C R). HasActed start stepped is_row id t.entries × (place < length t.entries) × ((e : Entry C R) → slice_get t.entries place ≡ Some e → e.id ≡ id)) is
      ((place, t.0, t.1, t.2), get-lt entries place t.0 t.1, λ e at. let both : Some t.0 ≡ Some e = sym t.1 ∙ at in let same : t.0 ≡ e = cc in ap (λ (x : Entry C R). x.id) (sym same) ∙ t.2)

  -- what the place of an id says, as the code finds the parts
  pub place_if_found : (object : O) (entries : List (Entry C R)) (places : List ℕ) (rows : List (List ℕ)) (trail : Trail O C R)
      → IsPast start stepped is_row object entries places rows → record { object = object; entries = entries } ≡ trail → (id : Id) (key : ℕ) → key ≡ key_of id → id.number < 2 ^ 64 → (found : Option ℕ) → found ≡ placed places key
      → IfSome found (λ place. HasActed start stepped is_row id trail.entries × (place < length trail.entries) × ((e : Entry C R) → slice_get trail.entries place ≡ Some e → e.id ≡ id))
  place_if_found object entries places rows trail p is id key key_is small None found = tt
  place_if_found object entries places rows trail p is id key key_is small (Some place) found = place_found object entries places rows trail p is id place small (ap (placed places) (sym key_is) ∙ sym found)

  -- an id without a place is new, as the code finds the parts
  pub new_if_none : (object : O) (entries : List (Entry C R)) (places : List ℕ) (rows : List (List ℕ)) (trail : Trail O C R)
      → IsPast start stepped is_row object entries places rows → record { object = object; entries = entries } ≡ trail → (id : Id) (key : ℕ) → key ≡ key_of id → (found : Option ℕ) → found ≡ placed places key
      → IfNone found (IsNew id trail.entries)
  new_if_none object entries places rows trail p is id key key_is None found =
      subst (λ (t : Trail O C R). IsNew id t.entries) is (index-misses places entries id p.index (ap (placed places) (sym key_is) ∙ sym found))
  new_if_none object entries places rows trail p is id key key_is (Some place) found = tt

  pub trail_from : (object : O) (entries : List (Entry C R)) (places : List ℕ) (rows : List (List ℕ)) (trail : Trail O C R)
      → record { object = object; entries = entries } ≡ trail → IsPast start stepped is_row object entries places rows → IsTrail start stepped trail
  trail_from object entries places rows trail is p = subst (IsTrail start stepped) is record {
    replayed = p.replayed;
    replies = p.replies;
    once = index-once places entries p.index;
    short = p.short;
  }

  -- the rows of a past have their own bytes
  pub bytes_of : (object : O) (entries : List (Entry C R)) (places : List ℕ) (rows : List (List ℕ)) → IsPast start stepped is_row object entries places rows → HaveBytes is_row entries (sum_by length rows)
  bytes_of object entries places rows p = record { rows = rows; are_rows = p.are_rows; sum = refl }

  -- what is read from the row at a place is the entry there
  pub read_at : (one_entry : (a b : Entry C R) (row : List ℕ) → is_row a row → is_row b row → a ≡ b) (object : O) (entries : List (Entry C R)) (places : List ℕ) (rows : List (List ℕ)) (trail : Trail O C R)
      → IsPast start stepped is_row object entries places rows → record { object = object; entries = entries } ≡ trail
      → (place : ℕ) (row : List ℕ) (read : Entry C R) → slice_get rows place ≡ Some row → is_row read row → slice_get trail.entries place ≡ Some read
  read_at one_entry object entries places rows trail p is place row read at written =
      let t = zip-get is_row place entries rows row p.are_rows at in
      subst (λ (t : Trail O C R). slice_get t.entries place ≡ Some read) is (t.1 ∙ ap Some (one_entry t.0 read row t.2 written))

-- the entry of a request that may be asked has a row, as the code finds the parts
pub row_behind : {O C R : Type 0} (start : O) (stepped : O → ℕ → Caller → C → O × R) (is_row : Entry C R → List ℕ → Type 0) (may_ask : Id → ℕ → C → Type 0)
    → NextHasRow start stepped is_row may_ask → (object : O) (entries : List (Entry C R)) (places : List ℕ) (rows : List (List ℕ)) → IsPast start stepped is_row object entries places rows
    → (id : Id) (day : ℕ) (command : C) → may_ask id day command → HasRow is_row (record { id = id; day = day; command = command; reply = (stepped object day id.caller command).1 })
row_behind {O = O} start stepped is_row may_ask next object entries places rows p id day command asked =
    next entries rows (record { id = id; day = day; command = command; reply = (stepped object day id.caller command).1 }) p.are_rows p.short asked
    (ap (λ (s : O). (stepped s day id.caller command).1) (sym p.replayed))
