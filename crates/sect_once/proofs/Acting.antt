-- What the fields of a desk keep when a request acts or is faulted, and what is answered then.
use Rattle.std.proofs.Common.{◌≡◌, ◌≢◌, ℕ, ◌+◌, ◌^◌, ◌≤◌, ◌<◌, List, [], ◌∷◌, ◌++◌, length, refl, sym, ap, ◌∙◌, subst, inl, inr, ◌⊎◌, ⊎_elim, arith, Option, Some, None, drop, length-append, slice_get}
use Rattle.std.proofs.Math.Nat.{lt_of_not-le}
use Rattle.sect_base.specs.declared.limit.Id.{Id}
use Rattle.sect_base.specs.declared.limit.Caller.{Caller}
use Rattle.sect_edge.specs.Causes.{Rose}
use Rattle.sect_edge.specs.Keeper.{AddsRow, KeepsRows}
use Rattle.sect_once.specs.declared.entry.Entry.{Entry}
use Rattle.sect_once.specs.declared.entry.Note.{Note}
use Rattle.sect_once.specs.declared.entry.Note.TheVariants.{Acted, Faulted}
use Rattle.sect_once.specs.declared.entry.Unkept.{Unkept}
use Rattle.sect_once.specs.declared.answer.Answer.{Answer}
use Rattle.sect_once.specs.declared.answer.Answer.TheVariants.{Done, NumberReused, LogFull, KeeperFault, Memory}
use Rattle.sect_once.specs.Faults.{AtMostFaults}
use Rattle.sect_once.specs.Told.{TellsFrom, TellsLast, TellsReply}
use Rattle.sect_once.specs.History.{ActsOnce, AreUnkept, history, log_of, IsFull, IsNew, IsReplay, state_after}
use Rattle.sect_once.specs.Desks.{IsDesk, IsSound, IsTrail, Trail, Standing, Adds, Acts, IsFaulted, HasEntry, Answers}
use Rattle.sect_once.proofs.Logs.{history-log_of, length-log_of, log_of-acts, log_of-faults, unkept-append, unkept-more, faulted-log_of, get-last}
use Rattle.sect_once.proofs.Rows.{never_full-append, tells-adds, tells-keeps}

pub more_faults : (noted base count count' : ℕ) → AtMostFaults noted base count → count ≤ count' → AtMostFaults noted base count'
more_faults noted base count count' h le = omega (arith, h, le)

pub one_fault : (noted base count count' : ℕ) → AtMostFaults noted base count → Rose count count' → AtMostFaults (noted + 1) base count'
one_fault noted base count count' h r = omega (arith, h, r)

-- the text of a reply is told of its entry, which is the last
pub last_told : {C R : Type 0} (is_told : R → List ℕ → Type 0) (entries : List (Entry C R)) (e : Entry C R) (text : List ℕ) → is_told e.reply text
    → (place : ℕ) → place + 1 ≡ length (entries ++ e ∷ []) → TellsReply is_told (entries ++ e ∷ []) place text
last_told {C = C} {R = R} is_told entries e text told place ends f here =
    let at : place ≡ length entries = omega (arith, length-append entries (e ∷ []), ends) in
    let last : slice_get (entries ++ e ∷ []) place ≡ Some e = ap (slice_get (entries ++ e ∷ [])) at ∙ get-last entries e in
    let both : Some f ≡ Some e = sym here ∙ last in
    let same : f ≡ e = cc in
    subst (λ (x : Entry C R). is_told x.reply text) (sym same) told

-- what stands from the place on is the text of the reply of the last entry
pub told_from : {C R : Type 0} (is_told : R → List ℕ → Type 0) (entries : List (Entry C R)) (row : List ℕ) (reply_at : Option ℕ) (at place : ℕ) (text : List ℕ)
    → TellsLast is_told entries row reply_at → reply_at ≡ Some at → place + 1 ≡ length entries → text ≡ drop at row → TellsReply is_told entries place text
told_from {C = C} {R = R} is_told entries row reply_at at place text tells found ends is =
    let last : TellsLast is_told entries row (Some at) = subst (TellsLast is_told entries row) found tells in
    subst (TellsReply is_told entries place) (sym is) (last.1 place ends)

module _ {C R : Type 0} (is_row : Entry C R → List ℕ → Type 0) where
  -- the entries of a log with room are few enough
  pub has_room : (unkept : List Unkept) (entries : List (Entry C R)) → (IsFull is_row (log_of 0 unkept entries) → ⊥) → length entries < 2 ^ 20
  has_room unkept entries room =
      let few : length (log_of 0 unkept entries) < 2 ^ 20 = lt_of_not-le (λ (big : 2 ^ 20 ≤ length (log_of 0 unkept entries)). room (inl big)) in
      omega (arith, few, length-log_of 0 unkept entries)

module _ {C R : Type 0} (is_row : Entry C R → List ℕ → Type 0) (is_told : R → List ℕ → Type 0) where
  pub desk_acted : (unkept : List Unkept) (entries : List (Entry C R)) (e : Entry C R) (row : List ℕ) (told told' : Option (List (List ℕ))) (base count count' : ℕ) (last last' : List ℕ) (was : Option ℕ) (at : ℕ)
      → IsDesk is_row is_told unkept entries told base count last was → (IsFull is_row (log_of 0 unkept entries) → ⊥) → is_row e row → AddsRow told told' row → count ≤ count' → TellsFrom is_told at last' e.reply
      → IsDesk is_row is_told unkept (entries ++ e ∷ []) told' base count' last' (Some at)
  desk_acted unkept entries e row told told' base count count' last last' was at d room written added grows tells = record {
    placed = unkept-more 0 (length entries) (length (entries ++ e ∷ [])) unkept d.placed (omega (arith, length-append entries (e ∷ [])));
    roomy = λ before note after is. never_full-append is_row (log_of 0 unkept entries) (Acted e) d.roomy room before note after (sym (log_of-acts 0 (length entries) unkept entries e d.placed (omega arith)) ∙ is);
    kept = tells-adds is_row told told' row entries e d.kept added written;
    counted = more_faults (length unkept) base count count' d.counted grows;
    last = (tells.within, last_told is_told entries e (drop at last') tells.told);
  }

  pub desk_faulted : (unkept : List Unkept) (entries : List (Entry C R)) (id : Id) (place : ℕ) (told told' : Option (List (List ℕ))) (base count count' : ℕ) (last last' : List ℕ) (was : Option ℕ)
      → IsDesk is_row is_told unkept entries told base count last was → (IsFull is_row (log_of 0 unkept entries) → ⊥) → place ≡ length entries → KeepsRows told told' → Rose count count'
      → IsDesk is_row is_told (unkept ++ record { behind = place; id = id } ∷ []) entries told' base count' last' None
  desk_faulted unkept entries id place told told' base count count' last last' was d room place_is kept rose =
      subst (λ (n : ℕ). IsDesk is_row is_told (unkept ++ record { behind = n; id = id } ∷ []) entries told' base count' last' None) (sym place_is) record {
        placed = unkept-append 0 (length entries) unkept id d.placed;
        roomy = λ before note after is. never_full-append is_row (log_of 0 unkept entries) (Faulted id) d.roomy room before note after (sym (log_of-faults 0 (length entries) unkept entries id d.placed (omega arith)) ∙ is);
        kept = tells-keeps is_row told told' entries d.kept kept;
        counted = subst (λ n. AtMostFaults n base count') (let l = length-append unkept (record { behind = length entries; id = id } ∷ []) in omega (arith, l)) (one_fault (length unkept) base count count' d.counted rose);
        last = tt;
      }

pub keeps-refl : (told : Option (List (List ℕ))) → KeepsRows told told
keeps-refl None = refl
keeps-refl (Some rows) = refl

module _ {O C R K : Type 0} (stepped : O → ℕ → Caller → C → O × R) (is_row : Entry C R → List ℕ → Type 0) (rows : K → Option (List (List ℕ))) (faults : K → ℕ) where
  abbrev seen_as : Trail O C R → List Unkept → K → ℕ → Standing O C R K
  seen_as past unkept keeper base = record { object = past.object; log = log_of 0 unkept past.entries; keeper = keeper; base = base }

  pub acted_answer : (past past' : Trail O C R) (unkept : List Unkept) (keeper keeper' : K) (base : ℕ) (d : Standing O C R K) (id : Id) (day : ℕ) (command : C) (reply : R) (place : ℕ)
      → seen_as past unkept keeper base ≡ d → AreUnkept 0 (length past.entries) unkept → IsNew id (history d.log) → (IsFull is_row d.log → ⊥)
      → Adds stepped is_row (record { id = id; day = day; command = command; reply = reply }) past past' (rows keeper) (rows keeper') → place ≡ length past.entries → faults keeper ≤ faults keeper'
      → Answers stepped is_row rows faults id day command d (seen_as past' unkept keeper' base) (Done place reply)
  acted_answer past past' unkept keeper keeper' base d id day command reply place is placed new room adds place_is grows =
      let e : Entry C R = record { id = id; day = day; command = command; reply = reply } in
      let d0 : Standing O C R K = seen_as past unkept keeper base in
      let n : Standing O C R K = seen_as past' unkept keeper' base in
      let log : n.log ≡ d0.log ++ Acted e ∷ [] = ap (log_of 0 unkept) adds.entries ∙ log_of-acts 0 (length past.entries) unkept past.entries e placed (omega arith) in
      let hist : history n.log ≡ past.entries ++ e ∷ [] = history-log_of 0 unkept past'.entries ∙ adds.entries in
      let new0 : IsNew id (history d0.log) = subst (λ (z : Standing O C R K). IsNew id (history z.log)) (sym is) new in
      let room0 : IsFull is_row d0.log → ⊥ = subst (λ (z : Standing O C R K). IsFull is_row z.log → ⊥) (sym is) room in
      let old : history d0.log ≡ past.entries = history-log_of 0 unkept past.entries in
      let at : slice_get (history n.log) place ≡ Some e = (λ k. slice_get (hist k) (place_is k)) ∙ get-last past.entries e in
      let has : HasEntry n.log place id command reply = record { entry = e; at = at; id_is = refl; command_is = refl; reply_is = refl } in
      let acts : Acts stepped is_row rows faults e d0 n = record { is_new = new0; roomy = room0; object = adds.object; reply = adds.reply; log = log; base = refl; row = adds.row; written = adds.written; added = adds.added; faults_grow = grows } in
      subst (λ (z : Standing O C R K). Answers stepped is_row rows faults id day command z n (Done place reply)) is (has, inr (place_is ∙ ap length (sym old), acts))

  pub faulted_answer : (past past' : Trail O C R) (unkept : List Unkept) (keeper keeper' : K) (base : ℕ) (d : Standing O C R K) (id : Id) (place : ℕ)
      → seen_as past unkept keeper base ≡ d → AreUnkept 0 (length past.entries) unkept → IsNew id (history d.log) → (IsFull is_row d.log → ⊥) → place ≡ length past.entries → past' ≡ past
      → KeepsRows (rows keeper) (rows keeper') → Rose (faults keeper) (faults keeper')
      → IsFaulted stepped is_row rows faults id d (seen_as past' (unkept ++ record { behind = place; id = id } ∷ []) keeper' base)
  faulted_answer past past' unkept keeper keeper' base d id place is placed new room place_is same stay rose =
      let d0 : Standing O C R K = seen_as past unkept keeper base in
      let n : Standing O C R K = seen_as past' (unkept ++ record { behind = place; id = id } ∷ []) keeper' base in
      let log : n.log ≡ d0.log ++ Faulted id ∷ [] = (λ i. log_of 0 (unkept ++ record { behind = place_is i; id = id } ∷ []) (same i).entries) ∙ log_of-faults 0 (length past.entries) unkept past.entries id placed (omega arith) in
      let new0 : IsNew id (history d0.log) = subst (λ (z : Standing O C R K). IsNew id (history z.log)) (sym is) new in
      let room0 : IsFull is_row d0.log → ⊥ = subst (λ (z : Standing O C R K). IsFull is_row z.log → ⊥) (sym is) room in
      subst (λ (z : Standing O C R K). IsFaulted stepped is_row rows faults id z n) is record { is_new = new0; roomy = room0; rose = rose; object = ap (λ (t : Trail O C R). t.object) same; log = log; base = refl; rows_stay = stay }

  -- what a desk's fields keep, of the desk as contracts see it
  pub sound_from : (is_told : R → List ℕ → Type 0) (start : O) (past : Trail O C R) (unkept : List Unkept) (keeper : K) (base : ℕ) (last : List ℕ) (at : Option ℕ) (d : Standing O C R K)
      → seen_as past unkept keeper base ≡ d → IsTrail start stepped past → IsDesk is_row is_told unkept past.entries (rows keeper) base (faults keeper) last at → IsSound stepped is_row rows faults start d
  sound_from is_told start past unkept keeper base last at d is t k =
      let old : history (log_of 0 unkept past.entries) ≡ past.entries = history-log_of 0 unkept past.entries in
      subst (IsSound stepped is_row rows faults start) is record {
        legal = record { replies = subst (IsReplay stepped start) (sym old) t.replies; once = subst ActsOnce (sym old) t.once };
        roomy = k.roomy;
        replayed = t.replayed ∙ ap (state_after stepped start) (sym old);
        kept = subst (Rattle.sect_once.specs.History.TellsRows is_row (rows keeper)) (sym old) k.kept;
        counted = subst (λ n. AtMostFaults n base (faults keeper)) (sym (faulted-log_of 0 unkept past.entries)) k.counted;
      }

  -- the answer to an id that an entry has
  pub repeat_answer : (d : Standing O C R K) (id : Id) (day : ℕ) (command : C) (place : ℕ) (a : Answer R) (e : Entry C R) → slice_get (history d.log) place ≡ Some e → e.id ≡ id
      → ((e.command ≡ command) × (a ≡ Done place e.reply)) ⊎ ((e.command ≢ command) × (a ≡ NumberReused place)) → Answers stepped is_row rows faults id day command d d a
  repeat_answer d id day command place a e at id_is said = ⊎_elim
      (λ (t : (e.command ≡ command) × (a ≡ Done place e.reply)). subst (Answers stepped is_row rows faults id day command d d) (sym t.1) (record { entry = e; at = at; id_is = id_is; command_is = t.0; reply_is = refl }, inl refl))
      (λ (t : (e.command ≢ command) × (a ≡ NumberReused place)). subst (Answers stepped is_row rows faults id day command d d) (sym t.1) (record { entry = e; at = at; id_is = id_is; command_differs = t.0 }, refl)) said

  pub follows_answer : (id : Id) (day : ℕ) (command : C) (d n : Standing O C R K) (a : Answer R) → Answers stepped is_row rows faults id day command d n a
      → (n.log ≡ d.log) ⊎ ((note : Note C R) × (n.log ≡ d.log ++ note ∷ []))
  follows_answer id day command d n (Done place reply) h = ⊎_elim (λ (e : n ≡ d). inl (ap (λ (z : Standing O C R K). z.log) e))
      (λ (t : (place ≡ length (history d.log)) × Acts stepped is_row rows faults (record { id = id; day = day; command = command; reply = reply }) d n). inr (Acted (record { id = id; day = day; command = command; reply = reply }), t.1.log)) h.1
  follows_answer id day command d n (NumberReused place) h = inl (ap (λ (z : Standing O C R K). z.log) h.1)
  follows_answer id day command d n LogFull h = inl (ap (λ (z : Standing O C R K). z.log) h.2)
  follows_answer id day command d n KeeperFault h = inr (Faulted id, h.log)
  follows_answer id day command d n Memory h = inl h.log

  pub base_answer : (id : Id) (day : ℕ) (command : C) (d n : Standing O C R K) (a : Answer R) → Answers stepped is_row rows faults id day command d n a → n.base ≡ d.base
  base_answer id day command d n (Done place reply) h = ⊎_elim (λ (e : n ≡ d). ap (λ (z : Standing O C R K). z.base) e)
      (λ (t : (place ≡ length (history d.log)) × Acts stepped is_row rows faults (record { id = id; day = day; command = command; reply = reply }) d n). t.1.base) h.1
  base_answer id day command d n (NumberReused place) h = ap (λ (z : Standing O C R K). z.base) h.1
  base_answer id day command d n LogFull h = ap (λ (z : Standing O C R K). z.base) h.2
  base_answer id day command d n KeeperFault h = h.base
  base_answer id day command d n Memory h = h.base
