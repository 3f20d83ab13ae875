-- Own calls rise, and a reused number and a full log are told exactly.
use Rattle.std.proofs.Common.{◌≡◌, ◌⊎◌, ℕ, ◌+◌, ◌≤◌, List, [], ◌∷◌, ◌++◌, length, refl, sym, ap, ◌∙◌, subst, inl, inr, ⊎_elim, arith, Some, slice_get, length-append, append_assoc, append-nil}
use mathlib.Core.List.{IsPrefix}
use Rattle.sect_base.specs.declared.limit.Id.{Id}
use Rattle.sect_base.specs.declared.limit.Caller.{Caller}
use Rattle.sect_once.specs.declared.entry.Entry.{Entry}
use Rattle.sect_once.specs.declared.entry.Note.{Note}
use Rattle.sect_once.specs.declared.entry.Note.TheVariants.{Acted, Faulted}
use Rattle.sect_once.specs.declared.answer.Answer.{Answer}
use Rattle.sect_once.specs.declared.answer.Answer.TheVariants.{Done, NumberReused, LogFull, KeeperFault, Memory}
use Rattle.sect_once.specs.Desks.{HasOther}
use Rattle.sect_once.specs.History.{history, ActsOnce, IsFull, IsNew, NeverFull}
use Rattle.sect_office.specs.Calls.{AddsCalls, Ask, Asks, Rises}
use Rattle.sect_office.specs.Offices.{IsLast, Shows}

rises_then : (low : ℕ) (ns : List ℕ) (mid : ℕ) (ms : List ℕ) (high : ℕ) → Rises low ns mid → Rises mid ms high → Rises low (ns ++ ms) high
rises_then low [] mid [] high h k = omega (arith, h, k)
rises_then low [] mid (m ∷ ms) high h k = (omega (arith, h, k.0), k.1)
rises_then low (n ∷ ns) mid ms high h k = (h.0, rises_then (n + 1) ns mid ms high h.1 k)

module _ {N : Type 0} where
  prefix_le : (xs ys : List N) → IsPrefix xs ys → length xs ≤ length ys
  prefix_le xs ys p = let e : length xs + length p.0 ≡ length ys = sym (length-append xs p.0) ∙ ap length p.1 in omega (arith, e)

  -- no call is added
  pub adds_none : (old front : List N) (own own' : List ℕ) → IsPrefix old front → own' ≡ own → AddsCalls old front own own'
  adds_none old front own own' p same = ([], same ∙ sym (append-nil own), prefix_le old front p)

  -- one call is added, behind notes that begin with the old front
  pub adds_one : (old before front : List N) (note : N) (own own' : List ℕ) → IsPrefix old before → front ≡ before ++ note ∷ [] → own' ≡ own ++ length before ∷ [] → AddsCalls old front own own'
  adds_one old before front note own own' p more calls =
      let longer : length front ≡ length before + 1 = ap length more ∙ length-append before (note ∷ []) in
      (length before ∷ [], calls, (prefix_le old before p, omega (arith, longer)))

  -- some are added, and then some more
  pub adds_then : (old mid front : List N) (own own' own'' : List ℕ) → AddsCalls old mid own own' → AddsCalls mid front own' own'' → AddsCalls old front own own''
  adds_then old mid front own own' own'' h k = (
    h.0 ++ k.0,
    k.1 ∙ (ap (λ (z : List ℕ). z ++ k.0) h.1 ∙ append_assoc own h.0 k.0),
    rises_then (length old) h.0 (length mid) k.0 (length front) h.2 k.2,
  )

module _ {C R : Type 0} where
  history-faulted : (notes : List (Note C R)) (id : Id) → history (notes ++ Faulted id ∷ []) ≡ history notes
  history-faulted [] id = refl
  history-faulted (Acted e ∷ notes) id = ap (λ (es : List (Entry C R)). e ∷ es) (history-faulted notes id)
  history-faulted (Faulted other ∷ notes) id = history-faulted notes id

  same_entry : (es : List (Entry C R)) (p q : ℕ) (e f : Entry C R) → p ≡ q → slice_get es p ≡ Some e → slice_get es q ≡ Some f → e ≡ f
  same_entry es p q e f same h k = cc

module _ {C R : Type 0} (is_row : Entry C R → List ℕ → Type 0) where
  adds_last : (id : Id) (note : Note C R) (old front : List (Note C R)) (own own' : List ℕ) → IsLast is_row id note old front own own' → AddsCalls old front own own'
  adds_last id note old front own own' h = adds_one old h.before front note own own' h.grown h.front_is h.own_is

  pub shows_calls : (id : Id) (day : ℕ) (command : C) (old front : List (Note C R)) (own own' : List ℕ) (a : Answer R) → IsPrefix old front → Shows is_row id day command old front own own' a → AddsCalls old front own own'
  shows_calls id day command old front own own' (Done place reply) p h =
      ⊎_elim (λ (same : own' ≡ own). adds_none old front own own' p same)
      (λ (last : IsLast is_row id (Acted (record { id = id; day = day; command = command; reply = reply })) old front own own'). adds_last id _ old front own own' last) h.1
  shows_calls id day command old front own own' (NumberReused place) p h = adds_none old front own own' p h.1
  shows_calls id day command old front own own' LogFull p h = adds_none old front own own' p h.2
  shows_calls id day command old front own own' KeeperFault p h = adds_last id (Faulted id) old front own own' h
  shows_calls id day command old front own own' Memory p h = adds_none old front own own' p h.1

  pub asks_calls : (front : List (Note C R)) (own : List ℕ) (asks : List (Ask C R)) (front' : List (Note C R)) (own' : List ℕ) → Asks is_row front own asks front' own' → AddsCalls front front' own own'
  asks_calls front own [] front' own' h = adds_none front front' own own' ([], append-nil front ∙ sym h.0) h.1
  asks_calls front own (a ∷ asks) front' own' h =
      adds_then front a.front front' own a.own own' (shows_calls a.id a.day a.command front a.front own a.own a.answer h.0 h.1) (asks_calls a.front a.own asks front' own' h.2)

  -- where another command has the id, the answer is that, or memory was wanted
  pub reused_is_told : (id : Id) (day : ℕ) (command : C) (old front : List (Note C R)) (own own' : List ℕ) (a : Answer R) (place : ℕ) → ActsOnce (history front) → HasOther front place id command
      → Shows is_row id day command old front own own' a → (a ≡ NumberReused place) ⊎ (a ≡ Memory)
  reused_is_told id day command old front own own' (Done p reply) place once o h =
      let e = h.0 in
      let same : e.entry ≡ o.entry = same_entry (history front) p place e.entry o.entry (once p place e.entry o.entry e.at o.at (e.id_is ∙ sym o.id_is)) e.at o.at in
      absurd (o.command_differs (ap (λ (x : Entry C R). x.command) (sym same) ∙ e.command_is))
  reused_is_told id day command old front own own' (NumberReused p) place once o h =
      inl (ap NumberReused (once p place h.0.entry o.entry h.0.at o.at (h.0.id_is ∙ sym o.id_is)))
  reused_is_told id day command old front own own' LogFull place once o h = absurd (h.0 place o.entry o.at o.id_is)
  reused_is_told id day command old front own own' KeeperFault place once o h =
      let all : history front ≡ history h.before = ap history h.front_is ∙ history-faulted h.before id in
      absurd (h.is_new place o.entry (subst (λ (es : List (Entry C R)). slice_get es place ≡ Some o.entry) all o.at) o.id_is)
  reused_is_told id day command old front own own' Memory place once o h = inr refl

  -- nothing stands behind a full log
  full_is_last : (old t front : List (Note C R)) → old ++ t ≡ front → NeverFull is_row front → IsFull is_row old → IsFull is_row front
  full_is_last old [] front e never full = subst (λ (z : List (Note C R)). IsFull is_row z) (sym (append-nil old) ∙ e) full
  full_is_last old (x ∷ xs) front e never full = absurd (never old x xs (sym e) full)

  no_more : (old t front : List (Note C R)) (note : Note C R) → front ≡ (old ++ t) ++ note ∷ [] → NeverFull is_row front → IsFull is_row old → ⊥
  no_more old [] front note e never full = never old note [] (e ∙ append_assoc old [] (note ∷ [])) full
  no_more old (x ∷ xs) front note e never full = never old x (xs ++ note ∷ []) (e ∙ append_assoc old (x ∷ xs) (note ∷ [])) full

  -- where the log was full and the id is new, the answer is that
  pub full_is_told : (id : Id) (day : ℕ) (command : C) (old front : List (Note C R)) (own own' : List ℕ) (a : Answer R) → NeverFull is_row front → IsPrefix old front → IsFull is_row old → IsNew id (history front)
      → Shows is_row id day command old front own own' a → a ≡ LogFull
  full_is_told id day command old front own own' (Done p reply) never grown full new h = absurd (new p h.0.entry h.0.at h.0.id_is)
  full_is_told id day command old front own own' (NumberReused p) never grown full new h = absurd (new p h.0.entry h.0.at h.0.id_is)
  full_is_told id day command old front own own' LogFull never grown full new h = refl
  full_is_told id day command old front own own' KeeperFault never grown full new h =
      absurd (no_more old h.grown.0 front (Faulted id) (h.front_is ∙ ap (λ (z : List (Note C R)). z ++ Faulted id ∷ []) (sym h.grown.1)) never full)
  full_is_told id day command old front own own' Memory never grown full new h = absurd (h.0 new (full_is_last old grown.0 front grown.1 never full))
