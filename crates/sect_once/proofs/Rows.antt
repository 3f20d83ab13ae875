-- The rows of entries, their bytes, and logs that were never full.
use Rattle.std.proofs.Common.{◌≡◌, ℕ, zero, suc, ◌^◌, ◌≤◌, List, [], ◌∷◌, ◌++◌, length, sum_by, refl, sym, ap, ◌∙◌, subst, inl, inr, ◌⊎◌, ⊎_elim, arith, Option, Some, None, length-append, slice_get}
use Rattle.std.specs.Option.{option_to_list}
use Rattle.std.proofs.lemmas.List.{append_assoc}
use Rattle.std.specs.List.{AllZip}
use Rattle.sect_edge.specs.Keeper.{AddsRow, KeepsRows}
use Rattle.sect_once.specs.declared.entry.Entry.{Entry}
use Rattle.sect_once.specs.declared.entry.Note.{Note}
use Rattle.sect_once.specs.declared.entry.Note.TheVariants.{Acted}
use Rattle.sect_once.specs.History.{acted_log, entries_of, history, AreHeavy, HaveBytes, IsFull, NeverFull, TellsRows}

module _ {A : Type 0} where
  -- where a list with one more item is cut before an item
  pub cut-snoc : (xs : List A) (x : A) (before : List A) (y : A) (after : List A) → xs ++ x ∷ [] ≡ before ++ y ∷ after → (before ≡ xs) ⊎ ((rest : List A) × (xs ≡ before ++ y ∷ rest))
  cut-snoc [] x [] y after h = inl refl
  cut-snoc [] x (b ∷ bs) y after h = absurd (let l = ap length h in omega (arith, l, length-append bs (y ∷ after)))
  cut-snoc (z ∷ xs) x [] y after h = let e : z ≡ y = cc in inr (xs, ap (λ (k : A). k ∷ xs) e)
  cut-snoc (z ∷ xs) x (b ∷ bs) y after h = let head : z ≡ b = cc in let tail : xs ++ x ∷ [] ≡ bs ++ y ∷ after = cc in
      ⊎_elim (λ (e : bs ≡ xs). inl (λ i. sym head i ∷ e i)) (λ (t : (rest : List A) × (xs ≡ bs ++ y ∷ rest)). inr (t.0, λ i. head i ∷ t.1 i)) (cut-snoc xs x bs y after tail)

module _ {C R : Type 0} where
  pub history-acted_log : (es : List (Entry C R)) → history (acted_log es) ≡ es
  history-acted_log [] = refl
  history-acted_log (e ∷ es) = ap (λ (zs : List (Entry C R)). e ∷ zs) (history-acted_log es)

  pub length-acted_log : (es : List (Entry C R)) → length (acted_log es) ≡ length es
  length-acted_log [] = refl
  length-acted_log (e ∷ es) = ap suc (length-acted_log es)

  pub acted_log-append : (es : List (Entry C R)) (e : Entry C R) → acted_log (es ++ e ∷ []) ≡ acted_log es ++ Acted e ∷ []
  acted_log-append [] e = refl
  acted_log-append (x ∷ es) e = ap (λ (zs : List (Note C R)). Acted x ∷ zs) (acted_log-append es e)

module _ {C R : Type 0} (is_row : Entry C R → List ℕ → Type 0) where
  pub rows-append : (es : List (Entry C R)) (rows : List (List ℕ)) (e : Entry C R) (row : List ℕ) → AllZip is_row es rows → is_row e row → AllZip is_row (es ++ e ∷ []) (rows ++ row ∷ [])
  rows-append [] [] e row h w = (w, tt)
  rows-append [] (r ∷ rows) e row h w = absurd h
  rows-append (x ∷ es) [] e row h w = absurd h
  rows-append (x ∷ es) (r ∷ rows) e row h w = (h.0, rows-append es rows e row h.1 w)

  pub zip-length : (es : List (Entry C R)) (rows : List (List ℕ)) → AllZip is_row es rows → length es ≡ length rows
  zip-length [] [] h = refl
  zip-length [] (r ∷ rows) h = absurd h
  zip-length (e ∷ es) [] h = absurd h
  zip-length (e ∷ es) (r ∷ rows) h = ap suc (zip-length es rows h.1)

  -- the row at a place is that of the entry there
  pub zip-get : (n : ℕ) (es : List (Entry C R)) (rows : List (List ℕ)) (row : List ℕ) → AllZip is_row es rows → slice_get rows n ≡ Some row → (e : Entry C R) × (slice_get es n ≡ Some e) × is_row e row
  zip-get n [] [] row h g = absurd cc
  zip-get n [] (r ∷ rows) row h g = absurd h
  zip-get n (e ∷ es) [] row h g = absurd h
  zip-get zero (e ∷ es) (r ∷ rows) row h g = let same : r ≡ row = cc in (e, refl, subst (is_row e) same h.0)
  zip-get (suc n) (e ∷ es) (r ∷ rows) row h g = zip-get n es rows row h.1 g

  -- one row more is read as one entry more
  pub entries-append : (entry_of : List ℕ → Option (Entry C R)) → ((e : Entry C R) (row : List ℕ) → is_row e row → entry_of row ≡ Some e)
      → (rows : List (List ℕ)) (e : Entry C R) (row : List ℕ) → is_row e row → entries_of entry_of (rows ++ row ∷ []) ≡ entries_of entry_of rows ++ e ∷ []
  entries-append entry_of reads [] e row h = ap (λ (o : Option (Entry C R)). option_to_list o ++ []) (reads e row h)
  entries-append entry_of reads (r ∷ rows) e row h =
      ap (λ (es : List (Entry C R)). option_to_list (entry_of r) ++ es) (entries-append entry_of reads rows e row h)
      ∙ sym (append_assoc (option_to_list (entry_of r)) (entries_of entry_of rows) (e ∷ []))

  pub never_full-append : (log : List (Note C R)) (note : Note C R) → NeverFull is_row log → (IsFull is_row log → ⊥) → NeverFull is_row (log ++ note ∷ [])
  never_full-append log note h room before n after is full = ⊎_elim
      (λ (e : before ≡ log). room (subst (IsFull is_row) e full))
      (λ (t : (rest : List (Note C R)) × (log ≡ before ++ n ∷ rest)). h before n t.0 t.1 full) (cut-snoc log note before n after is)

  pub never_full-nil : NeverFull is_row []
  never_full-nil [] note after is full = absurd (let l = ap length is in omega arith)
  never_full-nil (b ∷ before) note after is full = absurd (let l = ap length is in omega arith)

  pub tells-keeps : (old new : Option (List (List ℕ))) (es : List (Entry C R)) → TellsRows is_row old es → KeepsRows old new → TellsRows is_row new es
  tells-keeps None new es h k = subst (λ (o : Option (List (List ℕ))). TellsRows is_row o es) (sym k) tt
  tells-keeps (Some all) new es h k = subst (λ (o : Option (List (List ℕ))). TellsRows is_row o es) (sym k) h

  pub tells-adds : (old new : Option (List (List ℕ))) (row : List ℕ) (es : List (Entry C R)) (e : Entry C R) → TellsRows is_row old es → AddsRow old new row → is_row e row → TellsRows is_row new (es ++ e ∷ [])
  tells-adds None new row es e h k w = subst (λ (o : Option (List (List ℕ))). TellsRows is_row o (es ++ e ∷ [])) (sym k) tt
  tells-adds (Some all) new row es e h k w = subst (λ (o : Option (List (List ℕ))). TellsRows is_row o (es ++ e ∷ [])) (sym k) (rows-append es all e row h w)

  module _ (one_row : (e : Entry C R) (a b : List ℕ) → is_row e a → is_row e b → a ≡ b) where
    pub same_rows : (es : List (Entry C R)) (rows others : List (List ℕ)) → AllZip is_row es rows → AllZip is_row es others → rows ≡ others
    same_rows [] [] [] h k = refl
    same_rows [] [] (o ∷ others) h k = absurd k
    same_rows [] (r ∷ rows) others h k = absurd h
    same_rows (e ∷ es) [] others h k = absurd h
    same_rows (e ∷ es) (r ∷ rows) [] h k = absurd k
    same_rows (e ∷ es) (r ∷ rows) (o ∷ others) h k = let a = one_row e r o h.0 k.0 in let b = same_rows es rows others h.1 k.1 in λ i. a i ∷ b i

    pub same_bytes : (es : List (Entry C R)) (m n : ℕ) → HaveBytes is_row es m → HaveBytes is_row es n → m ≡ n
    same_bytes es m n h k = h.sum ∙ ap (sum_by length) (same_rows es h.rows k.rows h.are_rows k.are_rows) ∙ sym k.sum

    pub heavy-size : (es : List (Entry C R)) (n : ℕ) → HaveBytes is_row es n → AreHeavy is_row es → 2 ^ 28 ≤ n
    heavy-size es n h a = let e = same_bytes es n a.size h a.bytes in let big = a.heavy in omega (arith, e, big)
