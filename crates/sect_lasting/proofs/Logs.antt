-- The history of a log, with one entry more.
use Rattle.std.proofs.Common.{◌≡◌, ◌⊎◌, inl, inr, ⊎_elim, ℕ, ◌≤◌, ◌<◌, ◌^◌, List, [], ◌∷◌, ◌++◌, length, slice_get, Option, Some, Result, refl, sym, ◌∙◌, ap, subst, arith}
use Rattle.std.specs.List.{AllZip}
use Rattle.sect_base.specs.declared.limit.Caller.{Caller}
use Rattle.sect_base.specs.declared.limit.Id.{Id}
use Rattle.sect_once.specs.declared.answer.OpenFault.{OpenFault}
use Rattle.sect_once.specs.declared.entry.Entry.{Entry}
use Rattle.sect_once.specs.declared.entry.Note.{Note}
use Rattle.sect_once.specs.declared.entry.Note.TheVariants.{Acted, Faulted}
use Rattle.sect_once.specs.History.{acted_log, history, ActsOnce, AreHeavy, IsFull, IsLegal, IsNew, IsReplay, HasRow, NeverFull, TellsRows}
use Rattle.sect_once.specs.Desks.{NextHasRow, Standing}
use Rattle.sect_once.specs.Opening.{Follows, HasHistory, Opens}
use Rattle.sect_once.proofs.Logs.{get-snoc, IsReplay-append}
use Rattle.sect_once.proofs.Rows.{acted_log-append, history-acted_log, never_full-append}
use Rattle.sect_once.proofs.Openings.{few, full_entries}
use Rattle.sect_once.proofs.Reopening.{reopened}
use Rattle.sect_lasting.specs.Lasting.{AtMostOneMore, answered}
use Rattle.sect_lasting.specs.Laws.{AnswersFollow}

module _ {C R : Type 0} where
  -- an entry whose id is new acts once behind the others
  once_more : (es : List (Entry C R)) (e : Entry C R) → ActsOnce es → IsNew e.id es → ActsOnce (es ++ e ∷ [])
  once_more es e once new p q f h at at' same = ⊎_elim
      (λ (a : slice_get es p ≡ Some f). ⊎_elim
      (λ (b : slice_get es q ≡ Some h). once p q f h a b same)
      (λ (b : (q ≡ length es) × (e ≡ h)). absurd (new p f a (same ∙ ap (λ (x : Entry C R). x.id) (sym b.1))))
      (get-snoc es e q h at'))
      (λ (a : (p ≡ length es) × (e ≡ f)). ⊎_elim
      (λ (b : slice_get es q ≡ Some h). absurd (new q h b (sym same ∙ ap (λ (x : Entry C R). x.id) (sym a.1))))
      (λ (b : (q ≡ length es) × (e ≡ h)). a.0 ∙ sym b.0)
      (get-snoc es e q h at'))
      (get-snoc es e p f at)

  -- the log is cut before a note, behind the entries of this front and at least as many notes
  record IsCut (log before : List (Note C R)) : Type 0 where
    front : List (Note C R)
    next : Note C R
    back : List (Note C R)
    is : log ≡ front ++ next ∷ back
    same : history front ≡ history before
    long : length before ≤ length front

  cut_more : (log before : List (Note C R)) (e : Entry C R) (b : Note C R) → Acted e ≡ b → IsCut log before → IsCut (Acted e ∷ log) (b ∷ before)
  cut_more log before e b head cut = record {
    front = Acted e ∷ cut.front;
    next = cut.next;
    back = cut.back;
    is = ap (λ (l : List (Note C R)). Acted e ∷ l) cut.is;
    same = ap (λ (es : List (Entry C R)). e ∷ es) cut.same ∙ ap (λ (n : Note C R). history (n ∷ before)) head;
    long = (let m = cut.long in omega (arith, m));
  }

  -- where the log of the entries alone is cut before a note, so is the log
  cut_front : (log before : List (Note C R)) (note : Note C R) (after : List (Note C R)) → acted_log (history log) ≡ before ++ note ∷ after → IsCut log before
  cut_front [] [] note after h = absurd cc
  cut_front [] (b ∷ before) note after h = absurd cc
  cut_front (Acted e ∷ log) [] note after h = record { front = []; next = Acted e; back = log; is = refl; same = refl; long = omega arith }
  cut_front (Acted e ∷ log) (b ∷ before) note after h =
      let head : Acted e ≡ b = cc in
      let tail : acted_log (history log) ≡ before ++ note ∷ after = cc in
      cut_more log before e b head (cut_front log before note after tail)
  cut_front (Faulted id ∷ log) before note after h = let cut = cut_front log before note after h in record {
    front = Faulted id ∷ cut.front;
    next = cut.next;
    back = cut.back;
    is = ap (λ (l : List (Note C R)). Faulted id ∷ l) cut.is;
    same = cut.same;
    long = (let m = cut.long in omega (arith, m));
  }

  -- without the notes of faults a log was never full either
  never_full-acted : (is_row : Entry C R → List ℕ → Type 0) (log : List (Note C R)) → NeverFull is_row log → NeverFull is_row (acted_log (history log))
  never_full-acted is_row log roomy before note after is full =
      let cut = cut_front log before note after is in
      roomy cut.front cut.next cut.back cut.is
      (⊎_elim
      (λ (big : 2 ^ 20 ≤ length before). inl (let m = cut.long in omega (arith, big, m)))
      (λ (heavy : AreHeavy is_row (history before)). inr (subst (AreHeavy is_row) (sym cut.same) heavy)) full)

  short_history : (log : List (Note C R)) → length (history log) ≤ length log
  short_history [] = omega arith
  short_history (Acted e ∷ log) = let more = short_history log in omega (arith, more)
  short_history (Faulted id ∷ log) = let more = short_history log in omega (arith, more)

  -- nor is it full where the log has room
  full-acted : (is_row : Entry C R → List ℕ → Type 0) (log : List (Note C R)) → IsFull is_row (acted_log (history log)) → IsFull is_row log
  full-acted is_row log full = ⊎_elim
      (λ (big : 2 ^ 20 ≤ length (history log)). inl (let short = short_history log in omega (arith, big, short)))
      (λ (heavy : AreHeavy is_row (history log)). inr heavy) (full_entries is_row (history log) full)

module _ {O C R : Type 0} (start : O) (stepped : O → ℕ → Caller → C → O × R) (is_row : Entry C R → List ℕ → Type 0) where
  legal_more : (log : List (Note C R)) (e : Entry C R) (row : List ℕ) → IsLegal stepped start log → Follows start stepped is_row (history log) row e
      → IsLegal stepped start (acted_log (history log ++ e ∷ []))
  legal_more log e row legal follows =
      let same : history (acted_log (history log ++ e ∷ [])) ≡ history log ++ e ∷ [] = history-acted_log (history log ++ e ∷ []) in
      record {
        replies = subst (IsReplay stepped start) (sym same) (IsReplay-append stepped start (history log) e legal.replies follows.replied);
        once = subst ActsOnce (sym same) (once_more (history log) e legal.once follows.is_new);
      }

  roomy_more : (log : List (Note C R)) (e : Entry C R) (row : List ℕ) → NeverFull is_row log → Follows start stepped is_row (history log) row e
      → NeverFull is_row (acted_log (history log ++ e ∷ []))
  roomy_more log e row roomy follows =
      subst (NeverFull is_row) (sym (acted_log-append (history log) e))
      (λ before note after is. never_full-append is_row (acted_log (history log)) (Acted e) (never_full-acted is_row log roomy) follows.roomy before note after is)

module _ {O C R K : Type 0} (start : O) (stepped : O → ℕ → Caller → C → O × R) (is_row : Entry C R → List ℕ → Type 0) (may_ask : Id → ℕ → C → Type 0)
    (rows : K → Option (List (List ℕ))) (faults : K → ℕ)
    (one_row : (e : Entry C R) (a b : List ℕ) → is_row e a → is_row e b → a ≡ b) (has_row : NextHasRow start stepped is_row may_ask) where
  pub answers_follow : AnswersFollow start stepped is_row rows faults may_ask
  answers_follow desk all id day command sound told asked new room =
      let es : List (Entry C R) = history desk.log in
      let kept : AllZip is_row es all = subst (λ (o : Option (List (List ℕ))). TellsRows is_row o es) told sound.kept in
      let roomy : IsFull is_row (acted_log es) → ⊥ = λ full. room (full-acted is_row desk.log full) in
      let short : length es ≤ 2 ^ 20 = (let less = few is_row es roomy in omega (arith, less)) in
      let row : HasRow is_row (answered start stepped es id day command) = has_row es all (answered start stepped es id day command) kept short asked refl in
      record {
        row = row.0;
        follows = record { roomy = roomy; written = row.1; is_new = new; replied = refl };
        only = λ other written. one_row (answered start stepped es id day command) other row.0 written row.1;
      }

module _ {O C R K : Type 0} (start : O) (stepped : O → ℕ → Caller → C → O × R) (is_row : Entry C R → List ℕ → Type 0) (rows : K → Option (List (List ℕ))) (faults : K → ℕ)
    (one_entry : (a b : Entry C R) (row : List ℕ) → is_row a row → is_row b row → a ≡ b) where
  pub opens_to : (keeper : K) (log : List (Note C R)) (entries : List (Entry C R)) (all : List (List ℕ)) (result : Result (Standing O C R K) (OpenFault × K))
      → IsLegal stepped start log → NeverFull is_row log → AtMostOneMore start stepped is_row (history log) entries → rows keeper ≡ Some all → AllZip is_row entries all
      → Opens start stepped is_row rows faults keeper result → HasHistory start stepped is_row rows faults entries result
  opens_to keeper log entries all result legal roomy (Rattle.std.proofs.Common.inl same) told kept opens =
      subst (λ (es : List (Entry C R)). HasHistory start stepped is_row rows faults es result) (sym same)
      (reopened start stepped is_row rows faults one_entry keeper result opens log all told legal roomy (subst (λ (es : List (Entry C R)). AllZip is_row es all) same kept))
  opens_to keeper log entries all result legal roomy (Rattle.std.proofs.Common.inr (e, row, follows, same)) told kept opens =
      let more : history (acted_log (history log ++ e ∷ [])) ≡ entries = history-acted_log (history log ++ e ∷ []) ∙ sym same in
      subst (λ (es : List (Entry C R)). HasHistory start stepped is_row rows faults es result) more
      (reopened start stepped is_row rows faults one_entry keeper result opens (acted_log (history log ++ e ∷ [])) all told
      (legal_more start stepped is_row log e row legal follows) (roomy_more start stepped is_row log e row roomy follows)
      (subst (λ (es : List (Entry C R)). AllZip is_row es all) (sym more) kept))
