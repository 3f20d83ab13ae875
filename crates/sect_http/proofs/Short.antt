-- An answer that is neither of a request that acted nor a report is short.
use Rattle.std.proofs.Common.{◌≡◌, ◌⊎◌, ℕ, zero, suc, ◌+◌, ◌<◌, ◌≤◌, ◌^◌, ◌||◌, Bool, true, false, List, [], ◌∷◌, ◌++◌, Option, None, Some, refl, sym, ap, ◌∙◌, subst, inl, inr, ⊎_elim, arith, codes, decimal, length, length-append, slice_get, take, drop}
use Rattle.std.specs.Fmt.{digits}
use Rattle.std.specs.List.{concat}
use Rattle.std.proofs.lemmas.Bool.{cases_lt}
use Rattle.std.proofs.lemmas.Fmt.{length-decimal-le}
use Rattle.std.proofs.lemmas.Option.{slice_get_within}
use Rattle.sect_answer.specs.Answering.{Does, DoesAsk, DoesLook, Sitting, Tells, answer_said}
use Rattle.sect_answer.specs.declared.errand.Errand.{Errand}
use Rattle.sect_answer.specs.declared.errand.Errand.TheVariants.{NoRoute, OtherMethod, NoCommand, Asks, Looks}
use Rattle.sect_base.specs.declared.limit.Caller.{Caller}
use Rattle.sect_base.specs.declared.limit.Id.{Id}
use Rattle.sect_command.specs.declared.command.Command.{Command}
use Rattle.sect_command.specs.declared.reply.Reply.{Reply}
use Rattle.sect_command.specs.declared.view.Query.{Query}
use Rattle.sect_command.specs.declared.view.View.{View}
use Rattle.sect_office.specs.Offices.{Shows}
use Rattle.sect_once.specs.declared.answer.Answer.{Answer}
use Rattle.sect_once.specs.declared.answer.Answer.TheVariants as answers
use Rattle.sect_once.specs.declared.entry.Entry.{Entry}
use Rattle.sect_once.specs.declared.entry.Note.{Note}
use Rattle.sect_once.specs.declared.entry.Note.TheVariants.{Acted, Faulted}
use Rattle.sect_once.specs.History.{history, IsFull, NeverFull}
use Rattle.sect_talk.specs.Pages.{allow_line, closing_line, code_text, page_end, page_front, page_text, phrase, shown_body}
use Rattle.sect_talk.specs.Said.{Said, error_body, json_page, no_memory}
use Rattle.sect_talk.specs.declared.page.Method.{Method}
use Rattle.sect_talk.specs.declared.page.Method.TheVariants.{Get, Post}
use Rattle.sect_talk.specs.declared.page.Page.{Page}
use Rattle.sect_wire.specs.Answers.{answer_body}
use Rattle.sect_talk.specs.Asked.{Asked, Bytes, Head, Whole}
use Rattle.sect_http.specs.Answers.{Answers}
use Rattle.sect_http.specs.Hearing.{IsFramed}
use Rattle.sect_http.specs.Telling.{ANSWER_ROOM, IsTold, said_text}

-- ---- pages

shown_short : (headless : Bool) (body : List ℕ) → length body ≤ 64 → length (shown_body headless body) ≤ 64
shown_short true body short = omega arith
shown_short false body short = short

end_short : (allow : Option Method) (closing : Bool) → length (concat (codes "\r\n" ∷ allow_line allow ∷ closing_line closing ∷ codes "\r\n" ∷ [])) ≤ 40
end_short None true = omega arith
end_short None false = omega arith
end_short (Some Get) true = omega arith
end_short (Some Get) false = omega arith
end_short (Some Post) true = omega arith
end_short (Some Post) false = omega arith

page_end_short : (p : Page) → length (page_end p) ≤ 40
unfolding page_end
page_end_short p = end_short p.allow p.closing

page_short : (p : Page) (headless : Bool) (body : List ℕ) → length (page_front p) ≤ 100 → length body ≤ 64 → length (page_text p headless body) ≤ ANSWER_ROOM
page_short p headless body front short =
    let digits : length (decimal (length body)) ≤ 2 = length-decimal-le 2 (length body) (omega arith) (omega arith) (omega arith) in
    let shown = shown_short headless body short in
    let end = page_end_short p in
    let whole = length-append (page_front p) (decimal (length body) ++ (page_end p ++ shown_body headless body)) in
    let behind = length-append (decimal (length body)) (page_end p ++ shown_body headless body) in
    let last = length-append (page_end p) (shown_body headless body) in
    omega (arith, digits, shown, front, end, whole, behind, last)

-- the front of a page of JSON with one of these statuses
front_400 : (allow : Option Method) (closing : Bool) → length (page_front (json_page 400 allow closing)) ≤ 100
unfolding page_front code_text phrase
front_400 allow closing = omega arith

front_404 : (allow : Option Method) (closing : Bool) → length (page_front (json_page 404 allow closing)) ≤ 100
unfolding page_front code_text phrase
front_404 allow closing = omega arith

front_405 : (allow : Option Method) (closing : Bool) → length (page_front (json_page 405 allow closing)) ≤ 100
unfolding page_front code_text phrase
front_405 allow closing = omega arith

front_409 : (allow : Option Method) (closing : Bool) → length (page_front (json_page 409 allow closing)) ≤ 100
unfolding page_front code_text phrase
front_409 allow closing = omega arith

front_503 : (allow : Option Method) (closing : Bool) → length (page_front (json_page 503 allow closing)) ≤ 100
unfolding page_front code_text phrase
front_503 allow closing = omega arith

front_507 : (allow : Option Method) (closing : Bool) → length (page_front (json_page 507 allow closing)) ≤ 100
unfolding page_front code_text phrase
front_507 allow closing = omega arith

said_short : (status : ℕ) (allow : Option Method) (own : Bool) (body : List ℕ) (closing headless : Bool)
    → ((allow : Option Method) (closing : Bool) → length (page_front (json_page status allow closing)) ≤ 100) → length body ≤ 64
    → length (said_text (record { page = json_page status allow own; body = body }) closing headless) ≤ ANSWER_ROOM
said_short status allow own body closing headless front short = page_short (json_page status allow (own || closing)) headless body (front allow (own || closing)) short

-- ---- places

module _ {C R : Type 0} where
  history-le : (notes : List (Note C R)) → length (history notes) ≤ length notes
  history-le [] = omega arith
  history-le (Acted e ∷ notes) = let h = history-le notes in omega (arith, h)
  history-le (Faulted id ∷ notes) = let h = history-le notes in omega (arith, h)

  split_at : (k : ℕ) (notes : List (Note C R)) → k < length notes → (note : Note C R) × (after : List (Note C R)) × (notes ≡ take k notes ++ note ∷ after) × (length (take k notes) ≡ k)
  split_at k [] less = absurd (omega (arith, less))
  split_at zero (n ∷ ns) less = (n, ns, refl, refl)
  split_at (suc k) (n ∷ ns) less = let (note, after, is, len) = split_at k ns (omega (arith, less)) in
      (note, after, ap (λ (l : List (Note C R)). n ∷ l) is, omega (arith, len))

  never_many : (is_row : Entry C R → List ℕ → Type 0) (notes : List (Note C R)) → NeverFull is_row notes → length notes ≤ 2 ^ 20
  never_many is_row notes never = ⊎_elim
      (λ (many : 2 ^ 20 < length notes). let (note, after, is, len) = split_at (2 ^ 20) notes many in absurd (never (take (2 ^ 20) notes) note after is (inl (omega (arith, len)))))
      (λ (few : length notes ≤ 2 ^ 20). few) (cases_lt (2 ^ 20) (length notes))

  place_few : (is_row : Entry C R → List ℕ → Type 0) (notes : List (Note C R)) (place : ℕ) (e : Entry C R) → NeverFull is_row notes → slice_get (history notes) place ≡ Some e → place < 2 ^ 20
  place_few is_row notes place e never at =
      let within = slice_get_within (history notes) place e at in
      let fewer = history-le notes in
      let few = never_many is_row notes never in
      omega (arith, within, fewer, few)

reused_short : (place : ℕ) → place < 2 ^ 20 → length (codes "{\"error\":\"reused\",\"place\":" ++ (decimal place ++ codes "}")) ≤ 64
reused_short place few =
    let digits : length (decimal place) ≤ 7 = length-decimal-le 7 place (omega arith) (omega (arith, few)) (omega (arith, few)) in
    let whole = length-append (codes "{\"error\":\"reused\",\"place\":") (decimal place ++ codes "}") in
    let behind = length-append (decimal place) (codes "}") in
    omega (arith, digits, whole, behind)

-- ---- answers

-- what was to be said is told, or where it is long, want of memory may be told
told_or : (P : Said → Type 0) (said told : Said) (closing headless : Bool) → P said → ((ANSWER_ROOM < length (said_text said closing headless)) → P no_memory)
    → (told ≡ said) ⊎ ((told ≡ no_memory) × (ANSWER_ROOM < length (said_text said closing headless))) → P told
told_or P said told closing headless as_said as_want (inl same) = subst P (sym same) as_said
told_or P said told closing headless as_said as_want (inr (want, long)) = subst P (sym want) (as_want long)

not_long : (status : ℕ) (allow : Option Method) (own : Bool) (body : List ℕ) (said : Said) (closing headless : Bool)
    → ((allow : Option Method) (closing : Bool) → length (page_front (json_page status allow closing)) ≤ 100) → length body ≤ 64
    → said ≡ record { page = json_page status allow own; body = body } → ANSWER_ROOM < length (said_text said closing headless) → ⊥
not_long status allow own body said closing headless front short is long =
    let few = said_short status allow own body closing headless front short in
    let same = ap (λ s. length (said_text s closing headless)) is in
    absurd (omega (arith, few, same, long))

module _ {S : Type 0} (start : S) (stepped : S → ℕ → Caller → Command → S × Reply) (is_row : Entry Command Reply → List ℕ → Type 0) (looked : S → Query → View) where
  -- of the office's answers only one of a request that acted is long
  tells_want : (id : Id) (day : ℕ) (command : Command) (old front : List (Note Command Reply)) (own own' : List ℕ) (a : Answer Reply) (said : Said) (closing headless : Bool)
      → NeverFull is_row front → Shows is_row id day command old front own own' a → Tells a said → ANSWER_ROOM < length (said_text said closing headless) → Tells a no_memory
  tells_want id day command old front own own' (answers.Done place reply) said closing headless never shows told long = inr refl
  tells_want id day command old front own own' (answers.NumberReused place) said closing headless never shows told long =
      absurd (not_long 409 None false (answer_body (answers.NumberReused place)) said closing headless front_409 (reused_short place (place_few is_row front place shows.0.entry never shows.0.at)) told long)
  tells_want id day command old front own own' answers.LogFull said closing headless never shows told long =
      absurd (not_long 409 None false (answer_body answers.LogFull) said closing headless front_409 (omega arith) told long)
  tells_want id day command old front own own' answers.KeeperFault said closing headless never shows told long =
      absurd (not_long 503 None false (answer_body answers.KeeperFault) said closing headless front_503 (omega arith) told long)
  tells_want id day command old front own own' answers.Memory said closing headless never shows told long =
      absurd (not_long 507 None true (answer_body answers.Memory) said closing headless front_507 (omega arith) told long)

  -- where an answer is long, it may have wanted memory
  does_want : (e : Errand) (old : Sitting) (said : Said) (new : Sitting) (closing headless : Bool) → Does start stepped is_row looked e old said new
      → ANSWER_ROOM < length (said_text said closing headless) → Does start stepped is_row looked e old no_memory new
  does_want NoRoute old said new closing headless (same, is) long =
      absurd (not_long 404 None false (error_body (codes "route")) said closing headless front_404 (omega arith) is long)
  does_want (OtherMethod method) old said new closing headless (same, is) long =
      absurd (not_long 405 (Some method) false (error_body (codes "method")) said closing headless front_405 (omega arith) is long)
  does_want NoCommand old said new closing headless (same, is) long =
      absurd (not_long 400 None false (error_body (codes "body")) said closing headless front_400 (omega arith) is long)
  does_want (Asks id command) old said new closing headless d long =
      record {
        day = d.day;
        answer = d.answer;
        on = d.on;
        grown = d.grown;
        legal = d.legal;
        roomy = d.roomy;
        shows = d.shows;
        told = tells_want id d.day command old.front new.front old.own new.own d.answer said closing headless d.roomy d.shows d.told long;
      }
  does_want (Looks query) old said new closing headless d long = record { grown = d.grown; legal = d.legal; own = d.own; days = d.days; told = inr refl }

  -- what is told in place of what was to be said answers the request too
  pub told_answers : (old : Sitting) (asked : Asked) (said : Said) (new : Sitting) (closing headless : Bool) (told : Said)
      → Answers start stepped is_row looked old asked said new → IsTold said closing headless told → Answers start stepped is_row looked old asked told new
  told_answers old (Bytes raw) said new closing headless told (same, how) t =
      told_or (λ s. Answers start stepped is_row looked old (Bytes raw) s new) said told closing headless (same, how) (λ long. (same, inr refl)) t
  told_answers old (Head h) said new closing headless told (same, how) t =
      told_or (λ s. Answers start stepped is_row looked old (Head h) s new) said told closing headless (same, how) (λ long. (same, inr refl)) t
  told_answers old (Whole h body) said new closing headless told (framed, inl (same, want)) t =
      told_or (λ s. Answers start stepped is_row looked old (Whole h body) s new) said told closing headless (framed, inl (same, want)) (λ long. (framed, inl (same, refl))) t
  told_answers old (Whole h body) said new closing headless told (framed, inr (e, is, does)) t =
      told_or (λ s. Answers start stepped is_row looked old (Whole h body) s new) said told closing headless (framed, inr (e, is, does))
      (λ long. (framed, inr (e, is, does_want e old said new closing headless does long))) t

  -- to each request it may be told that memory was wanted before anything was done
  pub want_answers : (old : Sitting) (asked : Asked) → IsFramed asked → Answers start stepped is_row looked old asked no_memory old
  want_answers old (Bytes raw) framed = (refl, inr refl)
  want_answers old (Head h) framed = (refl, inr refl)
  want_answers old (Whole h body) framed = (framed, inl (refl, refl))
