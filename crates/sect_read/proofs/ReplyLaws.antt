-- Replies are read exactly.
use Rattle.std.proofs.Common.{◌≡◌, ℕ, false, List, [], ◌∷◌, ◌++◌, Option, None, Some, refl, ap, ◌∙◌, arith, decimal}
use Rattle.std.specs.Prelude.{codes, flat_map, if◌then◌else◌}
use Rattle.std.specs.Str.{bytes_eq}
use Rattle.sect_base.specs.Tree.{Tree}
use Rattle.sect_catalog.specs.declared.row.CatalogFault.{CatalogFault}
use Rattle.sect_catalog.specs.declared.row.CatalogFault.TheVariants as catalog
use Rattle.sect_people.specs.declared.row.RequestFault.{RequestFault}
use Rattle.sect_people.specs.declared.row.RequestFault.TheVariants as request
use Rattle.sect_reserve.specs.declared.row.ReserveFault.{ReserveFault}
use Rattle.sect_reserve.specs.declared.row.ReserveFault.TheVariants as reserve
use Rattle.sect_command.specs.TreeText.{tree_text}
use Rattle.sect_command.specs.declared.reply.Reply.{Reply}
use Rattle.sect_command.specs.declared.reply.Reply.TheVariants as replies
use Rattle.sect_command.specs.declared.reply.Line.{Line}
use Rattle.sect_command.specs.declared.reply.LineResult.{LineResult}
use Rattle.sect_command.specs.declared.reply.LineResult.TheVariants as results
use Rattle.sect_command.specs.declared.reply.Refusal.{Refusal}
use Rattle.sect_command.specs.declared.reply.Refusal.TheVariants as refusals
use Rattle.sect_command.specs.declared.reply.RowFault.{RowFault}
use Rattle.sect_command.specs.declared.reply.RowFault.TheVariants as faults
use Rattle.sect_text.specs.Replies.{catalog_fault_words, request_fault_words, reserve_fault_words, row_fault_words, refusal_words, result_words, line_words, choice_words, reply_words}
use Rattle.sect_read.specs.declared.request.Request.{Request}
use Rattle.sect_read.specs.Fits.{Fits32, FitsCatalogFault, FitsRequestFault, FitsReserveFault, FitsRowFault, FitsRefusal, FitsResult, FitsLine, FitsReply, FitsChoice, FitsList, FitsTree}
use Rattle.sect_words.specs.Reading.{any_word, ◌>>=◌, word_at, each_at, later_parts, with_rest}
use Rattle.sect_words.specs.ReadingWords.{choice_of}
use Rattle.sect_read.specs.ReadingReplies.{made_at, catalog_fault_named, request_fault_named, reserve_fault_named, offering_fault_at, asked_fault_at, reserved_fault_at, row_fault_at, row_refusal_at, refusal_named, refusal_at, blocked_at, blocked_result_at, result_named, result_at, any_starts, line_at, swapped_at, placed_at, batched_at, blocked_reply_at, refused_at, reply_named, reply_at}
use Rattle.sect_read.proofs.Steps.{Exact, Takes, Any, word_step, words_step, begins_step, bind_found, if_found, end_step, word_then, word_back, words_back, word_found, same_word}
use Rattle.sect_read.proofs.Rows.{StopEach, takes_each}
use Rattle.sect_read.proofs.WordLaws.{exact_u32, exact_u64}
use Rattle.sect_read.proofs.ValueLaws.{exact_course, exact_tree}
use Rattle.sect_read.proofs.PartLaws.{exact_choice, exact_request}

-- a word as it is
exact_any : Exact any_word (λ word. word) (λ word. Unit {0})
exact_any = record { found = λ word x e. (tt, let same : word ≡ x = cc in same); again = λ x fits. refl }

-- what is found where the name is this word
name_step : {A : Type 0} (name word : List ℕ) (x y : Option A) (z : A) {G : Type 0} → (if bytes_eq name word then x else y) ≡ Some z → (name ≡ word → x ≡ Some z → G) → (y ≡ Some z → G) → G
name_step name word x y z e hit miss = if_found (bytes_eq name word) x y z e (λ b. hit (same_word name word b)) (λ b. miss)

-- a value that was made of the next word
made_found : {X Y : Type 0} {of : List ℕ → Option X} {text : X → List ℕ} {Fits : X → Type 0} (exact : Exact of text Fits) (make : X → Y) (ws : List (List ℕ)) (y : Y) (rest : List (List ℕ)) → made_at make of ws ≡ Some (y, rest)
    → (P : Y → List (List ℕ) → Type 0) → ((x : X) (r : List (List ℕ)) → Fits x → ws ≡ text x ∷ r → P (make x) r) → P y rest
made_found exact make ws y rest e P k = word_step exact ws _ _ e (λ x r fits is p. end_step (make x) y r rest p P (k x r fits is))

catalog_fault_named_found : (name : List ℕ) (ws : List (List ℕ)) (x : CatalogFault) (rest : List (List ℕ)) → catalog_fault_named name ws ≡ Some (x, rest) → FitsCatalogFault x × (name ∷ ws ≡ catalog_fault_words x ++ rest)
unfolding catalog_fault_named
catalog_fault_named_found name ws x rest e =
    name_step name (codes "Known") _ _ _ e (λ is e. made_found exact_u32 catalog.Known ws x rest e (λ y r. FitsCatalogFault y × (name ∷ ws ≡ catalog_fault_words y ++ r)) (λ n r fits w. (fits, λ i. is i ∷ w i))) (λ e.
    name_step name (codes "NoCourse") _ _ _ e (λ is e. end_step catalog.NoCourse x ws rest e (λ y r. FitsCatalogFault y × (name ∷ ws ≡ catalog_fault_words y ++ r)) (tt, λ i. is i ∷ ws)) (λ e.
    name_step name (codes "NoConfig") _ _ _ e (λ is e. end_step catalog.NoConfig x ws rest e (λ y r. FitsCatalogFault y × (name ∷ ws ≡ catalog_fault_words y ++ r)) (tt, λ i. is i ∷ ws)) (λ e.
    name_step name (codes "NoSubpart") _ _ _ e (λ is e. made_found exact_u32 catalog.NoSubpart ws x rest e (λ y r. FitsCatalogFault y × (name ∷ ws ≡ catalog_fault_words y ++ r)) (λ n r fits w. (fits, λ i. is i ∷ w i))) (λ e.
    name_step name (codes "NoSection") _ _ _ e (λ is e. made_found exact_u32 catalog.NoSection ws x rest e (λ y r. FitsCatalogFault y × (name ∷ ws ≡ catalog_fault_words y ++ r)) (λ n r fits w. (fits, λ i. is i ∷ w i))) (λ e.
    name_step name (codes "BadParent") _ _ _ e (λ is e. made_found exact_u32 catalog.BadParent ws x rest e (λ y r. FitsCatalogFault y × (name ∷ ws ≡ catalog_fault_words y ++ r)) (λ n r fits w. (fits, λ i. is i ∷ w i))) (λ e.
    name_step name (codes "TooMany") _ _ _ e (λ is e. made_found exact_u32 catalog.TooMany ws x rest e (λ y r. FitsCatalogFault y × (name ∷ ws ≡ catalog_fault_words y ++ r)) (λ n r fits w. (fits, λ i. is i ∷ w i))) (λ e.
    absurd (cc))))))))

request_fault_named_found : (name : List ℕ) (ws : List (List ℕ)) (x : RequestFault) (rest : List (List ℕ)) → request_fault_named name ws ≡ Some (x, rest) → FitsRequestFault x × (name ∷ ws ≡ request_fault_words x ++ rest)
unfolding request_fault_named
request_fault_named_found name ws x rest e =
    name_step name (codes "UnknownCourse") _ _ _ e (λ is e. made_found exact_u32 request.UnknownCourse ws x rest e (λ y r. FitsRequestFault y × (name ∷ ws ≡ request_fault_words y ++ r)) (λ n r fits w. (fits, λ i. is i ∷ w i))) (λ e.
    name_step name (codes "Twice") _ _ _ e (λ is e. made_found exact_u32 request.Twice ws x rest e (λ y r. FitsRequestFault y × (name ∷ ws ≡ request_fault_words y ++ r)) (λ n r fits w. (fits, λ i. is i ∷ w i))) (λ e.
    name_step name (codes "TooMany") _ _ _ e (λ is e. made_found exact_u32 request.TooMany ws x rest e (λ y r. FitsRequestFault y × (name ∷ ws ≡ request_fault_words y ++ r)) (λ n r fits w. (fits, λ i. is i ∷ w i))) (λ e.
    absurd (cc))))

reserve_fault_named_found : (name : List ℕ) (ws : List (List ℕ)) (x : ReserveFault) (rest : List (List ℕ)) → reserve_fault_named name ws ≡ Some (x, rest) → FitsReserveFault x × (name ∷ ws ≡ reserve_fault_words x ++ rest)
unfolding reserve_fault_named
reserve_fault_named_found name ws x rest e =
    name_step name (codes "Known") _ _ _ e (λ is e. made_found exact_u32 reserve.Known ws x rest e (λ y r. FitsReserveFault y × (name ∷ ws ≡ reserve_fault_words y ++ r)) (λ n r fits w. (fits, λ i. is i ∷ w i))) (λ e.
    name_step name (codes "Foreign") _ _ _ e (λ is e. made_found exact_u32 reserve.Foreign ws x rest e (λ y r. FitsReserveFault y × (name ∷ ws ≡ reserve_fault_words y ++ r)) (λ n r fits w. (fits, λ i. is i ∷ w i))) (λ e.
    name_step name (codes "NoGroup") _ _ _ e (λ is e. end_step reserve.NoGroup x ws rest e (λ y r. FitsReserveFault y × (name ∷ ws ≡ reserve_fault_words y ++ r)) (tt, λ i. is i ∷ ws)) (λ e.
    name_step name (codes "TooMany") _ _ _ e (λ is e. made_found exact_u32 reserve.TooMany ws x rest e (λ y r. FitsReserveFault y × (name ∷ ws ≡ reserve_fault_words y ++ r)) (λ n r fits w. (fits, λ i. is i ∷ w i))) (λ e.
    absurd (cc)))))

offering_fault_at_found : (ws : List (List ℕ)) (x : RowFault) (rest : List (List ℕ)) → offering_fault_at ws ≡ Some (x, rest) → FitsRowFault x × (codes "offering" ∷ ws ≡ row_fault_words x ++ rest)
unfolding offering_fault_at
offering_fault_at_found ws x rest e = word_step exact_any ws _ _ e (λ name r1 f1 e1 p.
    bind_found (catalog_fault_named name r1) _ _ p (λ fault is p.
    let q = catalog_fault_named_found name r1 fault.0 fault.1 is in
    end_step (faults.Offering fault.0) x fault.1 rest p (λ y r. FitsRowFault y × (codes "offering" ∷ ws ≡ row_fault_words y ++ r)) (q.0, ap (λ (vs : List (List ℕ)). codes "offering" ∷ vs) (e1 ∙ q.1))))

asked_fault_at_found : (ws : List (List ℕ)) (x : RowFault) (rest : List (List ℕ)) → asked_fault_at ws ≡ Some (x, rest) → FitsRowFault x × (codes "request" ∷ ws ≡ row_fault_words x ++ rest)
unfolding asked_fault_at
asked_fault_at_found ws x rest e = word_step exact_any ws _ _ e (λ name r1 f1 e1 p.
    bind_found (request_fault_named name r1) _ _ p (λ fault is p.
    let q = request_fault_named_found name r1 fault.0 fault.1 is in
    end_step (faults.Request fault.0) x fault.1 rest p (λ y r. FitsRowFault y × (codes "request" ∷ ws ≡ row_fault_words y ++ r)) (q.0, ap (λ (vs : List (List ℕ)). codes "request" ∷ vs) (e1 ∙ q.1))))

reserved_fault_at_found : (ws : List (List ℕ)) (x : RowFault) (rest : List (List ℕ)) → reserved_fault_at ws ≡ Some (x, rest) → FitsRowFault x × (codes "reserve" ∷ ws ≡ row_fault_words x ++ rest)
unfolding reserved_fault_at
reserved_fault_at_found ws x rest e = word_step exact_any ws _ _ e (λ name r1 f1 e1 p.
    bind_found (reserve_fault_named name r1) _ _ p (λ fault is p.
    let q = reserve_fault_named_found name r1 fault.0 fault.1 is in
    end_step (faults.Reserve fault.0) x fault.1 rest p (λ y r. FitsRowFault y × (codes "reserve" ∷ ws ≡ row_fault_words y ++ r)) (q.0, ap (λ (vs : List (List ℕ)). codes "reserve" ∷ vs) (e1 ∙ q.1))))

row_fault_found : (ws : List (List ℕ)) (x : RowFault) (rest : List (List ℕ)) → row_fault_at ws ≡ Some (x, rest) → FitsRowFault x × (ws ≡ row_fault_words x ++ rest)
unfolding row_fault_at
row_fault_found ws x rest e = begins_step (codes "offering") ws _ _ _ e
    (λ is e. let q = offering_fault_at_found (later_parts ws) x rest e in (q.0, is ∙ q.1))
    (λ no e. begins_step (codes "request") ws _ _ _ e
    (λ is e. let q = asked_fault_at_found (later_parts ws) x rest e in (q.0, is ∙ q.1))
    (λ no e. begins_step (codes "reserve") ws _ _ _ e
    (λ is e. let q = reserved_fault_at_found (later_parts ws) x rest e in (q.0, is ∙ q.1))
    (λ no e. absurd (cc))))

row_refusal_found : (ws : List (List ℕ)) (x : Refusal) (rest : List (List ℕ)) → row_refusal_at ws ≡ Some (x, rest) → FitsRefusal x × (codes "Row" ∷ ws ≡ refusal_words x ++ rest)
unfolding row_refusal_at
row_refusal_found ws x rest e = bind_found (row_fault_at ws) _ _ e (λ fault is p.
    let q = row_fault_found ws fault.0 fault.1 is in
    end_step (refusals.Row fault.0) x fault.1 rest p (λ y r. FitsRefusal y × (codes "Row" ∷ ws ≡ refusal_words y ++ r)) (q.0, ap (λ (vs : List (List ℕ)). codes "Row" ∷ vs) q.1))

refusal_named_found : (name : List ℕ) (ws : List (List ℕ)) (x : Refusal) (rest : List (List ℕ)) → refusal_named name ws ≡ Some (x, rest) → FitsRefusal x × (name ∷ ws ≡ refusal_words x ++ rest)
unfolding refusal_named
refusal_named_found name ws x rest e =
    name_step name (codes "NotYours") _ _ _ e (λ is e. end_step refusals.NotYours x ws rest e (λ y r. FitsRefusal y × (name ∷ ws ≡ refusal_words y ++ r)) (tt, λ i. is i ∷ ws)) (λ e.
    name_step name (codes "Unknown") _ _ _ e (λ is e. made_found exact_u32 refusals.Unknown ws x rest e (λ y r. FitsRefusal y × (name ∷ ws ≡ refusal_words y ++ r)) (λ n r fits w. (fits, λ i. is i ∷ w i))) (λ e.
    name_step name (codes "EmptyWant") _ _ _ e (λ is e. end_step refusals.EmptyWant x ws rest e (λ y r. FitsRefusal y × (name ∷ ws ≡ refusal_words y ++ r)) (tt, λ i. is i ∷ ws)) (λ e.
    name_step name (codes "TooMany") _ _ _ e (λ is e. made_found exact_u32 refusals.TooMany ws x rest e (λ y r. FitsRefusal y × (name ∷ ws ≡ refusal_words y ++ r)) (λ n r fits w. (fits, λ i. is i ∷ w i))) (λ e.
    name_step name (codes "NotEnrolled") _ _ _ e (λ is e. made_found exact_course refusals.NotEnrolled ws x rest e (λ y r. FitsRefusal y × (name ∷ ws ≡ refusal_words y ++ r)) (λ n r fits w. (fits, λ i. is i ∷ w i))) (λ e.
    name_step name (codes "WaitingAlready") _ _ _ e (λ is e. made_found exact_u64 refusals.WaitingAlready ws x rest e (λ y r. FitsRefusal y × (name ∷ ws ≡ refusal_words y ++ r)) (λ n r fits w. (fits, λ i. is i ∷ w i))) (λ e.
    name_step name (codes "NotWaiting") _ _ _ e (λ is e. end_step refusals.NotWaiting x ws rest e (λ y r. FitsRefusal y × (name ∷ ws ≡ refusal_words y ++ r)) (tt, λ i. is i ∷ ws)) (λ e.
    name_step name (codes "LimitBelow") _ _ _ e (λ is e. made_found exact_u32 refusals.LimitBelow ws x rest e (λ y r. FitsRefusal y × (name ∷ ws ≡ refusal_words y ++ r)) (λ n r fits w. (fits, λ i. is i ∷ w i))) (λ e.
    name_step name (codes "InUse") _ _ _ e (λ is e. made_found exact_u32 refusals.InUse ws x rest e (λ y r. FitsRefusal y × (name ∷ ws ≡ refusal_words y ++ r)) (λ n r fits w. (fits, λ i. is i ∷ w i))) (λ e.
    name_step name (codes "Row") _ _ _ e (λ is e. let q = row_refusal_found ws x rest e in (q.0, ap (λ (word : List ℕ). word ∷ ws) is ∙ q.1)) (λ e.
    absurd (cc)))))))))))

refusal_at_found : (ws : List (List ℕ)) (x : Refusal) (rest : List (List ℕ)) → refusal_at ws ≡ Some (x, rest) → FitsRefusal x × (ws ≡ refusal_words x ++ rest)
unfolding refusal_at
refusal_at_found ws x rest e = word_step exact_any ws _ _ e (λ name r1 f1 e1 p. let q = refusal_named_found name r1 x rest p in (q.0, e1 ∙ q.1))

abbrev FitsBlocked : ℕ × Tree → Type 0
FitsBlocked b = Fits32 b.0 × FitsTree b.1

abbrev blocked_words : ℕ × Tree → List (List ℕ)
blocked_words b = decimal b.0 ∷ tree_text b.1 ∷ []

blocked_found : (ws : List (List ℕ)) (x : ℕ × Tree) (rest : List (List ℕ)) → blocked_at ws ≡ Some (x, rest) → FitsBlocked x × (ws ≡ blocked_words x ++ rest)
unfolding blocked_at
blocked_found ws x rest e = word_step exact_u32 ws _ _ e (λ visits r1 f1 e1 p.
    word_step exact_tree r1 _ _ p (λ tree r2 f2 e2 p.
    end_step (visits, tree) x r2 rest p (λ y r. FitsBlocked y × (ws ≡ blocked_words y ++ r)) ((f1, f2), word_then _ ws r1 _ e1 e2)))

blocked_again : (visits : ℕ) (tree : Tree) (rest : List (List ℕ)) → Fits32 visits → FitsTree tree → blocked_at (decimal visits ∷ tree_text tree ∷ rest) ≡ Some ((visits, tree), rest)
unfolding blocked_at
blocked_again visits tree rest fits fits2 = word_back exact_u32 visits _ _ _ fits (word_back exact_tree tree rest _ _ fits2 refl)

blocked_result_found : (ws : List (List ℕ)) (x : LineResult) (rest : List (List ℕ)) → blocked_result_at ws ≡ Some (x, rest) → FitsResult x × (codes "blocked" ∷ ws ≡ result_words x ++ rest)
unfolding blocked_result_at
blocked_result_found ws x rest e = bind_found (blocked_at ws) _ _ e (λ b is p.
    let q = blocked_found ws b.0 b.1 is in
    end_step (results.Blocked b.0.0 b.0.1) x b.1 rest p (λ y r. FitsResult y × (codes "blocked" ∷ ws ≡ result_words y ++ r)) (q.0, ap (λ (vs : List (List ℕ)). codes "blocked" ∷ vs) q.1))

result_named_found : (name : List ℕ) (ws : List (List ℕ)) (x : LineResult) (rest : List (List ℕ)) → result_named name ws ≡ Some (x, rest) → FitsResult x × (name ∷ ws ≡ result_words x ++ rest)
unfolding result_named
result_named_found name ws x rest e =
    name_step name (codes "met") _ _ _ e (λ is e. made_found exact_choice results.Met ws x rest e (λ y r. FitsResult y × (name ∷ ws ≡ result_words y ++ r)) (λ n r fits w. (fits, λ i. is i ∷ w i))) (λ e.
    name_step name (codes "held") _ _ _ e (λ is e. made_found exact_course results.Held ws x rest e (λ y r. FitsResult y × (name ∷ ws ≡ result_words y ++ r)) (λ n r fits w. (fits, λ i. is i ∷ w i))) (λ e.
    name_step name (codes "blocked") _ _ _ e (λ is e. let q = blocked_result_found ws x rest e in (q.0, ap (λ (word : List ℕ). word ∷ ws) is ∙ q.1)) (λ e.
    name_step name (codes "spent") _ _ _ e (λ is e. end_step results.Spent x ws rest e (λ y r. FitsResult y × (name ∷ ws ≡ result_words y ++ r)) (tt, λ i. is i ∷ ws)) (λ e.
    name_step name (codes "waiting") _ _ _ e (λ is e. made_found exact_u64 results.Waiting ws x rest e (λ y r. FitsResult y × (name ∷ ws ≡ result_words y ++ r)) (λ n r fits w. (fits, λ i. is i ∷ w i))) (λ e.
    name_step name (codes "skipped") _ _ _ e (λ is e. end_step results.Skipped x ws rest e (λ y r. FitsResult y × (name ∷ ws ≡ result_words y ++ r)) (tt, λ i. is i ∷ ws)) (λ e.
    absurd (cc)))))))

result_at_found : (ws : List (List ℕ)) (x : LineResult) (rest : List (List ℕ)) → result_at ws ≡ Some (x, rest) → FitsResult x × (ws ≡ result_words x ++ rest)
unfolding result_at
result_at_found ws x rest e = word_step exact_any ws _ _ e (λ name r1 f1 e1 p. let q = result_named_found name r1 x rest p in (q.0, e1 ∙ q.1))

-- ---- what is spelled is read

-- one step behind two others
back_through : {A X B : Type 0} (o : Option A) (f : A → Option (X × List (List ℕ))) (g : X × List (List ℕ) → Option B) (x : X) (rest : List (List ℕ)) → (o >>= f) ≡ Some (x, rest)
    → (o >>= λ a. f a >>= g) ≡ g (x, rest)
back_through None f g x rest e = absurd (cc)
back_through (Some a) f g x rest e = ap (λ p. p >>= g) e

catalog_fault_named_back : (x : CatalogFault) (rest : List (List ℕ)) → FitsCatalogFault x → (word_at any_word (catalog_fault_words x ++ rest) >>= λ name. catalog_fault_named name.0 name.1) ≡ Some (x, rest)
unfolding catalog_fault_named
catalog_fault_named_back (catalog.Known n) rest fits = word_back exact_u32 n rest _ _ fits refl
catalog_fault_named_back catalog.NoCourse rest fits = refl
catalog_fault_named_back catalog.NoConfig rest fits = refl
catalog_fault_named_back (catalog.NoSubpart n) rest fits = word_back exact_u32 n rest _ _ fits refl
catalog_fault_named_back (catalog.NoSection n) rest fits = word_back exact_u32 n rest _ _ fits refl
catalog_fault_named_back (catalog.BadParent n) rest fits = word_back exact_u32 n rest _ _ fits refl
catalog_fault_named_back (catalog.TooMany n) rest fits = word_back exact_u32 n rest _ _ fits refl

offering_again : (x : CatalogFault) (rest : List (List ℕ)) → FitsCatalogFault x → offering_fault_at (catalog_fault_words x ++ rest) ≡ Some (faults.Offering x, rest)
unfolding offering_fault_at
offering_again x rest fits = back_through (word_at any_word (catalog_fault_words x ++ rest)) (λ name. catalog_fault_named name.0 name.1) (λ fault. Some (faults.Offering fault.0, fault.1)) x rest (catalog_fault_named_back x rest fits)

request_fault_named_back : (x : RequestFault) (rest : List (List ℕ)) → FitsRequestFault x → (word_at any_word (request_fault_words x ++ rest) >>= λ name. request_fault_named name.0 name.1) ≡ Some (x, rest)
unfolding request_fault_named
request_fault_named_back (request.UnknownCourse n) rest fits = word_back exact_u32 n rest _ _ fits refl
request_fault_named_back (request.Twice n) rest fits = word_back exact_u32 n rest _ _ fits refl
request_fault_named_back (request.TooMany n) rest fits = word_back exact_u32 n rest _ _ fits refl

asked_again : (x : RequestFault) (rest : List (List ℕ)) → FitsRequestFault x → asked_fault_at (request_fault_words x ++ rest) ≡ Some (faults.Request x, rest)
unfolding asked_fault_at
asked_again x rest fits = back_through (word_at any_word (request_fault_words x ++ rest)) (λ name. request_fault_named name.0 name.1) (λ fault. Some (faults.Request fault.0, fault.1)) x rest (request_fault_named_back x rest fits)

reserve_fault_named_back : (x : ReserveFault) (rest : List (List ℕ)) → FitsReserveFault x → (word_at any_word (reserve_fault_words x ++ rest) >>= λ name. reserve_fault_named name.0 name.1) ≡ Some (x, rest)
unfolding reserve_fault_named
reserve_fault_named_back (reserve.Known n) rest fits = word_back exact_u32 n rest _ _ fits refl
reserve_fault_named_back (reserve.Foreign n) rest fits = word_back exact_u32 n rest _ _ fits refl
reserve_fault_named_back reserve.NoGroup rest fits = refl
reserve_fault_named_back (reserve.TooMany n) rest fits = word_back exact_u32 n rest _ _ fits refl

reserved_again : (x : ReserveFault) (rest : List (List ℕ)) → FitsReserveFault x → reserved_fault_at (reserve_fault_words x ++ rest) ≡ Some (faults.Reserve x, rest)
unfolding reserved_fault_at
reserved_again x rest fits = back_through (word_at any_word (reserve_fault_words x ++ rest)) (λ name. reserve_fault_named name.0 name.1) (λ fault. Some (faults.Reserve fault.0, fault.1)) x rest (reserve_fault_named_back x rest fits)

row_fault_again : (x : RowFault) (rest : List (List ℕ)) → FitsRowFault x → row_fault_at (row_fault_words x ++ rest) ≡ Some (x, rest)
unfolding row_fault_at
row_fault_again (faults.Offering fault) rest fits = offering_again fault rest fits
row_fault_again (faults.Request fault) rest fits = asked_again fault rest fits
row_fault_again (faults.Reserve fault) rest fits = reserved_again fault rest fits

refusal_again : (x : Refusal) (rest : List (List ℕ)) → FitsRefusal x → refusal_at (refusal_words x ++ rest) ≡ Some (x, rest)
unfolding refusal_at refusal_named row_refusal_at
refusal_again refusals.NotYours rest fits = refl
refusal_again (refusals.Unknown n) rest fits = word_back exact_u32 n rest _ _ fits refl
refusal_again refusals.EmptyWant rest fits = refl
refusal_again (refusals.TooMany n) rest fits = word_back exact_u32 n rest _ _ fits refl
refusal_again (refusals.NotEnrolled course) rest fits = word_back exact_course course rest _ _ fits refl
refusal_again (refusals.WaitingAlready n) rest fits = word_back exact_u64 n rest _ _ fits refl
refusal_again refusals.NotWaiting rest fits = refl
refusal_again (refusals.LimitBelow n) rest fits = word_back exact_u32 n rest _ _ fits refl
refusal_again (refusals.InUse n) rest fits = word_back exact_u32 n rest _ _ fits refl
refusal_again (refusals.Row fault) rest fits = ap (λ o. o >>= λ f. Some (refusals.Row f.0, f.1)) (row_fault_again fault rest fits)

result_again : (x : LineResult) (rest : List (List ℕ)) → FitsResult x → result_at (result_words x ++ rest) ≡ Some (x, rest)
unfolding result_at result_named blocked_result_at
result_again (results.Met choice) rest fits = word_back exact_choice choice rest _ _ fits refl
result_again (results.Held course) rest fits = word_back exact_course course rest _ _ fits refl
result_again (results.Blocked visits tree) rest fits = ap (λ o. o >>= λ b. Some (results.Blocked b.0.0 b.0.1, b.1)) (blocked_again visits tree rest fits.0 fits.1)
result_again results.Spent rest fits = refl
result_again (results.Waiting n) rest fits = word_back exact_u64 n rest _ _ fits refl
result_again results.Skipped rest fits = refl

-- ---- lines and choices in a row

line_found : (ws : List (List ℕ)) (x : Line) (rest : List (List ℕ)) → line_at ws ≡ Some (x, rest) → FitsLine x × (ws ≡ line_words x ++ rest)
unfolding line_at
line_found ws x rest e = word_step exact_request ws _ _ e (λ asked r1 f1 e1 p.
    bind_found (result_at r1) _ _ p (λ became is p.
    let q = result_at_found r1 became.0 became.1 is in
    end_step _ x became.1 rest p (λ y r. FitsLine y × (ws ≡ line_words y ++ r)) ((f1.0, f1.1, q.0), word_then _ ws r1 _ e1 q.1)))

line_again : (x : Line) (rest : List (List ℕ)) → FitsLine x → Any rest → line_at (line_words x ++ rest) ≡ Some (x, rest)
unfolding line_at
line_again x rest fits stop =
    let asked : Request = record { student = x.student.0; rank = x.rank } in
    word_back exact_request asked (result_words x.result ++ rest) _ _ (fits.0, fits.1) (
    ap (λ o. o >>= λ became. Some (record { student = x.student; rank = x.rank; result = became.0 }, became.1)) (result_again x.result rest fits.2))

takes_line : Takes line_at FitsLine line_words Any
takes_line = record { found = line_found; again = line_again }

takes_lines : Takes (each_at any_starts line_at) (FitsList FitsLine) (flat_map line_words) (StopEach any_starts Any)
takes_lines = takes_each any_starts takes_line (λ x rest fits. refl) (λ x rest fits. tt) (λ x fits. omega arith)

takes_choice : Takes (word_at choice_of) FitsChoice choice_words Any
takes_choice = record { found = λ ws x rest e. word_found exact_choice ws x rest e; again = λ x rest fits stop. ap (with_rest rest) (exact_choice.again x fits) }

takes_choices : Takes (each_at any_starts (word_at choice_of)) (FitsList FitsChoice) (flat_map choice_words) (StopEach any_starts Any)
takes_choices = takes_each any_starts takes_choice (λ x rest fits. refl) (λ x rest fits. tt) (λ x fits. omega arith)

-- ---- replies

swapped_found : (ws : List (List ℕ)) (x : Reply) (rest : List (List ℕ)) → swapped_at ws ≡ Some (x, rest) → FitsReply x × (codes "swapped" ∷ ws ≡ reply_words x ++ rest)
unfolding swapped_at
swapped_found ws x rest e = words_step takes_choices ws _ _ e (λ choices r1 f1 e1 p.
    end_step (replies.Swapped choices) x r1 rest p (λ y r. FitsReply y × (codes "swapped" ∷ ws ≡ reply_words y ++ r)) (f1, ap (λ (vs : List (List ℕ)). codes "swapped" ∷ vs) e1))

placed_found : (ws : List (List ℕ)) (x : Reply) (rest : List (List ℕ)) → placed_at ws ≡ Some (x, rest) → FitsReply x × (codes "placed" ∷ ws ≡ reply_words x ++ rest)
unfolding placed_at
placed_found ws x rest e = word_step exact_u64 ws _ _ e (λ ticket r1 f1 e1 p.
    word_step exact_choice r1 _ _ p (λ choice r2 f2 e2 p.
    end_step (replies.Placed ticket choice) x r2 rest p (λ y r. FitsReply y × (codes "placed" ∷ ws ≡ reply_words y ++ r)) ((f1, f2), ap (λ (vs : List (List ℕ)). codes "placed" ∷ vs) (word_then _ ws r1 _ e1 e2))))

batched_found : (ws : List (List ℕ)) (x : Reply) (rest : List (List ℕ)) → batched_at ws ≡ Some (x, rest) → FitsReply x × (codes "batched" ∷ ws ≡ reply_words x ++ rest)
unfolding batched_at
batched_found ws x rest e = words_step takes_lines ws _ _ e (λ lines r1 f1 e1 p.
    end_step (replies.Batched lines) x r1 rest p (λ y r. FitsReply y × (codes "batched" ∷ ws ≡ reply_words y ++ r)) (f1, ap (λ (vs : List (List ℕ)). codes "batched" ∷ vs) e1))

blocked_reply_found : (ws : List (List ℕ)) (x : Reply) (rest : List (List ℕ)) → blocked_reply_at ws ≡ Some (x, rest) → FitsReply x × (codes "blocked" ∷ ws ≡ reply_words x ++ rest)
unfolding blocked_reply_at
blocked_reply_found ws x rest e = bind_found (blocked_at ws) _ _ e (λ b is p.
    let q = blocked_found ws b.0 b.1 is in
    end_step (replies.Blocked b.0.0 b.0.1) x b.1 rest p (λ y r. FitsReply y × (codes "blocked" ∷ ws ≡ reply_words y ++ r)) (q.0, ap (λ (vs : List (List ℕ)). codes "blocked" ∷ vs) q.1))

refused_found : (ws : List (List ℕ)) (x : Reply) (rest : List (List ℕ)) → refused_at ws ≡ Some (x, rest) → FitsReply x × (codes "refused" ∷ ws ≡ reply_words x ++ rest)
unfolding refused_at
refused_found ws x rest e = bind_found (refusal_at ws) _ _ e (λ refusal is p.
    let q = refusal_at_found ws refusal.0 refusal.1 is in
    end_step (replies.Refused refusal.0) x refusal.1 rest p (λ y r. FitsReply y × (codes "refused" ∷ ws ≡ reply_words y ++ r)) (q.0, ap (λ (vs : List (List ℕ)). codes "refused" ∷ vs) q.1))

reply_named_found : (name : List ℕ) (ws : List (List ℕ)) (x : Reply) (rest : List (List ℕ)) → reply_named name ws ≡ Some (x, rest) → FitsReply x × (name ∷ ws ≡ reply_words x ++ rest)
unfolding reply_named
reply_named_found name ws x rest e =
    name_step name (codes "amended") _ _ _ e (λ is e. end_step replies.Amended x ws rest e (λ y r. FitsReply y × (name ∷ ws ≡ reply_words y ++ r)) (tt, λ i. is i ∷ ws)) (λ e.
    name_step name (codes "enrolled") _ _ _ e (λ is e. made_found exact_choice replies.Enrolled ws x rest e (λ y r. FitsReply y × (name ∷ ws ≡ reply_words y ++ r)) (λ n r fits w. (fits, λ i. is i ∷ w i))) (λ e.
    name_step name (codes "dropped") _ _ _ e (λ is e. made_found exact_course replies.Dropped ws x rest e (λ y r. FitsReply y × (name ∷ ws ≡ reply_words y ++ r)) (λ n r fits w. (fits, λ i. is i ∷ w i))) (λ e.
    name_step name (codes "swapped") _ _ _ e (λ is e. let q = swapped_found ws x rest e in (q.0, ap (λ (word : List ℕ). word ∷ ws) is ∙ q.1)) (λ e.
    name_step name (codes "waiting") _ _ _ e (λ is e. made_found exact_u64 replies.Waiting ws x rest e (λ y r. FitsReply y × (name ∷ ws ≡ reply_words y ++ r)) (λ n r fits w. (fits, λ i. is i ∷ w i))) (λ e.
    name_step name (codes "placed") _ _ _ e (λ is e. let q = placed_found ws x rest e in (q.0, ap (λ (word : List ℕ). word ∷ ws) is ∙ q.1)) (λ e.
    name_step name (codes "batched") _ _ _ e (λ is e. let q = batched_found ws x rest e in (q.0, ap (λ (word : List ℕ). word ∷ ws) is ∙ q.1)) (λ e.
    name_step name (codes "blocked") _ _ _ e (λ is e. let q = blocked_reply_found ws x rest e in (q.0, ap (λ (word : List ℕ). word ∷ ws) is ∙ q.1)) (λ e.
    name_step name (codes "spent") _ _ _ e (λ is e. made_found exact_u32 replies.Spent ws x rest e (λ y r. FitsReply y × (name ∷ ws ≡ reply_words y ++ r)) (λ n r fits w. (fits, λ i. is i ∷ w i))) (λ e.
    name_step name (codes "refused") _ _ _ e (λ is e. let q = refused_found ws x rest e in (q.0, ap (λ (word : List ℕ). word ∷ ws) is ∙ q.1)) (λ e.
    absurd (cc)))))))))))

reply_at_found : (ws : List (List ℕ)) (x : Reply) (rest : List (List ℕ)) → reply_at ws ≡ Some (x, rest) → FitsReply x × (ws ≡ reply_words x ++ rest)
unfolding reply_at
reply_at_found ws x rest e = word_step exact_any ws _ _ e (λ name r1 f1 e1 p. let q = reply_named_found name r1 x rest p in (q.0, e1 ∙ q.1))

-- what may follow a reply: nothing
abbrev pub IsEnd : List (List ℕ) → Type 0
IsEnd rest = any_starts rest ≡ false

reply_again : (x : Reply) (rest : List (List ℕ)) → FitsReply x → IsEnd rest → reply_at (reply_words x ++ rest) ≡ Some (x, rest)
unfolding reply_at reply_named swapped_at placed_at batched_at blocked_reply_at refused_at
reply_again replies.Amended rest fits stop = refl
reply_again (replies.Enrolled choice) rest fits stop = word_back exact_choice choice rest _ _ fits refl
reply_again (replies.Dropped course) rest fits stop = word_back exact_course course rest _ _ fits refl
reply_again (replies.Swapped choices) rest fits stop = words_back takes_choices choices rest _ _ fits (tt, stop) refl
reply_again (replies.Waiting ticket) rest fits stop = word_back exact_u64 ticket rest _ _ fits refl
reply_again (replies.Placed ticket choice) rest fits stop = word_back exact_u64 ticket _ _ _ fits.0 (word_back exact_choice choice rest _ _ fits.1 refl)
reply_again (replies.Batched lines) rest fits stop = words_back takes_lines lines rest _ _ fits (tt, stop) refl
reply_again (replies.Blocked visits tree) rest fits stop = ap (λ o. o >>= λ b. Some (replies.Blocked b.0.0 b.0.1, b.1)) (blocked_again visits tree rest fits.0 fits.1)
reply_again (replies.Spent budget) rest fits stop = word_back exact_u32 budget rest _ _ fits refl
reply_again (replies.Refused refusal) rest fits stop = ap (λ o. o >>= λ r. Some (replies.Refused r.0, r.1)) (refusal_again refusal rest fits)

pub takes_reply : Takes reply_at FitsReply reply_words IsEnd
takes_reply = record { found = reply_at_found; again = reply_again }
