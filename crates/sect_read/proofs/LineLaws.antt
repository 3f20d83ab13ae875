-- Lines and entry rows are read exactly.
use Rattle.std.proofs.Common.{◌≡◌, ℕ, ◌==◌, ◌+◌, ◌/◌, Bool, true, false, List, [], ◌∷◌, ◌++◌, Option, None, Some, refl, ap, sym, ◌∙◌, subst, append_assoc, append-nil, decimal}
use Rattle.std.specs.Prelude.{codes, flat_map, Result, Ok, Err}
use Rattle.std.proofs.lemmas.Option.{cond_some}
use Rattle.std.proofs.lemmas.Bool.{eqb-true, and_right}
use Rattle.sect_base.specs.declared.limit.Caller.{Caller}
use Rattle.sect_base.specs.declared.limit.Caller.TheVariants as callers
use Rattle.sect_base.specs.declared.limit.Id.{Id}
use Rattle.sect_command.specs.declared.command.Command.{Command}
use Rattle.sect_command.specs.declared.command.Command.TheVariants as commands
use Rattle.sect_command.specs.declared.reply.Reply.{Reply}
use Rattle.sect_base.specs.declared.choice.Want.{Want}
use Rattle.sect_once.specs.declared.entry.Entry.{Entry}
use Rattle.sect_once.specs.declared.entry.Request.{Request}
use Rattle.sect_words.specs.Parts.{pieces}
use Rattle.sect_words.specs.Days.{day_text}
use Rattle.sect_words.specs.Words.{caller_text}
use Rattle.sect_text.specs.Commands.{mark_words, command_words, want_words, give_words, take_words, optional_give_words, budget_words, class_words}
use Rattle.sect_text.specs.Replies.{reply_words}
use Rattle.sect_text.specs.Rows.{is_marked, id_words, row_front, row_rest, row_words}
use Rattle.sect_read.specs.declared.line.LineAsk.{LineAsk}
use Rattle.sect_read.specs.declared.verb.Verb.{Verb}
use Rattle.sect_read.specs.declared.fault.WireFault.{WireFault}
use Rattle.sect_read.specs.declared.fault.WireFault.TheVariants as wire
use Rattle.sect_read.specs.Fits.{FitsDay, FitsOptional, FitsId, FitsCommand, FitsRequest, FitsEntry, FitsList, FitsWant}
use Rattle.sect_read.specs.Lines.{May, IsTake, AreEach, IsCommand, IsLine, HasUnknownVerb, day_words}
use Rattle.sect_words.specs.Reading.{◌>>=◌, word_at, key_at, mark_at, with_rest, later_parts, whole, begins}
use Rattle.sect_words.specs.ReadingWords.{day_of}
use Rattle.sect_read.specs.ReadingCommands.{verb_text, verb_of, arguments_at, command_at}
use Rattle.sect_read.specs.ReadingReplies.{reply_at}
use Rattle.sect_read.specs.ReadingLines.{at_of, day_behind, line_day_at, id_at, front_at, asked, asked_by, asked_behind, line_at, line_of, agrees, request_if, request_at, row_at}
use Rattle.sect_read.proofs.Steps.{Takes, Any, Quiet, quiet_end, quiet_equals, word_step, words_step, key_step, bind_found, if_found, end_step, word_then, words_then, word_back, words_back, whole_found, rest_found, mark_found, mark_again}
use Rattle.sect_read.proofs.WordLaws.{exact_u64}
use Rattle.sect_read.proofs.ValueLaws.{exact_day, exact_caller}
use Rattle.sect_read.proofs.CommandLaws.{regroup, arguments_found, command_back, verb_found, verb_again, command_found, command_again}
use Rattle.sect_read.proofs.ReplyLaws.{takes_reply, IsEnd}
use Rattle.sect_words.proofs.Dates.{has_day}
use Rattle.sect_base.specs.DayText.{date_text}
use Rattle.std.specs.Str.{bytes_eq}

-- ---- what stands before a verb

at_found : (ws : List (List ℕ)) (text : List ℕ) → at_of ws ≡ Some text → ws ≡ (64 ∷ text) ∷ later_parts ws
at_found [] text e = absurd (cc)
at_found ([] ∷ ws) text e = absurd (cc)
at_found ((b ∷ bs) ∷ ws) text e = if_found (b == 64) (Some bs) None text e
    (λ t e. let same : bs ≡ text = cc in λ i. (eqb-true b 64 t i ∷ same i) ∷ ws)
    (λ f e. absurd (cc))

line_day_by : (ws : List (List ℕ)) (x : Option ℕ) (rest : List (List ℕ)) (o : Option (List ℕ)) → at_of ws ≡ o → day_behind ws o ≡ Some (x, rest) → FitsOptional FitsDay x × (ws ≡ day_words x ++ rest)
line_day_by ws x rest None is e = end_step None x ws rest e (λ y r. FitsOptional FitsDay y × (ws ≡ day_words y ++ r)) (tt, refl)
line_day_by ws x rest (Some text) is e = bind_found (day_of text) _ _ e (λ day found p.
    let q = exact_day.found text day found in
    end_step (Some day) x (later_parts ws) rest p (λ y r. FitsOptional FitsDay y × (ws ≡ day_words y ++ r)) (q.0, at_found ws text is ∙ ap (λ (t : List ℕ). (64 ∷ t) ∷ later_parts ws) q.1))

line_day_found : (ws : List (List ℕ)) (x : Option ℕ) (rest : List (List ℕ)) → line_day_at ws ≡ Some (x, rest) → FitsOptional FitsDay x × (ws ≡ day_words x ++ rest)
unfolding line_day_at
line_day_found ws x rest e = line_day_by ws x rest (at_of ws) refl e

-- no `@` follows
abbrev StopDay : List (List ℕ) → Type 0
StopDay rest = at_of rest ≡ None

line_day_again : (x : Option ℕ) (rest : List (List ℕ)) → FitsOptional FitsDay x → StopDay rest → line_day_at (day_words x ++ rest) ≡ Some (x, rest)
unfolding line_day_at
line_day_again None rest fits stop = ap (day_behind rest) stop
line_day_again (Some day) rest fits stop = ap (λ o. o >>= λ d. Some (Some d, rest)) (exact_day.again day fits)

takes_line_day : Takes line_day_at (FitsOptional FitsDay) day_words StopDay
takes_line_day = record { found = line_day_found; again = line_day_again }

id_found : (ws : List (List ℕ)) (x : Id) (rest : List (List ℕ)) → id_at ws ≡ Some (x, rest) → FitsId x × (ws ≡ id_words x ++ rest)
unfolding id_at
id_found ws x rest e = word_step exact_caller ws _ _ e (λ caller r1 f1 e1 p.
    word_step exact_u64 r1 _ _ p (λ number r2 f2 e2 p.
    end_step _ x r2 rest p (λ y r. FitsId y × (ws ≡ id_words y ++ r)) ((f1, f2), word_then _ ws r1 _ e1 e2)))

id_again : (x : Id) (rest : List (List ℕ)) → FitsId x → Any rest → id_at (id_words x ++ rest) ≡ Some (x, rest)
unfolding id_at
id_again x rest fits stop = word_back exact_caller x.caller _ _ _ fits.0 (word_back exact_u64 x.number rest _ _ fits.1 refl)

takes_id : Takes id_at FitsId id_words Any
takes_id = record { found = id_found; again = id_again }

pub no_at : (id : Id) (rest : List (List ℕ)) → StopDay (id_words id ++ rest)
no_at id rest = by id.caller
  where
    by : (caller : Caller) → at_of (caller_text caller ∷ decimal id.number ∷ rest) ≡ None
    by (callers.Registrar n) = refl
    by (callers.Student s) = refl

pub front_found : (ws : List (List ℕ)) (x : Option ℕ × Id) (rest : List (List ℕ)) → front_at ws ≡ Some (x, rest) → FitsOptional FitsDay x.0 × FitsId x.1 × (ws ≡ day_words x.0 ++ (id_words x.1 ++ rest))
unfolding front_at
front_found ws x rest e = words_step takes_line_day ws _ _ e (λ day r1 f1 e1 p.
    words_step takes_id r1 _ _ p (λ id r2 f2 e2 p.
    end_step (day, id) x r2 rest p (λ y r. FitsOptional FitsDay y.0 × FitsId y.1 × (ws ≡ day_words y.0 ++ (id_words y.1 ++ r))) (f1, f2, words_then (day_words day) ws r1 _ e1 e2)))

front_again : (day : Option ℕ) (id : Id) (rest : List (List ℕ)) → FitsOptional FitsDay day → FitsId id → front_at (day_words day ++ (id_words id ++ rest)) ≡ Some ((day, id), rest)
unfolding front_at
front_again day id rest fits fits2 = words_back takes_line_day day (id_words id ++ rest) _ _ fits (no_at id rest) (words_back takes_id id rest _ _ fits2 tt refl)

-- ---- lines

-- what a line is seen as
abbrev pub Outcome : List ℕ → Result LineAsk WireFault → Type 0
Outcome line (Ok ask) = IsLine line ask
Outcome line (Err wire.UnknownVerb) = HasUnknownVerb line
Outcome line (Err wire.BadLine) = Unit {0}
Outcome line (Err (wire.BadBody cause)) = ⊥
Outcome line (Err wire.Memory) = Unit {0}

asked_found : (line : List ℕ) (front : Option ℕ × Id) (verb : Verb) (ws : List (List ℕ)) (o : Option Command) → FitsOptional FitsDay front.0 → FitsId front.1
    → pieces 32 line ≡ day_words front.0 ++ (id_words front.1 ++ (verb_text verb ∷ ws)) → whole (arguments_at true verb ws) ≡ o → Outcome line (asked front o)
asked_found line front verb ws None fits fits2 is e = tt
asked_found line front verb ws (Some c) fits fits2 is e =
    let a = arguments_found true verb ws c [] (whole_found (arguments_at true verb ws) c e) in
    (verb_text verb ∷ a.0, fits, fits2, a.1, is ∙ ap (λ (vs : List (List ℕ)). day_words front.0 ++ (id_words front.1 ++ (verb_text verb ∷ vs))) (a.2 ∙ append-nil a.0))

by_verb : (line : List ℕ) (front : Option ℕ × Id) (word : List ℕ) (ws : List (List ℕ)) (o : Option Verb) → FitsOptional FitsDay front.0 → FitsId front.1
    → pieces 32 line ≡ day_words front.0 ++ (id_words front.1 ++ (word ∷ ws)) → verb_of word ≡ o → Outcome line (asked_by front o ws)
by_verb line front word ws None fits fits2 is e =
    (front.0, front.1, word, ws, fits, fits2, (λ known same. absurd (let p : None ≡ Some known = sym e ∙ ap verb_of same ∙ verb_again known in cc)), is)
by_verb line front word ws (Some verb) fits fits2 is e =
    asked_found line front verb ws (whole (arguments_at true verb ws)) fits fits2 (is ∙ ap (λ (w : List ℕ). day_words front.0 ++ (id_words front.1 ++ (w ∷ ws))) (verb_found word verb e)) refl

by_rest : (line : List ℕ) (front : Option ℕ × Id) (ws : List (List ℕ)) → FitsOptional FitsDay front.0 → FitsId front.1 → pieces 32 line ≡ day_words front.0 ++ (id_words front.1 ++ ws) → Outcome line (asked_behind front ws)
by_rest line front [] fits fits2 is = tt
by_rest line front (word ∷ ws) fits fits2 is = by_verb line front word ws (verb_of word) fits fits2 is refl

by_front : (line : List ℕ) (o : Option ((Option ℕ × Id) × List (List ℕ))) → front_at (pieces 32 line) ≡ o → Outcome line (line_at o)
by_front line None e = tt
by_front line (Some (front, ws)) e = let p = front_found (pieces 32 line) front ws e in by_rest line front ws p.0 p.1 p.2

-- what a line is read as, it is
pub line_found : (line : List ℕ) → Outcome line (line_of line)
line_found line = by_front line (front_at (pieces 32 line)) refl

-- a line of a request is read as that request
pub line_again : (line : List ℕ) (ask : LineAsk) → IsLine line ask → line_of line ≡ Ok ask
line_again line ask is =
    let back = command_back true ask.command is.0 is.3 in
    let front = front_again ask.day ask.id is.0 is.1 is.2 in
    let read = back.3 [] quiet_end in
    ap (λ (ws : List (List ℕ)). line_at (front_at ws)) is.4 ∙ ap line_at front ∙ ap (asked_behind (ask.day, ask.id)) back.2
    ∙ ap (λ o. asked_by (ask.day, ask.id) o back.1) (verb_again back.0)
    ∙ ap (λ (ws : List (List ℕ)). asked (ask.day, ask.id) (whole (arguments_at true back.0 ws))) (sym (append-nil back.1))
    ∙ ap (λ o. asked (ask.day, ask.id) (whole o)) read

no_verb : (word : List ℕ) (o : Option Verb) → ((known : Verb) → word ≡ verb_text known → ⊥) → verb_of word ≡ o → o ≡ None
no_verb word None none e = refl
no_verb word (Some verb) none e = absurd (none verb (verb_found word verb e))

-- a line whose verb is unknown is told so
pub unknown_again : (line : List ℕ) → HasUnknownVerb line → line_of line ≡ Err wire.UnknownVerb
unknown_again line is =
    let front = front_again is.0 is.1 (is.2 ∷ is.3) is.4 is.5 in
    ap (λ (ws : List (List ℕ)). line_at (front_at ws)) is.7 ∙ ap line_at front ∙ ap (λ o. asked_by (is.0, is.1) o is.3) (no_verb is.2 (verb_of is.2) is.6 refl)

-- ---- rows

not_shown : (written : Bool) → May false written → written ≡ false
not_shown true may = absurd (let p : false ≡ true = may refl in cc)
not_shown false may = refl

printed_takes : (xs : List Want) (t : List (List ℕ)) → AreEach (IsTake false) xs t → t ≡ flat_map take_words xs
printed_takes [] t e = e
printed_takes (x ∷ xs) t each =
    let first : each.0 ≡ take_words x = each.2.5 ∙ (λ i. codes "take" ∷ want_words (not_shown each.2.0 each.2.2 i) (not_shown each.2.1 each.2.3 i) x) in
    let later = printed_takes xs each.1 each.3 in
    each.4 ∙ (λ i. first i ++ later i)

-- where no default may be written, the words are those that are printed
pub printed_words : (c : Command) (words : List (List ℕ)) → IsCommand false c words → FitsCommand c × (words ≡ command_words c)
printed_words (commands.Offering row) words is = is
printed_words (commands.Student row) words is = is
printed_words (commands.Requests student asked) words is = is
printed_words (commands.Reserve row) words is = is
printed_words (commands.Unreserve id) words is = is
printed_words (commands.Expire id expiry) words is = is
printed_words (commands.Restrict row) words is = is
printed_words (commands.Unrestrict id) words is = is
printed_words (commands.SetLimit cap limit) words is = is
printed_words (commands.Cancel id) words is = is
printed_words (commands.Enrol student want budget) words is =
    (is.6, is.7 ∙ (λ i. codes "enrol" ∷ decimal student.0 ∷ want_words (not_shown is.0 is.3 i) (not_shown is.1 is.4 i) want ++ budget_words (not_shown is.2 is.5 i) budget))
printed_words (commands.Drop student course) words is = is
printed_words (commands.Swap student given taken budget) words is =
    let each = printed_takes taken is.0 is.2 in
    (is.4, is.5 ∙ (λ i. codes "swap" ∷ decimal student.0 ∷ flat_map give_words given ++ (each i ++ budget_words (not_shown is.1 is.3 i) budget)))
printed_words (commands.Wait student want give class) words is =
    (is.6, is.7 ∙ (λ i. codes "wait" ∷ decimal student.0 ∷ want_words (not_shown is.0 is.3 i) (not_shown is.1 is.4 i) want ++ (optional_give_words give ++ class_words (not_shown is.2 is.5 i) class)))
printed_words (commands.Unwait student ticket) words is = is
printed_words (commands.Batch students) words is = is

may_not : (shown : Bool) → May shown false
may_not shown e = absurd (cc)

takes_printed : (shown : Bool) (xs : List Want) → FitsList FitsWant xs → AreEach (IsTake shown) xs (flat_map take_words xs)
takes_printed shown [] fits = refl
takes_printed shown (x ∷ xs) fits = (take_words x, flat_map take_words xs, (false, false, may_not shown, may_not shown, fits.0, refl), takes_printed shown xs fits.1, refl)

-- a command that is printed has no default written
pub words_printed : (shown : Bool) (c : Command) → FitsCommand c → IsCommand shown c (command_words c)
words_printed shown (commands.Offering row) fits = (fits, refl)
words_printed shown (commands.Student row) fits = (fits, refl)
words_printed shown (commands.Requests student asked) fits = (fits, refl)
words_printed shown (commands.Reserve row) fits = (fits, refl)
words_printed shown (commands.Unreserve id) fits = (fits, refl)
words_printed shown (commands.Expire id expiry) fits = (fits, refl)
words_printed shown (commands.Restrict row) fits = (fits, refl)
words_printed shown (commands.Unrestrict id) fits = (fits, refl)
words_printed shown (commands.SetLimit cap limit) fits = (fits, refl)
words_printed shown (commands.Cancel id) fits = (fits, refl)
words_printed shown (commands.Drop student course) fits = (fits, refl)
words_printed shown (commands.Unwait student ticket) fits = (fits, refl)
words_printed shown (commands.Batch students) fits = (fits, refl)
words_printed shown (commands.Enrol student want budget) fits = (false, false, false, may_not shown, may_not shown, may_not shown, fits, refl)
words_printed shown (commands.Swap student given taken budget) fits = (flat_map take_words taken, false, takes_printed shown taken fits.2, may_not shown, fits, refl)
words_printed shown (commands.Wait student want give class) fits = (false, false, false, may_not shown, may_not shown, may_not shown, fits, refl)

agrees_same : (a b : Bool) → agrees a b ≡ true → a ≡ b
agrees_same true true e = refl
agrees_same false false e = refl
agrees_same true false e = absurd (cc)
agrees_same false true e = absurd (cc)

same_agrees : (a : Bool) → agrees a a ≡ true
same_agrees true = refl
same_agrees false = refl

-- the front of a row and what follows it
front_is : (marked : Bool) (day : ℕ) (rest : List (List ℕ)) → mark_words (codes "2") marked ++ (day_text day ∷ rest) ≡ row_front marked day ++ rest
front_is true day rest = refl
front_is false day rest = refl

-- the words of a request in a row
abbrev pub request_words : Request Command → List (List ℕ)
request_words r = row_front (is_marked r.command) r.day ++ (id_words r.id ++ command_words r.command)

request_by : (r x : Request Command) (left rest ws : List (List ℕ)) → r ≡ x → left ≡ rest → FitsRequest r → ws ≡ request_words r ++ left → FitsRequest x × (ws ≡ request_words x ++ rest)
request_by r x left rest ws same ends fits is = (subst FitsRequest same fits, is ∙ (λ i. request_words (same i) ++ ends i))

pub request_found : (ws : List (List ℕ)) (x : Request Command) (rest : List (List ℕ)) → request_at ws ≡ Some (x, rest) → FitsRequest x × (ws ≡ request_words x ++ rest)
unfolding request_at
request_found ws x rest e =
    let mark = mark_at (codes "2") ws in
    word_step exact_day mark.1 _ _ e (λ day r1 f1 e1 p.
    words_step takes_id r1 _ _ p (λ id r2 f2 e2 p.
    bind_found (command_at false r2) _ _ p (λ command is3 p.
    let request : Request Command = record { id = id; day = day; command = command.0 } in
    let taken = rest_found command.1 (request_if (agrees mark.0 (is_marked command.0)) request) x rest p in
    let test = cond_some (agrees mark.0 (is_marked command.0)) request x taken.0 in
    let c = command_found false r2 command.0 command.1 is3 in
    let printed = printed_words command.0 c.0 c.1 in
    let parts = id_words id ++ command_words command.0 in
    let behind : r1 ≡ parts ++ command.1 =
    e2 ∙ ap (λ (vs : List (List ℕ)). id_words id ++ vs) (c.2 ∙ ap (λ (vs : List (List ℕ)). vs ++ command.1) printed.1) ∙ sym (append_assoc (id_words id) (command_words command.0) command.1) in
    let whole : ws ≡ request_words request ++ command.1 =
    mark_found (codes "2") ws ∙ ap (λ (vs : List (List ℕ)). mark_words (codes "2") mark.0 ++ vs) (word_then _ mark.1 r1 _ e1 behind)
    ∙ front_is mark.0 day (parts ++ command.1) ∙ ap (λ b. row_front b day ++ (parts ++ command.1)) (agrees_same mark.0 (is_marked command.0) test.0)
    ∙ sym (append_assoc (row_front (is_marked command.0) day) parts command.1) in
    request_by request x command.1 rest ws test.1 taken.1 (f1, f2, printed.0) whole)))

-- the request of an entry
abbrev asked_in : Entry Command Reply → Request Command
asked_in e = record { id = e.id; day = e.day; command = e.command }

-- a row is the request, `=` and the reply
row_apart : (x : Entry Command Reply) (rest : List (List ℕ)) → row_words x ++ rest ≡ request_words (asked_in x) ++ ((61 ∷ []) ∷ (reply_words x.reply ++ rest))
row_apart x rest =
    let front = row_front (is_marked x.command) x.day in
    let behind = (61 ∷ []) ∷ (reply_words x.reply ++ rest) in
    append_assoc front (row_rest x) rest
    ∙ ap (λ (vs : List (List ℕ)). front ++ vs) (regroup (id_words x.id) (command_words x.command) ((61 ∷ []) ∷ reply_words x.reply) rest ∙ sym (append_assoc (id_words x.id) (command_words x.command) behind))
    ∙ sym (append_assoc front (id_words x.id ++ command_words x.command) behind)

row_found : (ws : List (List ℕ)) (x : Entry Command Reply) (rest : List (List ℕ)) → row_at ws ≡ Some (x, rest) → FitsEntry x × (ws ≡ row_words x ++ rest)
unfolding row_at
row_found ws x rest e =
    bind_found (request_at ws) _ _ e (λ request is p.
    key_step (codes "=") request.1 _ _ p (λ r4 e4 p.
    words_step takes_reply r4 _ _ p (λ reply r5 f5 e5 p.
    let entry : Entry Command Reply = record { id = request.0.id; day = request.0.day; command = request.0.command; reply = reply } in
    let asked = request_found ws request.0 request.1 is in
    let whole : ws ≡ row_words entry ++ r5 =
    asked.1 ∙ ap (λ (vs : List (List ℕ)). request_words request.0 ++ vs) (e4 ∙ ap (λ (vs : List (List ℕ)). (61 ∷ []) ∷ vs) e5) ∙ sym (row_apart entry r5) in
    end_step entry x r5 rest p (λ y r. FitsEntry y × (ws ≡ row_words y ++ r)) ((asked.0.0, asked.0.1, asked.0.2, f5), whole))))

ten_bytes : (year month date : ℕ) → bytes_eq (date_text year month date) (50 ∷ []) ≡ false
ten_bytes year month date = and_right ((48 + year / 100 / 10) == 50) _ refl

-- no day's text is `2`
no_two : (day : ℕ) (rest : List (List ℕ)) → FitsDay day → begins (codes "2") (day_text day ∷ rest) ≡ false
no_two day rest fits = let is = has_day day fits in ap (λ (text : List ℕ). bytes_eq text (50 ∷ [])) is.is_text ∙ ten_bytes is.year is.month is.date

request_again : (x : Request Command) (rest : List (List ℕ)) → FitsRequest x → Quiet rest → request_at (request_words x ++ rest) ≡ Some (x, rest)
unfolding request_at
request_again x rest fits quiet =
    let parts = command_words x.command ++ rest in
    let marked = is_marked x.command in
    let apart : request_words x ++ rest ≡ mark_words (codes "2") marked ++ (day_text x.day ∷ (id_words x.id ++ parts)) =
    append_assoc (row_front marked x.day) (id_words x.id ++ command_words x.command) rest
    ∙ ap (λ (vs : List (List ℕ)). row_front marked x.day ++ vs) (append_assoc (id_words x.id) (command_words x.command) rest)
    ∙ sym (front_is marked x.day (id_words x.id ++ parts)) in
    let mark = mark_again (codes "2") marked (day_text x.day ∷ (id_words x.id ++ parts)) (no_two x.day (id_words x.id ++ parts) fits.0) in
    ap request_at apart
    ∙ ap (λ (m : Bool × List (List ℕ)). word_at day_of m.1 >>= λ day. id_at day.1 >>= λ id. command_at false id.1 >>= λ command.
    with_rest command.1 (request_if (agrees m.0 (is_marked command.0)) (record { id = id.0; day = day.0; command = command.0 }))) mark
    ∙ word_back exact_day x.day _ _ _ fits.0 (
    words_back takes_id x.id parts _ _ fits.1 tt (
    ap (λ o. o >>= λ command. with_rest command.1 (request_if (agrees marked (is_marked command.0)) (record { id = x.id; day = x.day; command = command.0 })))
    (command_again false x.command (command_words x.command) rest (words_printed false x.command fits.2) quiet)
    ∙ ap (λ b. with_rest rest (request_if b x)) (same_agrees marked)))

row_again : (x : Entry Command Reply) (rest : List (List ℕ)) → FitsEntry x → IsEnd rest → row_at (row_words x ++ rest) ≡ Some (x, rest)
unfolding row_at
row_again x rest fits stop =
    let behind = reply_words x.reply ++ rest in
    ap row_at (row_apart x rest)
    ∙ ap (λ o. o >>= λ request. key_at (codes "=") request.1 >>= λ key. reply_at key >>= λ reply.
    Some (record { id = request.0.id; day = request.0.day; command = request.0.command; reply = reply.0 }, reply.1))
    (request_again (asked_in x) ((61 ∷ []) ∷ behind) (fits.0, fits.1, fits.2) (quiet_equals behind))
    ∙ words_back takes_reply x.reply rest _ _ fits.3 stop refl

-- rows are read exactly
pub takes_row : Takes row_at FitsEntry row_words IsEnd
takes_row = record { found = row_found; again = row_again }
