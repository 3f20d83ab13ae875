-- The lines of the whole log.
use Rattle.std.proofs.Common.{◌≡◌, ℕ, suc, zero, ◌+◌, ◌-◌, ◌≤◌, ◌==◌, Bool, true, false, List, [], ◌∷◌, ◌++◌, length, map, take, refl, sym, ap, ◌∙◌, subst, append_assoc, append-nil, arith, decimal, lit≤}
use Rattle.std.specs.Prelude.{codes, flat_map, slice_index, ◌&&◌, ◌≢◌, if◌then◌else◌, Some}
use Rattle.std.specs.List.{AllByRecursion, AllZip}
use Rattle.std.proofs.lemmas.Bool.{le-leb, ne_eqb}
use Rattle.std.proofs.lemmas.List.Elements.{All-from_recursion}
use Rattle.sect_base.specs.declared.limit.Caller.TheVariants as callers
use Rattle.sect_command.specs.declared.command.Command.{Command}
use Rattle.sect_command.specs.declared.reply.Reply.{Reply}
use Rattle.sect_model.specs.declared.held.Placed.{Placed}
use Rattle.sect_model.specs.World.{State, empty_state}
use Rattle.sect_once.specs.declared.entry.Entry.{Entry}
use Rattle.sect_history.specs.Step.{stepped}
use Rattle.sect_words.specs.Days.{day_text}
use Rattle.sect_words.specs.Parts.{sentence}
use Rattle.sect_text.specs.Commands.{command_words}
use Rattle.sect_text.specs.Replies.{reply_text}
use Rattle.sect_text.specs.Rows.{id_words}
use Rattle.sect_read.specs.Fits.{FitsEntry}
use Rattle.sect_read.specs.Lines.{IsLine, day_words}
use Rattle.sect_read.proofs.Bytes.{all_append, all_weaker}
use Rattle.sect_read.proofs.TextLaws.{printed_is_line}
use Rattle.sect_wire.specs.Laws.{IsRow}
use Rattle.sect_script.specs.Lines.{Line, Ended, IsOneLine, lines_of, text_of, without_return}
use Rattle.sect_script.specs.Progress.{spelled}
use Rattle.sect_script.specs.Reading.{LINE_LIMIT}
use Rattle.sect_script.proofs.LinesOf.{lines_of-spelled}
use Rattle.sect_asking.specs.Asks.{is_passed_over}
use Rattle.sect_clerk.specs.Log.{Logged, comment_text, entry_text, is_told, log_text, logged, logged_at, logged_from, placed_comment, placed_words, reply_comment, told_text}
use Rattle.sect_clerk.specs.Laws.{AskEach, AsksEntry, IsComment, LogAsks, asked_by, whole}
use Rattle.sect_clerk.proofs.Plain.{Plain, Plains, append, caller, choice, day, each, key, number, sentence_plain}
use Rattle.sect_clerk.proofs.PlainCommands.{command_plain}
use Rattle.sect_clerk.proofs.PlainReplies.{reply_plain}

-- ---- the lines of an entry, each before its line feed

abbrev request_line : Entry Command Reply → List ℕ
request_line e = sentence (day_words (Some e.day) ++ (id_words e.id ++ command_words e.command))

abbrev comment_line : List ℕ → List ℕ
comment_line text = take LINE_LIMIT (35 ∷ 32 ∷ text)

abbrev reply_line : Logged → List ℕ
reply_line l = comment_line (decimal l.place ++ 32 ∷ reply_text l.entry.reply)

abbrev placed_line : Placed → List ℕ
placed_line p = comment_line (sentence (placed_words p))

abbrev comment_lines : Logged → List (List ℕ)
comment_lines l = reply_line l ∷ map placed_line l.placed

abbrev entry_lines : Logged → List (List ℕ)
entry_lines l = request_line l.entry ∷ comment_lines l

-- ---- the log is these lines with their line feeds

spelled_append : (lines more : List (List ℕ)) → spelled (lines ++ more) ≡ spelled lines ++ spelled more
spelled_append [] more = refl
spelled_append (a ∷ lines) more = ap (λ (t : List ℕ). a ++ 10 ∷ t) (spelled_append lines more) ∙ sym (append_assoc a (10 ∷ spelled lines) (spelled more))

comment_is : (text : List ℕ) → comment_text text ≡ comment_line text ++ 10 ∷ []
unfolding comment_text
comment_is text = refl

placed_spelled : (ps : List Placed) → flat_map placed_comment ps ≡ spelled (map placed_line ps)
placed_spelled [] = refl
placed_spelled (p ∷ ps) =
    ap (λ (t : List ℕ). t ++ flat_map placed_comment ps) (comment_is (sentence (placed_words p)))
    ∙ append_assoc (placed_line p) (10 ∷ []) (flat_map placed_comment ps)
    ∙ ap (λ (t : List ℕ). placed_line p ++ 10 ∷ t) (placed_spelled ps)

comments_spelled : (l : Logged) → reply_comment l.place l.entry.reply ++ flat_map placed_comment l.placed ≡ spelled (comment_lines l)
comments_spelled l =
    ap (λ (t : List ℕ). t ++ flat_map placed_comment l.placed) (comment_is (decimal l.place ++ 32 ∷ reply_text l.entry.reply))
    ∙ append_assoc (reply_line l) (10 ∷ []) (flat_map placed_comment l.placed)
    ∙ ap (λ (t : List ℕ). reply_line l ++ 10 ∷ t) (placed_spelled l.placed)

entry_spelled : (l : Logged) → entry_text l ≡ spelled (entry_lines l)
entry_spelled l =
    append_assoc (request_line l.entry) (10 ∷ []) (reply_comment l.place l.entry.reply ++ flat_map placed_comment l.placed)
    ∙ ap (λ (t : List ℕ). request_line l.entry ++ 10 ∷ t) (comments_spelled l)

-- the whole log tells each entry
told_all : (l : Logged) → told_text whole l ≡ entry_text l
told_all l = ap (λ (b : Bool). if b && (true && true) then entry_text l else []) (le-leb 0 l.place (omega arith))

log_spelled : (ls : List Logged) → flat_map (told_text whole) ls ≡ spelled (flat_map entry_lines ls)
log_spelled [] = refl
log_spelled (l ∷ ls) =
    ap (λ (t : List ℕ). t ++ flat_map (told_text whole) ls) (told_all l ∙ entry_spelled l)
    ∙ ap (λ (t : List ℕ). spelled (entry_lines l) ++ t) (log_spelled ls)
    ∙ sym (spelled_append (entry_lines l) (flat_map entry_lines ls))

-- ---- no byte of a line is below a space

taken_plain : (n : ℕ) (text : List ℕ) → Plain text → Plain (take n text)
taken_plain zero text plain = tt
taken_plain (suc n) [] plain = tt
taken_plain (suc n) (b ∷ bs) plain = (plain.0, taken_plain n bs plain.1)

comment_plain : (text : List ℕ) → Plain text → Plain (comment_line text)
comment_plain text plain = taken_plain LINE_LIMIT (35 ∷ 32 ∷ text) (lit≤ tt, (lit≤ tt, plain))

request_plain : (e : Entry Command Reply) → Plain (request_line e)
request_plain e =
    sentence_plain (day_words (Some e.day) ++ (id_words e.id ++ command_words e.command))
    ((lit≤ tt, day e.day), (caller e.id.caller, (number e.id.number, command_plain e.command)))

answer_plain : (l : Logged) → Plain (decimal l.place ++ 32 ∷ reply_text l.entry.reply)
answer_plain l = all_append (λ b. 32 ≤ b) (decimal l.place) (32 ∷ reply_text l.entry.reply) (number l.place) (lit≤ tt, reply_plain l.entry.reply)

placement_plain : (p : Placed) → Plain (sentence (placed_words p))
placement_plain p =
    sentence_plain (placed_words p) (key (codes "placed") refl, (number p.ticket, (caller (callers.Student p.student), (choice p.choice, tt))))

placements_plain : (ps : List Placed) → Plains (map placed_line ps)
placements_plain [] = tt
placements_plain (p ∷ ps) = (comment_plain (sentence (placed_words p)) (placement_plain p), placements_plain ps)

lines_plain : (l : Logged) → Plains (entry_lines l)
lines_plain l =
    (request_plain l.entry, (comment_plain (decimal l.place ++ 32 ∷ reply_text l.entry.reply) (answer_plain l), placements_plain l.placed))

no_feed : (b : ℕ) → 32 ≤ b → b ≢ 10
no_feed b high is = absurd (omega (arith, high, is))

one_line : (text : List ℕ) → Plain text → IsOneLine text
one_line text plain = All-from_recursion (λ (b : ℕ). b ≢ 10) text (all_weaker (λ b. 32 ≤ b) (λ b. b ≢ 10) no_feed text plain)

each_one_line : (lines : List (List ℕ)) → Plains lines → AllByRecursion IsOneLine lines
each_one_line [] plain = tt
each_one_line (line ∷ lines) plain = (one_line line plain.0, each_one_line lines plain.1)

-- no byte is a carriage return
no_return : (text : List ℕ) (k : ℕ) → Plain text → (slice_index text k == 13) ≡ false
no_return [] k plain = refl
no_return (b ∷ bs) zero plain = ne_eqb b 13 (λ e. absurd (omega (arith, e, plain.0)))
no_return (b ∷ bs) (suc k) plain = no_return bs k plain.1

said : (text : List ℕ) → Plain text → text_of (Ended text) ≡ text
said text plain = ap (λ (b : Bool). if b then take (length text - 1) text else text) (no_return text (length text - 1) plain)

-- ---- what the lines ask

begins : (n : ℕ) (text : List ℕ) → is_passed_over (take (suc n) (35 ∷ text)) ≡ true
begins n text = refl

comment_passed : (text : List ℕ) → Plain text → IsComment (Ended (comment_line text))
comment_passed text plain = ap is_passed_over (said (comment_line text) (comment_plain text plain)) ∙ begins 65535 (32 ∷ text)

placements_passed : (ps : List Placed) → AllByRecursion IsComment (map Ended (map placed_line ps))
placements_passed [] = tt
placements_passed (p ∷ ps) = (comment_passed (sentence (placed_words p)) (placement_plain p), placements_passed ps)

comments_passed : (l : Logged) → AllByRecursion IsComment (map Ended (comment_lines l))
comments_passed l = (comment_passed (decimal l.place ++ 32 ∷ reply_text l.entry.reply) (answer_plain l), placements_passed l.placed)

asks_entry : (e : Entry Command Reply) → FitsEntry e → AsksEntry e (Ended (request_line e))
asks_entry e fits = record {
  not_passed = ap is_passed_over (said (request_line e) (request_plain e));
  asks = subst (λ (t : List ℕ). IsLine t (asked_by e)) (sym (said (request_line e) (request_plain e)))
      (printed_is_line (asked_by e) fits.0 fits.1 fits.2);
}

map_append : (lines more : List (List ℕ)) → map Ended (lines ++ more) ≡ map Ended lines ++ map Ended more
map_append [] more = refl
map_append (a ∷ lines) more = ap (λ (ls : List Line). Ended a ∷ ls) (map_append lines more)

ask_each : (s : State) (place : ℕ) (es : List (Entry Command Reply)) (texts : List (List ℕ)) → AllZip IsRow es texts
    → AskEach es (map Ended (flat_map entry_lines (logged_from s place es)))
ask_each s place [] texts rows = refl
ask_each s place (e ∷ es) [] rows = absurd rows
ask_each s place (e ∷ es) (t ∷ ts) rows =
    let l : Logged = logged_at s place e in
    let next : State = (stepped s e.day e.id.caller e.command).0 in
    let later : List (List ℕ) = flat_map entry_lines (logged_from next (place + 1) es) in (
      Ended (request_line e),
      map Ended (comment_lines l),
      map Ended later,
      asks_entry e rows.0.0,
      comments_passed l,
      ask_each next (place + 1) es ts rows.1,
      ap (λ (ls : List Line). Ended (request_line e) ∷ ls) (map_append (comment_lines l) later),
    )

-- the lines of the whole log ask its entries one after another
pub log_asks : LogAsks
log_asks es texts rows =
    let lines : List (List ℕ) = flat_map entry_lines (logged es) in
    let same : lines_of (log_text whole es) ≡ map Ended lines =
    ap lines_of (log_spelled (logged es) ∙ sym (append-nil (spelled lines)))
    ∙ lines_of-spelled lines [] (each_one_line lines (each entry_lines lines_plain (logged es)))
    ∙ append-nil (map Ended lines) in
    subst (AskEach es) (sym same) (ask_each empty_state 0 es texts rows)
