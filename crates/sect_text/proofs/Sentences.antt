-- Words behind spaces, and words with spaces between them.
use Rattle.std.proofs.Common.{◌≡◌, ℕ, Bool, true, false, List, [], ◌∷◌, ◌++◌, refl, ap, ◌∙◌, append-nil, append_assoc, sym, decimal}
use Rattle.std.proofs.lemmas.Grind.{flat_map-append}
use Rattle.sect_base.specs.declared.limit.Id.{Id}
use Rattle.sect_command.specs.declared.command.Command.{Command}
use Rattle.sect_command.specs.declared.command.Command.TheVariants as commands
use Rattle.sect_command.specs.declared.reply.Reply.{Reply}
use Rattle.sect_command.specs.declared.reply.Reply.TheVariants as replies
use Rattle.sect_words.specs.Parts.{behind, sentence}
use Rattle.sect_words.specs.Days.{day_text}
use Rattle.sect_words.specs.Words.{caller_text}
use Rattle.sect_text.specs.Commands.{command_words, command_text}
use Rattle.sect_text.specs.Replies.{reply_words, reply_text}
use Rattle.sect_once.specs.declared.entry.Entry.{Entry}
use Rattle.sect_text.specs.ToldRows.{IsAskedText}
use Rattle.sect_text.specs.Rows.{asked_part, behind_mark, day_part, row_front, id_words, request_part, row_rest, row_text, is_marked}

-- a space and a command are its words behind spaces
pub spaced_command : (c : Command) → 32 ∷ command_text c ≡ behind 32 (command_words c)
spaced_command (commands.Offering row) = refl
spaced_command (commands.Student row) = refl
spaced_command (commands.Requests student asked) = refl
spaced_command (commands.Reserve row) = refl
spaced_command (commands.Unreserve id) = refl
spaced_command (commands.Expire reservation expiry) = refl
spaced_command (commands.Restrict row) = refl
spaced_command (commands.Unrestrict id) = refl
spaced_command (commands.SetLimit cap limit) = refl
spaced_command (commands.Cancel id) = refl
spaced_command (commands.Enrol student want budget) = refl
spaced_command (commands.Drop student course) = refl
spaced_command (commands.Swap student give taken budget) = refl
spaced_command (commands.Wait student want give class) = refl
spaced_command (commands.Unwait student ticket) = refl
spaced_command (commands.Batch students) = refl

-- a space and a reply are its words behind spaces
pub spaced_reply : (r : Reply) → 32 ∷ reply_text r ≡ behind 32 (reply_words r)
spaced_reply replies.Amended = refl
spaced_reply (replies.Enrolled choice) = refl
spaced_reply (replies.Dropped course) = refl
spaced_reply (replies.Swapped choices) = refl
spaced_reply (replies.Waiting ticket) = refl
spaced_reply (replies.Placed ticket choice) = refl
spaced_reply (replies.Batched lines) = refl
spaced_reply (replies.Blocked visits tree) = refl
spaced_reply (replies.Spent budget) = refl
spaced_reply (replies.Refused refusal) = refl

-- the front of a row and its id, and words behind them
pub behind_front : (marked : Bool) (day : ℕ) (id : Id) (words : List (List ℕ))
    → sentence (row_front marked day ++ (id_words id ++ words)) ≡ sentence (row_front marked day ++ id_words id) ++ behind 32 words
behind_front true day id words = simp append_assoc
behind_front false day id words = simp append_assoc

-- the pieces of a row up to its command
pub front_bytes : (marked : Bool) (day : ℕ) (id : Id)
    → behind_mark marked (day_text day ++ (32 ∷ caller_text id.caller ++ (32 ∷ decimal id.number ++ (32 ∷ [])))) ≡ sentence (row_front marked day ++ id_words id) ++ (32 ∷ [])
front_bytes true day id = simp append_assoc
front_bytes false day id = simp append_assoc

-- words behind a day, grouped as the front of a row and the rest
regrouped : (day caller number command end : List ℕ) → (day ++ (32 ∷ [])) ++ ((caller ++ (32 ∷ number ++ (32 ∷ command))) ++ end) ≡ (day ++ (32 ∷ caller ++ (32 ∷ number ++ (32 ∷ [])))) ++ (command ++ end)
regrouped day caller number command end = simp append_assoc

-- the day, and the id, the command and `=` behind it, are the request
asked_by : (marked : Bool) (day : ℕ) (id : Id) (c : Command)
    → behind_mark marked (day_part day) ++ (asked_part id c ++ (32 ∷ 61 ∷ 32 ∷ [])) ≡ (sentence (row_front marked day ++ id_words id) ++ (32 ∷ [])) ++ (command_text c ++ (32 ∷ 61 ∷ 32 ∷ []))
asked_by marked day id c = by marked ∙ ap (λ (bytes : List ℕ). bytes ++ (command_text c ++ (32 ∷ 61 ∷ 32 ∷ []))) (front_bytes marked day id)
  where
    front : List ℕ
    front = day_text day ++ (32 ∷ caller_text id.caller ++ (32 ∷ decimal id.number ++ (32 ∷ [])))

    behind_day : day_part day ++ (asked_part id c ++ (32 ∷ 61 ∷ 32 ∷ [])) ≡ front ++ (command_text c ++ (32 ∷ 61 ∷ 32 ∷ []))
    behind_day =
        ap (λ (bytes : List ℕ). day_part day ++ ((caller_text id.caller ++ (32 ∷ decimal id.number ++ bytes)) ++ (32 ∷ 61 ∷ 32 ∷ []))) (sym (spaced_command c))
        ∙ regrouped (day_text day) (caller_text id.caller) (decimal id.number) (command_text c) (32 ∷ 61 ∷ 32 ∷ [])

    by : (b : Bool) → behind_mark b (day_part day) ++ (asked_part id c ++ (32 ∷ 61 ∷ 32 ∷ [])) ≡ behind_mark b front ++ (command_text c ++ (32 ∷ 61 ∷ 32 ∷ []))
    by true = ap (λ (bytes : List ℕ). 50 ∷ 32 ∷ bytes) behind_day
    by false = behind_day

-- what is appended behind the day of a row makes up the request
pub asked_request : (old dated front rest new : List ℕ) (id : Id) (day : ℕ) (c : Command) → front ≡ old ++ behind_mark (is_marked c) dated → new ≡ (front ++ rest) ++ (32 ∷ 61 ∷ 32 ∷ [])
    → IsAskedText id day c dated rest → new ≡ old ++ request_part id day c
asked_request old dated front rest new id day c begun told is =
    told ∙ ap (λ bytes. (bytes ++ rest) ++ (32 ∷ 61 ∷ 32 ∷ [])) begun
    ∙ (λ i. ((old ++ behind_mark (is_marked c) (is.0 i)) ++ is.1 i) ++ (32 ∷ 61 ∷ 32 ∷ []))
    ∙ append_assoc (old ++ behind_mark (is_marked c) (day_part day)) (asked_part id c) (32 ∷ 61 ∷ 32 ∷ [])
    ∙ append_assoc old (behind_mark (is_marked c) (day_part day)) (asked_part id c ++ (32 ∷ 61 ∷ 32 ∷ []))
    ∙ ap (λ bytes. old ++ bytes) (asked_by (is_marked c) day id c)

-- a command, `=` and a reply, behind a space
spaced_rest : (c : Command) (r : Reply) → behind 32 (command_words c ++ ((61 ∷ []) ∷ reply_words r)) ≡ 32 ∷ command_text c ++ (32 ∷ 61 ∷ 32 ∷ reply_text r)
spaced_rest c r =
    flat_map-append (λ part. 32 ∷ part) (command_words c) ((61 ∷ []) ∷ reply_words r)
    ∙ ap (λ bytes. bytes ++ (32 ∷ 61 ∷ behind 32 (reply_words r))) (sym (spaced_command c))
    ∙ ap (λ bytes. 32 ∷ command_text c ++ (32 ∷ 61 ∷ bytes)) (sym (spaced_reply r))

-- pieces in a row, one behind another
joins : (old front command reply : List ℕ) → ((old ++ (front ++ (32 ∷ []))) ++ command) ++ reply ≡ old ++ (front ++ (32 ∷ command ++ reply))
joins old front command reply = simp append_assoc

-- the front, the command and the reply are the row
pub whole_row : (e : Entry Command Reply) (marked : Bool) (old front mid new : List ℕ) → marked ≡ is_marked e.command
    → front ≡ old ++ (sentence (row_front marked e.day ++ id_words e.id) ++ (32 ∷ [])) → mid ≡ front ++ command_text e.command
    → new ≡ mid ++ (32 ∷ 61 ∷ 32 ∷ reply_text e.reply) → new ≡ old ++ row_text e
whole_row e marked old front mid new mark begun named told =
    let row = behind_front marked e.day e.id (command_words e.command ++ ((61 ∷ []) ∷ reply_words e.reply))
    ∙ ap (λ bytes. sentence (row_front marked e.day ++ id_words e.id) ++ bytes) (spaced_rest e.command e.reply) in
    told ∙ ap (λ bytes. bytes ++ (32 ∷ 61 ∷ 32 ∷ reply_text e.reply)) (named ∙ ap (λ bytes. bytes ++ command_text e.command) begun)
    ∙ joins old (sentence (row_front marked e.day ++ id_words e.id)) (command_text e.command) (32 ∷ 61 ∷ 32 ∷ reply_text e.reply)
    ∙ ap (λ bytes. old ++ bytes) (sym row ∙ ap (λ b. sentence (row_front b e.day ++ row_rest e)) mark)

-- the text of a request in a row, and the reply behind it, are the row
pub parts_row : (e : Entry Command Reply) → request_part e.id e.day e.command ++ reply_text e.reply ≡ row_text e
parts_row e =
    let front = sentence (row_front (is_marked e.command) e.day ++ id_words e.id) ++ (32 ∷ []) in
    append_assoc front (command_text e.command ++ (32 ∷ 61 ∷ 32 ∷ [])) (reply_text e.reply)
    ∙ ap (λ bytes. front ++ bytes) (append_assoc (command_text e.command) (32 ∷ 61 ∷ 32 ∷ []) (reply_text e.reply))
    ∙ sym (append_assoc front (command_text e.command) (32 ∷ 61 ∷ 32 ∷ reply_text e.reply))
    ∙ whole_row e (is_marked e.command) [] front (front ++ command_text e.command) ((front ++ command_text e.command) ++ (32 ∷ 61 ∷ 32 ∷ reply_text e.reply)) refl refl refl refl

-- what stands in a request's pieces is the rest of its words
pub ask_rest : (digits more : List ℕ) (wait substitute : List (List ℕ))
    → digits ++ (more ++ (behind 32 wait ++ (behind 32 substitute ++ []))) ≡ (digits ++ more) ++ behind 32 (wait ++ substitute)
ask_rest digits more wait substitute =
    ap (λ (end : List ℕ). digits ++ (more ++ (behind 32 wait ++ end))) (append-nil (behind 32 substitute))
    ∙ ap (λ (end : List ℕ). digits ++ (more ++ end)) (sym (flat_map-append (λ part. 32 ∷ part) wait substitute))
    ∙ sym (append_assoc digits more (behind 32 (wait ++ substitute)))

-- the pieces of a list of numbers, and what stands behind it
pub list_rest : (first more end : List ℕ) → first ++ (more ++ (end ++ [])) ≡ (first ++ more) ++ end
list_rest first more end = ap (λ (bytes : List ℕ). first ++ (more ++ bytes)) (append-nil end) ∙ sym (append_assoc first more end)
