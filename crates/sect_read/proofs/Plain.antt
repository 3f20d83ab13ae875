-- A line in which no default is written is the text of its request.
use Rattle.std.proofs.Common.{◌≡◌, ℕ, false, true, List, [], ◌∷◌, ◌++◌, Option, None, Some, refl, ap, sym, ◌∙◌, subst, append-nil}
use Rattle.std.specs.Prelude.{Result, Ok}
use Rattle.sect_base.specs.declared.limit.Id.{Id}
use Rattle.sect_command.specs.declared.command.Command.{Command}
use Rattle.sect_words.specs.Parts.{joined, pieces}
use Rattle.sect_words.specs.Reading.{Reads, first_part, is_nil, later_parts}
use Rattle.sect_words.specs.declared.fault.Fault.{Fault}
use Rattle.sect_words.proofs.Pieces.{joined_pieces}
use Rattle.sect_text.specs.Commands.{command_words}
use Rattle.sect_text.specs.Rows.{asked_part, id_words}
use Rattle.sect_read.specs.declared.line.LineFront.{LineFront}
use Rattle.sect_read.specs.declared.verb.Verb.{Verb}
use Rattle.sect_read.specs.Fits.{FitsDay, FitsId, FitsOptional, FitsCommand}
use Rattle.sect_read.specs.Lines.{IsLine, day_words}
use Rattle.sect_read.specs.ReadingCommands.{arguments_at, verb_text}
use Rattle.sect_read.specs.ReadingLines.{front_at, parts_behind, undated}
use Rattle.sect_read.proofs.CommandLaws.{arguments_found}
use Rattle.sect_read.proofs.LineLaws.{front_found, no_at, printed_words, words_printed}

-- the first part and those behind it are all
pub taken_apart : (ws : List (List ℕ)) (word : List ℕ) (rest : List (List ℕ)) → Some word ≡ first_part ws → rest ≡ later_parts ws → ws ≡ word ∷ rest
taken_apart [] word rest first later = absurd (cc)
taken_apart (w ∷ ws) word rest first later = let same : w ≡ word = cc in λ i. same i ∷ sym later i

-- the parts behind the day
undated_is : (day : Option ℕ) (id : Id) (ws : List (List ℕ)) → undated (day_words day ++ (id_words id ++ ws)) ≡ id_words id ++ ws
undated_is None id ws = ap (parts_behind (id_words id ++ ws)) (no_at id ws)
undated_is (Some day) id ws = refl

-- the words of the line are those that are printed of the request
abbrev pub IsPlain : List ℕ → LineFront → Command → Type 0
IsPlain line front command = FitsOptional FitsDay front.day × FitsId front.id × FitsCommand command × (pieces 32 line ≡ day_words front.day ++ (id_words front.id ++ command_words command))

-- nothing is left
none_left : (ws : List (List ℕ)) → true ≡ is_nil ws → ws ≡ []
none_left [] e = refl
none_left (w ∷ ws) e = absurd (cc)

-- the command that was read, and behind which nothing is left
whole_read : (verb : Verb) (rest left : List (List ℕ)) (command : Command) (read : Result Command Fault) → Reads read left (arguments_at false verb rest) → read ≡ Ok command → true ≡ is_nil left
    → arguments_at false verb rest ≡ Some (command, [])
whole_read verb rest left command read reads is ends =
    subst (λ r. Reads r left (arguments_at false verb rest)) is reads ∙ ap (λ (ws : List (List ℕ)). Some (command, ws)) (none_left left ends)

-- a line is plain of which the front was read, and a command in which no default is written, and nothing is left
pub plain_words : (line : List ℕ) (front : LineFront) (words rest left : List (List ℕ)) (command : Command) (read : Result Command Fault) → words ≡ pieces 32 line
    → front_at words ≡ Some ((front.day, front.id), verb_text front.verb ∷ rest) → Reads read left (arguments_at false front.verb rest) → read ≡ Ok command → true ≡ is_nil left → IsPlain line front command
plain_words line front words rest left command read cut at reads is ends =
    let f = front_found (pieces 32 line) (front.day, front.id) (verb_text front.verb ∷ rest) (ap front_at (sym cut) ∙ at) in
    let a = arguments_found false front.verb rest command [] (whole_read front.verb rest left command read reads is ends) in
    let p = printed_words command (verb_text front.verb ∷ a.0) a.1 in
    (f.0, f.1, p.0, f.2 ∙ ap (λ (ws : List (List ℕ)). day_words front.day ++ (id_words front.id ++ (verb_text front.verb ∷ ws))) (a.2 ∙ append-nil a.0) ∙ ap (λ (ws : List (List ℕ)). day_words front.day ++ (id_words front.id ++ ws)) p.1)

-- a plain line asks the request
pub plain_line : (line : List ℕ) (front : LineFront) (command : Command) → IsPlain line front command → IsLine line (record { day = front.day; id = front.id; command = command })
plain_line line front command plain = (command_words command, plain.0, plain.1, words_printed true command plain.2, plain.3)

-- what stands behind its day is the rest of the request
pub plain_rest : (line text : List ℕ) (front : LineFront) (command : Command) → IsPlain line front command → pieces 32 text ≡ undated (pieces 32 line) → text ≡ asked_part front.id command
plain_rest line text front command plain same = sym (joined_pieces 32 text) ∙ ap (joined 32) (same ∙ ap undated plain.3 ∙ undated_is front.day front.id (command_words command))
