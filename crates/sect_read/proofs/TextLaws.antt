-- Replies, rows and lines: each text has at most one value, and each printed value is read again.
use Rattle.std.proofs.Common.{◌≡◌, ℕ, true, false, List, [], Option, Some, refl, ap, sym, ◌∙◌, append-nil}
use Rattle.std.specs.Prelude.{Result, Ok}
use Rattle.sect_command.specs.declared.command.Command.{Command}
use Rattle.sect_command.specs.declared.reply.Reply.{Reply}
use Rattle.sect_once.specs.declared.entry.Entry.{Entry}
use Rattle.sect_words.specs.Parts.{pieces}
use Rattle.sect_text.specs.Commands.{command_words, command_text}
use Rattle.sect_text.specs.Replies.{reply_text}
use Rattle.sect_text.specs.Rows.{row_text}
use Rattle.sect_read.specs.Fits.{FitsCommand, FitsReply, FitsEntry}
use Rattle.sect_words.specs.Reading.{whole}
use Rattle.sect_read.specs.ReadingCommands.{command_at}
use Rattle.sect_read.specs.ReadingReplies.{reply_of}
use Rattle.sect_read.specs.ReadingLines.{row_of}
use Rattle.sect_read.specs.Laws.{IsRow, PrintedIsLine, OneRequest, OneReply, OneCommand, OneRow, OneEntry}
use Rattle.sect_read.specs.declared.line.LineAsk.{LineAsk}
use Rattle.sect_read.specs.declared.fault.WireFault.{WireFault}
use Rattle.sect_read.proofs.Steps.{Exact, quiet_end}
use Rattle.sect_read.proofs.PartLaws.{exact_whole}
use Rattle.sect_read.proofs.CommandLaws.{command_again}
use Rattle.sect_read.proofs.ReplyLaws.{takes_reply}
use Rattle.sect_read.proofs.LineLaws.{takes_row, line_again, words_printed}
use Rattle.sect_read.proofs.CommandSpaces.{command_apart}
use Rattle.sect_read.proofs.Spaces.{reply_apart, row_apart, line_apart}

-- a reply is read exactly
pub exact_reply : Exact reply_of reply_text FitsReply
exact_reply = exact_whole 32 takes_reply refl reply_apart

-- a row is read exactly
pub exact_row : Exact row_of row_text FitsEntry
exact_row = exact_whole 32 takes_row refl row_apart

-- two values with one text are one
one_value : {X : Type 0} {of : List ℕ → Option X} {text : X → List ℕ} {Fits : X → Type 0} → Exact of text Fits → (a b : X) → Fits a → Fits b → text a ≡ text b → a ≡ b
one_value {of = of} exact a b fits fits2 same = let p : Some a ≡ Some b = sym (exact.again a fits) ∙ ap of same ∙ exact.again b fits2 in cc

pub one_reply : OneReply
one_reply a b fits fits2 same = one_value exact_reply a b fits fits2 same

-- the row of an entry is read as that entry
pub row_again : (e : Entry Command Reply) (row : List ℕ) → IsRow e row → row_of row ≡ Some e
row_again e row is = ap row_of is.1 ∙ exact_row.again e is.0

pub one_row : OneRow
one_row e a b is is2 = is.1 ∙ sym is2.1

pub one_entry : OneEntry
one_entry a b row is is2 = one_value exact_row a b is.0 is2.0 (sym is.1 ∙ is2.1)

-- the command of a printed text
printed_again : (c : Command) → FitsCommand c → whole (command_at false (pieces 32 (command_text c))) ≡ Some c
printed_again c fits =
    ap (λ (ws : List (List ℕ)). whole (command_at false ws)) (command_apart c fits ∙ sym (append-nil (command_words c)))
    ∙ ap whole (command_again false c (command_words c) [] (words_printed false c fits) quiet_end)

pub one_command : OneCommand
one_command a b fits fits2 same =
    let p : Some a ≡ Some b = sym (printed_again a fits) ∙ ap (λ (text : List ℕ). whole (command_at false (pieces 32 text))) same ∙ printed_again b fits2 in cc

pub printed_is_line : PrintedIsLine
printed_is_line ask fits fits2 fits3 = (command_words ask.command, fits, fits2, words_printed true ask.command fits3, line_apart ask.day ask.id ask.command fits fits2 fits3)

ok_is : (a b : LineAsk) → ◌≡◌ {A = Result LineAsk WireFault} (Ok a) (Ok b) → a ≡ b
ok_is a b e = cc

pub one_request : OneRequest
one_request line a b is is2 = ok_is a b (sym (line_again line a is) ∙ line_again line b is2)
