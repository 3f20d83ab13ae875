-- The text of an answer is that of its data, and is read again.
use Rattle.std.proofs.Common.{◌≡◌, ◌<◌, ◌≤◌, ◌^◌, ℕ, List, [], Some, refl, ap, sym, ◌∙◌, codes, arith, lit≤, option_map, option_and_then, append-nil}
use Rattle.json.specs.Json as json
use Rattle.json.specs.Token.{Token}
use Rattle.json.specs.Tree.{HasNumbers, json_tokens, depth as tree_depth}
use Rattle.json.proofs.Printed.Trees.{ArePrintable-json_tokens, value-json_tokens}
use Rattle.json.proofs.Printed.Tokens.{tokens-print}
use Rattle.json.proofs.Printed.Decimals.{IsNumber-decimal}
use Rattle.serde_json.proofs.OnLiterals.{serde_json_on_literals}
use Rattle.serde_json.specs.Data.{Data, number, object, string, no_members, put}
use Rattle.serde_json.specs.Read.{read, max_depth, of_json, of_members}
use Rattle.serde_json.specs.Written.{compact_text, outline}
use Rattle.serde_json.proofs.Numbers.{number_of-decimal}
use Rattle.serde_json.proofs.Texts.{print-outline}
use Rattle.sect_command.specs.declared.reply.Reply.{Reply}
use Rattle.sect_once.specs.declared.answer.Answer.{Answer}
use Rattle.sect_once.specs.declared.answer.Answer.TheVariants as answers
use Rattle.sect_text.specs.Replies.{reply_text}
use Rattle.sect_wire.specs.Answers.{FitsPlace, answer_body, answer_data}

pub written : (a : Answer Reply) → answer_body a ≡ compact_text (answer_data a)
unfolding serde_json_on_literals
written (answers.Done place reply) = refl
written (answers.NumberReused place) = refl
written answers.LogFull = refl
written answers.KeeperFault = refl
written answers.Memory = refl

-- data whose outline has numbers and reads as the data is read again of its text
read_text : (d : Data) → HasNumbers (outline d) → of_json (outline d) ≡ Some d → tree_depth (outline d) ≤ max_depth → read (compact_text d) ≡ Some d
read_text d numbers is shallow =
    ap read (sym (print-outline d))
    ∙ ap (λ (ts : List Token). option_and_then of_json (option_and_then (λ p. json.if_last p.0 p.1) (json.value max_depth ts)))
    (tokens-print (json_tokens (outline d)) (ArePrintable-json_tokens (outline d) numbers) ∙ sym (append-nil (json_tokens (outline d))))
    ∙ ap (λ r. option_and_then of_json (option_and_then (λ p. json.if_last p.0 p.1) r)) (value-json_tokens (outline d) max_depth [] shallow)
    ∙ is

wide : (n : ℕ) → n ≤ 4294967295 → n < 2 ^ 64
wide n fits = omega (arith, fits)

read_data : (a : Answer Reply) → FitsPlace a → read (compact_text (answer_data a)) ≡ Some (answer_data a)
read_data (answers.Done place reply) fits = read_text (answer_data (answers.Done place reply)) (IsNumber-decimal place (wide place fits), (tt, tt))
    (ap (λ o. option_map object (option_and_then (λ d. of_members (json.member (codes "reply") (json.string (reply_text reply)) json.no_members) (put (codes "place") d no_members)) (option_map number o)))
    (number_of-decimal place (wide place fits)))
    (lit≤ tt)
read_data (answers.NumberReused place) fits = read_text (answer_data (answers.NumberReused place)) (tt, (IsNumber-decimal place (wide place fits), tt))
    (ap (λ o. option_map object (option_and_then (λ d. of_members json.no_members (put (codes "place") d (put (codes "error") (string (codes "reused")) no_members))) (option_map number o)))
    (number_of-decimal place (wide place fits)))
    (lit≤ tt)
read_data answers.LogFull fits = read_text (answer_data answers.LogFull) (tt, tt) refl (lit≤ tt)
read_data answers.KeeperFault fits = read_text (answer_data answers.KeeperFault) (tt, tt) refl (lit≤ tt)
read_data answers.Memory fits = read_text (answer_data answers.Memory) (tt, tt) refl (lit≤ tt)

pub again : (a : Answer Reply) → FitsPlace a → read (answer_body a) ≡ Some (answer_data a)
again a fits = ap read (written a) ∙ read_data a fits
