-- What a reader that is exact says of a text.
use Rattle.std.proofs.Common.{◌≡◌, ℕ, true, List, [], Option, None, Some, refl, ap, sym, ◌∙◌, subst, append-nil}
use Rattle.std.specs.Prelude.{Result, Ok, Err, IfOk, IfSome}
use Rattle.sect_base.specs.declared.duplicate.Memory.{Memory}
use Rattle.sect_read.specs.declared.line.LineAsk.{LineAsk}
use Rattle.sect_read.specs.declared.fault.WireFault.{WireFault}
use Rattle.sect_read.specs.declared.fault.WireFault.TheVariants as wire
use Rattle.sect_command.specs.declared.command.Command.{Command}
use Rattle.sect_read.specs.Lines.{IsCommand, IsLine, HasUnknownVerb}
use Rattle.sect_words.specs.Parts.{pieces}
use Rattle.sect_words.specs.Reading.{Finds, whole}
use Rattle.sect_read.specs.ReadingCommands.{command_at}
use Rattle.sect_read.specs.ReadingLines.{command_in, commanded, line_of, Says}
use Rattle.sect_read.proofs.Steps.{Exact, quiet_end, whole_found}
use Rattle.sect_read.proofs.CommandLaws.{command_again, command_found}
use Rattle.sect_read.proofs.LineLaws.{Outcome, line_found, line_again, unknown_again}

module _ {X : Type 0} {of : List ℕ → Option X} {text : X → List ℕ} {Fits : X → Type 0} (exact : Exact of text Fits) where
  -- what is found has the text
  pub finds_found : (word : List ℕ) (r : Result (Option X) Memory) → Finds r (of word) → IfOk r (λ found. IfSome found (λ x. Fits x × (word ≡ text x)))
  finds_found word (Ok None) e = tt
  finds_found word (Ok (Some x)) e = exact.found word x e
  finds_found word (Err m) e = tt

  -- the value that has the text is found
  pub finds_only : (word : List ℕ) (r : Result (Option X) Memory) → Finds r (of word) → (x : X) → Fits x → word ≡ text x → IfOk r (λ found. found ≡ Some x)
  finds_only word (Ok found) e x fits is = sym e ∙ ap of is ∙ exact.again x fits
  finds_only word (Err m) e x fits is = tt

pub says_found : (line : List ℕ) (r : Result LineAsk WireFault) → Says r (line_of line) → IfOk r (λ ask. IsLine line ask)
says_found line (Ok ask) e = subst (Outcome line) e (line_found line)
says_found line (Err f) e = tt

says_same : (r read other : Result LineAsk WireFault) → Says r read → read ≡ other → Says r other
says_same r read other e same = subst (Says r) same e

pub says_only : (line : List ℕ) (r : Result LineAsk WireFault) → Says r (line_of line) → (ask : LineAsk) → IsLine line ask → Says r (Ok ask)
says_only line r e ask is = says_same r (line_of line) (Ok ask) e (line_again line ask is)

pub says_unknown : (line : List ℕ) (r : Result LineAsk WireFault) → Says r (line_of line) → HasUnknownVerb line → Says r (Err wire.UnknownVerb)
says_unknown line r e is = says_same r (line_of line) (Err wire.UnknownVerb) e (unknown_again line is)

pub says_told : (line : List ℕ) (r : Result LineAsk WireFault) → Says r (line_of line) → r ≡ Err wire.UnknownVerb → HasUnknownVerb line
says_told line r e told = subst (Outcome line) (subst (λ s. Says s (line_of line)) told e) (line_found line)

commanded_found : (text : List ℕ) (o : Option Command) → whole (command_at true (pieces 32 text)) ≡ o → IfOk (commanded o) (λ c. IsCommand true c (pieces 32 text))
commanded_found text None e = tt
commanded_found text (Some c) e =
    let f = command_found true (pieces 32 text) c [] (whole_found (command_at true (pieces 32 text)) c e) in
    subst (λ (ws : List (List ℕ)). IsCommand true c ws) (sym (f.2 ∙ append-nil f.0)) f.1

-- the command that was read is that of the text
pub command_said : (text : List ℕ) (r : Result Command WireFault) → Says r (command_in text) → IfOk r (λ c. IsCommand true c (pieces 32 text))
command_said text (Ok c) e = subst (λ s. IfOk s (λ d. IsCommand true d (pieces 32 text))) e (commanded_found text (whole (command_at true (pieces 32 text))) refl)
command_said text (Err f) e = tt

-- the command of the text is read
pub command_only : (text : List ℕ) (r : Result Command WireFault) → Says r (command_in text) → (c : Command) → IsCommand true c (pieces 32 text) → Says r (Ok c)
command_only text r e c is =
    subst (Says r)
    (ap (λ (ws : List (List ℕ)). commanded (whole (command_at true ws))) (sym (append-nil (pieces 32 text)))
    ∙ ap (λ o. commanded (whole o)) (command_again true c (pieces 32 text) [] is quiet_end))
    e
