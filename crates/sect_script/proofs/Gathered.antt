-- A line that is gathered from the bytes that stood ready and those that the source gave.
use Rattle.std.proofs.Common.{◌≡◌, ℕ, ◌<◌, ◌≤◌, List, [], ◌∷◌, ◌++◌, length, sym, ap, ◌∙◌, append_assoc, append-nil, subst}
use Rattle.std.specs.Prelude.{Bool, true, false, Option, Ok, Err}
use Rattle.std.specs.Io.KnownBytes.{Consumes, Keeps}
use Rattle.std.proofs.KnownBytes.{Consumes-nil, Consumes-trans, Consumes-kept}
use Rattle.std.proofs.lemmas.List.Elements.{All-append, All-nil}
use Rattle.sect_script.specs.declared.reader.LineEnd.TheVariants.{LineFeed, EndOfInput}
use Rattle.sect_script.specs.declared.reader.LineError.TheVariants as errors
use Rattle.sect_script.specs.Lines.{IsOneLine, without_return}
use Rattle.sect_script.specs.Reading.{Moves, ReadsLine, LINE_LIMIT}

-- `old` stood ready, the line was gathered, and `pending` is left
pub record Gathered (before now : Option (List ℕ)) (old pending line : List ℕ) : Type 0 where
  pub taken : List ℕ
  pub consumed : Consumes before now taken
  pub split : old ++ taken ≡ line ++ pending
  pub one : IsOneLine line

abbrev One : ℕ → Type 0
One byte = byte ≡ 10 → ⊥

pub gathered_none : (left : Option (List ℕ)) (old : List ℕ) → Gathered left left old old []
gathered_none left old = record { taken = []; consumed = Consumes-nil left; split = append-nil old; one = All-nil One }

-- a line feed was found
pub gathered_feed : (before now : Option (List ℕ)) (old pending line new longer : List ℕ) → Gathered before now old pending line
    → Moves true pending new line longer → Gathered before now old (10 ∷ new) longer
gathered_feed before now old pending line new longer g (moved, one, split, is) = record {
  taken = g.taken;
  consumed = g.consumed;
  split = g.split ∙ ap (λ l. line ++ l) split ∙ sym (append_assoc line moved (10 ∷ new)) ∙ ap (λ l. l ++ 10 ∷ new) (sym is);
  one = subst IsOneLine (sym is) (All-append One line moved g.one one);
}

-- none was found
pub gathered_all : (before now : Option (List ℕ)) (old pending line new longer : List ℕ) → Gathered before now old pending line
    → Moves false pending new line longer → Gathered before now old new longer
gathered_all before now old pending line new longer g (one, none, is) = record {
  taken = g.taken;
  consumed = g.consumed;
  split = g.split ∙ sym is ∙ sym (append-nil longer) ∙ ap (λ l. longer ++ l) (sym none);
  one = subst IsOneLine (sym is) (All-append One line pending g.one one);
}

-- the source gave more
pub gathered_more : (before now later : Option (List ℕ)) (old pending line new : List ℕ) → Gathered before now old pending line → pending ≡ []
    → Consumes now later new → Gathered before later old new line
gathered_more before now later old pending line new g none more = record {
  taken = g.taken ++ new;
  consumed = Consumes-trans before now later g.taken new g.consumed more;
  split = sym (append_assoc old g.taken new) ∙ ap (λ l. l ++ new) (g.split ∙ ap (λ l. line ++ l) none ∙ append-nil line);
  one = g.one;
}

-- what is known when the call ends
abbrev pub Reads : Option (List ℕ) → Option (List ℕ) → List ℕ → (List ℕ → Type 0) → Type 0
Reads before now old P = (taken : List ℕ) × Consumes before now taken × P (old ++ taken)

pub reads_feed : (before now : Option (List ℕ)) (old new line text : List ℕ) → Gathered before now old (10 ∷ new) line → length line ≤ LINE_LIMIT
    → text ≡ without_return line → Reads before now old (λ bytes. ReadsLine (Ok LineFeed) bytes new text)
reads_feed before now old new line text g short is = (g.taken, g.consumed, (line, g.one, short, g.split, is))

pub reads_end : (before now : Option (List ℕ)) (old pending line : List ℕ) → Gathered before now old pending line → pending ≡ [] → length line ≤ LINE_LIMIT
    → Reads before now old (λ bytes. ReadsLine (Ok EndOfInput) bytes pending line)
reads_end before now old pending line g none short = (g.taken, g.consumed, (g.one, short, g.split ∙ ap (λ l. line ++ l) none ∙ append-nil line, none))

pub reads_too_long : (before now : Option (List ℕ)) (old pending line new longer left text : List ℕ) (found : Bool) → Gathered before now old pending line
    → Moves found pending new line longer → LINE_LIMIT < length longer → Reads before now old (λ bytes. ReadsLine (Err errors.TooLong) bytes left text)
reads_too_long before now old pending line new longer left text true g moves long =
    let h = gathered_feed before now old pending line new longer g moves in (h.taken, h.consumed, (longer, 10 ∷ new, h.one, long, h.split))
reads_too_long before now old pending line new longer left text false g moves long =
    let h = gathered_all before now old pending line new longer g moves in (h.taken, h.consumed, (longer, new, h.one, long, h.split))

pub reads_failed : (before now later : Option (List ℕ)) (old pending line left text : List ℕ) → Gathered before now old pending line → pending ≡ []
    → Keeps now later → Reads before later old (λ bytes. ReadsLine (Err errors.Failed) bytes left text)
reads_failed before now later old pending line left text g none kept = (
  g.taken,
  Consumes-kept before now later g.taken g.consumed kept,
  subst IsOneLine (sym (g.split ∙ ap (λ l. line ++ l) none ∙ append-nil line)) g.one,
)

pub reads_unwritten : (before now : Option (List ℕ)) (old pending line left text : List ℕ) → Gathered before now old pending line
    → Reads before now old (λ bytes. ReadsLine (Err errors.Unwritten) bytes left text)
reads_unwritten before now old pending line left text g = (g.taken, g.consumed, tt)

pub reads_out_of_memory : (before now : Option (List ℕ)) (old pending line left text : List ℕ) → Gathered before now old pending line
    → Reads before now old (λ bytes. ReadsLine (Err errors.Memory) bytes left text)
reads_out_of_memory before now old pending line left text g = (g.taken, g.consumed, tt)
