-- Bytes that are taken from a source, a piece at a time.
use Rattle.std.proofs.Common.{◌≡◌, List, ℕ, [], ◌++◌, length, sym, ap, ◌∙◌, arith, append_assoc, append-nil, length-append}
use Rattle.std.proofs.lemmas.List.{nil_from_length}
use Rattle.std.specs.Prelude.{Option}
use Rattle.std.specs.Io.KnownBytes.{Keeps}
use Rattle.std.proofs.KnownBytes.{Consumes-nil, Consumes-trans, Consumes-kept}
use Rattle.sect_talk.specs.Coming.{Takes}

pub takes_none : (left : Option (List ℕ)) (old : List ℕ) → Takes left left old old
takes_none left old = ([], Consumes-nil left, sym (append-nil old))

pub takes_more : (left now later : Option (List ℕ)) (old mid new : List ℕ) → Takes left now old mid → Takes now later mid new → Takes left later old new
takes_more left now later old mid new (first, took, is) (next, takes, then) =
    (first ++ next, Consumes-trans left now later first next took takes, then ∙ ap (λ l. l ++ next) is ∙ append_assoc old first next)

pub takes_kept : (left now later : Option (List ℕ)) (old mid new : List ℕ) → Takes left now old mid → Keeps now later → new ≡ mid → Takes left later old new
takes_kept left now later old mid new (first, took, is) kept same = (first, Consumes-kept left now later first took kept, same ∙ is)

-- no more bytes are there, so none were taken
pub takes_nothing : (left now : Option (List ℕ)) (old new : List ℕ) → Takes left now old new → length new ≡ length old → new ≡ old
takes_nothing left now old new (taken, took, is) same =
    let none = nil_from_length taken (omega (arith, ap length is, length-append old taken)) in
    is ∙ ap (λ l. old ++ l) none ∙ append-nil old
