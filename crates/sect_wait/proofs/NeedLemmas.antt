-- An entry that needs no search goes on to need none until a change asks for one, and can't be placed.
use Rattle.std.specs.Prelude.{◌≡◌, Bool, true, false, ◌||◌, ◌&&◌, List, IsTrue, refl}
use Rattle.std.proofs.Common.{sym, ◌∙◌, ap, subst, inl, inr}
use Rattle.sect_model.specs.declared.held.Waiting.{Waiting}
use Rattle.sect_model.specs.declared.change.Change.{Change}
use Rattle.sect_model.specs.World.{World}
use Rattle.sect_model.specs.Fits.{Fits, changed}
use Rattle.sect_model.specs.Kept.{KeptWorld, entry_fits}
use Rattle.sect_model.specs.Settle.{is_placeable}
use Rattle.sect_model.specs.Freer.{may_open}
use Rattle.sect_model.proofs.Members.{neither-left, neither-right}
use Rattle.sect_model.proofs.FreerChanges.{changes-open}
use Rattle.sect_model.proofs.FreerSettle.{no-move-unplaced}
use Rattle.sect_frame.specs.Frame.{touches_entry}
use Rattle.sect_frame.proofs.NeedLemmas.{needless-unplaced as spent-unplaced, needless-stays as spent-stays}
use Rattle.sect_wait.specs.Marked.{Marked, MarksKept, MarksMore, Needless, is_noted, may_need}

pub neither : (a b : Bool) → a ≡ false → b ≡ false → a || b ≡ false
neither true b h i = h
neither false b h i = i

pub second-off : (a b : Bool) → b ≡ false → a && b ≡ false
second-off true b h = h
second-off false b h = refl

pub needless-unplaced : (w : World) (e : Waiting) (noted : Bool) → Needless w noted e → is_placeable w e ≡ false
needless-unplaced w e noted (inl none) = no-move-unplaced w e none
needless-unplaced w e noted (inr h) = spent-unplaced w e true h.1

pub needless-stays : (w : World) (e : Waiting) (noted : Bool) (change : Change) → KeptWorld w → Fits w change → IsTrue (entry_fits w e) → may_need w noted e change ≡ false → Needless w noted e
    → Needless (changed w change) noted e
needless-stays w e noted change k fits entry away (inl none) = inl (changes-open w e change k fits entry (neither-left (may_open w e change) _ away) none)
needless-stays w e noted change k fits entry away (inr h) =
    inr (h.0, spent-stays w e true change k fits entry (sym (ap (λ b. b && touches_entry w e change) h.0) ∙ neither-right (may_open w e change) _ away) h.1)

-- noting more keeps it
pub needless-more : (w : World) (e : Waiting) (a b : Bool) → (a ≡ true → b ≡ true) → Needless w a e → Needless w b e
needless-more w e a b more (inl none) = inl none
needless-more w e a b more (inr h) = inr (more h.0, h.1)

-- and so does marking
pub same-notes : (w : World) (e : Waiting) (m n : Marked) → MarksKept m n → Needless w (is_noted m.spent e) e → Needless w (is_noted n.spent e) e
same-notes w e m n kept h = subst (λ ts. Needless w (is_noted ts e) e) (sym kept.spent) h

-- a change that touches no more than it may open
pub plain-need : (w : World) (e : Waiting) (noted : Bool) (change : Change) → touches_entry w e change ≡ may_open w e change → may_open w e change ≡ false → may_need w noted e change ≡ false
plain-need w e noted change same h = neither (may_open w e change) (noted && touches_entry w e change) h (second-off noted (touches_entry w e change) (same ∙ h))

pub plain-marks : (w : World) (es : List Waiting) (m n : Marked) (change : Change) → ((e : Waiting) → touches_entry w e change ≡ may_open w e change)
    → MarksMore (λ e. may_open w e change) es m n → MarksMore (λ e. may_need w (is_noted m.spent e) e change) es m n
plain-marks w es m n change same marks = record { kept = marks.kept; added = λ e a u. plain-need w e (is_noted m.spent e) change (same e) (marks.added e a u) }

pub both-kept : (m k n : Marked) → MarksKept m k → MarksKept k n → MarksKept m n
both-kept m k n first second = record { marks = λ e u. first.marks e (second.marks e u); spent = second.spent ∙ first.spent }

pub all-kept : (m : Marked) → MarksKept m m
all-kept m = record { marks = λ e u. u; spent = refl }
