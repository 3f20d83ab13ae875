-- The steps of reading a request of a row, one after another.
use Rattle.std.proofs.Common.{◌≡◌, ℕ, Bool, true, false, List, Option, Some, refl, ap, sym, ◌∙◌}
use Rattle.std.specs.Prelude.{codes}
use Rattle.sect_base.specs.declared.limit.Id.{Id}
use Rattle.sect_command.specs.declared.command.Command.{Command}
use Rattle.sect_once.specs.declared.entry.Request.{Request}
use Rattle.sect_text.specs.Rows.{is_marked}
use Rattle.sect_words.specs.Reading.{◌>>=◌, begins, marked_if, mark_at, word_at, with_rest}
use Rattle.sect_words.specs.ReadingWords.{day_of}
use Rattle.sect_read.specs.ReadingCommands.{command_at}
use Rattle.sect_read.specs.ReadingLines.{id_at, agrees, request_if, request_at}

-- a step that gave a value, and the next one
step_back : {A B : Type 0} (o : Option A) (f : A → Option B) (x : A) (y : Option B) → o ≡ Some x → f x ≡ y → (o >>= f) ≡ y
step_back o f x y e next = ap (λ p. p >>= f) e ∙ next

mark_is : (b : Bool) (ws : List (List ℕ)) → (marked_if b ws).0 ≡ b
mark_is true ws = refl
mark_is false ws = refl

-- a request whose parts were read is read
pub request_read : (ws r0 r1 r2 r3 : List (List ℕ)) (marked : Bool) (day : ℕ) (id : Id) (command : Command) (r : Request Command)
    → marked ≡ begins (codes "2") ws → r0 ≡ (marked_if (begins (codes "2") ws) ws).1 → word_at day_of r0 ≡ Some (day, r1) → id_at r1 ≡ Some (id, r2) → command_at false r2 ≡ Some (command, r3)
    → request_if (agrees marked (is_marked command)) (record { id = id; day = day; command = command }) ≡ Some r → request_at ws ≡ Some (r, r3)
unfolding request_at
request_read ws r0 r1 r2 r3 marked day id command r found rest day_is id_is command_is request_is =
    let request : Request Command = record { id = id; day = day; command = command } in
    let mark : (mark_at (codes "2") ws).0 ≡ marked = mark_is (begins (codes "2") ws) ws ∙ sym found in
    step_back (word_at day_of (mark_at (codes "2") ws).1) _ (day, r1) _ (ap (word_at day_of) (sym rest) ∙ day_is)
    (step_back (id_at r1) _ (id, r2) _ id_is
    (step_back (command_at false r2) _ (command, r3) _ command_is
    (ap (λ b. with_rest r3 (request_if (agrees b (is_marked command)) request)) mark ∙ ap (with_rest r3) request_is)))
