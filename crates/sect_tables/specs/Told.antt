-- Values, or the number of the first field that isn't in its form.
use Rattle.std.specs.Prelude.{◌≡◌, ℕ, ⊤, Option, None, Some, Result, Ok, Err}
use Rattle.sect_tables.specs.declared.line.LineFault.{LineFault}
use Rattle.sect_tables.specs.declared.line.LineFault.TheVariants.{Field, Memory}
use Rattle.sect_words.specs.declared.fault.Fault.{Fault}
use Rattle.sect_words.specs.declared.fault.Fault.TheVariants as words

infixl 10 ◌>>=◌
-- what a value leads to; the first fault stays
abbrev pub ◌>>=◌ : {A B : Type 0} → Result A ℕ → (A → Result B ℕ) → Result B ℕ
(Ok x) >>= leads = leads x
(Err number) >>= leads = Err number

-- the value of the field with this number, or its number where it has none
abbrev pub told : {A : Type 0} → ℕ → Option A → Result A ℕ
told number None = Err number
told number (Some x) = Ok x

-- a result tells what a line says; want of memory tells nothing
abbrev pub Tells : {A : Type 0} → Result A LineFault → Result A ℕ → Type 0
Tells (Ok x) line = line ≡ Ok x
Tells (Err (Field number)) line = line ≡ Err number
Tells (Err Memory) line = ⊤

-- the fault of the field with this number, whose word was not read
abbrev pub field_fault : ℕ → Fault → LineFault
field_fault number words.Bad = Field number
field_fault number words.Memory = Memory
