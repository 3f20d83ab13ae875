-- Steps of reading the fields of a row.
use Rattle.std.proofs.Common.{◌≡◌, ℕ, Option, Some, Result, Ok, ap, ◌∙◌}
use Rattle.sect_tables.specs.Told.{◌>>=◌, told}

-- the value of a field, and what it leads to
pub told_back : {A B : Type 0} (number : ℕ) (o : Option A) (x : A) (leads : A → Result B ℕ) (y : Result B ℕ) → o ≡ Some x → leads x ≡ y → (told number o >>= leads) ≡ y
told_back number o x leads y is led = ap (λ p. told number p >>= leads) is ∙ led

-- some values, and what they lead to
pub then_back : {A B : Type 0} (r : Result A ℕ) (x : A) (leads : A → Result B ℕ) (y : Result B ℕ) → r ≡ Ok x → leads x ≡ y → (r >>= leads) ≡ y
then_back r x leads y is led = ap (λ p. p >>= leads) is ∙ led
