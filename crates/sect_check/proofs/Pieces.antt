-- A text that is appended piece after piece.
use Rattle.std.proofs.Common.{◌≡◌, ℕ, List, ◌++◌, append_assoc, ap, ◌∙◌}

-- a piece behind which the others were appended
pub onto : (x a b : List ℕ) {y z : List ℕ} → y ≡ x ++ a → z ≡ y ++ b → z ≡ x ++ (a ++ b)
onto x a b first rest = rest ∙ ap (λ l. l ++ b) first ∙ append_assoc x a b
