-- What is read in a window is what the disk has there.
use Rattle.std.proofs.Common.{◌≡◌, inl, inr, ℕ, ◌+◌, ◌-◌, ◌≤◌, min, List, [], length, take, drop, Option, Some, None, refl, sym, ◌∙◌, ap, subst, arith}
use Rattle.std.proofs.lemmas.Bool.{cases_lt}
use Rattle.std.proofs.lemmas.List.{take-take, drop-take, drop-drop}
use Rattle.sect_journal.specs.Disk.{Told, Reads}
use Rattle.sect_journal.specs.Windows.{IsWindow, Reaches}

-- without bytes it is one
pub closed_window : (told : Option Told) (place : ℕ) (bytes : List ℕ) → bytes ≡ [] → IsWindow told place bytes
closed_window None place bytes none = tt
closed_window (Some t) place bytes none = subst (λ l. l ≡ take (length l) (drop place t.now.seen)) (sym none) refl

-- bytes that end within a front
within : (xs : List ℕ) (k d n : ℕ) → d + n ≤ k → take n (drop d (take k xs)) ≡ take n (drop d xs)
within xs k d n le = sym (drop-take d n (take k xs)) ∙ ap (λ l. drop d l) (take-take (d + n) k xs le) ∙ drop-take d n xs

same_bytes : (seen bytes : List ℕ) (place at n : ℕ) → bytes ≡ take (length bytes) (drop place seen) → place ≤ at → n ≤ length bytes - (at - place)
    → take n (drop (at - place) bytes) ≡ take n (drop at seen)
same_bytes seen bytes place at n is le inside =
    let d = at - place in
    let k = length bytes in
    elim (cases_lt k (d + n)) [
      | inl past ↦ let none : n ≡ 0 = omega arith in
          ap (λ m. take m (drop d bytes)) none ∙ ap (λ m. take m (drop at seen)) (sym none)
      | inr fits ↦ let there : place + d ≡ at = omega arith in
          ap (λ l. take n (drop d l)) is ∙ within (drop place seen) k d n fits ∙ ap (λ l. take n l) (drop-drop d place seen) ∙ ap (λ m. take n (drop m seen)) there
    ]

-- a read of the window is a read of the disk
pub window_reads : (told : Option Told) (place at room n : ℕ) (bytes into : List ℕ) → IsWindow told place bytes → place ≤ at → Reaches told place bytes at room
    → n ≡ min room (length bytes - (at - place)) → take n into ≡ take n (drop (at - place) bytes) → Reads told at room n into
window_reads None place at room n bytes into is le reaches count same = tt
window_reads (Some t) place at room n bytes into is le reaches count same =
    (count ∙ reaches, same ∙ same_bytes t.now.seen bytes place at n is le (omega (arith, count)))
