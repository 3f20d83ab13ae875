-- A row of 26 bytes in its parts.
use Rattle.std.proofs.Common.{◌≡◌, ℕ, zero, suc, ◌+◌, List, [], ◌∷◌, ◌++◌, length, take, drop, get_or, refl, sym, ap, ◌∙◌, arith}
use Rattle.std.specs.Int.{to_be_bytes, w32, w64}
use Rattle.std.proofs.Math.Seq.{drop-cons}
use Rattle.std.proofs.lemmas.List.{length-drop, take-append-drop, take_all}
use Rattle.sect_base.specs.declared.limit.Id.{Id}
use Rattle.sect_once.specs.declared.entry.Entry.{Entry}
use Rattle.sect_once.specs.Tallies.{caller_number, caller_tag, tally_request, tally_row}

drop-none : (n : ℕ) → ◌≡◌ {A = List ℕ} (drop n []) []
drop-none zero = refl
drop-none (suc n) = refl

drop-drop : (m k : ℕ) (row : List ℕ) → drop k (drop m row) ≡ drop (m + k) row
drop-drop zero k row = let e : k ≡ 0 + k = omega arith in ap (λ (n : ℕ). drop n row) e
drop-drop (suc m) k [] = drop-none k ∙ sym (drop-none (suc m + k))
drop-drop (suc m) k (x ∷ row) = let e : suc (m + k) ≡ suc m + k = omega arith in drop-drop m k row ∙ ap (λ (n : ℕ). drop n (x ∷ row)) e

cut-at : (m k n : ℕ) (row : List ℕ) → m + k ≡ n → drop m row ≡ take k (drop m row) ++ drop n row
cut-at m k n row e = sym (take-append-drop k (drop m row)) ∙ ap (λ (r : List ℕ). take k (drop m row) ++ r) (drop-drop m k row ∙ ap (λ (i : ℕ). drop i row) e)

-- a row of 26 bytes is its parts, one after another
pub parts_of : (row : List ℕ) → length row ≡ 26
    → row ≡ take 4 (drop 0 row) ++ get_or row 4 0 ∷ (take 4 (drop 5 row) ++ (take 8 (drop 9 row) ++ get_or row 17 0 ∷ take 8 (drop 18 row)))
parts_of row long =
    let a : row ≡ take 4 (drop 0 row) ++ drop 4 row = cut-at 0 4 4 row refl in
    let b : drop 4 row ≡ get_or row 4 0 ∷ drop 5 row = drop-cons row 4 0 (omega (arith, long)) in
    let c : drop 5 row ≡ take 4 (drop 5 row) ++ drop 9 row = cut-at 5 4 9 row refl in
    let d : drop 9 row ≡ take 8 (drop 9 row) ++ drop 17 row = cut-at 9 8 17 row refl in
    let e : drop 17 row ≡ get_or row 17 0 ∷ drop 18 row = drop-cons row 17 0 (omega (arith, long)) in
    let f : drop 18 row ≡ take 8 (drop 18 row) = sym (take_all 8 (drop 18 row) (omega (arith, long, length-drop 18 row))) in
    a ∙ ap (λ (r : List ℕ). take 4 (drop 0 row) ++ r) (b ∙ ap (λ (r : List ℕ). get_or row 4 0 ∷ r) (c ∙ ap (λ (r : List ℕ). take 4 (drop 5 row) ++ r) (d ∙ ap (λ (r : List ℕ). take 8 (drop 9 row) ++ r) (e ∙ ap (λ (r : List ℕ). get_or row 17 0 ∷ r) f))))

-- the row of the entry that its parts give
pub row_read : (row : List ℕ) (e : Entry ℕ ℕ) (day number : ℕ) → length row ≡ 26 → to_be_bytes w32 day ≡ take 4 (drop 0 row) → e.day ≡ day → caller_tag e.id.caller ≡ get_or row 4 0
    → to_be_bytes w32 number ≡ take 4 (drop 5 row) → caller_number e.id.caller ≡ number → to_be_bytes w64 e.id.number ≡ take 8 (drop 9 row) → e.command ≡ get_or row 17 0 → to_be_bytes w64 e.reply ≡ take 8 (drop 18 row)
    → row ≡ tally_row e
row_read row e day number long a day_is b c number_is d command f =
    let day' : to_be_bytes w32 e.day ≡ take 4 (drop 0 row) = ap (to_be_bytes w32) day_is ∙ a in
    let number' : to_be_bytes w32 (caller_number e.id.caller) ≡ take 4 (drop 5 row) = ap (to_be_bytes w32) number_is ∙ c in
    parts_of row long ∙ (λ i. sym day' i ++ sym b i ∷ (sym number' i ++ (sym d i ++ sym command i ∷ sym f i)))

-- the bytes of three numbers, with a letter between and a byte behind
abbrev cells : List ℕ → ℕ → List ℕ → List ℕ → ℕ → List ℕ
cells a tag b n command = get_or a 0 0 ∷ get_or a 1 0 ∷ get_or a 2 0 ∷ get_or a 3 0 ∷ tag ∷ get_or b 0 0 ∷ get_or b 1 0 ∷ get_or b 2 0 ∷ get_or b 3 0
    ∷ get_or n 0 0 ∷ get_or n 1 0 ∷ get_or n 2 0 ∷ get_or n 3 0 ∷ get_or n 4 0 ∷ get_or n 5 0 ∷ get_or n 6 0 ∷ get_or n 7 0 ∷ command ∷ []

pub request_made : (id : Id) (of command day tag caller : ℕ) (a b n : List ℕ) → a ≡ to_be_bytes w32 day → day ≡ of → tag ≡ caller_tag id.caller → b ≡ to_be_bytes w32 caller → caller ≡ caller_number id.caller
    → n ≡ to_be_bytes w64 id.number → cells a tag b n command ≡ tally_request id of command
request_made id of command day tag caller a b n a_is day_is tag_is b_is caller_is n_is =
    let a' : a ≡ to_be_bytes w32 of = a_is ∙ ap (to_be_bytes w32) day_is in
    let b' : b ≡ to_be_bytes w32 (caller_number id.caller) = b_is ∙ ap (to_be_bytes w32) caller_is in
    λ i. cells (a' i) (tag_is i) (b' i) (n_is i) command
