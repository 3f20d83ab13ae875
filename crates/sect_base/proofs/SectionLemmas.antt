-- A section put into the next of six cells.
use Rattle.std.proofs.Common.{◌≡◌, ℕ, suc, ◌+◌, ◌-◌, ◌<◌, List, [], ◌∷◌, ◌++◌, length, take, replicate, sym, ap, ◌∙◌, arith, length-append, append_assoc}
use Rattle.std.proofs.Math.ListN.{set}
use Rattle.std.proofs.Math.Seq.{set-append_seam}
use Rattle.std.proofs.lemmas.List.{take_more_set, length-replicate}
use Rattle.sect_base.specs.declared.ids.SectionId.{SectionId}
use Rattle.sect_base.specs.Padded.{padded, no_section, IsPadded}

pad-push : (xs : List SectionId) (s : SectionId) (m n k : ℕ) → m ≡ suc k → n ≡ k
    → set (xs ++ replicate m no_section) (length xs) s ≡ (xs ++ s ∷ []) ++ replicate n no_section
pad-push xs s m n k e f = rw (e, f) (set-append_seam xs no_section (replicate k no_section) s ∙ sym (append_assoc xs (s ∷ []) (replicate k no_section)))

padded-push : (xs : List SectionId) (s : SectionId) → length xs < 6 → set (padded xs) (length xs) s ≡ padded (xs ++ s ∷ [])
padded-push xs s h =
    pad-push xs s (6 - length xs) (6 - length (xs ++ s ∷ [])) (5 - length xs) (omega arith) (omega (arith, length-append xs (s ∷ [])))

length-padded : (xs : List SectionId) → length xs < 7 → length (padded xs) ≡ 6
length-padded xs h =
    omega (arith, length-append xs (replicate (6 - length xs) no_section), length-replicate (6 - length xs) no_section)

pub is_padded-push : (cells : List SectionId) (len : ℕ) (s : SectionId) → IsPadded cells len → len < 6 → IsPadded (set cells len s) (len + 1)
is_padded-push cells len s i h =
    let xs : List SectionId = take len cells in
    let l : length xs ≡ len = i.first in
    let six : length cells ≡ 6 = ap length (sym i.rest) ∙ length-padded xs (omega arith) in
    let more : take (len + 1) (set cells len s) ≡ xs ++ s ∷ [] = take_more_set cells len s (omega arith) in
    record {
      few = omega arith;
      first = ap length more ∙ omega (arith, length-append xs (s ∷ []));
      rest = ap padded more ∙ sym (padded-push xs s (omega arith)) ∙ (λ j. set (i.rest j) (l j) s);
    }
