-- Texts one behind another: how many there are, where each stands, and what one text more changes.
use Rattle.std.proofs.Common.{◌≡◌, ℕ, zero, suc, ◌+◌, ◌-◌, ◌≤◌, List, [], ◌∷◌, ◌++◌, length, take, drop, sum_by, slice_get, Some, refl, sym, ap, ◌∙◌, subst, arith, length-append}
use Rattle.std.proofs.Math.Seq.{drop-nil}
use Rattle.std.proofs.lemmas.List.{drop-append-le, length-drop, take-append-le, take_all}
use Rattle.std.proofs.lemmas.List.Sums.{sum_by-append}
use Rattle.sect_once.specs.Cuts.{AreEnds, cut}

-- nothing stands behind the last place, and all ends are at or before it
ends-le : (at last : ℕ) (ends : List ℕ) → AreEnds at last ends → at ≤ last
ends-le at last [] h = omega (arith, h)
ends-le at last (end ∷ ends) h = omega (arith, h.0, ends-le end last ends h.1)

ends-append : (at last more : ℕ) (ends : List ℕ) → AreEnds at last ends → last ≤ more → AreEnds at more (ends ++ more ∷ [])
ends-append at last more [] h le = (omega (arith, h, le), refl)
ends-append at last more (end ∷ ends) h le = (h.0, ends-append end last more ends h.1 le)

pub cut-length : (at : ℕ) (bytes ends : List ℕ) → length (cut at bytes ends) ≡ length ends
cut-length at bytes [] = refl
cut-length at bytes (end ∷ ends) = ap suc (cut-length end (drop (end - at) bytes) ends)

length-take-le : (n : ℕ) (xs : List ℕ) → n ≤ length xs → length (take n xs) ≡ n
length-take-le zero xs le = refl
length-take-le (suc n) [] le = absurd (omega (arith, le))
length-take-le (suc n) (x ∷ xs) le = ap suc (length-take-le n xs (omega (arith, le)))

-- what stands behind the first text has the bytes behind it
less : (at last end : ℕ) (bytes : List ℕ) → last ≡ at + length bytes → at ≤ end → end ≤ last → last ≡ end + length (drop (end - at) bytes)
less at last end bytes all up le = let l = length-drop (end - at) bytes in omega (arith, l, all, up, le)

pub cut-size : (at last : ℕ) (bytes ends : List ℕ) → last ≡ at + length bytes → AreEnds at last ends → sum_by length (cut at bytes ends) ≡ length bytes
cut-size at last bytes [] all h = omega (arith, all, h)
cut-size at last bytes (end ∷ ends) all h =
    let le = ends-le end last ends h.1 in
    let first = length-take-le (end - at) bytes (omega (arith, all, le, h.0)) in
    let rest = cut-size end last (drop (end - at) bytes) ends (less at last end bytes all h.0 le) h.1 in
    let l = length-drop (end - at) bytes in
    let both = sum_by-append (λ (r : List ℕ). length r) (take (end - at) bytes ∷ []) (cut end (drop (end - at) bytes) ends) in
    omega (arith, both, first, rest, l, all, le, h.0)

-- one text more
cut-append : (at last more : ℕ) (bytes ends text : List ℕ) → last ≡ at + length bytes → AreEnds at last ends → more ≡ last + length text
    → cut at (bytes ++ text) (ends ++ more ∷ []) ≡ cut at bytes ends ++ text ∷ []
cut-append at last more [] [] text all h long =
    let n : more - at ≡ length text = omega (arith, all, long) in
    ap (λ (xs : List ℕ). xs ∷ []) (ap (λ (k : ℕ). take k text) n ∙ take_all (length text) text (omega arith))
cut-append at last more (b ∷ bytes) [] text all h long = absurd (omega (arith, all, h))
cut-append at last more bytes (end ∷ ends) text all h long =
    let le = ends-le end last ends h.1 in
    let short : end - at ≤ length bytes = omega (arith, all, le, h.0) in
    let first : take (end - at) (bytes ++ text) ≡ take (end - at) bytes = take-append-le (end - at) bytes text short in
    let rest : drop (end - at) (bytes ++ text) ≡ drop (end - at) bytes ++ text = drop-append-le (end - at) bytes text short in
    let more_of = cut-append end last more (drop (end - at) bytes) ends text (less at last end bytes all h.0 le) h.1 long in
    λ i. first i ∷ (ap (λ (xs : List ℕ). cut end xs (ends ++ more ∷ [])) rest ∙ more_of) i

drop-drop : (m k : ℕ) (xs : List ℕ) → drop k (drop m xs) ≡ drop (m + k) xs
drop-drop zero k xs = let e : k ≡ 0 + k = omega arith in ap (λ (n : ℕ). drop n xs) e
drop-drop (suc m) k [] = drop-nil k ∙ sym (drop-nil (suc m + k))
drop-drop (suc m) k (x ∷ xs) = let e : suc (m + k) ≡ suc m + k = omega arith in drop-drop m k xs ∙ ap (λ (n : ℕ). drop n (x ∷ xs)) e

-- where a text stands
record StandsAt (at last : ℕ) (bytes ends : List ℕ) (place start end : ℕ) : Type 0 where
  pub from : at ≤ start
  pub rises : start ≤ end
  pub within : end ≤ last
  pub text : slice_get (cut at bytes ends) place ≡ Some (take (end - start) (drop (start - at) bytes))

stands_at : (at last : ℕ) (bytes ends : List ℕ) (place start end : ℕ) → AreEnds at last ends → slice_get (at ∷ ends) place ≡ Some start → slice_get ends place ≡ Some end
    → StandsAt at last bytes ends place start end
stands_at at last bytes [] place start end h from to = absurd cc
stands_at at last bytes (e ∷ ends) zero start end h from to =
    let a : at ≡ start = cc in
    let b : e ≡ end = cc in
    let le = ends-le e last ends h.1 in
    record {
      from = omega (arith, a);
      rises = omega (arith, a, b, h.0);
      within = omega (arith, b, le);
      text = let none : 0 ≡ start - at = omega (arith, a) in λ i. Some (take (b i - a i) (drop (none i) bytes));
    }
stands_at at last bytes (e ∷ ends) (suc place) start end h from to =
    let s = stands_at e last (drop (e - at) bytes) ends place start end h.1 from to in
    record {
      from = omega (arith, h.0, s.from);
      rises = s.rises;
      within = s.within;
      text = s.text ∙ ap (λ (xs : List ℕ). Some (take (end - start) xs)) (drop-drop (e - at) (start - e) bytes ∙ (let n : (e - at) + (start - e) ≡ start - at = omega (arith, h.0, s.from) in ap (λ (n : ℕ). drop n bytes) n));
    }

-- the text at a place, as the code finds the parts
pub text_at : (bytes ends : List ℕ) (place start end : ℕ) → AreEnds 0 (length bytes) ends → slice_get (0 ∷ ends) place ≡ Some start → slice_get ends place ≡ Some end
    → (start ≤ end) × (end ≤ length bytes) × (slice_get (cut 0 bytes ends) place ≡ Some (take (end - start) (drop start bytes)))
text_at bytes ends place start end h from to =
    let s = stands_at 0 (length bytes) bytes ends place start end h from to in
    let whole : start - 0 ≡ start = omega arith in
    (s.rises, s.within, s.text ∙ ap (λ (n : ℕ). Some (take (end - start) (drop n bytes))) whole)

-- one text more, as the code finds the parts
pub pushed : (bytes bytes' ends ends' text : List ℕ) (more : ℕ) → AreEnds 0 (length bytes) ends → bytes' ≡ bytes ++ text → ends' ≡ ends ++ more ∷ [] → more ≡ length bytes'
    → AreEnds 0 (length bytes') ends' × (cut 0 bytes' ends' ≡ cut 0 bytes ends ++ text ∷ [])
pushed bytes bytes' ends ends' text more h b e all =
    let long : more ≡ length bytes + length text = (let l = length-append bytes text in all ∙ ap length b ∙ l) in (
      subst (λ (z : ℕ × List ℕ). AreEnds 0 z.0 z.1) (λ i. (all i, sym e i)) (ends-append 0 (length bytes) more ends h (omega (arith, long))),
      (λ i. cut 0 (b i) (e i)) ∙ cut-append 0 (length bytes) more bytes ends text (omega arith) h long,
    )
