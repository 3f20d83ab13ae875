-- Values in a row.
use Rattle.std.proofs.Common.{◌≡◌, ℕ, zero, suc, ◌+◌, ◌<◌, Bool, true, false, List, [], ◌∷◌, ◌++◌, length, length-append, Option, None, Some, refl, ap, sym, ◌∙◌, subst, append_assoc, arith}
use Rattle.std.specs.Prelude.{if◌then◌else◌, flat_map}
use Rattle.std.specs.List.{AllByRecursion}
use Rattle.sect_words.specs.Reading.{◌>>=◌, some_of, each_at, in_front}
use Rattle.sect_read.specs.Lines.{AreEach}
use Rattle.sect_read.proofs.Steps.{bind_found, if_found, end_step, Takes, Spelled}

front_found : {X : Type 0} (x : X) (o : Option (List X × List (List ℕ))) (xs : List X) (rest : List (List ℕ)) → in_front x o ≡ Some (xs, rest) → {G : Type 0}
    → ((ys : List X) → o ≡ Some (ys, rest) → x ∷ ys ≡ xs → G) → G
front_found x None xs rest e k = absurd (cc)
front_found {X = X} x (Some (ys, r)) xs rest e k = k ys (end_step (x ∷ ys) xs r rest e (λ (zs : List X) (s : List (List ℕ)). ◌≡◌ {A = Option (List X × List (List ℕ))} (Some (ys, r)) (Some (ys, s))) refl) (end_step (x ∷ ys) xs r rest e (λ (zs : List X) (s : List (List ℕ)). x ∷ ys ≡ zs) refl)

module _ {X : Type 0} (starts : List (List ℕ) → Bool) (at : List (List ℕ) → Option (X × List (List ℕ))) (Is : X → List (List ℕ) → Type 0) where
  -- what is read in a row is spelled so
  pub some_found : ((ws : List (List ℕ)) (x : X) (rest : List (List ℕ)) → at ws ≡ Some (x, rest) → (t : List (List ℕ)) × Is x t × (ws ≡ t ++ rest))
      → (n : ℕ) (ws : List (List ℕ)) (xs : List X) (rest : List (List ℕ)) → some_of starts at n ws ≡ Some (xs, rest)
      → (t : List (List ℕ)) × AreEach Is xs t × (ws ≡ t ++ rest)
  some_found one zero ws xs rest e = absurd (cc)
  some_found one (suc n) ws xs rest e = if_found (starts ws) (at ws >>= λ first. in_front first.0 (some_of starts at n first.1)) (Some ([], ws)) (xs, rest) e
      (λ b e. bind_found (at ws) _ _ e (λ p is e. front_found p.0 (some_of starts at n p.1) xs rest e (λ ys more same.
      let first = one ws p.0 p.1 is in
      let later = some_found one n p.1 ys rest more in
      subst (λ zs. (t : List (List ℕ)) × AreEach Is zs t × (ws ≡ t ++ rest)) same
      (first.0 ++ later.0, (first.0, later.0, first.1, later.1, refl), first.2 ∙ ap (λ r. first.0 ++ r) later.2 ∙ sym (append_assoc first.0 later.0 rest)))))
      (λ b e. end_step [] xs ws rest e (λ zs r. (t : List (List ℕ)) × AreEach Is zs t × (ws ≡ t ++ r)) ([], refl, refl))

  module _ (Stop : List (List ℕ) → Type 0)
      (one : (x : X) (t rest : List (List ℕ)) → Is x t → Stop rest → at (t ++ rest) ≡ Some (x, rest))
      (begun : (x : X) (t rest : List (List ℕ)) → Is x t → starts (t ++ rest) ≡ true)
      (stops : (x : X) (t rest : List (List ℕ)) → Is x t → Stop (t ++ rest))
      (long : (x : X) (t : List (List ℕ)) → Is x t → 0 < length t) where
    stop_behind : (xs : List X) (t rest : List (List ℕ)) → AreEach Is xs t → Stop rest → Stop (t ++ rest)
    stop_behind [] t rest e stop = subst (λ (u : List (List ℕ)). Stop (u ++ rest)) (sym e) stop
    stop_behind (x ∷ xs) t rest each stop =
        subst (λ (u : List (List ℕ)). Stop u) (sym (ap (λ (u : List (List ℕ)). u ++ rest) each.4 ∙ append_assoc each.0 each.1 rest)) (stops x each.0 (each.1 ++ rest) each.2)

    -- what is spelled in a row is read so
    pub some_again : (n : ℕ) (xs : List X) (t rest : List (List ℕ)) → AreEach Is xs t → Stop rest → starts rest ≡ false → length (t ++ rest) < n
        → some_of starts at n (t ++ rest) ≡ Some (xs, rest)
    some_again zero xs t rest each stop last few = absurd (omega arith)
    some_again (suc n) [] t rest e stop last few =
        ap (λ (u : List (List ℕ)). some_of starts at (suc n) (u ++ rest)) e ∙ ap (λ b. if b then (at rest >>= λ first. in_front first.0 (some_of starts at n first.1)) else Some ([], rest)) last
    some_again (suc n) (x ∷ xs) t rest each stop last few =
        let same : t ++ rest ≡ each.0 ++ (each.1 ++ rest) = ap (λ (u : List (List ℕ)). u ++ rest) each.4 ∙ append_assoc each.0 each.1 rest in
        let fewer : length (each.1 ++ rest) < n = omega (arith, few, ap length same, length-append each.0 (each.1 ++ rest), long x each.0 each.2) in
        ap (some_of starts at (suc n)) same
        ∙ ap (λ b. if b then (at (each.0 ++ (each.1 ++ rest)) >>= λ first. in_front first.0 (some_of starts at n first.1)) else Some ([], each.0 ++ (each.1 ++ rest))) (begun x each.0 (each.1 ++ rest) each.2)
        ∙ ap (λ o. o >>= λ first. in_front first.0 (some_of starts at n first.1)) (one x each.0 (each.1 ++ rest) each.2 (stop_behind xs each.1 rest each.3 stop))
        ∙ ap (in_front x) (some_again n xs each.1 rest each.3 stop last fewer)

module _ {X : Type 0} (Fits : X → Type 0) (words : X → List (List ℕ)) where
  -- values with one spelling each
  pub spelled_each : (xs : List X) (t : List (List ℕ)) → AreEach (Spelled Fits words) xs t → AllByRecursion Fits xs × (t ≡ flat_map words xs)
  spelled_each [] t e = (tt, e)
  spelled_each (x ∷ xs) t each =
      let later = spelled_each xs each.1 each.3 in
      ((each.2.0, later.0), each.4 ∙ (λ i. each.2.1 i ++ later.1 i))

  pub each_spelled : (xs : List X) → AllByRecursion Fits xs → AreEach (Spelled Fits words) xs (flat_map words xs)
  each_spelled [] fits = refl
  each_spelled (x ∷ xs) fits = (words x, flat_map words xs, (fits.0, refl), each_spelled xs fits.1, refl)

-- what may follow values in a row: no further one starts, and the last one stops
abbrev pub StopEach : (List (List ℕ) → Bool) → (List (List ℕ) → Type 0) → List (List ℕ) → Type 0
StopEach starts Stop rest = Stop rest × (starts rest ≡ false)

-- values in a row are taken, where each one is
pub takes_each : {X : Type 0} {at : List (List ℕ) → Option (X × List (List ℕ))} {Fits : X → Type 0} {words : X → List (List ℕ)} {Stop : List (List ℕ) → Type 0} (starts : List (List ℕ) → Bool)
    → Takes at Fits words Stop → ((x : X) (rest : List (List ℕ)) → Fits x → starts (words x ++ rest) ≡ true) → ((x : X) (rest : List (List ℕ)) → Fits x → Stop (words x ++ rest)) → ((x : X) → Fits x → 0 < length (words x))
    → Takes (each_at starts at) (AllByRecursion Fits) (flat_map words) (StopEach starts Stop)
takes_each {at = at} {Fits = Fits} {words = words} {Stop = Stop} starts takes begun stops long = record {
  found = λ ws xs rest e.
      let found = some_found starts at (Spelled Fits words) (λ vs x r is. let p = takes.found vs x r is in (words x, (p.0, refl), p.1)) (length ws + 1) ws xs rest e in
      let each = spelled_each Fits words xs found.0 found.1 in
      (each.0, found.2 ∙ ap (λ (t : List (List ℕ)). t ++ rest) each.1);
  again = λ xs rest fits stop.
      some_again starts at (Spelled Fits words) Stop
      (λ x t r is s. ap (λ (u : List (List ℕ)). at (u ++ r)) is.1 ∙ takes.again x r is.0 s)
      (λ x t r is. ap (λ (u : List (List ℕ)). starts (u ++ r)) is.1 ∙ begun x r is.0)
      (λ x t r is. subst (λ (u : List (List ℕ)). Stop (u ++ r)) (sym is.1) (stops x r is.0))
      (λ x t is. subst (λ (u : List (List ℕ)). 0 < length u) (sym is.1) (long x is.0))
      (length (flat_map words xs ++ rest) + 1) xs (flat_map words xs) rest (each_spelled Fits words xs fits) stop.0 stop.1 (omega arith);
}
