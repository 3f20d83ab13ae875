-- What is read so far and what is left make up what is read.
use Rattle.std.proofs.Common.{◌≡◌, ℕ, zero, suc, ◌+◌, ◌<◌, Bool, true, false, List, [], ◌∷◌, ◌++◌, length, append-nil, append_assoc, Option, None, Some, refl, ap, sym, ◌∙◌, subst, arith}
use Rattle.std.specs.Prelude.{if◌then◌else◌}
use Rattle.sect_base.specs.declared.ids.SectionId.{SectionId}
use Rattle.sect_words.specs.Parts.{pieces, parts_left}
use Rattle.sect_words.specs.Reading.{◌>>=◌, is_nil, first_part, later_parts, all_of, some_of, each_at, in_front}
use Rattle.sect_words.specs.ReadingWords.{few_sections, section_of}
use Rattle.sect_words.proofs.Pieces.{some_pieces}

-- ---- parts

nil_or : (parts : List (List ℕ)) → (parts ≡ [] → ⊥) → is_nil parts ≡ false
nil_or [] some = absurd (some refl)
nil_or (part ∷ parts) some = refl

-- nothing is left exactly where the last part was taken
pub done_is : (done : Bool) (mark : ℕ) (text : List ℕ) → done ≡ is_nil (parts_left done mark text)
done_is true mark text = refl
done_is false mark text = sym (nil_or (pieces mark text) (some_pieces mark text))

-- a part in front of the others
pub first_is : (parts : List (List ℕ)) (part : List ℕ) → Some part ≡ first_part parts → parts ≡ part ∷ later_parts parts
first_is [] part e = absurd (cc)
first_is (p ∷ parts) part e = let same : p ≡ part = cc in ap (λ (q : List ℕ). q ∷ parts) same

pub first_none : (parts : List (List ℕ)) → None ≡ first_part parts → parts ≡ []
first_none [] e = refl
first_none (p ∷ parts) e = absurd (cc)

-- ---- the values of all parts

abbrev pub in_all : {X : Type 0} → List X → Option (List X) → Option (List X)
in_all xs None = None
in_all xs (Some ys) = Some (xs ++ ys)

pub all_start : {X : Type 0} (o : Option (List X)) → in_all [] o ≡ o
all_start None = refl
all_start (Some ys) = refl

module _ {X : Type 0} (of : List ℕ → Option X) where
  all_by : (xs : List X) (x : X) (o : Option (List X)) → in_all xs (o >>= λ ys. Some (x ∷ ys)) ≡ in_all (xs ++ x ∷ []) o
  all_by xs x None = refl
  all_by xs x (Some ys) = ap Some (sym (append_assoc xs (x ∷ []) ys))

  pub all_step : (xs : List X) (parts : List (List ℕ)) (part : List ℕ) (x : X) (whole : Option (List X)) → Some part ≡ first_part parts → of part ≡ Some x → in_all xs (all_of of parts) ≡ whole
      → in_all (xs ++ x ∷ []) (all_of of (later_parts parts)) ≡ whole
  all_step xs parts part x whole first is e =
      sym (all_by xs x (all_of of (later_parts parts)))
      ∙ ap (λ o. in_all xs (o >>= λ y. all_of of (later_parts parts) >>= λ ys. Some (y ∷ ys))) (sym is)
      ∙ ap (λ (ps : List (List ℕ)). in_all xs (all_of of ps)) (sym (first_is parts part first)) ∙ e

  pub all_bad : (xs : List X) (parts : List (List ℕ)) (part : List ℕ) (whole : Option (List X)) → Some part ≡ first_part parts → of part ≡ None → in_all xs (all_of of parts) ≡ whole → whole ≡ None
  all_bad xs parts part whole first is e =
      sym e ∙ ap (λ (ps : List (List ℕ)). in_all xs (all_of of ps)) (first_is parts part first)
      ∙ ap (λ o. in_all xs (o >>= λ y. all_of of (later_parts parts) >>= λ ys. Some (y ∷ ys))) is

  pub all_end : (xs : List X) (parts : List (List ℕ)) (whole : Option (List X)) → None ≡ first_part parts → in_all xs (all_of of parts) ≡ whole → whole ≡ Some xs
  all_end xs parts whole none e = sym e ∙ ap (λ (ps : List (List ℕ)). in_all xs (all_of of ps)) (first_none parts none) ∙ ap Some (append-nil xs)

-- taking a part leaves fewer
pub fewer : (parts : List (List ℕ)) (part : List ℕ) → Some part ≡ first_part parts → length (later_parts parts) < length parts
fewer parts part e = let n = ap length (first_is parts part e) in omega (arith, n)

-- ---- sections

few_by : (xs : List SectionId) (x : SectionId) (o : Option (List SectionId)) → in_all xs (o >>= λ ys. Some (x ∷ ys)) ≡ in_all (xs ++ x ∷ []) o
few_by xs x None = refl
few_by xs x (Some ys) = ap Some (sym (append_assoc xs (x ∷ []) ys))

pub few_step : (n m : ℕ) (xs : List SectionId) (parts : List (List ℕ)) (part : List ℕ) (x : SectionId) (whole : Option (List SectionId)) → n ≡ suc m → Some part ≡ first_part parts → section_of part ≡ Some x
    → in_all xs (few_sections n parts) ≡ whole → in_all (xs ++ x ∷ []) (few_sections m (later_parts parts)) ≡ whole
few_step n m xs parts part x whole count first is e =
    sym (few_by xs x (few_sections m (later_parts parts)))
    ∙ ap (λ o. in_all xs (o >>= λ y. few_sections m (later_parts parts) >>= λ ys. Some (y ∷ ys))) (sym is)
    ∙ ap (λ (ps : List (List ℕ)). in_all xs (few_sections (suc m) ps)) (sym (first_is parts part first)) ∙ ap (λ k. in_all xs (few_sections k parts)) (sym count) ∙ e

pub few_bad : (n m : ℕ) (xs : List SectionId) (parts : List (List ℕ)) (part : List ℕ) (whole : Option (List SectionId)) → n ≡ suc m → Some part ≡ first_part parts → section_of part ≡ None
    → in_all xs (few_sections n parts) ≡ whole → whole ≡ None
few_bad n m xs parts part whole count first is e =
    sym e ∙ ap (λ k. in_all xs (few_sections k parts)) count ∙ ap (λ (ps : List (List ℕ)). in_all xs (few_sections (suc m) ps)) (first_is parts part first)
    ∙ ap (λ o. in_all xs (o >>= λ y. few_sections m (later_parts parts) >>= λ ys. Some (y ∷ ys))) is

pub few_full : (n : ℕ) (xs : List SectionId) (parts : List (List ℕ)) (part : List ℕ) (whole : Option (List SectionId)) → n ≡ 0 → Some part ≡ first_part parts → in_all xs (few_sections n parts) ≡ whole → whole ≡ None
few_full n xs parts part whole count first e =
    sym e ∙ ap (λ k. in_all xs (few_sections k parts)) count ∙ ap (λ (ps : List (List ℕ)). in_all xs (few_sections 0 ps)) (first_is parts part first)

few_none : (n : ℕ) → few_sections n [] ≡ Some []
few_none zero = refl
few_none (suc n) = refl

pub few_end : (n : ℕ) (xs : List SectionId) (parts : List (List ℕ)) (whole : Option (List SectionId)) → None ≡ first_part parts → in_all xs (few_sections n parts) ≡ whole → whole ≡ Some xs
few_end n xs parts whole none e = sym e ∙ ap (λ (ps : List (List ℕ)). in_all xs (few_sections n ps)) (first_none parts none) ∙ ap (in_all xs) (few_none n) ∙ ap Some (append-nil xs)

-- ---- values in a row

abbrev pub in_row : {X : Type 0} → List X → Option (List X × List (List ℕ)) → Option (List X × List (List ℕ))
in_row xs None = None
in_row xs (Some (ys, rest)) = Some (xs ++ ys, rest)

pub row_start : {X : Type 0} (o : Option (List X × List (List ℕ))) → in_row [] o ≡ o
row_start None = refl
row_start (Some (ys, rest)) = refl

-- so many turns are more than enough for what is left
pub record Reaches {X : Type 0} (starts : List (List ℕ) → Bool) (at : List (List ℕ) → Option (X × List (List ℕ))) (xs : List X) (parts : List (List ℕ)) (whole : Option (List X × List (List ℕ))) : Type 0 where
  pub turns : ℕ
  pub enough : length parts < turns
  pub is : in_row xs (some_of starts at turns parts) ≡ whole

module _ {X : Type 0} (starts : List (List ℕ) → Bool) (at : List (List ℕ) → Option (X × List (List ℕ))) where
  pub reach_start : (parts : List (List ℕ)) → Reaches starts at [] parts (each_at starts at parts)
  reach_start parts = record { turns = length parts + 1; enough = omega arith; is = row_start (each_at starts at parts) }

  row_by : (xs : List X) (x : X) (o : Option (List X × List (List ℕ))) → in_row xs (in_front x o) ≡ in_row (xs ++ x ∷ []) o
  row_by xs x None = refl
  row_by xs x (Some (ys, rest)) = ap (λ (zs : List X). Some (zs, rest)) (sym (append_assoc xs (x ∷ []) ys))

  turn_of : (n : ℕ) (parts : List (List ℕ)) (o : Option (X × List (List ℕ))) → starts parts ≡ true → at parts ≡ o
      → some_of starts at (suc n) parts ≡ (o >>= λ first. in_front first.0 (some_of starts at n first.1))
  turn_of n parts o begun is =
      ap (λ b. if b then (at parts >>= λ first. in_front first.0 (some_of starts at n first.1)) else Some ([], parts)) begun
      ∙ ap (λ p. p >>= λ first. in_front first.0 (some_of starts at n first.1)) is

  step_by : (turns : ℕ) (xs : List X) (parts rest : List (List ℕ)) (x : X) (whole : Option (List X × List (List ℕ))) → length parts < turns → in_row xs (some_of starts at turns parts) ≡ whole
      → starts parts ≡ true → at parts ≡ Some (x, rest) → length rest < length parts → Reaches starts at (xs ++ x ∷ []) rest whole
  step_by zero xs parts rest x whole enough e begun is less = absurd (omega (arith, enough))
  step_by (suc n) xs parts rest x whole enough e begun is less = record {
    turns = n;
    enough = omega (arith, enough, less);
    is = sym (row_by xs x (some_of starts at n rest)) ∙ ap (in_row xs) (sym (turn_of n parts (Some (x, rest)) begun is)) ∙ e;
  }

  pub reach_step : (xs : List X) (parts rest : List (List ℕ)) (x : X) (whole : Option (List X × List (List ℕ))) → Reaches starts at xs parts whole
      → starts parts ≡ true → at parts ≡ Some (x, rest) → length rest < length parts → Reaches starts at (xs ++ x ∷ []) rest whole
  reach_step xs parts rest x whole reach begun is less = step_by reach.turns xs parts rest x whole reach.enough reach.is begun is less

  -- one more value was read
  pub reach_step_to : (xs ys : List X) (parts rest : List (List ℕ)) (x : X) (whole : Option (List X × List (List ℕ))) → Reaches starts at xs parts whole
      → starts parts ≡ true → at parts ≡ Some (x, rest) → length rest < length parts → ys ≡ xs ++ x ∷ [] → Reaches starts at ys rest whole
  reach_step_to xs ys parts rest x whole reach begun is less same = subst (λ zs. Reaches starts at zs rest whole) (sym same) (reach_step xs parts rest x whole reach begun is less)

  bad_by : (turns : ℕ) (xs : List X) (parts : List (List ℕ)) (whole : Option (List X × List (List ℕ))) → length parts < turns → in_row xs (some_of starts at turns parts) ≡ whole
      → starts parts ≡ true → at parts ≡ None → whole ≡ None
  bad_by zero xs parts whole enough e begun is = absurd (omega (arith, enough))
  bad_by (suc n) xs parts whole enough e begun is = sym e ∙ ap (in_row xs) (turn_of n parts None begun is)

  pub reach_bad : (xs : List X) (parts : List (List ℕ)) (whole : Option (List X × List (List ℕ))) → Reaches starts at xs parts whole → starts parts ≡ true → at parts ≡ None → whole ≡ None
  reach_bad xs parts whole reach begun is = bad_by reach.turns xs parts whole reach.enough reach.is begun is

  end_by : (turns : ℕ) (xs : List X) (parts : List (List ℕ)) (whole : Option (List X × List (List ℕ))) → length parts < turns → in_row xs (some_of starts at turns parts) ≡ whole
      → starts parts ≡ false → whole ≡ Some (xs, parts)
  end_by zero xs parts whole enough e last = absurd (omega (arith, enough))
  end_by (suc n) xs parts whole enough e last =
      sym e ∙ ap (λ b. in_row xs (if b then (at parts >>= λ first. in_front first.0 (some_of starts at n first.1)) else Some ([], parts))) last
      ∙ ap (λ (zs : List X). Some (zs, parts)) (append-nil xs)

  pub reach_end : (xs : List X) (parts : List (List ℕ)) (whole : Option (List X × List (List ℕ))) → Reaches starts at xs parts whole → starts parts ≡ false → whole ≡ Some (xs, parts)
  reach_end xs parts whole reach last = end_by reach.turns xs parts whole reach.enough reach.is last
