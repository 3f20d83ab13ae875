-- Groups in a row: the walk over what is left.
use Rattle.std.proofs.Common.{◌≡◌, ℕ, zero, suc, ◌+◌, ◌<◌, Bool, true, false, List, length, refl, ap, sym, ◌∙◌, arith}
use Rattle.std.specs.Prelude.{Err, if◌then◌else◌}
use Rattle.sect_check.specs.declared.form.Form.{Form}
use Rattle.sect_check.specs.declared.form.Halt.{Halt}
use Rattle.sect_check.specs.declared.form.Halt.TheVariants as halts
use Rattle.sect_check.specs.Walks.{Walk, Walks, each_walk, passed, some_walk, stopped, walk_on}

module _ (starts : List (List ℕ) → Bool) (walk : List (List ℕ) → Walk) where
  -- the walk over these words is the whole one, for more turns than there are words
  pub record Reaches (words : List (List ℕ)) (whole : Walk) : Type 0 where
    pub turns : ℕ
    pub enough : length words < turns
    pub same : some_walk starts walk turns words ≡ whole

  pub reach_start : (words : List (List ℕ)) → Reaches words (each_walk starts walk words)
  reach_start words = record { turns = length words + 1; enough = omega arith; same = refl }

  turn : (n : ℕ) (words : List (List ℕ)) → starts words ≡ true
      → some_walk starts walk (suc n) words ≡ walk_on (walk words) (λ rest. some_walk starts walk n rest)
  turn n words e = ap (λ b. if b then walk_on (walk words) (λ rest. some_walk starts walk n rest) else passed words) e

  step_by : (n : ℕ) (words rest : List (List ℕ)) (whole : Walk) → length words < n → some_walk starts walk n words ≡ whole
      → starts words ≡ true → walk words ≡ passed rest → length rest < length words → Reaches rest whole
  step_by zero words rest whole enough same e is shorter = absurd (omega (arith, enough))
  step_by (suc n) words rest whole enough same e is shorter = record {
    turns = n;
    enough = omega (arith, enough, shorter);
    same = sym (turn n words e ∙ ap (λ w. walk_on w (λ rest. some_walk starts walk n rest)) is) ∙ same;
  }

  -- one more group was passed
  pub reach_step : (words rest : List (List ℕ)) (whole : Walk) → Reaches words whole → starts words ≡ true → walk words ≡ passed rest
      → length rest < length words
      → Reaches rest whole
  reach_step words rest whole r e is shorter = step_by r.turns words rest whole r.enough r.same e is shorter

  end_by : (n : ℕ) (words : List (List ℕ)) (whole : Walk) → length words < n → some_walk starts walk n words ≡ whole → starts words ≡ false
      → whole ≡ passed words
  end_by zero words whole enough same e = absurd (omega (arith, enough))
  end_by (suc n) words whole enough same e = sym same ∙ ap (λ b. if b then walk_on (walk words) (λ rest. some_walk starts walk n rest) else passed words) e

  -- no group starts
  pub reach_end : (words : List (List ℕ)) (whole : Walk) → Reaches words whole → starts words ≡ false → whole ≡ passed words
  reach_end words whole r e = end_by r.turns words whole r.enough r.same e

  bad_by : (n : ℕ) (words rest : List (List ℕ)) (form : Form) (whole : Walk) → length words < n → some_walk starts walk n words ≡ whole
      → starts words ≡ true → walk words ≡ stopped rest form → whole ≡ stopped rest form
  bad_by zero words rest form whole enough same e is = absurd (omega (arith, enough))
  bad_by (suc n) words rest form whole enough same e is = sym same ∙ turn n words e ∙ ap (λ w. walk_on w (λ rest. some_walk starts walk n rest)) is

  -- a group stops the walk
  pub reach_halt : (halt : Halt) (words rest : List (List ℕ)) (whole : Walk) → Reaches words whole → starts words ≡ true → Walks (Err halt) rest (walk words)
      → Walks (Err halt) rest whole
  reach_halt (halts.Bad form) words rest whole r e is = bad_by r.turns words rest form whole r.enough r.same e is
  reach_halt halts.Memory words rest whole r e is = tt
