-- Commands asked one after another.
use Rattle.std.proofs.Common.{◌≡◌, ℕ, ◌+◌, ◌≤◌, ◌^◌, List, [], ◌∷◌, ◌++◌, length, Option, None, Some, refl, sym, ap, ◌∙◌, subst, append_assoc, append-nil, arith, inl, inr}
use Rattle.std.proofs.lemmas.List.{length_push}
use Rattle.sect_tables.specs.declared.given.Given.{Given}
use Rattle.sect_script.specs.declared.script.RunEnd.{RunEnd}
use Rattle.sect_script.specs.declared.script.RunEnd.TheVariants as ends
use Rattle.sect_script.specs.Gathering.{WritesBut, WritesFront}
use Rattle.sect_script.specs.Run.{AnswersEach}
use Rattle.sect_script.proofs.Gathering.{but_all, but_front, but_longer, but_more, but_put, front_longer, front_of_split}
use Rattle.sect_script.proofs.Steps.{AnswersEach-push}
use Rattle.sect_app.specs.Asking.{Asks, AsksEach, AsksOne, AsksSome, AsksUnwritten, WritesThen}
use Rattle.sect_app.specs.Numbers.{Numbered, number_at, numbered}
use Rattle.sect_app.proofs.Numbering.{number_is, number_none, numbered-append}

module _ {H T : Type 0} (answers : H → Numbered → List ℕ → H → Type 0) (taken : T → Option (List ℕ)) where
  -- some of the commands were asked, the rest stands ahead, of the answers some are gathered, and this number is the next
  pub record DoneSoFar (at : ℕ) (given rest : List Given) (old new : H) (sink sink' : T) (gathered : List ℕ) (next : Option ℕ) : Type 0 where
    pub done : List Given
    pub split : given ≡ done ++ rest
    pub bytes : List ℕ
    pub answered : AnswersEach answers old (numbered at done) bytes new
    pub written : WritesBut (taken sink) (taken sink') bytes gathered
    pub next_is : next ≡ number_at (at + length done)
    pub numbers : at + length done ≤ 2 ^ 64

  pub each_begun : (at : ℕ) (given : List Given) (old : H) (sink : T) (gathered : List ℕ) (next : Option ℕ) → gathered ≡ [] → next ≡ number_at at → at ≤ 2 ^ 64
      → DoneSoFar at given given old old sink sink gathered next
  each_begun at given old sink gathered next empty is small =
      let none : at ≡ at + 0 = omega arith in
      record {
        done = [];
        split = refl;
        bytes = [];
        answered = (refl, refl);
        written = but_put (taken sink) [] gathered empty;
        next_is = is ∙ ap number_at none;
        numbers = omega (arith, small);
      }

  -- the sink failed behind what was asked
  each_cut : {at : ℕ} {given rest : List Given} {old new : H} {sink sink' : T} {gathered : List ℕ} {next : Option ℕ} (sink'' : T) → DoneSoFar at given rest old new sink sink' gathered next
      → WritesFront (taken sink') (taken sink'') gathered → AsksSome answers taken at given old new sink sink''
  each_cut {rest = rest} {sink = sink} {sink' = sink'} {gathered = gathered} sink'' d cut =
      let front = but_front (taken sink) (taken sink') (taken sink'') d.bytes gathered d.written cut in
      (d.done, rest, d.split, d.numbers, (d.bytes, front.0, d.answered, front.1))

  pub each_all : {at : ℕ} {given rest : List Given} {old new : H} {sink sink' : T} {gathered : List ℕ} {next : Option ℕ} (sink'' : T) (result : Option RunEnd)
      → DoneSoFar at given rest old new sink sink' gathered next → rest ≡ [] → WritesThen (taken sink') (taken sink'') gathered None result
      → AsksEach answers taken at given old new sink sink'' next result
  each_all {at = at} {given = given} {old = old} {new = new} {sink = sink} {sink' = sink'} {gathered = gathered} {next = next} sink'' result d none (inl (is, written)) =
      let same : given ≡ d.done = d.split ∙ ap (λ (r : List Given). d.done ++ r) none ∙ append-nil d.done in
      subst (AsksEach answers taken at given old new sink sink'' next) (sym is)
      (subst (λ (g : List Given). (at + length g ≤ 2 ^ 64) × (next ≡ number_at (at + length g)) × Asks answers taken at g old new sink sink'') (sym same)
      (d.numbers, d.next_is, (d.bytes, d.answered, but_all (taken sink) (taken sink') (taken sink'') d.bytes gathered d.written written)))
  each_all {at = at} {given = given} {old = old} {new = new} {sink = sink} {next = next} sink'' result d none (inr (is, cut)) =
      subst (AsksEach answers taken at given old new sink sink'' next) (sym is) (each_cut sink'' d cut)

  pub each_without : {at : ℕ} {given rest : List Given} {old new : H} {sink sink' : T} {gathered : List ℕ} {next : Option ℕ} (it : Given) (more : List Given) (sink'' : T) (result : Option RunEnd)
      → DoneSoFar at given rest old new sink sink' gathered next → rest ≡ it ∷ more → next ≡ None → WritesThen (taken sink') (taken sink'') gathered (Some (ends.BadLine it.row 0)) result
      → AsksEach answers taken at given old new sink sink'' next result
  each_without {at = at} {given = given} {old = old} {new = new} {sink = sink} {sink' = sink'} {gathered = gathered} {next = next} it more sink'' result d ahead none (inl (is, written)) =
      subst (AsksEach answers taken at given old new sink sink'' next) (sym is) (
        d.done,
        it,
        more,
        d.split ∙ ap (λ (r : List Given). d.done ++ r) ahead,
        refl,
        refl,
        omega (arith, d.numbers, number_none (at + length d.done) (sym d.next_is ∙ none)),
        (d.bytes, d.answered, but_all (taken sink) (taken sink') (taken sink'') d.bytes gathered d.written written),
      )
  each_without {at = at} {given = given} {old = old} {new = new} {sink = sink} {next = next} it more sink'' result d ahead none (inr (is, cut)) =
      subst (AsksEach answers taken at given old new sink sink'' next) (sym is) (each_cut sink'' d cut)

  pub each_one : {at : ℕ} {given rest : List Given} {old mid : H} {sink sink' : T} {gathered : List ℕ} {next : Option ℕ} (it : Given) (more : List Given) (number : ℕ) (new : H) (sink'' : T) (gathered' : List ℕ) (next' : Option ℕ)
      → DoneSoFar at given rest old mid sink sink' gathered next → rest ≡ it ∷ more → next ≡ Some number
      → AsksOne answers taken (record { given = it; number = number }) mid new sink' sink'' gathered gathered' None → next' ≡ number_at (number + 1)
      → DoneSoFar at given more old new sink sink'' gathered' next'
  each_one {at = at} {old = old} {mid = mid} {sink = sink} {sink' = sink'} {gathered = gathered} it more number new sink'' gathered' next' d is some (answer, said, wrote) after =
      let n = number_is (at + length d.done) number (sym d.next_is ∙ some) in
      let longer = length_push d.done it in
      let next_number : number + 1 ≡ at + length (d.done ++ it ∷ []) = omega (arith, n.1, longer) in
      record {
        done = d.done ++ it ∷ [];
        split = d.split ∙ ap (λ (r : List Given). d.done ++ r) is ∙ sym (append_assoc d.done (it ∷ []) more);
        bytes = d.bytes ++ answer;
        answered = subst (λ (l : List Numbered). AnswersEach answers old l (d.bytes ++ answer) new) (sym (numbered-append at d.done (it ∷ [])))
            (AnswersEach-push answers old mid new (numbered at d.done) (record { given = it; number = at + length d.done }) d.bytes answer d.answered
            (subst (λ (m : ℕ). answers mid (record { given = it; number = m }) answer new) (sym n.1) said));
        written = but_more (taken sink) (taken sink') (taken sink'') d.bytes gathered answer gathered' d.written wrote;
        next_is = after ∙ ap number_at next_number;
        numbers = omega (arith, n.0, longer);
      }

  -- a command was asked, and its answer was not written whole
  some_asked : {at : ℕ} {given rest : List Given} {old mid : H} {sink sink' : T} {gathered : List ℕ} {next : Option ℕ} (it : Given) (more : List Given) (number : ℕ) (new : H) (sink'' : T)
      → DoneSoFar at given rest old mid sink sink' gathered next → rest ≡ it ∷ more → next ≡ Some number
      → AsksUnwritten answers taken (record { given = it; number = number }) mid new sink' sink'' gathered → AsksSome answers taken at given old new sink sink''
  some_asked {at = at} {old = old} {mid = mid} {sink = sink} {sink' = sink'} {gathered = gathered} it more number new sink'' d is some (answer, said, cut) =
      let n = number_is (at + length d.done) number (sym d.next_is ∙ some) in
      let longer = length_push d.done it in
      let front = but_front (taken sink) (taken sink') (taken sink'') (d.bytes ++ answer) (gathered ++ answer) (but_longer (taken sink) (taken sink') d.bytes gathered answer d.written) cut in (
        d.done ++ it ∷ [],
        more,
        d.split ∙ ap (λ (r : List Given). d.done ++ r) is ∙ sym (append_assoc d.done (it ∷ []) more),
        omega (arith, n.0, longer),
        (
          d.bytes ++ answer,
          front.0,
          subst (λ (l : List Numbered). AnswersEach answers old l (d.bytes ++ answer) new) (sym (numbered-append at d.done (it ∷ [])))
              (AnswersEach-push answers old mid new (numbered at d.done) (record { given = it; number = at + length d.done }) d.bytes answer d.answered
              (subst (λ (m : ℕ). answers mid (record { given = it; number = m }) answer new) (sym n.1) said)),
          front.1,
        ),
      )

  pub each_fault : {at : ℕ} {given rest : List Given} {old mid : H} {sink sink' : T} {gathered : List ℕ} {next : Option ℕ} (it : Given) (more : List Given) (number : ℕ) (new : H) (sink'' : T) (gathered' : List ℕ) (next' : Option ℕ) (end : RunEnd)
      → DoneSoFar at given rest old mid sink sink' gathered next → rest ≡ it ∷ more → next ≡ Some number
      → AsksOne answers taken (record { given = it; number = number }) mid new sink' sink'' gathered gathered' (Some end) → AsksEach answers taken at given old new sink sink'' next' (Some end)
  each_fault it more number new sink'' gathered' next' ends.Done d is some asked = absurd asked
  each_fault it more number new sink'' gathered' next' (ends.BadLine row field) d is some asked = absurd asked
  each_fault it more number new sink'' gathered' next' ends.ReadFault d is some asked = absurd asked
  each_fault it more number new sink'' gathered' next' ends.WriteFault d is some asked = some_asked it more number new sink'' d is some asked
  each_fault it more number new sink'' gathered' next' ends.Memory d is some asked = some_asked it more number new sink'' d is some asked

  -- a command was asked, memory was wanted for its answer, and what was gathered was written
  pub one_unwritten : (it : Numbered) (old new : H) (sink sink' : T) (gathered gathered' : List ℕ) (result : Option RunEnd) (bytes : List ℕ) → answers old it bytes new
      → WritesThen (taken sink) (taken sink') gathered (Some ends.Memory) result → AsksOne answers taken it old new sink sink' gathered gathered' result
  one_unwritten it old new sink sink' gathered gathered' result bytes said (inl (is, written)) =
      subst (AsksOne answers taken it old new sink sink' gathered gathered') (sym is)
      (bytes, said, front_of_split (taken sink) (taken sink') (gathered ++ bytes) gathered bytes refl written)
  one_unwritten it old new sink sink' gathered gathered' result bytes said (inr (is, cut)) =
      subst (AsksOne answers taken it old new sink sink' gathered gathered') (sym is)
      (bytes, said, front_longer (taken sink) (taken sink') gathered bytes cut)
