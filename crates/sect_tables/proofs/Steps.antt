-- A row that goes on with the command at hand, which was taken out before.
use Rattle.std.proofs.Common.{◌≡◌, ℕ, List, [], Option, None, Some, Result, Ok, Err, OnOk, refl, sym, ap, ◌∙◌, append-nil, ◌++◌}
use Rattle.sect_base.specs.declared.ids.StudentId.{StudentId}
use Rattle.sect_tables.specs.Lines.{ask_line, section_line}
use Rattle.sect_tables.specs.declared.line.SectionLine.{SectionLine}
use Rattle.sect_people.specs.declared.row.Ask.{Ask}
use Rattle.sect_tables.specs.Offerings.{OfferingSoFar}
use Rattle.sect_tables.specs.Progress.{Progress}
use Rattle.sect_tables.specs.Requests.{RequestsSoFar, next_rank}
use Rattle.sect_tables.specs.Rows.{Step, offering_next, offering_row, requests_next, requests_row}
use Rattle.sect_tables.specs.declared.hand.AtHand.{AtHand}

-- what a table has become is what one step and another one alike make of it, where a call has succeeded
pub alike : {A E : Type 0} (r : Result A E) (new : Progress) (one other : Step) → one ≡ other → OnOk r (new ≡ one.0) → OnOk r (new ≡ other.0)
alike (Ok x) new one other same made = made ∙ ap (λ s. s.0) same
alike (Err e) new one other same made = tt

-- a list has nothing behind it
pub nothing_behind : {A E X : Type 0} (r : Result A E) (xs none : List X) → none ≡ [] → OnOk r (xs ≡ xs ++ none)
nothing_behind (Ok x) xs none is_none = sym (append-nil xs) ∙ ap (λ end. xs ++ end) (sym is_none)
nothing_behind (Err e) xs none is_none = tt

-- a table with this at hand
abbrev pub holding : Progress → Option AtHand → Progress
holding p hand = record p { at_hand = hand }

-- what is at hand was taken out
pub taken_out : (before p : Progress) (hand : Option AtHand) → before ≡ p → hand ≡ None → holding before hand ≡ holding p None
taken_out before p hand is_before is_none = ap (holding before) is_none ∙ ap (λ s. holding s None) is_before

-- what was taken out is what was at hand
pub found_in : {A : Type 0} (same : Option AtHand → List ℕ → Option A) (before p : Progress) (taken : Option AtHand) (name : List ℕ) (x : A) → before ≡ p → taken ≡ before.at_hand
    → same taken name ≡ Some x → same p.at_hand name ≡ Some x
found_in same before p taken name x is_before is_taken found =
    ap (λ s. same s.at_hand name) (sym is_before) ∙ ap (λ h. same h name) (sym is_taken) ∙ found

offering_by : (p : Progress) (row : List (List ℕ)) (first : ℕ) (so_far : OfferingSoFar) (line : Result SectionLine ℕ)
    → offering_next (holding p None) row first so_far line ≡ offering_next p row first so_far line
offering_by p row first so_far (Err field) = refl
offering_by p row first so_far (Ok line) = refl

offering_none_by : (p : Progress) (row : List (List ℕ)) (first : ℕ) (so_far : OfferingSoFar) (line : Result SectionLine ℕ) → (offering_next p row first so_far line).1 ≡ []
offering_none_by p row first so_far (Err field) = refl
offering_none_by p row first so_far (Ok line) = refl

-- an offering goes on
pub offering_on : (q p : Progress) (row : List (List ℕ)) (first : ℕ) (so_far : OfferingSoFar) (same : Option (ℕ × OfferingSoFar)) → q ≡ holding p None
    → same ≡ Some (first, so_far) → offering_row q row (Some (first, so_far)) ≡ offering_row p row same
unfolding offering_row
offering_on q p row first so_far same taken is_same =
    ap (λ s. offering_row s row (Some (first, so_far))) taken
    ∙ offering_by p row first so_far (section_line p.term (Some so_far.before) row)
    ∙ ap (λ s. offering_row p row s) (sym is_same)

-- an offering that goes on gives nothing
pub offering_none : (p : Progress) (row : List (List ℕ)) (first : ℕ) (so_far : OfferingSoFar) (same : Option (ℕ × OfferingSoFar)) → same ≡ Some (first, so_far)
    → (offering_row p row same).1 ≡ []
unfolding offering_row
offering_none p row first so_far same is_same =
    ap (λ s. (offering_row p row s).1) is_same ∙ offering_none_by p row first so_far (section_line p.term (Some so_far.before) row)

requests_by : (p : Progress) (first : ℕ) (so_far : RequestsSoFar) (line : Result (StudentId × Ask) ℕ)
    → requests_next (holding p None) first so_far line ≡ requests_next p first so_far line
requests_by p first so_far (Err field) = refl
requests_by p first so_far (Ok line) = refl

requests_none_by : (p : Progress) (first : ℕ) (so_far : RequestsSoFar) (line : Result (StudentId × Ask) ℕ) → (requests_next p first so_far line).1 ≡ []
requests_none_by p first so_far (Err field) = refl
requests_none_by p first so_far (Ok line) = refl

-- requests go on
pub requests_on : (q p : Progress) (row : List (List ℕ)) (first : ℕ) (so_far : RequestsSoFar) (same : Option (ℕ × RequestsSoFar)) → q ≡ holding p None
    → same ≡ Some (first, so_far) → requests_row q row (Some (first, so_far)) ≡ requests_row p row same
unfolding requests_row
requests_on q p row first so_far same taken is_same =
    ap (λ s. requests_row s row (Some (first, so_far))) taken
    ∙ requests_by p first so_far (ask_line (next_rank so_far) row)
    ∙ ap (λ s. requests_row p row s) (sym is_same)

-- requests that go on give nothing
pub requests_none : (p : Progress) (row : List (List ℕ)) (first : ℕ) (so_far : RequestsSoFar) (same : Option (ℕ × RequestsSoFar)) → same ≡ Some (first, so_far)
    → (requests_row p row same).1 ≡ []
unfolding requests_row
requests_none p row first so_far same is_same =
    ap (λ s. (requests_row p row s).1) is_same ∙ requests_none_by p first so_far (ask_line (next_rank so_far) row)
