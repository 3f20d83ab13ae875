-- The state of each history is checked.
use Rattle.std.specs.Prelude.{◌≡◌, ◌⊎◌, ℕ, Bool, true, false, ◌&&◌, ◌==◌, cond, List, [], ◌∷◌, ◌++◌, Option, Some, None, refl, max}
use Rattle.std.specs.List.{list_all}
use Rattle.std.specs.Option.{option_to_list}
use Rattle.std.proofs.Common.{sym, ◌∙◌, subst, inl, inr, append-nil, append_assoc}
use Rattle.std.proofs.lemmas.List.Folds.{list_all-map}
use Rattle.sect_base.specs.declared.limit.Caller.{Caller}
use Rattle.sect_command.specs.declared.command.Command.{Command}
use Rattle.sect_command.specs.declared.command.Command.TheVariants as commands
use Rattle.sect_history.proofs.Histories.{after-snoc, replays-good}
use Rattle.sect_history.specs.Changes.{CommandLeads, Lead, is_seating, own_change}
use Rattle.sect_history.specs.Step.{state_of}
use Rattle.sect_model.proofs.Members.{all-at, all-of, both-left, both-right}
use Rattle.sect_model.specs.Change.{put_day}
use Rattle.sect_model.specs.Data.{Ask, Student, StudentId}
use Rattle.sect_model.specs.Fits.{changed}
use Rattle.sect_model.specs.Step.{step}
use Rattle.sect_model.specs.World.{State, World, empty_state}
use Rattle.sect_model.specs.declared.change.Change.{Change}
use Rattle.sect_model.specs.declared.change.Change.TheVariants.{Offering, Student as new_student, Requests, Reserve, Unreserve, Expiry, Restrict, Unrestrict, Cap as new_cap, Cancelled, Day, Enrol, Leave}
use Rattle.sect_people.specs.Changes.{with_asks}
use Rattle.sect_return.specs.Checked.{Checked, StatesAreChecked, has_few, row_passes}
use Rattle.sect_return.proofs.Checks.{passes_after}
use Rattle.sect_return.proofs.Few.{few_after}

abbrev Few : World → Type 0
Few w = list_all has_few w.students ≡ true

abbrev Passes : World → Type 0
Passes w = list_all (row_passes w) w.reservations ≡ true

-- a change of no student's row
abbrev is_no_row : Change → Bool
is_no_row (Offering row) = true
is_no_row (new_student row) = false
is_no_row (Requests student asks) = true
is_no_row (Reserve r) = true
is_no_row (Unreserve id) = true
is_no_row (Expiry id day) = true
is_no_row (Restrict r) = true
is_no_row (Unrestrict id) = true
is_no_row (new_cap cap limit) = true
is_no_row (Cancelled id) = true
is_no_row (Day day) = true
is_no_row (Enrol e) = true
is_no_row (Leave student course) = true

few_with : (student : StudentId) (asks : List Ask) (s : Student) → has_few (with_asks student asks s) ≡ has_few s
few_with student asks s = by (s.row.id.0 == student.0)
  where
    by : (b : Bool) → has_few (cond b (record s { asks = asks }) s) ≡ has_few s
    by true = refl
    by false = refl

few_changed : (w : World) (change : Change) → is_no_row change ≡ true → Few w → Few (changed w change)
few_changed w (Offering row) no_row few = few
few_changed w (new_student row) no_row few = absurd (cc)
few_changed w (Requests student asks) no_row few =
    list_all-map has_few (with_asks student asks) w.students
    ∙ all-of (λ s. has_few (with_asks student asks s)) w.students (λ s m. few_with student asks s ∙ all-at has_few w.students few s m)
few_changed w (Reserve r) no_row few = few
few_changed w (Unreserve id) no_row few = few
few_changed w (Expiry id day) no_row few = few
few_changed w (Restrict r) no_row few = few
few_changed w (Unrestrict id) no_row few = few
few_changed w (new_cap cap limit) no_row few = few
few_changed w (Cancelled id) no_row few = few
few_changed w (Day day) no_row few = few
few_changed w (Enrol e) no_row few = few
few_changed w (Leave student course) no_row few = few

seating_no_row : (change : Change) → is_seating change ≡ true → is_no_row change ≡ true
seating_no_row (Offering row) seating = refl
seating_no_row (new_student row) seating = absurd (cc)
seating_no_row (Requests student asks) seating = refl
seating_no_row (Reserve r) seating = refl
seating_no_row (Unreserve id) seating = refl
seating_no_row (Expiry id day) seating = refl
seating_no_row (Restrict r) seating = refl
seating_no_row (Unrestrict id) seating = refl
seating_no_row (new_cap cap limit) seating = refl
seating_no_row (Cancelled id) seating = refl
seating_no_row (Day day) seating = refl
seating_no_row (Enrol e) seating = refl
seating_no_row (Leave student course) seating = refl

-- changes one after another
passes_led : (changes : List Change) (w v : World) → Lead w changes v → Passes w → Passes v
passes_led [] w v led passes = subst Passes (sym led.1) passes
passes_led (change ∷ changes) w v led passes = passes_led changes (changed w change) v led.1 (passes_after w change led.0.fits passes)

few_led : (changes : List Change) (w v : World) → list_all is_no_row changes ≡ true → Lead w changes v → Few w → Few v
few_led [] w v no_rows led few = subst Few (sym led.1) few
few_led (change ∷ changes) w v no_rows led few =
    few_led changes (changed w change) v (both-right (is_no_row change) _ no_rows) led.1 (few_changed w change (both-left (is_no_row change) _ no_rows) few)

seats_no_rows : (changes : List Change) → list_all is_seating changes ≡ true → list_all is_no_row changes ≡ true
seats_no_rows changes all = all-of is_no_row changes (λ change m. seating_no_row change (all-at is_seating changes all change m))

-- the change of another command than one for a student
own_no_row : (own seats : List Change) (change : Option Change) → (own ≡ []) ⊎ (own ≡ option_to_list change) → list_all is_no_row (option_to_list change) ≡ true → list_all is_no_row seats ≡ true
    → list_all is_no_row (own ++ seats) ≡ true
own_no_row own seats change (inl none) no_row rest = subst (λ its. list_all is_no_row (its ++ seats) ≡ true) (sym none) rest
own_no_row own seats None (inr some) no_row rest = subst (λ its. list_all is_no_row (its ++ seats) ≡ true) (sym some) rest
own_no_row own seats (Some change) (inr some) no_row rest =
    subst (λ its. list_all is_no_row (its ++ seats) ≡ true) (sym some) ((λ i. both-left (is_no_row change) true no_row i && list_all is_no_row seats) ∙ rest)

-- what another command than one for a student leads to
other_few : (w v : World) (day : ℕ) (command : Command) → CommandLeads w day command v → ((u : World) → list_all is_no_row (option_to_list (own_change u command)) ≡ true) → Few w → Few v
other_few w v day command led no_row few =
    few_led (Day (max w.day day) ∷ (led.own ++ led.seats)) w v
    (own_no_row led.own led.seats (own_change (put_day w (max w.day day)) command) led.is_own (no_row (put_day w (max w.day day))) (seats_no_rows led.seats led.all)) led.lead few

step_few : (s v : State) (day : ℕ) (caller : Caller) (command : Command) → v ≡ (step s day caller command).state → CommandLeads s.world day command v.world → Few s.world → Few v.world
step_few s v day caller (commands.Student row) is led few = subst (λ (t : State). Few t.world) (sym is) (few_after s day caller row few)
step_few s v day caller (commands.Offering row) is led few = other_few s.world v.world day (commands.Offering row) led (λ w. refl) few
step_few s v day caller (commands.Requests student asks) is led few = other_few s.world v.world day (commands.Requests student asks) led (λ w. refl) few
step_few s v day caller (commands.Reserve row) is led few = other_few s.world v.world day (commands.Reserve row) led (λ w. refl) few
step_few s v day caller (commands.Unreserve id) is led few = other_few s.world v.world day (commands.Unreserve id) led (λ w. refl) few
step_few s v day caller (commands.Expire id expiry) is led few = other_few s.world v.world day (commands.Expire id expiry) led (λ w. refl) few
step_few s v day caller (commands.Restrict row) is led few = other_few s.world v.world day (commands.Restrict row) led (λ w. refl) few
step_few s v day caller (commands.Unrestrict id) is led few = other_few s.world v.world day (commands.Unrestrict id) led (λ w. refl) few
step_few s v day caller (commands.SetLimit cap limit) is led few = other_few s.world v.world day (commands.SetLimit cap limit) led (λ w. refl) few
step_few s v day caller (commands.Cancel id) is led few = other_few s.world v.world day (commands.Cancel id) led (λ w. refl) few
step_few s v day caller (commands.Enrol student want budget) is led few = other_few s.world v.world day (commands.Enrol student want budget) led (λ w. refl) few
step_few s v day caller (commands.Drop student course) is led few = other_few s.world v.world day (commands.Drop student course) led (λ w. refl) few
step_few s v day caller (commands.Swap student give take budget) is led few = other_few s.world v.world day (commands.Swap student give take budget) led (λ w. refl) few
step_few s v day caller (commands.Wait student want give class) is led few = other_few s.world v.world day (commands.Wait student want give class) led (λ w. refl) few
step_few s v day caller (commands.Unwait student ticket) is led few = other_few s.world v.world day (commands.Unwait student ticket) led (λ w. refl) few
step_few s v day caller (commands.Batch students) is led few = other_few s.world v.world day (commands.Batch students) led (λ w. refl) few

step_checked : (s v : State) (day : ℕ) (caller : Caller) (command : Command) → v ≡ (step s day caller command).state → CommandLeads s.world day command v.world → Checked s.world → Checked v.world
step_checked s v day caller command is led checked = record {
  few = step_few s v day caller command is led checked.few;
  rows_pass = passes_led (Day (max s.world.day day) ∷ (led.own ++ led.seats)) s.world v.world led.lead checked.rows_pass;
}

-- what holds at the start of a list, and of each front with one element more, holds of the list
pub along : {X : Type 0} (all : List X) (P : List X → Type 0) → P [] → ((front : List X) (x : X) (rest : List X) → all ≡ front ++ x ∷ rest → P front → P (front ++ x ∷ [])) → P all
along {X = X} all P start each = go [] all refl start
  where
    go : (front rest : List X) → all ≡ front ++ rest → P front → P all
    go front [] is p = subst P (sym (is ∙ append-nil front)) p
    go front (x ∷ rest) is p = go (front ++ x ∷ []) rest (is ∙ sym (append_assoc front (x ∷ []) rest)) (each front x rest is p)

-- the state of a history is checked
pub states_are_checked : StatesAreChecked
states_are_checked entries replay =
    let good = replays-good entries replay in
    along entries (λ front. Checked (state_of front).world) (record { few = refl; rows_pass = refl })
    (λ front e rest is checked. step_checked (state_of front) (state_of (front ++ e ∷ [])) e.day e.id.caller e.command (after-snoc empty_state front e) (good.each front e rest is).led checked)
