-- What isn't done changes nothing but the day and what settling places, and a swap is made whole.
use Rattle.std.specs.Prelude.{◌≡◌, ℕ, List, [], ◌∷◌, Option, Some, None, refl}
use Rattle.std.specs.Option.{option_map_or}
use Rattle.std.proofs.Common.{ap}
use Rattle.sect_command.specs.declared.command.Command.{Command}
use Rattle.sect_command.specs.declared.command.Command.TheVariants.{Offering, Student as student_row, Requests, Reserve, Unreserve, Expire, Restrict, Unrestrict, SetLimit, Cancel, Enrol, Drop, Swap, Wait, Unwait, Batch}
use Rattle.sect_command.specs.declared.reply.Refusal.{Refusal}
use Rattle.sect_command.specs.declared.reply.Reply.{Reply}
use Rattle.sect_command.specs.declared.reply.Reply.TheVariants.{Swapped, Waiting, Placed as placed_reply, Blocked, Spent, Refused}
use Rattle.sect_model.specs.Data.{Caller, StudentId, CourseId, Want, Choice, Move}
use Rattle.sect_model.specs.declared.held.Placed.{Placed}
use Rattle.sect_model.specs.declared.pick.Outcome.{Outcome}
use Rattle.sect_model.specs.declared.pick.Outcome.TheVariants.{Found, Blocked as blocked, Spent as spent}
use Rattle.sect_model.specs.World.{State}
use Rattle.sect_model.specs.Outcome.{outcome_of}
use Rattle.sect_model.specs.Settle.{Settled, settle, make_move}
use Rattle.sect_model.specs.Refusals.{refusal_of}
use Rattle.sect_model.specs.Step.{act, enrol_move, enrolled, in_world, moved, on_day, refused_or, reply_after, settled_after, step}
use Rattle.sect_machine.specs.NotDone.{IsNotDone}

enrolled-done : (choices : List Choice) (x : Settled) → IsNotDone (reply_after (enrolled choices) x) → ⊥
enrolled-done [] x h = h
enrolled-done (c ∷ cs) x h = h

found-done : (ticket : ℕ) (o : Option Placed) → IsNotDone (option_map_or (λ p. placed_reply ticket p.choice) o (Waiting ticket)) → ⊥
found-done ticket None h = h
found-done ticket (Some p) h = h

waiting-done : (ticket : ℕ) (x : Settled) → IsNotDone (reply_after (Waiting ticket) x) → ⊥
waiting-done ticket x h = found-done ticket _ h

by-outcome : (t : State) (mv : Move) (reply : List Choice → Reply) (o : Outcome) → ((choices : List Choice) (x : Settled) → IsNotDone (reply_after (reply choices) x) → ⊥)
    → IsNotDone (settled_after (moved t mv reply o)).reply → (settled_after (moved t mv reply o)).state ≡ (settle t).state
by-outcome t mv reply (Found choices visits) never h = absurd (never choices (settle (moved t mv reply (Found choices visits)).state) h)
by-outcome t mv reply (blocked tree visits) never h = refl
by-outcome t mv reply (spent budget) never h = refl

by-command : (t : State) (command : Command) → IsNotDone (settled_after (act t command)).reply → (settled_after (act t command)).state ≡ (settle t).state
by-command t (Offering row) h = absurd h
by-command t (student_row row) h = absurd h
by-command t (Requests student asks) h = absurd h
by-command t (Reserve row) h = absurd h
by-command t (Unreserve id) h = absurd h
by-command t (Expire id expiry) h = absurd h
by-command t (Restrict row) h = absurd h
by-command t (Unrestrict id) h = absurd h
by-command t (SetLimit cap limit) h = absurd h
by-command t (Cancel id) h = absurd h
by-command t (Enrol student want budget) h = by-outcome t (enrol_move student want) enrolled (outcome_of t.world (enrol_move student want) budget) enrolled-done h
by-command t (Drop student course) h = absurd h
by-command t (Swap student give take budget) h =
    let mv : Move = record { student = student; give = give; take = take } in
    by-outcome t mv Swapped (outcome_of t.world mv budget) (λ choices x n. n) h
by-command t (Wait student want give class) h = absurd (waiting-done t.next (settle (act t (Wait student want give class)).state) h)
by-command t (Unwait student ticket) h = absurd h
by-command t (Batch students) h = absurd h

by-refusal : (t : State) (command : Command) (o : Option Refusal) → IsNotDone (settled_after (refused_or t (λ u. act u command) o)).reply
    → (settled_after (refused_or t (λ u. act u command) o)).state ≡ (settle t).state
by-refusal t command (Some refusal) h = refl
by-refusal t command None h = by-command t command h

-- what isn't done changes the day, and what settling places
pub not-done : (s : State) (day : ℕ) (caller : Caller) (command : Command) → IsNotDone (step s day caller command).reply → (step s day caller command).state ≡ (settle (on_day s day)).state
unfolding step
not-done s day caller command h = by-refusal (on_day s day) command (refusal_of (on_day s day) caller command) h

-- ---- a swap

swapped-whole : (t : State) (mv : Move) (o : Outcome) (choices : List Choice) → (settled_after (moved t mv Swapped o)).reply ≡ Swapped choices
    → (settled_after (moved t mv Swapped o)).state ≡ (settle (in_world t (make_move t.world mv choices))).state
swapped-whole t mv (Found found visits) choices h =
    let said : Swapped found ≡ Swapped choices = h in
    let same : found ≡ choices = cc in
    ap (λ cs. (settle (in_world t (make_move t.world mv cs))).state) same
swapped-whole t mv (blocked tree visits) choices h = let said : Blocked visits tree ≡ Swapped choices = h in cc
swapped-whole t mv (spent budget) choices h = let said : Spent budget ≡ Swapped choices = h in cc

swap-or-refusal : (t : State) (student : StudentId) (give : List CourseId) (take : List Want) (budget : ℕ) (choices : List Choice) (o : Option Refusal)
    → (settled_after (refused_or t (λ u. act u (Swap student give take budget)) o)).reply ≡ Swapped choices
    → (settled_after (refused_or t (λ u. act u (Swap student give take budget)) o)).state
    ≡ (settle (in_world t (make_move t.world (record { student = student; give = give; take = take }) choices))).state
swap-or-refusal t student give take budget choices (Some refusal) h = let said : Refused refusal ≡ Swapped choices = h in cc
swap-or-refusal t student give take budget choices None h =
    let mv : Move = record { student = student; give = give; take = take } in
    swapped-whole t mv (outcome_of t.world mv budget) choices h

-- a swap that is made gives up and takes all of it
pub swap-whole : (s : State) (day : ℕ) (caller : Caller) (student : StudentId) (give : List CourseId) (take : List Want) (budget : ℕ) (choices : List Choice)
    → (step s day caller (Swap student give take budget)).reply ≡ Swapped choices
    → (step s day caller (Swap student give take budget)).state
    ≡ (settle (in_world (on_day s day) (make_move (on_day s day).world (record { student = student; give = give; take = take }) choices))).state
unfolding step
swap-whole s day caller student give take budget choices h =
    swap-or-refusal (on_day s day) student give take budget choices (refusal_of (on_day s day) caller (Swap student give take budget)) h
