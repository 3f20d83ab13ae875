-- A step, from its parts.
use Rattle.std.specs.Prelude.{◌≡◌, ℕ, List, Option, Some, None, Result, Ok, Err, IfOk, IsTrue, OnErr, refl}
use Rattle.std.proofs.Common.{sym, ◌∙◌, ap, subst}
use Rattle.std.specs.Option.{is_some}
use Rattle.sect_base.specs.Tree.{Tree}
use Rattle.sect_command.specs.declared.command.Command.{Command}
use Rattle.sect_command.specs.declared.command.Command.TheVariants.{Offering, Student as student_row, Requests, Reserve, Unreserve, Expire, Restrict, Unrestrict, SetLimit, Cancel, Enrol, Drop, Swap, Wait, Unwait, Batch}
use Rattle.sect_command.specs.declared.reply.Refusal.{Refusal}
use Rattle.sect_command.specs.declared.reply.Reply.{Reply}
use Rattle.sect_command.specs.declared.reply.Reply.TheVariants.{Blocked, Refused}
use Rattle.sect_model.specs.Data.{Caller, Move}
use Rattle.sect_command.specs.declared.view.Query.{Query}
use Rattle.sect_command.specs.declared.view.View.{View}
use Rattle.sect_model.specs.declared.held.Placed.{Placed}
use Rattle.sect_model.specs.declared.held.Waiting.{Waiting}
use Rattle.sect_model.specs.Look.{look}
use Rattle.sect_model.specs.World.{World, State}
use Rattle.sect_model.specs.Accepted.{CommandFits}
use Rattle.sect_model.specs.Premises.{MoveFits}
use Rattle.sect_model.specs.Refuted.{move_in}
use Rattle.sect_model.specs.Kept.{KeptState}
use Rattle.sect_model.specs.Settle.{settle}
use Rattle.sect_model.specs.Refusals.{refusal_of}
use Rattle.sect_model.specs.Step.{Acted, act, answered, enrol_move, on_day, refused_or, reply_after, settled_after, step}
use Rattle.sect_model.proofs.Accepted.{accepted-fits}
use Rattle.sect_model.proofs.RefutedLemmas.{step-refutes}
use Rattle.sect_model.proofs.StepLemmas.{answered-keeps, day-state, step-keeps, step-settles}
use Rattle.sect_wait.specs.Queued.{Queued, state_of}
use Rattle.sect_machine.specs.declared.told.ToldStep.{ToldStep}
use Rattle.sect_machine.specs.Settling.{placements}
use Rattle.sect_machine.specs.Standing.{IsResting}

-- a refused command
pub refused-is : (s : State) (caller : Caller) (command : Command) (refusal : Refusal) → refusal_of s caller command ≡ Some refusal → answered s caller command ≡ record { state = s; reply = Refused refusal }
refused-is s caller command refusal e = ap (refused_or s (λ t. act t command)) e

-- a command that isn't refused
pub accepted-is : (s : State) (caller : Caller) (command : Command) → refusal_of s caller command ≡ None → answered s caller command ≡ act s command
accepted-is s caller command e = ap (refused_or s (λ t. act t command)) e

-- those who wait fit the world, whatever was answered
pub answered-kept : (s t u : State) (day : ℕ) (caller : Caller) (command : Command) (reply : Reply) → KeptState s → t ≡ on_day s day → answered t caller command ≡ record { state = u; reply = reply } → KeptState u
answered-kept s t u day caller command reply k on is =
    subst KeptState (ap (λ (a : Acted). a.state) is) (answered-keeps t caller command (subst KeptState (sym on) (day-state s day k)))

-- the day, the answer, and settling
pub stepped-is : {E X : Type 0} (s t u v : State) (day : ℕ) (caller : Caller) (command : Command) (reply : Reply) (r : Result (Reply × X) E) → t ≡ on_day s day → answered t caller command ≡ record { state = u; reply = reply }
    → IfOk r (λ told. settled_after (record { state = u; reply = reply }) ≡ record { state = v; reply = told.0 }) → IfOk r (λ told. step s day caller command ≡ record { state = v; reply = told.0 })
unfolding step
stepped-is s t u v day caller command reply (Ok told) on is settled = ap (λ x. settled_after (answered x caller command)) (sym on) ∙ ap settled_after is ∙ settled
stepped-is s t u v day caller command reply (Err e) on is settled = tt

-- whom settling places behind the answer
pub placed-is : {E X : Type 0} (s t u : State) (day : ℕ) (caller : Caller) (command : Command) (reply : Reply) (r : Result (X × List Placed) E) → t ≡ on_day s day → answered t caller command ≡ record { state = u; reply = reply }
    → IfOk r (λ told. told.1 ≡ (settle u).placed) → IfOk r (λ told. told.1 ≡ placements s day caller command)
unfolding placements
placed-is s t u day caller command reply (Ok told) on is placed =
    placed ∙ sym (ap (λ x. (settle (answered x caller command).state).placed) (sym on) ∙ ap (λ (a : Acted). (settle a.state).placed) is)
placed-is s t u day caller command reply (Err e) on is placed = tt

-- settling, with the reply that it leaves
pub settled-is : (u v : State) (reply told : Reply) (placed : List Placed) → settle u ≡ record { state = v; placed = placed } → ((x : State) → told ≡ reply_after reply (record { state = x; placed = placed }))
    → settled_after (record { state = u; reply = reply }) ≡ record { state = v; reply = told }
settled-is u v reply told placed is last = ap (λ r. record { state = r.state; reply = reply_after reply r }) is ∙ ap (λ x. record { state = v; reply = x }) (sym (last v))

-- ---- what a step leaves

-- a step ends with those who wait fitting the world, and none of them to be placed
rests : (s u : State) (day : ℕ) (caller : Caller) (command : Command) (reply : Reply) → KeptState s → step s day caller command ≡ record { state = u; reply = reply } → IsResting u
rests s u day caller command reply k is = subst IsResting (ap (λ (a : Acted). a.state) is) (record {
  entries_fit = (step-keeps s day caller command k).entries_fit;
  settled = step-settles s day caller command;
})

pub rests-after : {E : Type 0} (w v : World) (q p : Queued) (day : ℕ) (caller : Caller) (command : Command) (r : Result ToldStep E) → KeptState (state_of w q) → IsResting (state_of w q)
    → IfOk r (λ x. step (state_of w q) day caller command ≡ record { state = state_of v p; reply = x.reply }) → OnErr r (v ≡ w) → OnErr r (p ≡ q) → IsResting (state_of v p)
rests-after w v q p day caller command (Ok x) k resting is world queue = rests (state_of w q) (state_of v p) day caller command x.reply k is
rests-after w v q p day caller command (Err e) k resting is world queue = subst IsResting (λ i. state_of (sym world i) (sym queue i)) resting

pub state-after : {E : Type 0} {X : Type 0} (s u : State) (day : ℕ) (caller : Caller) (command : Command) (r : Result (Reply × X) E) → IfOk r (λ x. step s day caller command ≡ record { state = u; reply = x.0 })
    → IfOk r (λ x. u ≡ (step s day caller command).state)
state-after s u day caller command (Ok x) is = sym (ap (λ (a : Acted). a.state) is)
state-after s u day caller command (Err e) is = tt

pub reply-after : {E : Type 0} {X : Type 0} (s u : State) (day : ℕ) (caller : Caller) (command : Command) (r : Result (Reply × X) E) → IfOk r (λ x. step s day caller command ≡ record { state = u; reply = x.0 })
    → IfOk r (λ x. x.0 ≡ (step s day caller command).reply)
reply-after s u day caller command (Ok x) is = sym (ap (λ (a : Acted). a.reply) is)
reply-after s u day caller command (Err e) is = tt

pub same-after : {X E : Type 0} (w v : World) (q p : Queued) (r : Result X E) → OnErr r (v ≡ w) → OnErr r (p ≡ q) → OnErr r (state_of v p ≡ state_of w q)
same-after w v q p (Ok x) world queue = tt
same-after w v q p (Err e) world queue = λ i. state_of (world i) (queue i)

-- ---- the move of a command

same_some : {X : Type 0} (x y : X) → ◌≡◌ {A = Option X} (Some x) (Some y) → x ≡ y
same_some x y e = cc

-- the move of a command that fits
pub command-move : (w : World) (command : Command) (mv : Move) → CommandFits w command → move_in command ≡ Some mv → MoveFits w mv
command-move w (Enrol student want budget) mv fits is = subst (MoveFits w) (same_some (enrol_move student want) mv is) fits
command-move w (Swap student give take budget) mv fits is = subst (MoveFits w) (same_some (record { student = student; give = give; take = take }) mv is) fits
command-move w (Offering row) mv fits is = cc
command-move w (student_row row) mv fits is = cc
command-move w (Requests student asks) mv fits is = cc
command-move w (Reserve row) mv fits is = cc
command-move w (Unreserve id) mv fits is = cc
command-move w (Expire id expiry) mv fits is = cc
command-move w (Restrict row) mv fits is = cc
command-move w (Unrestrict id) mv fits is = cc
command-move w (SetLimit cap limit) mv fits is = cc
command-move w (Cancel id) mv fits is = cc
command-move w (Drop student course) mv fits is = cc
command-move w (Wait student want give class) mv fits is = cc
command-move w (Unwait student ticket) mv fits is = cc
command-move w (Batch students) mv fits is = cc

-- the move of a command that isn't refused on a day
pub accepted-move : (s : State) (day : ℕ) (caller : Caller) (command : Command) (mv : Move) → KeptState s → refusal_of (on_day s day) caller command ≡ None → move_in command ≡ Some mv
    → MoveFits (on_day s day).world mv
accepted-move s day caller command mv k accepted is = command-move (on_day s day).world command mv (accepted-fits (on_day s day) caller command (day-state s day k).world accepted) is

-- ---- a blocked command

-- a refused command isn't blocked
refused-replies : (t : State) (caller : Caller) (command : Command) (visits : ℕ) (tree : Tree) (o : Option Refusal)
    → (settled_after (refused_or t (λ u. act u command) o)).reply ≡ Blocked visits tree → o ≡ None
refused-replies t caller command visits tree None h = refl
refused-replies t caller command visits tree (Some refusal) h =
    let is : Refused refusal ≡ Blocked visits tree = h in cc

pub blocked-accepted : (s : State) (day : ℕ) (caller : Caller) (command : Command) (visits : ℕ) (tree : Tree) → (step s day caller command).reply ≡ Blocked visits tree → refusal_of (on_day s day) caller command ≡ None
unfolding step
blocked-accepted s day caller command visits tree h = refused-replies (on_day s day) caller command visits tree (refusal_of (on_day s day) caller command) h

pub blocked-searches : (s : State) (day : ℕ) (caller : Caller) (command : Command) (visits : ℕ) (tree : Tree) → KeptState s → (step s day caller command).reply ≡ Blocked visits tree → IsTrue (is_some (move_in command))
blocked-searches s day caller command visits tree kept h = let refuted = step-refutes s day caller command visits tree kept h in ap is_some refuted.1

-- ---- a query

-- a view of the world and those who wait is one of the state
pub looks : {E : Type 0} (w : World) (q : Queued) (entries : List Waiting) (query : Query) (r : Result View E) → entries ≡ q.entries
    → IfOk r (λ v. (next : ℕ) → v ≡ look (record { world = w; entries = entries; next = next }) query) → IfOk r (λ v. v ≡ look (state_of w q) query)
looks w q entries query (Ok v) same is = is q.next ∙ ap (λ es. look (record { world = w; entries = es; next = q.next }) query) same
looks w q entries query (Err e) same is = tt
