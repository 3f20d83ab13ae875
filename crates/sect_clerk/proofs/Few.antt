-- A move whose search is blocked takes few wants.
use Rattle.std.proofs.Common.{◌≡◌, ℕ, ◌≤◌, Bool, true, false, List, [], ◌∷◌, length, refl, subst, ◌∙◌, arith, Option, None, Some}
use Rattle.std.specs.Prelude.{nat_lt, not, ⊤}
use Rattle.std.specs.Bool.{then_some}
use Rattle.std.specs.Option.{option_or}
use Rattle.std.proofs.lemmas.Bool.Decides.{nat_tests}
use Rattle.sect_base.specs.Capped.{capped}
use Rattle.sect_base.specs.Tree.{Tree}
use Rattle.sect_base.specs.declared.choice.Move.{Move}
use Rattle.sect_base.specs.declared.limit.Caller.{Caller}
use Rattle.sect_command.specs.declared.command.Command.{Command}
use Rattle.sect_command.specs.declared.command.Command.TheVariants.{Offering, Student, Requests, Reserve, Unreserve, Expire, Restrict, Unrestrict, SetLimit, Cancel, Enrol, Drop, Swap, Wait, Unwait, Batch}
use Rattle.sect_command.specs.declared.reply.Refusal.{Refusal}
use Rattle.sect_command.specs.declared.reply.Refusal.TheVariants.{NotYours, TooMany}
use Rattle.sect_command.specs.declared.reply.Reply.{Reply}
use Rattle.sect_command.specs.declared.reply.Reply.TheVariants.{Blocked}
use Rattle.sect_model.specs.Refusals.{conditions_of, first_of, is_yours, refusal_of, too_many}
use Rattle.sect_model.specs.Refuted.{move_in}
use Rattle.sect_model.specs.Step.{enrol_move, on_day, step}
use Rattle.sect_model.specs.World.{State}
use Rattle.sect_tell.proofs.Verified.{accepted}

neither : (a b : Option Refusal) → option_or a b ≡ None → (a ≡ None) × (b ≡ None)
neither None b none = (refl, none)
neither (Some refusal) b none = absurd cc

-- none of the refusals is said
abbrev AllNone : List (Option Refusal) → Type 0
AllNone [] = ⊤
AllNone (r ∷ rs) = (r ≡ None) × AllNone rs

each_none : (rs : List (Option Refusal)) → first_of rs ≡ None → AllNone rs
each_none [] none = tt
each_none (r ∷ rs) none = let both = neither r (first_of rs) none in (both.0, each_none rs both.1)

few_by : (n : ℕ) (test : Bool) (refusal : Refusal) → nat_lt 4 n ≡ test → then_some test refusal ≡ None → n ≤ 4
few_by n false refusal is none = grind (arith, nat_tests, is)
few_by n true refusal is none = absurd cc

few : (n : ℕ) → too_many 4 n ≡ None → n ≤ 4
few n none = few_by n (nat_lt 4 n) (TooMany (capped n)) refl none

-- the wants of a move that is this one
as_taken : (a b : Move) → Some a ≡ Some b → length a.take ≤ 4 → length b.take ≤ 4
as_taken a b is few = subst (λ (mv : Move). length mv.take ≤ 4) (let same : a ≡ b = cc in same) few

no_move : (mv : Move) {P : Type 0} → None ≡ Some mv → P
no_move mv is = absurd cc

few_of : (s : State) (command : Command) (mv : Move) → AllNone (conditions_of s command) → move_in command ≡ Some mv → length mv.take ≤ 4
few_of s (Enrol student want budget) mv none is = as_taken (enrol_move student want) mv is (omega arith)
few_of s (Swap student give take budget) mv none is =
    as_taken (record { student = student; give = give; take = take }) mv is (few (length take) none.1.1.1.1.1.0)
few_of s (Offering row) mv none is = no_move mv is
few_of s (Student row) mv none is = no_move mv is
few_of s (Requests student asks) mv none is = no_move mv is
few_of s (Reserve row) mv none is = no_move mv is
few_of s (Unreserve id) mv none is = no_move mv is
few_of s (Expire id expiry) mv none is = no_move mv is
few_of s (Restrict row) mv none is = no_move mv is
few_of s (Unrestrict id) mv none is = no_move mv is
few_of s (SetLimit cap limit) mv none is = no_move mv is
few_of s (Cancel id) mv none is = no_move mv is
few_of s (Drop student course) mv none is = no_move mv is
few_of s (Wait student want give class) mv none is = no_move mv is
few_of s (Unwait student ticket) mv none is = no_move mv is
few_of s (Batch students) mv none is = no_move mv is

-- the move of a command that isn't refused
few_accepted : (s : State) (caller : Caller) (command : Command) (mv : Move) → refusal_of s caller command ≡ None → move_in command ≡ Some mv → length mv.take ≤ 4
unfolding refusal_of
few_accepted s caller command mv none is =
    few_of s command mv (each_none (conditions_of s command) (neither (then_some (not (is_yours caller command)) NotYours) (first_of (conditions_of s command)) none).1) is

-- the move of a command that a step blocks
pub few_blocked : (s : State) (day : ℕ) (caller : Caller) (command : Command) (reply : Reply) (visits : ℕ) (tree : Tree) (mv : Move)
    → (step s day caller command).reply ≡ reply → reply ≡ Blocked visits tree → move_in command ≡ Some mv → length mv.take ≤ 4
few_blocked s day caller command reply visits tree mv replied blocks is =
    few_accepted (on_day s day) caller command mv (accepted s day caller command visits tree (replied ∙ blocks)) is
