-- Each reply that blocks is verified at its place.
use Rattle.std.proofs.Common.{◌≡◌, ◌⊎◌, inl, inr, ℕ, zero, suc, ◌+◌, ◌≤◌, Bool, true, false, List, [], ◌∷◌, ◌++◌, length, length-take, take, slice_get, refl, sym, ap, ◌∙◌, subst, arith, Option, Some, None}
use Rattle.std.specs.Prelude.{IsTrue, IfOk, Result, Ok, Err}
use Rattle.std.specs.Option.{is_some, option_map_or}
use Rattle.sect_base.specs.Tree.{Tree}
use Rattle.sect_base.specs.declared.limit.Caller.{Caller}
use Rattle.sect_base.specs.declared.choice.Move.{Move}
use Rattle.sect_command.specs.declared.command.Command.{Command}
use Rattle.sect_command.specs.declared.reply.Refusal.{Refusal}
use Rattle.sect_command.specs.declared.reply.Reply.{Reply}
use Rattle.sect_command.specs.declared.reply.Reply.TheVariants.{Amended, Enrolled, Dropped, Swapped, Waiting, Placed, Batched, Blocked, Spent, Refused}
use Rattle.sect_model.specs.Covers.{covers}
use Rattle.sect_model.specs.Kept.{KeptState}
use Rattle.sect_model.specs.Laws.{StepKeeps, StepRefutes}
use Rattle.sect_model.specs.Refusals.{refusal_of}
use Rattle.sect_model.specs.Refuted.{move_in}
use Rattle.sect_model.specs.Step.{Acted, act, on_day, refused_or, settled_after, step}
use Rattle.sect_model.specs.World.{State, empty_state}
use Rattle.sect_once.specs.declared.entry.Entry.{Entry}
use Rattle.sect_once.specs.History.{IsReplay, history, state_after}
use Rattle.sect_tell.specs.Audit.{Audits, IsAuditLine, blocked, blocked_tree, is_blocked, is_verified, one_if, refutes, verified_from}
use Rattle.sect_history.proofs.Histories.{after-snoc}
use Rattle.sect_history.specs.Step.{state_of, stepped}
use Rattle.sect_history.specs.Laws.{ReplaysAreGood}
use Rattle.sect_wire.specs.Laws.{IsRow}
use Rattle.sect_script.specs.declared.status.Status.{Status}
use Rattle.sect_asking.specs.Desk.{StaysShut}
use Rattle.sect_tell.specs.Told.{TellsHistory}

-- ---- lists

module _ {A : Type 0} where
  take-suc : (xs : List A) (at : ℕ) (x : A) → slice_get xs at ≡ Some x → take (suc at) xs ≡ take at xs ++ x ∷ []
  take-suc [] at x h = absurd cc
  take-suc (y ∷ xs) zero x h = let e : y ≡ x = cc in ap (λ (z : A). z ∷ []) e
  take-suc (y ∷ xs) (suc at) x h = ap (λ (zs : List A). y ∷ zs) (take-suc xs at x h)

  pub take-snoc : (xs : List A) (at : ℕ) (x : A) → slice_get xs at ≡ Some x → take (at + 1) xs ≡ take at xs ++ x ∷ []
  take-snoc xs at x h = let e : at + 1 ≡ suc at = omega arith in ap (λ (n : ℕ). take n xs) e ∙ take-suc xs at x h

-- ---- a step that blocks

-- a command whose reply blocks isn't refused
accepted_by : (s : State) (act_on : State → Acted) (refusal : Option Refusal) (visits : ℕ) (tree : Tree)
    → (settled_after (refused_or s act_on refusal)).reply ≡ Blocked visits tree → refusal ≡ None
accepted_by s act_on None visits tree is = refl
accepted_by s act_on (Some refusal) visits tree is = absurd cc

pub accepted : (s : State) (day : ℕ) (caller : Caller) (command : Command) (visits : ℕ) (tree : Tree)
    → (step s day caller command).reply ≡ Blocked visits tree → refusal_of (on_day s day) caller command ≡ None
unfolding step
accepted s day caller command visits tree is = accepted_by (on_day s day) (λ t. act t command) (refusal_of (on_day s day) caller command) visits tree is

-- a test of the tree for the command's move tells whether the entry is verified
pub verified_by : (s : State) (e : Entry Command Reply) (visits : ℕ) (tree : Tree) (found : Bool) (mv : Move) → e.reply ≡ Blocked visits tree
    → move_in e.command ≡ Some mv → found ≡ covers (on_day s e.day).world mv tree → found ≡ is_verified s e
verified_by s e visits tree found mv blocks moves tests =
    tests
    ∙ sym (ap (λ (o : Option Move). option_map_or (λ (m : Move). covers (on_day s e.day).world m tree) o false) moves)
    ∙ sym (ap (λ (r : Reply). option_map_or (refutes s e.day e.command) (blocked_tree r) false) blocks)

-- what a step blocks is verified
verified_at : StepRefutes → (s : State) (e : Entry Command Reply) (visits : ℕ) (tree : Tree) → KeptState s → e.reply ≡ Blocked visits tree
    → (step s e.day e.id.caller e.command).reply ≡ e.reply → is_verified s e ≡ true
verified_at law s e visits tree kept blocks replied =
    let r = law s e.day e.id.caller e.command visits tree kept (replied ∙ blocks) in
    sym (verified_by s e visits tree true r.0 blocks r.1 (sym r.2.0))

-- the command of an entry that blocks searches
pub searches : StepRefutes → (s : State) (e : Entry Command Reply) (visits : ℕ) (tree : Tree) → KeptState s → e.reply ≡ Blocked visits tree
    → (step s e.day e.id.caller e.command).reply ≡ e.reply → IsTrue (is_some (move_in e.command))
searches law s e visits tree kept blocks replied = ap is_some (law s e.day e.id.caller e.command visits tree kept (replied ∙ blocks)).1

-- a test of the tree for each move that the command has tells whether the entry is verified
pub tested : StepRefutes → (s : State) (e : Entry Command Reply) (visits : ℕ) (tree : Tree) (found : Bool) → KeptState s → e.reply ≡ Blocked visits tree
    → (step s e.day e.id.caller e.command).reply ≡ e.reply
    → ((mv : Move) → move_in e.command ≡ Some mv → found ≡ covers (on_day s e.day).world mv tree) → found ≡ is_verified s e
tested law s e visits tree found kept blocks replied tests =
    let r = law s e.day e.id.caller e.command visits tree kept (replied ∙ blocks) in
    verified_by s e visits tree found r.0 blocks r.1 (tests r.0 r.1)

pub tested_ok : {E : Type 0} → StepRefutes → (s : State) (e : Entry Command Reply) (visits : ℕ) (tree : Tree) (found : Result Bool E) → KeptState s
    → e.reply ≡ Blocked visits tree → (step s e.day e.id.caller e.command).reply ≡ e.reply
    → IfOk found (λ (holds : Bool). (mv : Move) → move_in e.command ≡ Some mv → holds ≡ covers (on_day s e.day).world mv tree)
    → IfOk found (λ (holds : Bool). holds ≡ is_verified s e)
tested_ok law s e visits tree (Ok holds) kept blocks replied tests = tested law s e visits tree holds kept blocks replied tests
tested_ok law s e visits tree (Err memory) kept blocks replied tests = tests

same_test : StepRefutes → (s : State) (e : Entry Command Reply) (reply : Reply) → KeptState s → e.reply ≡ reply
    → (step s e.day e.id.caller e.command).reply ≡ e.reply
    → option_map_or (refutes s e.day e.command) (blocked_tree reply) false ≡ is_some (blocked_tree reply)
same_test law s e Amended kept is replied = refl
same_test law s e (Enrolled choice) kept is replied = refl
same_test law s e (Dropped course) kept is replied = refl
same_test law s e (Swapped choices) kept is replied = refl
same_test law s e (Waiting ticket) kept is replied = refl
same_test law s e (Placed ticket choice) kept is replied = refl
same_test law s e (Batched lines) kept is replied = refl
same_test law s e (Blocked visits tree) kept is replied =
    sym (ap (λ (r : Reply). option_map_or (refutes s e.day e.command) (blocked_tree r) false) is) ∙ verified_at law s e visits tree kept is replied
same_test law s e (Spent budget) kept is replied = refl
same_test law s e (Refused refusal) kept is replied = refl

-- of a legal history each reply that blocks is verified
pub all_verified : StepKeeps → StepRefutes → (s : State) (es : List (Entry Command Reply)) → KeptState s → IsReplay stepped s es → verified_from s es ≡ blocked es
all_verified keeps law s [] kept replay = refl
all_verified keeps law s (e ∷ es) kept replay =
    let here : one_if (is_verified s e) ≡ one_if (is_blocked e) = ap one_if (same_test law s e e.reply kept refl replay.0) in
    let rest : verified_from (stepped s e.day e.id.caller e.command).0 es ≡ blocked es =
    all_verified keeps law (stepped s e.day e.id.caller e.command).0 es (keeps s e.day e.id.caller e.command kept) replay.1 in
    λ i. here i + rest i

-- ---- one entry more

pub blocked-snoc : (es : List (Entry Command Reply)) (e : Entry Command Reply) → blocked (es ++ e ∷ []) ≡ blocked es + one_if (is_blocked e)
blocked-snoc [] e = omega arith
blocked-snoc (x ∷ es) e = omega (arith, blocked-snoc es e)

pub verified-snoc : (s : State) (es : List (Entry Command Reply)) (e : Entry Command Reply)
    → verified_from s (es ++ e ∷ []) ≡ verified_from s es + one_if (is_verified (state_after stepped s es) e)
verified-snoc s [] e = omega arith
verified-snoc s (x ∷ es) e = omega (arith, verified-snoc (stepped s x.day x.id.caller x.command).0 es e)

pub replied_at : (s : State) (es : List (Entry Command Reply)) (at : ℕ) (e : Entry Command Reply) → IsReplay stepped s es → slice_get es at ≡ Some e
    → (stepped (state_after stepped s (take at es)) e.day e.id.caller e.command).1 ≡ e.reply
replied_at s [] at e replay is = absurd cc
replied_at s (x ∷ es) zero e replay is = let same : x ≡ e = cc in subst (λ (y : Entry Command Reply). (stepped s y.day y.id.caller y.command).1 ≡ y.reply) same replay.0
replied_at s (x ∷ es) (suc at) e replay is = replied_at (stepped s x.day x.id.caller x.command).0 es at e replay.1 is

one_at_most : (b : Bool) → one_if b ≤ 1
one_at_most true = omega arith
one_at_most false = omega arith

pub blocked_at_most : (es : List (Entry Command Reply)) → blocked es ≤ length es
blocked_at_most [] = omega arith
blocked_at_most (e ∷ es) = omega (arith, blocked_at_most es, one_at_most (is_blocked e))

pub verified_at_most : (s : State) (es : List (Entry Command Reply)) → verified_from s es ≤ length es
verified_at_most s [] = omega arith
verified_at_most s (e ∷ es) = omega (arith, verified_at_most (stepped s e.day e.id.caller e.command).0 es, one_at_most (is_verified s e))

-- ---- one turn of the loop

pub replied_in : (s : State) (es : List (Entry Command Reply)) (at : ℕ) (e : Entry Command Reply) → s ≡ state_of (take at es) → IsReplay stepped empty_state es
    → slice_get es at ≡ Some e → (step s e.day e.id.caller e.command).reply ≡ e.reply
replied_in s es at e same replay here =
    subst (λ (t : State). (stepped t e.day e.id.caller e.command).1 ≡ e.reply) (sym same) (replied_at empty_state es at e replay here)

pub acted_more : (es : List (Entry Command Reply)) (at : ℕ) (e : Entry Command Reply) (s now after : State) → s ≡ state_of (take at es) → now ≡ s
    → after ≡ (stepped now e.day e.id.caller e.command).0 → slice_get es at ≡ Some e → after ≡ state_of (take (at + 1) es)
acted_more es at e s now after first same acts here =
    acts
    ∙ ap (λ (t : State). (stepped t e.day e.id.caller e.command).0) (same ∙ first)
    ∙ sym (after-snoc empty_state (take at es) e)
    ∙ sym (ap (λ (l : List (Entry Command Reply)). state_of l) (take-snoc es at e here))

pub blocked_more : (es : List (Entry Command Reply)) (at : ℕ) (e : Entry Command Reply) (count next : ℕ) (found : Bool) → count ≡ blocked (take at es)
    → next ≡ count + one_if found → found ≡ is_blocked e → slice_get es at ≡ Some e → next ≡ blocked (take (at + 1) es)
blocked_more es at e count next found first more is here =
    more
    ∙ (λ i. first i + one_if (is i))
    ∙ sym (blocked-snoc (take at es) e)
    ∙ sym (ap (λ (l : List (Entry Command Reply)). blocked l) (take-snoc es at e here))

pub verified_more : (es : List (Entry Command Reply)) (at : ℕ) (e : Entry Command Reply) (s : State) (count next : ℕ) (found : Bool) → s ≡ state_of (take at es)
    → count ≡ verified_from empty_state (take at es) → next ≡ count + one_if found → found ≡ is_verified s e → slice_get es at ≡ Some e
    → next ≡ verified_from empty_state (take (at + 1) es)
verified_more es at e s count next found state first more is here =
    more
    ∙ (λ i. first i + one_if ((is ∙ ap (λ (t : State). is_verified t e) state) i))
    ∙ sym (verified-snoc empty_state (take at es) e)
    ∙ sym (ap (λ (l : List (Entry Command Reply)). verified_from empty_state l) (take-snoc es at e here))

pub few_blocked : (es : List (Entry Command Reply)) (at : ℕ) → blocked (take at es) ≤ at
few_blocked es at = omega (arith, blocked_at_most (take at es), length-take at es)

pub few_verified : (es : List (Entry Command Reply)) (at : ℕ) → verified_from empty_state (take at es) ≤ at
few_verified es at = omega (arith, verified_at_most empty_state (take at es), length-take at es)

-- ---- the whole

-- of the history that is told of each reply that blocks is verified, and it is good throughout
pub audits_or_shut : {K : Type 0} (rows : K → Option (List (List ℕ))) (faults : K → ℕ) → ReplaysAreGood → StepKeeps → StepRefutes → KeptState empty_state
    → (keeper back : K) (left taken taken' : Option (List ℕ)) (status : Status)
    → TellsHistory rows faults IsAuditLine keeper back taken taken' status ⊎ StaysShut empty_state stepped IsRow rows faults keeper back left left taken taken' status
    → Audits rows faults keeper back taken taken' status ⊎ StaysShut empty_state stepped IsRow rows faults keeper back left left taken taken' status
audits_or_shut rows faults good keeps law start keeper back left taken taken' status (inl told) = inl (record {
  told = told;
  good = good (history told.opened.log) told.opens.sound.legal.replies;
  all_verified = all_verified keeps law empty_state (history told.opened.log) start told.opens.sound.legal.replies;
})
audits_or_shut rows faults good keeps law start keeper back left taken taken' status (inr shut) = inr shut
