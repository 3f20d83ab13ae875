-- The log of one entry more.
use Rattle.std.proofs.Common.{◌≡◌, ℕ, suc, zero, ◌+◌, List, [], ◌∷◌, ◌++◌, length, take, slice_get, refl, sym, ap, ◌∙◌, append_assoc, append-nil, arith}
use Rattle.std.specs.Prelude.{flat_map, Option, Some}
use Rattle.std.proofs.lemmas.List.Concat.{flat_map-append}
use Rattle.sect_command.specs.declared.command.Command.{Command}
use Rattle.sect_command.specs.declared.reply.Reply.{Reply}
use Rattle.sect_model.specs.World.{State, empty_state}
use Rattle.sect_once.specs.declared.entry.Entry.{Entry}
use Rattle.sect_once.specs.History.{state_after}
use Rattle.sect_history.specs.Step.{state_of, stepped}
use Rattle.sect_tell.proofs.Verified.{take-snoc}
use Rattle.sect_clerk.specs.declared.log.Log.{Log}
use Rattle.sect_clerk.specs.Log.{Logged, log_text, logged, logged_at, logged_from, told_text}

logged-snoc : (s : State) (place : ℕ) (es : List (Entry Command Reply)) (e : Entry Command Reply)
    → logged_from s place (es ++ e ∷ []) ≡ logged_from s place es ++ logged_at (state_after stepped s es) (place + length es) e ∷ []
logged-snoc s place [] e = ap (λ (n : ℕ). logged_at s n e ∷ []) {x = place} {y = place + 0} (omega arith)
logged-snoc s place (x ∷ es) e =
    let next : State = (stepped s x.day x.id.caller x.command).0 in
    ap (λ (ls : List Logged). logged_at s place x ∷ ls)
    (logged-snoc next (place + 1) es e
    ∙ ap (λ (n : ℕ). logged_from next (place + 1) es ++ logged_at (state_after stepped next es) n e ∷ []) {x = place + 1 + length es} {y = place + length (x ∷ es)} (omega arith))

taken_length : (es : List (Entry Command Reply)) (at : ℕ) (e : Entry Command Reply) → slice_get es at ≡ Some e → 0 + length (take at es) ≡ at
taken_length [] at e here = absurd cc
taken_length (x ∷ es) zero e here = omega arith
taken_length (x ∷ es) (suc at) e here = omega (arith, taken_length es at e here)

log-snoc : (log : Log) (es : List (Entry Command Reply)) (at : ℕ) (e : Entry Command Reply) (s : State) → s ≡ state_of (take at es) → slice_get es at ≡ Some e
    → log_text log (take (at + 1) es) ≡ log_text log (take at es) ++ told_text log (logged_at s at e)
log-snoc log es at e s state here =
    let front : List (Entry Command Reply) = take at es in
    let last : Logged = logged_at (state_of front) (0 + length front) e in
    ap (λ (l : List (Entry Command Reply)). log_text log l) (take-snoc es at e here)
    ∙ ap (λ (ls : List Logged). flat_map (told_text log) ls) (logged-snoc empty_state 0 front e)
    ∙ flat_map-append (told_text log) (logged front) (last ∷ [])
    ∙ ap (λ (t : List ℕ). log_text log front ++ t) (append-nil (told_text log last)
    ∙ ap (λ (n : ℕ). told_text log (logged_at (state_of front) n e)) (taken_length es at e here)
    ∙ ap (λ (t : State). told_text log (logged_at t at e)) (sym state))

-- one turn of the loop
pub told_more : (log : Log) (es : List (Entry Command Reply)) (at : ℕ) (e : Entry Command Reply) (s : State) (old mid new : List ℕ) → s ≡ state_of (take at es)
    → slice_get es at ≡ Some e → mid ≡ old ++ log_text log (take at es) → new ≡ mid ++ told_text log (logged_at s at e) → new ≡ old ++ log_text log (take (at + 1) es)
told_more log es at e s old mid new state here first more =
    more
    ∙ ap (λ (t : List ℕ). t ++ told_text log (logged_at s at e)) first
    ∙ append_assoc old (log_text log (take at es)) (told_text log (logged_at s at e))
    ∙ ap (λ (t : List ℕ). old ++ t) (sym (log-snoc log es at e s state here))
