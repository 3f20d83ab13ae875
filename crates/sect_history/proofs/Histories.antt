-- A history whose replies are the machine's is good throughout.
use Rattle.std.specs.Prelude.{◌≡◌, List, [], ◌∷◌, ◌++◌, refl}
use Rattle.std.proofs.Common.{sym, ◌∙◌, subst}
use Rattle.sect_command.specs.declared.command.Command.{Command}
use Rattle.sect_command.specs.declared.reply.Reply.{Reply}
use Rattle.sect_model.specs.World.{State, empty_state}
use Rattle.sect_model.specs.Kept.{KeptState}
use Rattle.sect_model.proofs.RefutedLemmas.{step-refutes}
use Rattle.sect_model.proofs.StepLemmas.{history-keeps, step-keeps}
use Rattle.sect_once.specs.declared.entry.Entry.{Entry}
use Rattle.sect_once.specs.History.{IsReplay, state_after}
use Rattle.sect_history.specs.Step.{state_of, stepped}
use Rattle.sect_history.specs.Changes.{CommandLeads}
use Rattle.sect_history.specs.Throughout.{IsGoodAt}
use Rattle.sect_history.specs.Laws.{ReplaysAreGood}
use Rattle.sect_history.proofs.StepLemmas.{lines-good, steps-lead}

-- the state behind one entry more
pub after-snoc : (s : State) (es : List (Entry Command Reply)) (e : Entry Command Reply)
    → state_after stepped s (es ++ e ∷ []) ≡ (stepped (state_after stepped s es) e.day e.id.caller e.command).0
after-snoc s [] e = refl
after-snoc s (x ∷ es) e = after-snoc (stepped s x.day x.id.caller x.command).0 es e

kept-after : (es : List (Entry Command Reply)) (s : State) → KeptState s → KeptState (state_after stepped s es)
kept-after [] s k = k
kept-after (e ∷ es) s k = kept-after es (stepped s e.day e.id.caller e.command).0 (step-keeps s e.day e.id.caller e.command k)

-- the reply at a place
replied : (front : List (Entry Command Reply)) (s : State) (e : Entry Command Reply) (rest : List (Entry Command Reply)) → IsReplay stepped s (front ++ e ∷ rest)
    → (stepped (state_after stepped s front) e.day e.id.caller e.command).1 ≡ e.reply
replied [] s e rest replay = replay.0
replied (x ∷ front) s e rest replay = replied front (stepped s x.day x.id.caller x.command).0 e rest replay.1

good-at : (front : List (Entry Command Reply)) (e : Entry Command Reply) → KeptState (state_of front) → (stepped (state_of front) e.day e.id.caller e.command).1 ≡ e.reply → IsGoodAt front e
good-at front e k same = record {
  led = subst (λ (s : State). CommandLeads (state_of front).world e.day e.command s.world) (sym (after-snoc empty_state front e)) (steps-lead (state_of front) e.day e.id.caller e.command k);
  refuted = λ visits tree is. step-refutes (state_of front) e.day e.id.caller e.command visits tree k (same ∙ is);
  lines = λ lines is. lines-good (state_of front) e.day e.id.caller e.command lines k (same ∙ is);
}

pub replays-good : ReplaysAreGood
replays-good entries replay = record {
  kept = λ front rest is. kept front;
  each = λ front e rest is. good-at front e (kept front) (replied front empty_state e rest (subst (IsReplay stepped empty_state) is replay));
}
  where
    kept : (front : List (Entry Command Reply)) → KeptState (state_of front)
    kept front = kept-after front empty_state (history-keeps [])
