-- What is told of a place.
use Rattle.std.proofs.Common.{◌≡◌, ◌≤◌, ℕ, zero, suc, List, [], ◌∷◌, ◌++◌, length, slice_get, take, refl, sym, ap, ◌∙◌, arith, codes, Option, None, Some}
use Rattle.std.specs.Prelude.{max}
use Rattle.std.specs.Option.{option_map_or}
use Rattle.sect_command.specs.declared.command.Command.{Command}
use Rattle.sect_command.specs.declared.reply.Reply.{Reply}
use Rattle.sect_explain.specs.Replied.{reply_explained}
use Rattle.sect_history.specs.Step.{state_of}
use Rattle.sect_model.specs.World.{State, World}
use Rattle.sect_once.specs.declared.entry.Entry.{Entry}
use Rattle.sect_report.specs.Report.{unknown_text}
use Rattle.sect_clerk.specs.Explaining.{explained_at, explained_in}
use Rattle.sect_clerk.proofs.Days.{same_reply}

-- what is said in the world before an entry is said of it on its day
pub said_in : (s : State) (w : World) (e : Entry Command Reply) (old new : List ℕ) → w ≡ s.world → new ≡ old ++ reply_explained w e.command e.reply → new ≡ old ++ explained_in s e
said_in s w e old new same said =
    said
    ∙ ap (λ (v : World). old ++ reply_explained v e.command e.reply) same
    ∙ ap (λ (text : List ℕ). old ++ text) (sym (same_reply s.world (max s.world.day e.day) e.command e.reply))

-- what is said of the entry at a place is said of the place
pub said_at : (es : List (Entry Command Reply)) (place : ℕ) (s : State) (e : Entry Command Reply) (old new : List ℕ) → s ≡ state_of (take place es) → slice_get es place ≡ Some e
    → new ≡ old ++ explained_in s e → new ≡ old ++ explained_at es place
said_at es place s e old new before here said =
    said
    ∙ ap (λ (t : State). old ++ explained_in t e) before
    ∙ ap (λ (found : Option (Entry Command Reply)). old ++ option_map_or (explained_in (state_of (take place es))) found (unknown_text (codes "place") place)) (sym here)

none_behind : (es : List (Entry Command Reply)) (place : ℕ) → length es ≤ place → slice_get es place ≡ None
none_behind [] place behind = refl
none_behind (e ∷ es) zero behind = absurd (omega (arith, behind))
none_behind (e ∷ es) (suc place) behind = none_behind es place (omega (arith, behind))

-- behind the entries none stands
pub said_behind : (es : List (Entry Command Reply)) (place : ℕ) (old new : List ℕ) → length es ≤ place → new ≡ old ++ unknown_text (codes "place") place → new ≡ old ++ explained_at es place
said_behind es place old new behind said =
    said
    ∙ ap (λ (found : Option (Entry Command Reply)). old ++ option_map_or (explained_in (state_of (take place es))) found (unknown_text (codes "place") place)) (sym (none_behind es place behind))
