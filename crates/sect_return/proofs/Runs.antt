-- Commands that are amended one after another, where nobody waits and nobody is enrolled.
use Rattle.std.specs.Prelude.{◌≡◌, ℕ, max, Bool, true, false, List, [], ◌∷◌, ◌++◌, Option, Some, None, refl}
use Rattle.std.specs.Bool.{then_some}
use Rattle.std.specs.Option.{is_none}
use Rattle.std.proofs.Common.{sym, ◌∙◌, ap, subst}
use Rattle.sect_command.specs.declared.command.Command.{Command}
use Rattle.sect_command.specs.declared.reply.Refusal.{Refusal}
use Rattle.sect_command.specs.declared.reply.Reply.TheVariants.{Amended}
use Rattle.sect_model.proofs.Members.{not_both}
use Rattle.sect_model.specs.Change.{put_day}
use Rattle.sect_model.specs.Data.{OfferingRow, Reservation, Student}
use Rattle.sect_model.specs.Refusals.{refusal_of}
use Rattle.sect_model.specs.Settle.{settle}
use Rattle.sect_model.specs.Step.{Acted, act, amended, on_day, refused_or, settled_after, step}
use Rattle.sect_model.specs.World.{State, World}
use Rattle.sect_return.specs.Again.{AllAmended, registrar, state_behind}

-- the world of these rows on a day
abbrev pub world_with : ℕ → List OfferingRow → List Student → List Reservation → World
world_with day rows students reservations =
    record { catalogue = record { rows = rows; cancelled = [] }; students = students; reservations = reservations; restrictions = []; roster = []; day = day }

-- nobody waits
abbrev pub quiet : World → State
quiet w = record { world = w; entries = []; next = 1 }

-- asked on a day, the command is amended, and leads from the one world to the other
abbrev pub Amends : World → ℕ → Command → World → Type 0
Amends w day command v = step (quiet w) day registrar command ≡ record { state = quiet v; reply = Amended }

-- so do the commands, one after another
abbrev pub Runs : World → ℕ → List Command → World → Type 0
Runs w day [] v = w ≡ v
Runs w day (command ∷ commands) v = (u : World) × Amends w day command u × Runs u day commands v

-- a command that isn't refused, and that changes the world alone
pub amends : (w : World) (day : ℕ) (command : Command) (v : World) → refusal_of (quiet (put_day w (max w.day day))) registrar command ≡ None
    → act (quiet (put_day w (max w.day day))) command ≡ amended (quiet (put_day w (max w.day day))) v → Amends w day command v
unfolding step settle
amends w day command v free does =
    ap (λ o. settled_after (refused_or (on_day (quiet w) day) (λ t. act t command) o)) free ∙ ap (λ (a : Acted). settled_after a) does

pub runs_append : (cs ds : List Command) (w u v : World) (day : ℕ) → Runs w day cs u → Runs u day ds v → Runs w day (cs ++ ds) v
runs_append [] ds w u v day is rest = subst (λ x. Runs x day ds v) (sym is) rest
runs_append (c ∷ cs) ds w u v day (t, one, more) rest = (t, one, runs_append cs ds t u v day more rest)

-- what the state behind them is
pub runs_give : (cs : List Command) (w v : World) (day : ℕ) → Runs w day cs v → AllAmended (quiet w) day cs × ((state_behind (quiet w) day cs).world ≡ v)
runs_give [] w v day is = (tt, is)
runs_give (c ∷ cs) w v day (u, one, rest) =
    let more = runs_give cs u v day rest in (
      (ap (λ (a : Acted). a.reply) one, subst (λ (s : State). AllAmended s day cs) (sym (ap (λ (a : Acted). a.state) one)) more.0),
      ap (λ (s : State). (state_behind s day cs).world) (ap (λ (a : Acted). a.state) one) ∙ more.1,
    )

-- what isn't said
pub none_said : (b : Bool) (r : Refusal) → b ≡ false → then_some b r ≡ None
none_said b r e = ap (λ t. then_some t r) e

pub none_is : {X : Type 0} (o : Option X) → is_none o ≡ true → o ≡ None
none_is None h = refl
none_is (Some x) h = absurd (not_both false h refl)
