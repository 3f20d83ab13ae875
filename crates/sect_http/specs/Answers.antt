-- What answers the requests of a connection.
use Rattle.std.specs.Prelude.{◌≡◌, ◌⊎◌, ℕ, List, [], length, codes}
use Rattle.sect_answer.specs.Answering.{Does, Sitting}
use Rattle.sect_answer.specs.Errands.{IsErrand}
use Rattle.sect_answer.specs.declared.errand.Errand.{Errand}
use Rattle.sect_base.specs.declared.limit.Caller.{Caller}
use Rattle.sect_command.specs.declared.command.Command.{Command}
use Rattle.sect_command.specs.declared.reply.Reply.{Reply}
use Rattle.sect_command.specs.declared.view.Query.{Query}
use Rattle.sect_command.specs.declared.view.View.{View}
use Rattle.sect_head.specs.Framing.{framing_of}
use Rattle.sect_head.specs.declared.told.Framing.TheVariants.{HasBody, Refuses}
use Rattle.sect_head.specs.declared.told.Refusal.{Refusal}
use Rattle.sect_head.specs.declared.told.Refusal.TheVariants as refusals
use Rattle.sect_once.specs.declared.entry.Entry.{Entry}
use Rattle.sect_talk.specs.Said.{Said, no_memory, refusal}
use Rattle.sect_talk.specs.Asked.{Asked, Bytes, Head, Whole}
use Rattle.sect_talk.specs.Rest.{IsNoHead}

-- what is said where a head is refused
abbrev pub refused : Refusal → Said
refused refusals.Head = refusal 400 (codes "head")
refused refusals.Coding = refusal 501 (codes "coding")
refused refusals.Length = refusal 411 (codes "length")
refused refusals.Size = refusal 413 (codes "size")

-- the request is refused for this before its body is read
abbrev pub IsRefused : Asked → Refusal → Type 0
IsRefused (Bytes raw) why = IsNoHead raw × (why ≡ refusals.Head)
IsRefused (Head h) why = framing_of h ≡ Refuses why
IsRefused (Whole h body) why = ⊥

-- nothing was read, and it is told that memory was wanted
abbrev pub IsRefusedAtOnce : Sitting → Asked → Said → Sitting → Type 0
IsRefusedAtOnce old asked said new = (new ≡ old) × (asked ≡ Bytes []) × (said ≡ no_memory)

module _ {S : Type 0} (start : S) (stepped : S → ℕ → Caller → Command → S × Reply) (is_row : Entry Command Reply → List ℕ → Type 0) (looked : S → Query → View) where
  -- a request whose head isn't read or isn't taken is refused and changes nothing; one that is whole is done as its method, target
  -- and body ask; and to each it may be told that memory was wanted before anything was done
  abbrev pub Answers : Sitting → Asked → Said → Sitting → Type 0
  Answers old (Bytes raw) said new = (new ≡ old) × (((why : Refusal) × IsRefused (Bytes raw) why × (said ≡ refused why)) ⊎ (said ≡ no_memory))
  Answers old (Head h) said new = (new ≡ old) × (((why : Refusal) × IsRefused (Head h) why × (said ≡ refused why)) ⊎ (said ≡ no_memory))
  Answers old (Whole h body) said new = (framing_of h ≡ HasBody (length body))
      × (((new ≡ old) × (said ≡ no_memory))
      ⊎ ((errand : Errand) × IsErrand h.method h.target body errand × Does start stepped is_row looked errand old said new))
