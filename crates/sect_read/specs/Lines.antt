-- Script lines: `[@DAY] CALLER NUMBER COMMAND`, where what has a default may be written though it is the default.
use Rattle.std.specs.Prelude.{◌≡◌, ℕ, Bool, true, List, [], ◌∷◌, ◌++◌, flat_map, Option, Some, None, codes, decimal}
use Rattle.sect_base.specs.declared.choice.Want.{Want}
use Rattle.sect_base.specs.declared.limit.Id.{Id}
use Rattle.sect_command.specs.declared.command.Command.{Command}
use Rattle.sect_command.specs.declared.command.Command.TheVariants as commands
use Rattle.sect_words.specs.Parts.{pieces}
use Rattle.sect_words.specs.Days.{day_text}
use Rattle.sect_text.specs.Commands.{command_words, want_words, give_words, optional_give_words, budget_words, class_words}
use Rattle.sect_text.specs.Rows.{id_words}
use Rattle.sect_read.specs.declared.line.LineAsk.{LineAsk}
use Rattle.sect_read.specs.declared.verb.Verb.{Verb}
use Rattle.sect_read.specs.ReadingCommands.{verb_text}
use Rattle.sect_read.specs.Fits.{FitsDay, FitsId, FitsWant, FitsCommand, FitsOptional}

-- a default is written only where it may be
abbrev pub May : Bool → Bool → Type 0
May shown written = written ≡ true → shown ≡ true

-- the words are `take WANT` of this want
abbrev pub IsTake : Bool → Want → List (List ℕ) → Type 0
IsTake shown want words = (only rank : Bool) × May shown only × May shown rank × FitsWant want × (words ≡ codes "take" ∷ want_words only rank want)

-- the words are those of the values, one behind another
abbrev pub AreEach : {X : Type 0} → (X → List (List ℕ) → Type 0) → List X → List (List ℕ) → Type 0
AreEach Is [] words = words ≡ []
AreEach Is (x ∷ xs) words = (front rest : List (List ℕ)) × Is x front × AreEach Is xs rest × (words ≡ front ++ rest)

-- the words are those of the command, where defaults may be written if `shown`
abbrev pub IsCommand : Bool → Command → List (List ℕ) → Type 0
IsCommand shown (commands.Enrol student want budget) words =
    (only rank written : Bool) × May shown only × May shown rank × May shown written × FitsCommand (commands.Enrol student want budget)
    × (words ≡ codes "enrol" ∷ decimal student.0 ∷ want_words only rank want ++ budget_words written budget)
IsCommand shown (commands.Swap student given taken budget) words =
    (takes : List (List ℕ)) × (written : Bool) × AreEach (IsTake shown) taken takes × May shown written × FitsCommand (commands.Swap student given taken budget)
    × (words ≡ codes "swap" ∷ decimal student.0 ∷ flat_map give_words given ++ (takes ++ budget_words written budget))
IsCommand shown (commands.Wait student want give class) words =
    (only rank written : Bool) × May shown only × May shown rank × May shown written × FitsCommand (commands.Wait student want give class)
    × (words ≡ codes "wait" ∷ decimal student.0 ∷ want_words only rank want ++ (optional_give_words give ++ class_words written class))
IsCommand shown command words = FitsCommand command × (words ≡ command_words command)

-- `@DAY`, where the line names a day
abbrev pub day_words : Option ℕ → List (List ℕ)
day_words None = []
day_words (Some day) = (64 ∷ day_text day) ∷ []

-- the words between the single spaces of the line are those of the request
abbrev pub IsLine : List ℕ → LineAsk → Type 0
IsLine line ask =
    (words : List (List ℕ)) × FitsOptional FitsDay ask.day × FitsId ask.id × IsCommand true ask.command words
    × (pieces 32 line ≡ day_words ask.day ++ (id_words ask.id ++ words))

-- the caller and the number are there, and the next word is no verb
abbrev pub HasUnknownVerb : List ℕ → Type 0
HasUnknownVerb line =
    (day : Option ℕ) × (id : Id) × (verb : List ℕ) × (rest : List (List ℕ)) × FitsOptional FitsDay day × FitsId id
    × ((known : Verb) → verb ≡ verb_text known → ⊥) × (pieces 32 line ≡ day_words day ++ (id_words id ++ (verb ∷ rest)))
