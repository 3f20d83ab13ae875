-- What is told of what was to be said.
use Rattle.std.specs.Prelude.{◌≡◌, ◌<◌, ◌⊎◌, ℕ, Bool, ◌||◌, List, length, take, Option, Result, Ok, Err}
use Rattle.std.specs.Io.KnownBytes.{Appends}
use Rattle.sect_edge.specs.declared.edge.Failed.{Failed}
use Rattle.sect_talk.specs.Pages.{page_text}
use Rattle.sect_talk.specs.Said.{Said, no_memory}

-- how many bytes an answer has room for that isn't of a request that acted, nor a report
abbrev pub ANSWER_ROOM : ℕ
ANSWER_ROOM = 256

-- the text of what is said, behind which the connection closes where the page or the request says so
abbrev pub said_text : Said → Bool → Bool → List ℕ
said_text said closing headless = page_text (record said.page { closing = said.page.closing || closing }) headless said.body

-- what is told is what was to be said, or where that is long, that memory was wanted
abbrev pub IsTold : Said → Bool → Bool → Said → Type 0
IsTold said closing headless told = (told ≡ said) ⊎ ((told ≡ no_memory) × (ANSWER_ROOM < length (said_text said closing headless)))

-- the text was written, and this is whether the connection closes behind it; or a front of it was written where the sink failed
abbrev pub Writes : Option (List ℕ) → Option (List ℕ) → List ℕ → Bool → Result Bool Failed → Type 0
Writes taken taken' text closing (Ok ends) = (ends ≡ closing) × Appends taken taken' text
Writes taken taken' text closing (Err _) = (n : ℕ) × Appends taken taken' (take n text)

-- the same of what is said
abbrev pub Tells : Option (List ℕ) → Option (List ℕ) → Said → Bool → Bool → Result Bool Failed → Type 0
Tells taken taken' said closing headless result = Writes taken taken' (said_text said closing headless) (said.page.closing || closing) result
