-- The transcript of one connection, over any state and any relation that says what answers a request in one state and leads to another.
use Rattle.std.specs.Prelude.{◌≡◌, ◌≢◌, ℕ, ◌+◌, ◌-◌, ◌*◌, false, List, [], ◌∷◌, ◌++◌, length, take, Option, Some, None}
use Rattle.std.specs.Io.KnownBytes.{Appends, Consumes}
use Rattle.sect_talk.specs.Said.{Said}
use Rattle.sect_talk.specs.Asked.{Asked, Bytes, FitsAsked, Exchange, closes, closes_behind, raws, texts}
use Rattle.sect_talk.specs.Rest.{IsEnd}
use Rattle.sect_talk.specs.declared.end.End.{End}
use Rattle.sect_talk.specs.declared.end.End.TheVariants.{Closed, Cut, ReadFault, WriteFault}

-- the requests, the first of which has this number, are answered one after another, and behind an answer that closes none comes
abbrev pub Exchanges : {H : Type 0} → (H → Asked → Said → H → Type 0) → H → ℕ → List (Exchange H) → H → Type 0
Exchanges answers old number [] new = new ≡ old
Exchanges answers old number (x ∷ xs) new = FitsAsked x.asked × answers old x.asked x.said x.after
    × (xs ≢ [] → closes number x.asked x.said ≡ false) × Exchanges answers x.after (number + 1) xs new

-- a request in which no head was read is all that was taken since the one before
abbrev pub HasAllBytes : {H : Type 0} → List (Exchange H) → List ℕ → Type 0
HasAllBytes {H} exchanges rest = (before : List (Exchange H)) (last : Exchange H) (raw : List ℕ)
    → exchanges ≡ before ++ last ∷ [] → last.asked ≡ Bytes raw → rest ≡ []

-- the answers were written, and at a fault of the sink a front of them
abbrev pub Writes : End → Option (List ℕ) → Option (List ℕ) → List ℕ → Type 0
Writes Closed taken taken' text = Appends taken taken' text
Writes Cut taken taken' text = Appends taken taken' text
Writes ReadFault taken taken' text = Appends taken taken' text
Writes WriteFault taken taken' text = (n : ℕ) × Appends taken taken' (take n text)

-- how often the gate was passed: before each request was asked and behind its answer, but for one that wasn't written
abbrev pub passes : End → ℕ → ℕ
passes Closed count = 2 * count
passes Cut count = 2 * count
passes ReadFault count = 2 * count
passes WriteFault count = 2 * count - 1

-- what a connection asked and was answered: the bytes that it left and took before and behind, the steps, the states, and how it ended
pub record Talked {H : Type 0} (answers : H → Asked → Said → H → Type 0)
    (left left' taken taken' : Option (List ℕ)) (step step' : ℕ) (old new : H) (end : End) : Type 0 where
  pub exchanges : List (Exchange H)
  pub rest : List ℕ
  pub answered : Exchanges answers old 1 exchanges new
  pub consumed : Consumes left left' (raws exchanges ++ rest)
  pub ended : IsEnd end (closes_behind 1 false exchanges) left' rest
  pub whole : HasAllBytes exchanges rest
  pub written : Writes end taken taken' (texts 1 exchanges)
  pub steps : step' ≡ step + passes end (length exchanges)

-- the requests before number `number` were answered, none of them closed the connection, and `pending` was taken since
pub record Progress {H : Type 0} (answers : H → Asked → Said → H → Type 0)
    (left left' taken taken' : Option (List ℕ)) (step step' : ℕ) (old new : H) (number : ℕ) (pending : List ℕ) : Type 0 where
  pub exchanges : List (Exchange H)
  pub answered : Exchanges answers old 1 exchanges new
  pub stays : closes_behind 1 false exchanges ≡ false
  pub consumed : Consumes left left' (raws exchanges ++ pending)
  pub written : Appends taken taken' (texts 1 exchanges)
  pub steps : step' ≡ step + 2 * length exchanges
  pub count : number ≡ length exchanges + 1

-- the connection goes on with the next request, or it ended
abbrev pub GoesOn : {H : Type 0} → (H → Asked → Said → H → Type 0) → Option (List ℕ) → Option (List ℕ)
    → Option (List ℕ) → Option (List ℕ) → ℕ → ℕ → H → H → ℕ → List ℕ → Option End → Type 0
GoesOn answers left left' taken taken' step step' old new number pending None =
    Progress answers left left' taken taken' step step' old new (number + 1) pending
GoesOn answers left left' taken taken' step step' old new number pending (Some end) =
    Talked answers left left' taken taken' step step' old new end
