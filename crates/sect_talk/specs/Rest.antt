-- The bytes that are left where a connection ends, or where no head was read.
use Rattle.std.specs.Prelude.{◌≡◌, ◌⊎◌, ◌<◌, ◌≤◌, ℕ, Bool, true, false, List, ◌++◌, length, ⊤, Option}
use Rattle.std.specs.Io.KnownBytes.{IsAtEnd}
use Rattle.httparse.specs.Grammar.{RequestHead, HasNoRequest, MayBecomeRequest, NeverHasRequest, ReadsRequest, print_request}
use Rattle.sect_head.specs.Blank.{AreBlank}
use Rattle.sect_head.specs.Framing.{framing_of}
use Rattle.sect_head.specs.declared.told.Framing.TheVariants.{HasBody}
use Rattle.sect_talk.specs.Asked.{FitsHead, HEAD_LIMIT}
use Rattle.sect_talk.specs.declared.end.End.{End}
use Rattle.sect_talk.specs.declared.end.End.TheVariants.{Closed, Cut, ReadFault, WriteFault}

-- no head begins with the bytes whatever follows, or none that isn't too long
abbrev pub IsNoHead : List ℕ → Type 0
IsNoHead raw = NeverHasRequest raw
    ⊎ ((HEAD_LIMIT ≤ length raw) × ((h : RequestHead) (rest : List ℕ) → ReadsRequest raw h rest → HEAD_LIMIT < length (print_request h)))

-- no head is there, and one may still come
abbrev pub IsOpenHead : List ℕ → Type 0
IsOpenHead rest = HasNoRequest rest × MayBecomeRequest rest × (length rest < HEAD_LIMIT)

-- whole empty lines and nothing else
abbrev pub IsBlank : List ℕ → Type 0
IsBlank rest = AreBlank rest × (length rest < HEAD_LIMIT)

-- a head, and not yet its whole body
abbrev pub IsOpenBody : List ℕ → Type 0
IsOpenBody rest = (h : RequestHead) × (part : List ℕ) × (n : ℕ)
    × FitsHead h × (framing_of h ≡ HasBody n) × (rest ≡ print_request h ++ part) × (length part < n)

-- the bytes end inside a request
abbrev pub IsCut : List ℕ → Type 0
IsCut rest = ((IsBlank rest → ⊥) × IsOpenHead rest) ⊎ IsOpenBody rest

-- what the rest is at each end, behind an answer that closed the connection or not
abbrev pub IsEnd : End → Bool → Option (List ℕ) → List ℕ → Type 0
IsEnd Closed closed left rest = (closed ≡ true) ⊎ ((closed ≡ false) × IsAtEnd left × IsBlank rest)
IsEnd Cut closed left rest = (closed ≡ false) × IsAtEnd left × IsCut rest
IsEnd ReadFault closed left rest = (closed ≡ false) × (IsBlank rest ⊎ IsCut rest)
IsEnd WriteFault closed left rest = ⊤
