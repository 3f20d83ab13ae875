-- Logs, their histories, and what makes one legal.
use Rattle.std.specs.Prelude.{◌≡◌, ◌⊎◌, ℕ, ◌+◌, ◌-◌, ◌*◌, ◌^◌, ◌<◌, ◌≤◌, List, [], ◌∷◌, ◌++◌, ⊤, length, sum_by, slice_get, take, drop, Option, Some, None}
use Rattle.std.specs.List.{AllZip}
use Rattle.std.specs.Option.{option_to_list}
use Rattle.sect_base.specs.declared.limit.Id.{Id}
use Rattle.sect_base.specs.declared.limit.Caller.{Caller}
use Rattle.sect_base.specs.declared.limit.Caller.TheVariants.{Registrar, Student}
use Rattle.sect_once.specs.declared.entry.Entry.{Entry}
use Rattle.sect_once.specs.declared.entry.Note.{Note}
use Rattle.sect_once.specs.declared.entry.Note.TheVariants.{Acted, Faulted}
use Rattle.sect_once.specs.declared.entry.Unkept.{Unkept}
use Rattle.sect_once.specs.Places.{placed}

-- a caller as one number: a registrar's is even, a student's is odd
abbrev pub caller_key : Caller → ℕ
caller_key (Registrar n) = 2 * n
caller_key (Student s) = 2 * s.0 + 1

-- an id as one number, which is its own where numbers of requests have 64 bits
abbrev pub key_of : Id → ℕ
key_of id = caller_key id.caller * 2 ^ 64 + id.number

module _ {C R : Type 0} where
  -- the requests that acted, in their order
  abbrev pub history : List (Note C R) → List (Entry C R)
  history [] = []
  history (Acted e ∷ notes) = e ∷ history notes
  history (Faulted id ∷ notes) = history notes

  -- how many requests were faulted
  abbrev pub faulted : List (Note C R) → ℕ
  faulted [] = 0
  faulted (Acted e ∷ notes) = faulted notes
  faulted (Faulted id ∷ notes) = 1 + faulted notes

  -- no entry has the id
  abbrev pub IsNew : Id → List (Entry C R) → Type 0
  IsNew id es = (place : ℕ) (e : Entry C R) → slice_get es place ≡ Some e → e.id ≡ id → ⊥

  -- the entries that rows are read as
  abbrev pub entries_of : (List ℕ → Option (Entry C R)) → List (List ℕ) → List (Entry C R)
  entries_of entry_of [] = []
  entries_of entry_of (row ∷ rows) = option_to_list (entry_of row) ++ entries_of entry_of rows

  -- no id stands in two entries
  abbrev pub ActsOnce : List (Entry C R) → Type 0
  ActsOnce es = (p q : ℕ) (e f : Entry C R) → slice_get es p ≡ Some e → slice_get es q ≡ Some f → e.id ≡ f.id → p ≡ q

  -- the keys have each entry's place at its id's key and no others, and the numbers of requests have 64 bits
  pub record IsIndex (keys : List ℕ) (es : List (Entry C R)) : Type 0 where
    pub all : (place : ℕ) (e : Entry C R) → slice_get es place ≡ Some e → placed keys (key_of e.id) ≡ Some place
    pub small : (place : ℕ) (e : Entry C R) → slice_get es place ≡ Some e → e.id.number < 2 ^ 64
    pub only : (key place : ℕ) → placed keys key ≡ Some place → (e : Entry C R) × (slice_get es place ≡ Some e) × (key_of e.id ≡ key)

  -- the log in which these entries acted and nothing was faulted
  abbrev pub acted_log : List (Entry C R) → List (Note C R)
  acted_log [] = []
  acted_log (e ∷ es) = Acted e ∷ acted_log es

  -- the log behind so many entries: each request that wasn't kept stands behind as many as it names
  abbrev pub log_of : ℕ → List Unkept → List (Entry C R) → List (Note C R)
  log_of at [] es = acted_log es
  log_of at (u ∷ us) es = acted_log (take (u.behind - at) es) ++ Faulted u.id ∷ log_of u.behind us (drop (u.behind - at) es)

module _ {C R : Type 0} (is_row : Entry C R → List ℕ → Type 0) where
  -- the entry has a row
  abbrev pub HasRow : Entry C R → Type 0
  HasRow e = (row : List ℕ) × is_row e row

  -- the rows of the entries have so many bytes in all
  pub record HaveBytes (es : List (Entry C R)) (n : ℕ) : Type 0 where
    pub rows : List (List ℕ)
    pub are_rows : AllZip is_row es rows
    pub sum : n ≡ sum_by length rows

  -- the rows of the entries have 2^28 bytes or more
  pub record AreHeavy (es : List (Entry C R)) : Type 0 where
    pub size : ℕ
    pub bytes : HaveBytes es size
    pub heavy : 2 ^ 28 ≤ size

  -- a log is full by its notes, or by the bytes of its rows
  abbrev pub IsFull : List (Note C R) → Type 0
  IsFull log = (2 ^ 20 ≤ length log) ⊎ AreHeavy (history log)

  -- each note was added to a log that wasn't full
  abbrev pub NeverFull : List (Note C R) → Type 0
  NeverFull log = (before : List (Note C R)) (note : Note C R) (after : List (Note C R)) → log ≡ before ++ note ∷ after → IsFull before → ⊥

  -- the rows, where they are told, are those of the entries
  abbrev pub TellsRows : Option (List (List ℕ)) → List (Entry C R) → Type 0
  TellsRows None es = ⊤
  TellsRows (Some rows) es = AllZip is_row es rows

-- the requests that weren't kept stand in their order between the first place and the last
abbrev pub AreUnkept : ℕ → ℕ → List Unkept → Type 0
AreUnkept at last [] = at ≤ last
AreUnkept at last (u ∷ us) = (at ≤ u.behind) × AreUnkept u.behind last us

module _ {S C R : Type 0} (stepped : S → ℕ → Caller → C → S × R) where
  -- the state after the entries
  abbrev pub state_after : S → List (Entry C R) → S
  state_after s [] = s
  state_after s (e ∷ es) = state_after (stepped s e.day e.id.caller e.command).0 es

  -- each reply is the object's at its place
  abbrev pub IsReplay : S → List (Entry C R) → Type 0
  IsReplay s [] = Unit {0}
  IsReplay s (e ∷ es) = ((stepped s e.day e.id.caller e.command).1 ≡ e.reply) × IsReplay (stepped s e.day e.id.caller e.command).0 es

  -- each reply is the replay's at its place, and no id stands in two entries
  pub record IsLegal (start : S) (log : List (Note C R)) : Type 0 where
    pub replies : IsReplay start (history log)
    pub once : ActsOnce (history log)
