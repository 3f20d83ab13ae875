-- Where a row tells a reply.
use Rattle.std.specs.Prelude.{◌≡◌, ℕ, ◌+◌, ◌≤◌, List, ⊤, length, drop, slice_get, Option, Some, None}
use Rattle.sect_once.specs.declared.entry.Entry.{Entry}

module _ {R : Type 0} (is_told : R → List ℕ → Type 0) where
  -- the bytes from this place on are the text of the reply
  pub record TellsFrom (at : ℕ) (bytes : List ℕ) (reply : R) : Type 0 where
    pub within : at ≤ length bytes
    pub told : is_told reply (drop at bytes)

module _ {C R : Type 0} (is_told : R → List ℕ → Type 0) where
  -- the text is that of the reply of the entry at this place
  abbrev pub TellsReply : List (Entry C R) → ℕ → List ℕ → Type 0
  TellsReply es place text = (e : Entry C R) → slice_get es place ≡ Some e → is_told e.reply text

  -- the bytes from the place on, where there is one, are the text of the last entry's reply
  abbrev pub TellsLast : List (Entry C R) → List ℕ → Option ℕ → Type 0
  TellsLast es bytes None = ⊤
  TellsLast es bytes (Some at) = (at ≤ length bytes) × ((place : ℕ) → place + 1 ≡ length es → TellsReply es place (drop at bytes))
