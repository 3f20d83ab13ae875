-- What a request is answered, and what that does to the sink.
use Rattle.std.specs.Prelude.{ℕ, Bool, true, List, Option, Result, ⊤}
use Rattle.sect_edge.specs.declared.edge.Failed.{Failed}
use Rattle.sect_talk.specs.Said.{Said}
use Rattle.sect_talk.specs.Asked.{Asked, answer_text, closes}
use Rattle.sect_http.specs.Telling.{Writes}
use Rattle.sect_http.specs.declared.heard.Wish.{Wish}
use Rattle.sect_http.specs.declared.heard.Wish.TheVariants.{Refused, Wanting, Asks}

-- the connection closes because of what is wished
abbrev pub wish_closes : Wish → Bool
wish_closes (Refused why) = true
wish_closes Wanting = true
wish_closes (Asks errand closing) = closing

-- it is refused, or memory was wanted
abbrev pub IsRefusal : Wish → Type 0
IsRefusal (Refused why) = ⊤
IsRefusal Wanting = ⊤
IsRefusal (Asks errand closing) = ⊥

-- request number `number` is answered, and the answer was written as far as the sink took it
pub record Responds {H : Type 0} (answers : H → Asked → Said → H → Type 0) (number : ℕ) (taken taken' : Option (List ℕ))
    (old : H) (asked : Asked) (new : H) (result : Result Bool Failed) : Type 0 where
  pub told : Said
  pub answered : answers old asked told new
  pub wrote : Writes taken taken' (answer_text number asked told) (closes number asked told) result
