-- What a connection asks, and what is answered.
use Rattle.std.specs.Prelude.{◌≤◌, ℕ, ◌+◌, Bool, true, false, ◌||◌, ◌==◌, List, [], ◌∷◌, ◌++◌, length, ⊤, codes}
use Rattle.std.specs.Str.{bytes_eq}
use Rattle.httparse.specs.Grammar.{RequestHead, IsRequestHead, print_request}
use Rattle.sect_head.specs.Closing.{closes_by}
use Rattle.sect_talk.specs.Pages.{page_text}
use Rattle.sect_talk.specs.Said.{Said}

-- how many bytes a head may have, the empty lines before it included
abbrev pub HEAD_LIMIT : ℕ
HEAD_LIMIT = 16384

-- the number of the last request of a connection
abbrev pub LAST_REQUEST : ℕ
LAST_REQUEST = 1000000

-- bytes in which no head was read, a head that is answered before its body is read, or a head with its body
pub data Asked : Type 0 where
  Bytes : List ℕ → Asked
  Head : RequestHead → Asked
  Whole : RequestHead → List ℕ → Asked

-- the bytes of what is asked
abbrev pub raw_of : Asked → List ℕ
raw_of (Bytes raw) = raw
raw_of (Head h) = print_request h
raw_of (Whole h body) = print_request h ++ body

-- the head is one, and isn't too long
abbrev pub FitsHead : RequestHead → Type 0
FitsHead h = IsRequestHead h × (length (print_request h) ≤ HEAD_LIMIT)

-- where there is a head, it is one that is read
abbrev pub FitsAsked : Asked → Type 0
FitsAsked (Bytes raw) = ⊤
FitsAsked (Head h) = FitsHead h
FitsAsked (Whole h body) = FitsHead h

-- the request asks that its connection closes; behind bytes in which no head was read nothing can be read
abbrev pub asks_close : Asked → Bool
asks_close (Bytes raw) = true
asks_close (Head h) = closes_by h
asks_close (Whole h body) = closes_by h

-- the method is HEAD, so that the answer leaves out its body
abbrev pub is_head_method : RequestHead → Bool
is_head_method h = bytes_eq h.method (codes "HEAD")

abbrev pub is_headless : Asked → Bool
is_headless (Bytes raw) = false
is_headless (Head h) = is_head_method h
is_headless (Whole h body) = is_head_method h

-- a request, what is said to it, and the state behind it
pub record Exchange (H : Type 0) : Type 0 where
  pub asked : Asked
  pub said : Said
  pub after : H

-- the connection closes behind the answer to request number `number`, from 1
abbrev pub closes : ℕ → Asked → Said → Bool
closes number asked said = said.page.closing || (asks_close asked || number == LAST_REQUEST)

-- the bytes of the answer to request number `number`
abbrev pub answer_text : ℕ → Asked → Said → List ℕ
answer_text number asked said = page_text (record said.page { closing = closes number asked said }) (is_headless asked) said.body

-- the bytes of the requests, one after another
abbrev pub raws : {H : Type 0} → List (Exchange H) → List ℕ
raws [] = []
raws (x ∷ xs) = raw_of x.asked ++ raws xs

-- the bytes of the answers, one after another, the first of which has this number
abbrev pub texts : {H : Type 0} → ℕ → List (Exchange H) → List ℕ
texts number [] = []
texts number (x ∷ xs) = answer_text number x.asked x.said ++ texts (number + 1) xs

-- whether the connection closes behind the last of them; where there is none, it does where it did before
abbrev pub closes_behind : {H : Type 0} → ℕ → Bool → List (Exchange H) → Bool
closes_behind number before [] = before
closes_behind number before (x ∷ xs) = closes_behind (number + 1) (closes number x.asked x.said) xs
