-- What was heard of the next request, in the bytes that stand ready.
use Rattle.std.specs.Prelude.{◌≡◌, ℕ, Bool, false, List, [], ◌++◌, drop, length, Option, Result, Ok, Err, ⊤}
use Rattle.httparse.specs.Grammar.{RequestHead, print_request}
use Rattle.httparse.specs.Spans.{IsRequestAt, IsRequestWithin, span_bytes}
use Rattle.httparse.specs.declared.spans.HeaderSpan.{HeaderSpan}
use Rattle.httparse.specs.declared.spans.RequestSpans.{RequestSpans}
use Rattle.sect_answer.specs.Errands.{FitsErrand, IsErrand}
use Rattle.sect_answer.specs.declared.errand.Errand.{Errand}
use Rattle.sect_head.specs.Closing.{closes_by}
use Rattle.sect_head.specs.Framing.{framing_of}
use Rattle.sect_head.specs.declared.told.Framing.TheVariants.{HasBody}
use Rattle.sect_talk.specs.Asked.{Asked, Bytes, Head, Whole, FitsAsked, FitsHead, is_head_method, is_headless, raw_of}
use Rattle.sect_talk.specs.Rest.{IsEnd}
use Rattle.sect_talk.specs.declared.end.End.{End}
use Rattle.sect_http.specs.Answers.{IsRefused}
use Rattle.sect_http.specs.declared.heard.Heard.{Heard}
use Rattle.sect_http.specs.declared.heard.Marks.{Marks}
use Rattle.sect_http.specs.declared.heard.Wish.{Wish}
use Rattle.sect_http.specs.declared.heard.Wish.TheVariants.{Refused, Wanting, Asks}

-- the length of a body that was read is the one that its head states
abbrev pub IsFramed : Asked → Type 0
IsFramed (Bytes raw) = ⊤
IsFramed (Head h) = ⊤
IsFramed (Whole h body) = framing_of h ≡ HasBody (length body)

-- a whole request is for this errand, and says whether its connection closes
abbrev pub IsAsking : Asked → Errand → Bool → Type 0
IsAsking (Bytes raw) errand closing = ⊥
IsAsking (Head h) errand closing = ⊥
IsAsking (Whole h body) errand closing = IsErrand h.method h.target body errand × (closing ≡ closes_by h)

-- the request is refused, memory was wanted for it, or it is for an errand
abbrev pub Wishes : Asked → Wish → Type 0
Wishes asked (Refused why) = IsRefused asked why
Wishes asked Wanting = ⊤
Wishes asked (Asks errand closing) = IsAsking asked errand closing × FitsErrand errand

-- the bytes that stand ready begin with this request, and this was heard of it; where no head was read it is all of them
pub record IsHeard (pending : List ℕ) (heard : Heard) (asked : Asked) : Type 0 where
  pub rest : List ℕ
  pub fits : FitsAsked asked
  pub framed : IsFramed asked
  pub bytes : pending ≡ raw_of asked ++ rest
  pub len : heard.len ≡ length (raw_of asked)
  pub headless : heard.headless ≡ is_headless asked
  pub whole : (raw : List ℕ) → asked ≡ Bytes raw → rest ≡ []
  pub wish : Wishes asked heard.wish

-- a request was heard, or the connection ended before one came
abbrev pub Hears : List ℕ → Option (List ℕ) → Result Heard End → Type 0
Hears pending left (Ok heard) = (asked : Asked) × IsHeard pending heard asked
Hears pending left (Err end) = IsEnd end false left pending

-- the bytes begin with this head, of which the length and the places of the method and the target are told
pub record BeginsWith (bytes : List ℕ) (r : RequestSpans) (h : RequestHead) : Type 0 where
  pub fits : FitsHead h
  pub reads : bytes ≡ print_request h ++ drop r.len bytes
  pub len : r.len ≡ length (print_request h)
  pub method : span_bytes bytes r.method ≡ h.method
  pub path : span_bytes bytes r.path ≡ h.target

-- the marks are what the head says of its answer
pub record IsMarked (h : RequestHead) (marks : Marks) : Type 0 where
  pub closing : marks.closing ≡ closes_by h
  pub headless : marks.headless ≡ is_head_method h

-- the bytes begin with this head, of which some spans tell the parts
pub record IsReadAt (bytes : List ℕ) (r : RequestSpans) (h : RequestHead) : Type 0 where
  pub spans : List HeaderSpan
  pub within : IsRequestWithin bytes spans r
  pub at : IsRequestAt bytes spans r h
