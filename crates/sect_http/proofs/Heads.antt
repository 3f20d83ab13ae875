-- A request in the bytes that stand ready.
use Rattle.std.proofs.Common.{◌≡◌, ◌≢◌, ◌⊎◌, ℕ, nat_lt, ◌+◌, ◌<◌, ◌≤◌, Bool, true, false, List, [], ◌++◌, Option, None, Some, Ok, Err, Result, refl, sym, ap, ◌∙◌, subst, inl, inr, arith, length, drop, take, append-nil, append_assoc, length-append, length-drop, codes}
use Rattle.std.specs.Str.{bytes_eq}
use Rattle.std.specs.Io.KnownBytes.{IsAtEnd}
use Rattle.std.proofs.lemmas.List.{length-take-le, take-append-drop}
use Rattle.httparse.specs.Grammar.{RequestHead, ReadsRequest, print_request}
use Rattle.httparse.specs.Spans.{IsRequestAt, IsRequestWithin, span_bytes}
use Rattle.httparse.specs.declared.spans.HeaderSpan.{HeaderSpan}
use Rattle.httparse.specs.declared.spans.RequestSpans.{RequestSpans}
use Rattle.sect_answer.specs.Errands.{FitsErrand, IsErrand}
use Rattle.sect_answer.specs.declared.errand.Errand.{Errand}
use Rattle.sect_head.specs.Closing.{closes_by}
use Rattle.sect_head.specs.Framing.{framed, framing_of}
use Rattle.sect_head.specs.declared.told.Framing.{Framing}
use Rattle.sect_head.specs.declared.told.Framing.TheVariants.{HasBody, Refuses}
use Rattle.sect_head.specs.declared.told.Refusal.{Refusal}
use Rattle.sect_head.specs.declared.told.Refusal.TheVariants as refusals
use Rattle.sect_talk.specs.Asked.{Asked, Bytes, Head, Whole, FitsHead, HEAD_LIMIT, is_head_method}
use Rattle.sect_talk.specs.Coming.{IsCrowdedHead}
use Rattle.sect_talk.specs.Rest.{IsBlank, IsCut, IsNoHead, IsOpenBody, IsOpenHead}
use Rattle.sect_talk.proofs.Fronts.{head_stays}
use Rattle.sect_http.specs.Hearing.{BeginsWith, IsHeard, IsMarked, IsReadAt, Wishes}
use Rattle.sect_http.specs.declared.heard.Heard.{Heard}
use Rattle.sect_http.specs.declared.heard.Wish.{Wish}
use Rattle.sect_http.specs.declared.heard.Wish.TheVariants.{Refused, Wanting, Asks}

-- ---- no head

-- bytes in which no head was read, all of them
pub heard_bytes : (bytes : List ℕ) (heard : Heard) → heard.len ≡ length bytes → heard.headless ≡ false → Wishes (Bytes bytes) heard.wish → IsHeard bytes heard (Bytes bytes)
heard_bytes bytes heard len headless wish = record {
  rest = [];
  fits = tt;
  framed = tt;
  bytes = sym (append-nil bytes);
  len = len;
  headless = headless;
  whole = λ raw is. refl;
  wish = wish;
}

-- ---- a head that is answered before its body

head_is_not_bytes : {P : Type 0} (h : RequestHead) (raw : List ℕ) → Head h ≡ Bytes raw → P
head_is_not_bytes h raw e = absurd cc

whole_is_not_bytes : {P : Type 0} (h : RequestHead) (body raw : List ℕ) → Whole h body ≡ Bytes raw → P
whole_is_not_bytes h body raw e = absurd cc

pub is_head_at : (bytes method : List ℕ) → bytes ≡ method → bytes_eq bytes (codes "HEAD") ≡ bytes_eq method (codes "HEAD")
is_head_at bytes method same = ap (λ l. bytes_eq l (codes "HEAD")) same

pub heard_head : (bytes : List ℕ) (heard : Heard) (r : RequestSpans) (h : RequestHead) → BeginsWith bytes r h → heard.len ≡ r.len → heard.headless ≡ is_head_method h → Wishes (Head h) heard.wish
    → IsHeard bytes heard (Head h)
heard_head bytes heard r h b same headless wish = record {
  rest = drop r.len bytes;
  fits = b.fits;
  framed = tt;
  bytes = b.reads;
  len = same ∙ b.len;
  headless = headless;
  whole = λ raw is. head_is_not_bytes h raw is;
  wish = wish;
}

pub refused_head : (bytes : List ℕ) (heard : Heard) (r : RequestSpans) (h : RequestHead) (why : Refusal) → BeginsWith bytes r h → framing_of h ≡ Refuses why
    → heard.len ≡ r.len → heard.headless ≡ is_head_method h → heard.wish ≡ Refused why → IsHeard bytes heard (Head h)
refused_head bytes heard r h why b framing same headless wish = heard_head bytes heard r h b same headless (subst (Wishes (Head h)) (sym wish) framing)

many_refused : (h : RequestHead) → 64 < length h.fields → framing_of h ≡ Refuses refusals.Head
unfolding framing_of
many_refused h many = let more : nat_lt 64 (length h.fields) ≡ true = grind (arith, many) in rw more refl

pub heard_crowded : (bytes : List ℕ) (heard : Heard) (r : RequestSpans) (h : RequestHead) → IsCrowdedHead bytes r h
    → heard.len ≡ r.len → heard.headless ≡ bytes_eq (span_bytes bytes r.method) (codes "HEAD") → heard.wish ≡ Refused refusals.Head → IsHeard bytes heard (Head h)
heard_crowded bytes heard r h c same headless wish = record {
  rest = drop r.len bytes;
  fits = (c.reads.0, omega (arith, c.len, c.short));
  framed = tt;
  bytes = c.reads.1;
  len = same ∙ c.len;
  headless = headless ∙ is_head_at (span_bytes bytes r.method) h.method c.method;
  whole = λ raw is. head_is_not_bytes h raw is;
  wish = subst (Wishes (Head h)) (sym wish) (many_refused h c.many);
}

-- ---- a head with its body

-- the head that was read
pub begins : (bytes : List ℕ) (spans : List HeaderSpan) (r : RequestSpans) (h : RequestHead) → IsRequestAt bytes spans r h → r.len ≤ HEAD_LIMIT → BeginsWith bytes r h
begins bytes spans r h at short = record {
  fits = (at.reads.0, omega (arith, at.len, short));
  reads = at.reads.1;
  len = at.len;
  method = at.method;
  path = at.path;
}

-- the same, in the bytes with those that came since
pub begins_more : (front bytes : List ℕ) (r : RequestSpans) (h : RequestHead) (more : List ℕ) → bytes ≡ front ++ more → IsReadAt front r h → r.len ≤ HEAD_LIMIT → BeginsWith bytes r h
begins_more front bytes r h more is read short =
    begins bytes read.spans r h (subst (λ l. IsRequestAt l read.spans r h) (sym is) (head_stays front more read.spans r h read.within read.at)) short

body_there : (bytes : List ℕ) (at n : ℕ) → at + n ≤ length bytes → length (take n (drop at bytes)) ≡ n
body_there bytes at n there = length-take-le n (drop at bytes) (let l = length-drop at bytes in omega (arith, l, there))

pub heard_whole : (bytes : List ℕ) (heard : Heard) (r : RequestSpans) (h : RequestHead) (n : ℕ) → BeginsWith bytes r h → r.len + n ≤ length bytes → framing_of h ≡ HasBody n
    → heard.len ≡ r.len + n → heard.headless ≡ is_head_method h → Wishes (Whole h (take n (drop r.len bytes))) heard.wish → IsHeard bytes heard (Whole h (take n (drop r.len bytes)))
heard_whole bytes heard r h n b there framing len headless wish =
    let behind = drop r.len bytes in
    let body = take n behind in
    let size : length body ≡ n = body_there bytes r.len n there in record {
      rest = drop n behind;
      fits = b.fits;
      framed = framing ∙ ap HasBody (sym size);
      bytes = b.reads ∙ (ap (λ l. print_request h ++ l) (sym (take-append-drop n behind)) ∙ sym (append_assoc (print_request h) body (drop n behind)));
      len = (let sum = length-append (print_request h) body in omega (arith, len, b.len, size, sum));
      headless = headless;
      whole = λ raw is. whole_is_not_bytes h body raw is;
      wish = wish;
    }

-- what a whole request is for
pub asks_whole : (bytes : List ℕ) (r : RequestSpans) (h : RequestHead) (body : List ℕ) (errand : Errand) (closing : Bool) → BeginsWith bytes r h
    → IsErrand (span_bytes bytes r.method) (span_bytes bytes r.path) body errand → FitsErrand errand → closing ≡ closes_by h → Wishes (Whole h body) (Asks errand closing)
asks_whole bytes r h body errand closing b is fits same =
    ((subst (λ m. IsErrand m h.target body errand) b.method (subst (λ p. IsErrand (span_bytes bytes r.method) p body errand) b.path is), same), fits)

-- the bytes end in the body
pub cut_in_body : (bytes : List ℕ) (r : RequestSpans) (h : RequestHead) (n : ℕ) → BeginsWith bytes r h → framing_of h ≡ HasBody n → length bytes < r.len + n → IsCut bytes
cut_in_body bytes r h n b framing fewer =
    let l = length-drop r.len bytes in
    let sum = ap length b.reads ∙ length-append (print_request h) (drop r.len bytes) in
    inr (h, drop r.len bytes, n, b.fits, framing, b.reads, omega (arith, l, sum, b.len, fewer))
