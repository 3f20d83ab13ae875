-- The ways of a talk, over any state and any relation that answers.
use Rattle.std.proofs.Common.{◌≡◌, ℕ, ◌+◌, ◌*◌, ◌≤◌, ◌==◌, List, [], ◌∷◌, ◌++◌, length, take, sym, ap, ◌∙◌, append_assoc, append-nil, subst, refl, arith, length-append, inl}
use Rattle.std.specs.Prelude.{◌≢◌, Bool, true, false, ◌||◌, Option, ⊤}
use Rattle.std.specs.Io.KnownBytes.{Appends, Consumes}
use Rattle.std.proofs.KnownBytes.{Appends-nil, Appends-trans, Consumes-nil, Consumes-trans}
use Rattle.std.proofs.Math.Seq.{take-append-add}
use Rattle.sect_talk.specs.Said.{Said}
use Rattle.sect_talk.specs.Asked.{LAST_REQUEST, Asked, Bytes, FitsAsked, Exchange, asks_close, closes, closes_behind, raws, raw_of, texts, answer_text}
use Rattle.sect_talk.specs.Rest.{IsEnd}
use Rattle.sect_talk.specs.Talk.{Exchanges, HasAllBytes, Writes, passes, Talked, Progress}
use Rattle.sect_talk.specs.Coming.{Takes}
use Rattle.sect_talk.specs.declared.end.End.{End}
use Rattle.sect_talk.specs.declared.end.End.TheVariants.{Closed, Cut, ReadFault, WriteFault}

-- ---- lists of exchanges

raws-append : {H : Type 0} (xs ys : List (Exchange H)) → raws (xs ++ ys) ≡ raws xs ++ raws ys
raws-append [] ys = refl
raws-append (x ∷ xs) ys = ap (λ l. raw_of x.asked ++ l) (raws-append xs ys) ∙ sym (append_assoc (raw_of x.asked) (raws xs) (raws ys))

raws-push : {H : Type 0} (xs : List (Exchange H)) (x : Exchange H) (rest : List ℕ) → raws (xs ++ x ∷ []) ++ rest ≡ raws xs ++ (raw_of x.asked ++ rest)
raws-push xs x rest =
    ap (λ l. l ++ rest) (raws-append xs (x ∷ []) ∙ ap (λ l. raws xs ++ l) (append-nil (raw_of x.asked))) ∙ append_assoc (raws xs) (raw_of x.asked) rest

texts-push : {H : Type 0} (number : ℕ) (xs : List (Exchange H)) (x : Exchange H)
    → texts number (xs ++ x ∷ []) ≡ texts number xs ++ answer_text (number + length xs) x.asked x.said
texts-push number [] x =
    append-nil (answer_text number x.asked x.said) ∙ ap (λ n. answer_text n x.asked x.said) (let e : number ≡ number + 0 = omega arith in e)
texts-push number (y ∷ xs) x =
    let more : number + 1 + length xs ≡ number + length (y ∷ xs) = omega arith in
    let first = answer_text number y.asked y.said in
    ap (λ l. first ++ l) (texts-push (number + 1) xs x ∙ ap (λ n. texts (number + 1) xs ++ answer_text n x.asked x.said) more)
    ∙ sym (append_assoc first (texts (number + 1) xs) (answer_text (number + length (y ∷ xs)) x.asked x.said))

closes_behind-push : {H : Type 0} (number : ℕ) (before : Bool) (xs : List (Exchange H)) (x : Exchange H)
    → closes_behind number before (xs ++ x ∷ []) ≡ closes (number + length xs) x.asked x.said
closes_behind-push number before [] x = ap (λ n. closes n x.asked x.said) (let e : number ≡ number + 0 = omega arith in e)
closes_behind-push number before (y ∷ xs) x =
    let more : number + 1 + length xs ≡ number + length (y ∷ xs) = omega arith in
    closes_behind-push (number + 1) (closes number y.asked y.said) xs x ∙ ap (λ n. closes n x.asked x.said) more

length-push : {H : Type 0} (xs : List (Exchange H)) (x : Exchange H) → length (xs ++ x ∷ []) ≡ length xs + 1
length-push xs x = length-append xs (x ∷ [])

-- one more behind those of which none closes
pub Exchanges-push : {H : Type 0} (answers : H → Asked → Said → H → Type 0) (old new : H) (number : ℕ) (before : Bool) (xs : List (Exchange H)) (x : Exchange H)
    → Exchanges answers old number xs new → closes_behind number before xs ≡ false → FitsAsked x.asked → answers new x.asked x.said x.after
    → Exchanges answers old number (xs ++ x ∷ []) x.after
Exchanges-push answers old new number before [] x same stays fits answered =
    (fits, subst (λ s. answers s x.asked x.said x.after) same answered, λ some. absurd (some refl), refl)
Exchanges-push answers old new number before (y ∷ []) x (first, is, last, more) stays fits answered =
    (first, is, λ some. stays, Exchanges-push answers y.after new (number + 1) (closes number y.asked y.said) [] x more stays fits answered)
Exchanges-push answers old new number before (y ∷ z ∷ xs) x (first, is, last, more) stays fits answered =
    (first, is, λ some. last (λ none. absurd (cc)), Exchanges-push answers y.after new (number + 1) (closes number y.asked y.said) (z ∷ xs) x more stays fits answered)

-- ---- the last of them

abbrev last_or : {A : Type 0} → A → List A → A
last_or d [] = d
last_or d (x ∷ xs) = last_or x xs

last_or-push : {A : Type 0} (d : A) (xs : List A) (x : A) → last_or d (xs ++ x ∷ []) ≡ x
last_or-push d [] x = refl
last_or-push d (y ∷ xs) x = last_or-push y xs x

last_is : {A : Type 0} (before xs : List A) (last x : A) → xs ++ x ∷ [] ≡ before ++ last ∷ [] → x ≡ last
last_is before xs last x same = sym (last_or-push x xs x) ∙ ap (last_or x) same ∙ last_or-push x before last

HasAllBytes-push : {H : Type 0} (xs : List (Exchange H)) (x : Exchange H) (rest : List ℕ) → ((raw : List ℕ) → x.asked ≡ Bytes raw → rest ≡ [])
    → HasAllBytes (xs ++ x ∷ []) rest
HasAllBytes-push xs x rest all before last raw same is = all raw (ap (λ y. y.asked) (last_is before xs last x same) ∙ is)

closes_at_bytes : (number : ℕ) (asked : Asked) (said : Said) (raw : List ℕ) → asked ≡ Bytes raw → closes number asked said ≡ true
closes_at_bytes number asked said raw is = ap (λ a. closes number a said) is ∙ or_true said.page.closing
  where
    or_true : (b : Bool) → (b || true) ≡ true
    or_true true = refl
    or_true false = refl

-- where none of them closes, none is of bytes alone
HasAllBytes-open : {H : Type 0} (number : ℕ) (closed : Bool) (xs : List (Exchange H)) (rest : List ℕ) → closes_behind number closed xs ≡ false → HasAllBytes xs rest
HasAllBytes-open number closed xs rest stays before last raw same is =
    let shut = sym (closes_behind-push number closed before last ∙ closes_at_bytes (number + length before) last.asked last.said raw is) in
    let other = shut ∙ ap (closes_behind number closed) (sym same) ∙ stays in
    absurd (cc)

-- ---- the ways of a turn

-- an end that is no fault of the sink
abbrev pub IsAfterAnswer : End → Type 0
IsAfterAnswer Closed = ⊤
IsAfterAnswer Cut = ⊤
IsAfterAnswer ReadFault = ⊤
IsAfterAnswer WriteFault = ⊥

writes_all : (end : End) (taken taken' : Option (List ℕ)) (text : List ℕ) → IsAfterAnswer end → Appends taken taken' text → Writes end taken taken' text
writes_all Closed taken taken' text other all = all
writes_all Cut taken taken' text other all = all
writes_all ReadFault taken taken' text other all = all
writes_all WriteFault taken taken' text other all = absurd other

passes_all : (end : End) (count : ℕ) → IsAfterAnswer end → passes end count ≡ 2 * count
passes_all Closed count other = refl
passes_all Cut count other = refl
passes_all ReadFault count other = refl
passes_all WriteFault count other = absurd other

-- more was taken behind what is pending
consumes_more : (left now later : Option (List ℕ)) (front pending rest : List ℕ) → Consumes left now (front ++ pending) → Takes now later pending rest
    → Consumes left later (front ++ rest)
consumes_more left now later front pending rest first (taken, took, is) =
    subst (Consumes left later) (append_assoc front pending taken ∙ ap (λ l. front ++ l) (sym is))
    (Consumes-trans left now later (front ++ pending) taken first took)

-- the talk ended while a request was awaited: nothing was asked since, and `rest` is what was taken
pub talk_ended : {H : Type 0} (answers : H → Asked → Said → H → Type 0) (left now later taken taken' : Option (List ℕ)) (step step' : ℕ) (old new : H)
    (number : ℕ) (pending rest : List ℕ) (end : End) → IsAfterAnswer end
    → Progress answers left now taken taken' step step' old new number pending
    → Takes now later pending rest → IsEnd end false later rest
    → Talked answers left later taken taken' step step' old new end
talk_ended answers left now later taken taken' step step' old new number pending rest end other p takes ended = record {
  exchanges = p.exchanges;
  rest = rest;
  answered = p.answered;
  consumed = consumes_more left now later (raws p.exchanges) pending rest p.consumed takes;
  ended = subst (λ closed. IsEnd end closed later rest) (sym p.stays) ended;
  whole = HasAllBytes-open 1 false p.exchanges rest p.stays;
  written = writes_all end taken taken' (texts 1 p.exchanges) other p.written;
  steps = p.steps ∙ ap (λ n. step + n) (sym (passes_all end (length p.exchanges) other));
}

-- request number `number` was asked and answered; what stands ready is the request and what is behind it
module _ {H : Type 0} (answers : H → Asked → Said → H → Type 0) (left now later taken taken' taken'' : Option (List ℕ)) (step step' step'' : ℕ) (old new : H)
    (number : ℕ) (pending rest : List ℕ) (asked : Asked) (said : Said) (after : H) where
  abbrev one : Exchange H
  one = record { asked = asked; said = said; after = after }

  -- the exchanges with this one
  abbrev with_one : Progress answers left now taken taken' step step' old new number pending → List (Exchange H)
  with_one p = p.exchanges ++ one ∷ []

  number_is : (p : Progress answers left now taken taken' step step' old new number pending) → 1 + length p.exchanges ≡ number
  number_is p = omega (arith, p.count)

  one_more : (p : Progress answers left now taken taken' step step' old new number pending) → length (with_one p) ≡ length p.exchanges + 1
  one_more p = length-append p.exchanges (one ∷ [])

  one_consumed : (p : Progress answers left now taken taken' step step' old new number pending) → Takes now later pending (raw_of asked ++ rest)
      → Consumes left later (raws (with_one p) ++ rest)
  one_consumed p takes =
      subst (Consumes left later) (sym (raws-push p.exchanges one rest))
      (consumes_more left now later (raws p.exchanges) pending (raw_of asked ++ rest) p.consumed takes)

  one_text : (p : Progress answers left now taken taken' step step' old new number pending)
      → texts 1 (with_one p) ≡ texts 1 p.exchanges ++ answer_text number asked said
  one_text p = texts-push 1 p.exchanges one ∙ ap (λ n. texts 1 p.exchanges ++ answer_text n asked said) (number_is p)

  one_written : (p : Progress answers left now taken taken' step step' old new number pending) → Appends taken' taken'' (answer_text number asked said)
      → Appends taken taken'' (texts 1 (with_one p))
  one_written p written =
      subst (Appends taken taken'') (sym (one_text p)) (Appends-trans taken taken' taken'' (texts 1 p.exchanges) (answer_text number asked said) p.written written)

  one_closes : (p : Progress answers left now taken taken' step step' old new number pending) → closes_behind 1 false (with_one p) ≡ closes number asked said
  one_closes p = closes_behind-push 1 false p.exchanges one ∙ ap (λ n. closes n asked said) (number_is p)

  one_answered : (p : Progress answers left now taken taken' step step' old new number pending) → FitsAsked asked → answers new asked said after
      → Exchanges answers old 1 (with_one p) after
  one_answered p fits answered = Exchanges-push answers old new 1 false p.exchanges one p.answered p.stays fits answered

  -- its answer was written and closes the connection
  pub talk_closed : Progress answers left now taken taken' step step' old new number pending
      → Takes now later pending (raw_of asked ++ rest) → FitsAsked asked → answers new asked said after
      → closes number asked said ≡ true → ((raw : List ℕ) → asked ≡ Bytes raw → rest ≡ [])
      → Appends taken' taken'' (answer_text number asked said) → step'' ≡ step' + 2
      → Talked answers left later taken taken'' step step'' old after Closed
  talk_closed p takes fits answered closed all written steps = record {
    exchanges = with_one p;
    rest = rest;
    answered = one_answered p fits answered;
    consumed = one_consumed p takes;
    ended = inl (one_closes p ∙ closed);
    whole = HasAllBytes-push p.exchanges one rest all;
    written = one_written p written;
    steps = omega (arith, steps, p.steps, one_more p);
  }

  -- its answer was written, and the connection goes on
  pub talk_goes_on : Progress answers left now taken taken' step step' old new number pending
      → Takes now later pending (raw_of asked ++ rest) → FitsAsked asked → answers new asked said after
      → closes number asked said ≡ false
      → Appends taken' taken'' (answer_text number asked said) → step'' ≡ step' + 2
      → Progress answers left later taken taken'' step step'' old after (number + 1) rest
  talk_goes_on p takes fits answered stays written steps = record {
    exchanges = with_one p;
    answered = one_answered p fits answered;
    stays = one_closes p ∙ stays;
    consumed = one_consumed p takes;
    written = one_written p written;
    steps = omega (arith, steps, p.steps, one_more p);
    count = omega (arith, p.count, one_more p);
  }

  -- the sink failed, and took a front of its answer
  pub talk_broken : (n : ℕ) → Progress answers left now taken taken' step step' old new number pending
      → Takes now later pending (raw_of asked ++ rest) → FitsAsked asked → answers new asked said after
      → ((raw : List ℕ) → asked ≡ Bytes raw → rest ≡ [])
      → Appends taken' taken'' (take n (answer_text number asked said)) → step'' ≡ step' + 1
      → Talked answers left later taken taken'' step step'' old after WriteFault
  talk_broken n p takes fits answered all written steps =
      let text = answer_text number asked said in
      let front = length (texts 1 p.exchanges) + n in
      record {
        exchanges = with_one p;
        rest = rest;
        answered = one_answered p fits answered;
        consumed = one_consumed p takes;
        ended = tt;
        whole = HasAllBytes-push p.exchanges one rest all;
        written = (
          front,
          subst (Appends taken taken'') (sym (ap (take front) (one_text p) ∙ take-append-add (texts 1 p.exchanges) text n))
              (Appends-trans taken taken' taken'' (texts 1 p.exchanges) (take n text) p.written written),
        );
        steps = omega (arith, steps, p.steps, one_more p);
      }

-- ---- the whole

-- nothing was asked yet
pub talk_begins : {H : Type 0} (answers : H → Asked → Said → H → Type 0) (left taken : Option (List ℕ)) (step : ℕ) (old : H)
    → Progress answers left left taken taken step step old old 1 []
talk_begins answers left taken step old = record {
  exchanges = [];
  answered = refl;
  stays = refl;
  consumed = Consumes-nil left;
  written = Appends-nil taken;
  steps = omega arith;
  count = omega arith;
}

-- what holds from state to state at each answer holds from the first to the last
pub Exchanges-along : {H : Type 0} (answers : H → Asked → Said → H → Type 0) (Leads : H → H → Type 0) → ((s : H) → Leads s s)
    → ((s t u : H) → Leads s t → Leads t u → Leads s u) → ((s t : H) (asked : Asked) (said : Said) → answers s asked said t → Leads s t)
    → (old new : H) (number : ℕ) (xs : List (Exchange H)) → Exchanges answers old number xs new → Leads old new
Exchanges-along answers Leads same then each old new number [] is = subst (Leads old) (sym is) (same old)
Exchanges-along answers Leads same then each old new number (x ∷ xs) (fits, answered, last, more) =
    then old x.after new (each old x.after x.asked x.said answered) (Exchanges-along answers Leads same then each x.after new (number + 1) xs more)

not_last : (number : ℕ) (asked : Asked) (said : Said) → closes number asked said ≡ false → number ≢ LAST_REQUEST
not_last number asked said stays is = go said.page.closing (asks_close asked) (number == LAST_REQUEST) stays (ap (λ n. n == LAST_REQUEST) is)
  where
    go : (a b c : Bool) → (a || (b || c)) ≡ false → c ≡ true → ⊥
    go true b c shut last = absurd (cc)
    go false true c shut last = absurd (cc)
    go false false true shut last = absurd (cc)
    go false false false shut last = absurd (cc)

-- behind request number 1,000,000 none comes
pub exchanges_are_few : {H : Type 0} (answers : H → Asked → Said → H → Type 0) (old new : H) (number : ℕ) (xs : List (Exchange H))
    → Exchanges answers old number xs new → number ≤ LAST_REQUEST → number + length xs ≤ LAST_REQUEST + 1
exchanges_are_few answers old new number [] is short = omega (arith, short)
exchanges_are_few answers old new number (x ∷ []) (fits, answered, last, more) short = omega (arith, short)
exchanges_are_few answers old new number (x ∷ y ∷ xs) (fits, answered, last, more) short =
    let other = not_last number x.asked x.said (last (λ none. absurd (cc))) in
    let next = exchanges_are_few answers x.after new (number + 1) (y ∷ xs) more (omega (arith, short, other)) in
    omega (arith, next)
