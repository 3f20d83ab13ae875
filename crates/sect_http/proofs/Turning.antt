-- A turn, over any relation that answers.
use Rattle.std.proofs.Common.{◌≡◌, ◌≢◌, ◌⊎◌, ℕ, ◌+◌, ◌<◌, ◌≤◌, ◌==◌, ◌||◌, arith, Bool, true, false, List, [], ◌++◌, Option, None, Some, Ok, Err, Result, refl, sym, ap, ◌∙◌, subst, inl, inr, length, drop, take}
use Rattle.std.specs.Io.KnownBytes.{Appends}
use Rattle.std.proofs.Math.Seq.{drop-append_seam}
use Rattle.sect_edge.specs.declared.edge.Failed.{Failed}
use Rattle.sect_talk.specs.Said.{Said, no_memory}
use Rattle.sect_talk.specs.Pages.{page_text}
use Rattle.sect_talk.specs.Asked.{Asked, Bytes, Head, Whole, FitsAsked, LAST_REQUEST, answer_text, asks_close, closes, is_headless, raw_of}
use Rattle.sect_talk.specs.Coming.{Takes}
use Rattle.sect_talk.specs.Rest.{IsEnd}
use Rattle.sect_talk.specs.Talk.{GoesOn, Progress, Talked}
use Rattle.sect_talk.specs.declared.end.End.{End}
use Rattle.sect_talk.specs.declared.end.End.TheVariants.{Closed, Cut, ReadFault, WriteFault}
use Rattle.sect_talk.proofs.Talks.{IsAfterAnswer, talk_broken, talk_closed, talk_ended, talk_goes_on}
use Rattle.sect_http.specs.Hearing.{IsHeard, Wishes}
use Rattle.sect_http.specs.Telling.{IsTold, Tells, Writes, said_text}
use Rattle.sect_http.specs.Turns.{IsRefusal, Responds, wish_closes}
use Rattle.sect_http.specs.declared.heard.Heard.{Heard}
use Rattle.sect_http.specs.declared.heard.Wish.{Wish}
use Rattle.sect_http.specs.declared.heard.Wish.TheVariants.{Refused, Wanting, Asks}

-- ---- what is told closes the connection

or_same : (a b c : Bool) → a ≡ true → (a || b) ≡ (a || c)
or_same true b c is = refl
or_same false b c is = absurd (false_is_not_true is)
  where
    false_is_not_true : false ≡ true → ⊥
    false_is_not_true e = cc

-- where it was refused the page closes; else the request and its number say the same as what was heard
pub closes_as_heard : (wish : Wish) (asked : Asked) (number : ℕ) (told : Said) → Wishes asked wish → (IsRefusal wish → told.page.closing ≡ true)
    → (told.page.closing || (wish_closes wish || number == LAST_REQUEST)) ≡ closes number asked told
closes_as_heard (Refused why) asked number told wished shut = or_same told.page.closing (true || number == LAST_REQUEST) (asks_close asked || number == LAST_REQUEST) (shut tt)
closes_as_heard Wanting asked number told wished shut = or_same told.page.closing (true || number == LAST_REQUEST) (asks_close asked || number == LAST_REQUEST) (shut tt)
closes_as_heard (Asks errand closing) (Bytes raw) number told wished shut = absurd wished.0
closes_as_heard (Asks errand closing) (Head h) number told wished shut = absurd wished.0
closes_as_heard (Asks errand closing) (Whole h body) number told ((is, same), fits) shut = ap (λ c. told.page.closing || (c || number == LAST_REQUEST)) same

-- the text of what is told
text_with : Said → Bool → Bool → List ℕ
text_with told closing headless = page_text (record told.page { closing = closing }) headless told.body

same_text : (told : Said) (a b c d : Bool) → a ≡ b → c ≡ d → text_with told a c ≡ text_with told b d
same_text told a b c d e f = ap (λ x. text_with told x c) e ∙ ap (λ x. text_with told b x) f

writes_same : (taken taken' : Option (List ℕ)) (text text' : List ℕ) (a b : Bool) (result : Result Bool Failed) → text ≡ text' → a ≡ b → Writes taken taken' text a result → Writes taken taken' text' b result
writes_same taken taken' text text' a b result same e wrote = subst (λ t. Writes taken taken' t b result) same (subst (λ x. Writes taken taken' text x result) e wrote)

told_shut : (said told : Said) (closing headless : Bool) → IsTold said closing headless told → said.page.closing ≡ true → told.page.closing ≡ true
told_shut said told closing headless (inl same) shut = ap (λ s. s.page.closing) same ∙ shut
told_shut said told closing headless (inr (want, long)) shut = ap (λ s. s.page.closing) want

-- what was told and written is the answer to what was heard
pub responds_as_heard : {H : Type 0} (answers : H → Asked → Said → H → Type 0) (number : ℕ) (taken taken' : Option (List ℕ)) (old : H) (asked : Asked) (new : H)
    (heard : Heard) (pending : List ℕ) (closing : Bool) (said told : Said) (result : Result Bool Failed)
    → IsHeard pending heard asked → closing ≡ (wish_closes heard.wish || number == LAST_REQUEST)
    → answers old asked told new → (IsRefusal heard.wish → said.page.closing ≡ true) → IsTold said closing heard.headless told
    → Tells taken taken' told closing heard.headless result
    → Responds answers number taken taken' old asked new result
unfolding text_with
responds_as_heard answers number taken taken' old asked new heard pending closing said told result h closing_is answered shut is_told wrote =
    let same = ap (λ c. told.page.closing || c) closing_is
    ∙ closes_as_heard heard.wish asked number told h.wish (λ r. told_shut said told closing heard.headless is_told (shut r)) in record {
      told = told;
      answered = answered;
      wrote = writes_same taken taken' (said_text told closing heard.headless) (answer_text number asked told) (told.page.closing || closing) (closes number asked told) result
          (same_text told (told.page.closing || closing) (closes number asked told) heard.headless (is_headless asked) same h.headless) same wrote;
    }

-- ---- a turn

last_false : (a b c : Bool) → (a || (b || c)) ≡ false → c ≡ false
last_false true b c e = absurd (cc)
last_false false true c e = absurd (cc)
last_false false false c e = e

below_last : (number : ℕ) → (number == LAST_REQUEST) ≡ false → number ≤ LAST_REQUEST → number < LAST_REQUEST
below_last number other most = grind (arith, other, most)

after_answer : (end : End) → end ≢ WriteFault → IsAfterAnswer end
after_answer Closed other = tt
after_answer Cut other = tt
after_answer ReadFault other = tt
after_answer WriteFault other = absurd (other refl)

-- the connection ended before a request came
pub turn_ended : {H : Type 0} (answers : H → Asked → Said → H → Type 0) (left now later taken taken' : Option (List ℕ)) (step step' : ℕ) (old new : H)
    (number : ℕ) (pending ready : List ℕ) (end : End) → end ≢ WriteFault
    → Progress answers left now taken taken' step step' old new number pending → Takes now later pending ready → IsEnd end false later ready
    → Talked answers left later taken taken' step step' old new end
turn_ended answers left now later taken taken' step step' old new number pending ready end other p takes ended =
    talk_ended answers left now later taken taken' step step' old new number pending ready end (after_answer end other) p takes ended

module _ {H : Type 0} (answers : H → Asked → Said → H → Type 0) (left now later taken taken' taken'' : Option (List ℕ)) (step step' step'' : ℕ) (old new : H)
    (number : ℕ) (pending ready : List ℕ) (heard : Heard) (asked : Asked) (after : H) where
  takes_asked : (h : IsHeard ready heard asked) → Takes now later pending ready → Takes now later pending (raw_of asked ++ h.rest)
  takes_asked h (bytes, took, is) = (bytes, took, sym h.bytes ∙ is)

  rest_is : (h : IsHeard ready heard asked) → h.rest ≡ drop heard.len ready
  rest_is h = sym (ap (λ n. drop n ready) h.len ∙ (ap (λ l. drop (length (raw_of asked)) l) h.bytes ∙ drop-append_seam (raw_of asked) h.rest))

  -- the sink failed
  pub turn_broken : (fault : Failed) → Progress answers left now taken taken' step step' old new number pending → Takes now later pending ready
      → IsHeard ready heard asked → Responds answers number taken' taken'' new asked after (Err fault) → step'' ≡ step' + 1
      → Talked answers left later taken taken'' step step'' old after WriteFault
  turn_broken fault p takes h r steps =
      talk_broken answers left now later taken taken' taken'' step step' step'' old new number pending h.rest asked r.told after r.wrote.0
      p (takes_asked h takes) h.fits r.answered h.whole r.wrote.1 steps

  -- the answer was written, and the connection closes
  pub turn_closed : (closing : Bool) → closing ≡ true → Progress answers left now taken taken' step step' old new number pending → Takes now later pending ready
      → IsHeard ready heard asked → Responds answers number taken' taken'' new asked after (Ok closing) → step'' ≡ step' + 2
      → Talked answers left later taken taken'' step step'' old after Closed
  turn_closed closing shut p takes h r steps =
      talk_closed answers left now later taken taken' taken'' step step' step'' old new number pending h.rest asked r.told after
      p (takes_asked h takes) h.fits r.answered (sym r.wrote.0 ∙ shut) h.whole r.wrote.1 steps

  -- the answer was written, and the connection goes on
  pub turn_goes_on : (closing : Bool) → closing ≡ false → Progress answers left now taken taken' step step' old new number pending → Takes now later pending ready
      → IsHeard ready heard asked → Responds answers number taken' taken'' new asked after (Ok closing) → step'' ≡ step' + 2
      → Progress answers left later taken taken'' step step'' old after (number + 1) (drop heard.len ready)
  turn_goes_on closing stays p takes h r steps = subst (Progress answers left later taken taken'' step step'' old after (number + 1)) (rest_is h)
      (talk_goes_on answers left now later taken taken' taken'' step step' step'' old new number pending h.rest asked r.told after
      p (takes_asked h takes) h.fits r.answered (sym r.wrote.0 ∙ stays) r.wrote.1 steps)

  -- it wasn't the last request
  pub turn_is_not_last : (closing : Bool) → closing ≡ false → Responds answers number taken' taken'' new asked after (Ok closing) → number ≤ LAST_REQUEST → number < LAST_REQUEST
  turn_is_not_last closing stays r most = below_last number (last_false r.told.page.closing (asks_close asked) (number == LAST_REQUEST) (sym r.wrote.0 ∙ stays)) most
