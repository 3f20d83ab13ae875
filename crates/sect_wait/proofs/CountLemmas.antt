-- How many searches a round takes: at most one for each entry that is sought.
use Rattle.std.specs.Prelude.{◌≡◌, ℕ, ◌+◌, ◌<◌, ◌≤◌, Bool, true, false, ◌||◌, ◌&&◌, ◌==◌, cond, List, [], ◌∷◌, ◌++◌, length, filter, find, take, Option, Some, None, refl}
use Rattle.std.specs.List.{list_any}
use Rattle.std.specs.Option.{is_some}
use Rattle.std.specs.Ordering.{nat_cmp, is_eq}
use Rattle.std.specs.BTreeMap.{is_at}
use Rattle.std.specs.BTreeSet.{BTreeSet, contains}
use Rattle.std.proofs.Common.{sym, ◌∙◌, ap, subst, arith, inl, inr, get_or, length-append}
use Rattle.std.proofs.lemmas.Bool.{eqb-true, eq-eqb}
use Rattle.std.proofs.lemmas.Bool.Decides.{nat_tests}
use Rattle.std.proofs.lemmas.List.{take_more}
use Rattle.sect_model.specs.declared.held.Waiting.{Waiting}
use Rattle.sect_model.specs.World.{World}
use Rattle.sect_model.specs.Kept.{tickets_rise}
use Rattle.sect_model.specs.Freer.{Among}
use Rattle.sect_model.proofs.Members.{Member, both, both-left, both-right, count-le, find-member, neither-left, neither-right, none-at, none-of, not_both}
use Rattle.sect_model.proofs.FreerLemmas.{member}
use Rattle.sect_wait.specs.declared.next.Candidate.{Candidate}
use Rattle.sect_wait.specs.declared.opened.Opened.{Opened}
use Rattle.sect_wait.specs.declared.entry.Left.{Left}
use Rattle.sect_wait.specs.Indexed.{has_ticket}
use Rattle.sect_wait.specs.Marked.{Marked, NotesMore, is_from, is_source, wants_one}
use Rattle.sect_wait.specs.Opened.{is_sought}
use Rattle.sect_wait.specs.Placing.{Tried, is_behind, marks_from}
use Rattle.sect_wait.specs.Touched.{AddsOnly, AreOnList, ListsSought, MarksOnly, PutsOnly, SeeksOnly, count_sought, count_tried, is_named, is_sought_ticket, may_be_sought}
use Rattle.sect_catalog.proofs.SearchLemmas.{any-append}
use Rattle.sect_wait.proofs.MarkLemmas.{among-get, off-and}
use Rattle.sect_wait.proofs.NeedLemmas.{neither, second-off}
use Rattle.sect_wait.proofs.NextLemmas.{best-stays, filter-more, tried-behind}
use Rattle.sect_wait.proofs.OnlyLemmas.{no-source, no-ticket, unnamed, unwanting}
use Rattle.sect_wait.proofs.QueueLemmas.{one-entry}
use Rattle.sect_wait.proofs.TriedLemmas.{tried-again, tried-more}

-- ---- counts

-- one more of them passes
pub one-more : (p q : Waiting → Bool) (es : List Waiting) (d : Waiting) → Member es d → ((e : Waiting) → p e ≡ true → q e ≡ true) → p d ≡ false → q d ≡ true → length (filter p es) + 1 ≤ length (filter q es)
one-more p q [] d i more fails passes = absurd i
one-more p q (e ∷ es) d (inl is) more fails passes =
    subst (λ b. length (cond b (e ∷ filter p es) (filter p es)) + 1 ≤ length (filter q (e ∷ es))) (sym (ap p is ∙ fails))
    (subst (λ b. length (filter p es) + 1 ≤ length (cond b (e ∷ filter q es) (filter q es))) (sym (ap q is ∙ passes)) (omega (arith, count-le p q es more)))
one-more p q (e ∷ es) d (inr i) more fails passes = by_head (p e) (q e) (more e) (one-more p q es d i more fails passes)
  where
    by_head : (a b : Bool) → (a ≡ true → b ≡ true) → length (filter p es) + 1 ≤ length (filter q es)
        → length (cond a (e ∷ filter p es) (filter p es)) + 1 ≤ length (cond b (e ∷ filter q es) (filter q es))
    by_head true true h le = omega (arith, le)
    by_head true false h le = absurd (not_both false (h refl) refl)
    by_head false true h le = omega (arith, le)
    by_head false false h le = le

-- of one entry more
pub sought-more : (m : Marked) (o : Opened) (es : List Waiting) (i : ℕ) (e : Waiting) (old n now : ℕ) → i < length es → e ≡ get_or es i e → n ≤ old + count_sought m o (take i es) → now ≤ n + cond (is_sought m o e) 1 0
    → now ≤ old + count_sought m o (take (i + 1) es)
sought-more m o es i e old n now few at so_far one =
    subst (λ fs. now ≤ old + count_sought m o fs) (sym (take_more es i e few ∙ ap (λ x. take i es ++ x ∷ []) (sym at)))
    (subst (λ fs. now ≤ old + length fs) (sym (filter-more (is_sought m o) (take i es) e))
    (subst (λ k. now ≤ old + k) (sym (length-append (filter (is_sought m o) (take i es)) (cond (is_sought m o e) (e ∷ []) []))) (by_test (is_sought m o e) one)))
  where
    by_test : (b : Bool) → now ≤ n + cond b 1 0 → now ≤ old + (length (filter (is_sought m o) (take i es)) + length (cond b (e ∷ []) []))
    by_test true le = omega (arith, so_far, le)
    by_test false le = omega (arith, so_far, le)

-- ---- tickets that were tried

same_order : (a b : ℕ) → is_eq (nat_cmp a b) ≡ (a == b)
same_order a b = grind (arith, nat_tests)

module _ (m : Marked) (o : Opened) (es : List Waiting) (ticket : ℕ) (old new : BTreeSet ℕ) (after : (q : ℕ) → contains nat_cmp new q ≡ cond (is_eq (nat_cmp ticket q)) true (contains nat_cmp old q)) where
  put-is : (q : ℕ) → contains nat_cmp new q ≡ cond (ticket == q) true (contains nat_cmp old q)
  put-is q = after q ∙ ap (λ b. cond b true (contains nat_cmp old q)) (same_order ticket q)

  pub puts-only : PutsOnly ticket old new
  puts-only t out other = put-is t ∙ ap (λ b. cond b true (contains nat_cmp old t)) other ∙ out

  has-more : (e : Waiting) → is_sought m o e && contains nat_cmp old e.ticket ≡ true → is_sought m o e && contains nat_cmp new e.ticket ≡ true
  has-more e h =
      both (is_sought m o e) (contains nat_cmp new e.ticket) (both-left (is_sought m o e) (contains nat_cmp old e.ticket) h)
      (put-is e.ticket ∙ by_test (ticket == e.ticket) (both-right (is_sought m o e) (contains nat_cmp old e.ticket) h))
    where
      by_test : (b : Bool) → contains nat_cmp old e.ticket ≡ true → cond b true (contains nat_cmp old e.ticket) ≡ true
      by_test true has = refl
      by_test false has = has

  pub tried-counted : (d : Waiting) (n now : ℕ) → Some d ≡ find (λ e. e.ticket == ticket) es → contains nat_cmp old ticket ≡ false → now ≤ n + cond (is_sought m o d) 1 0
      → now + count_tried m o es old ≤ n + count_tried m o es new
  tried-counted d n now found out = by_test (is_sought m o d) refl
    where
      its : Member es d × (d.ticket == ticket ≡ true)
      its = find-member (λ (e : Waiting). e.ticket == ticket) es d (sym found)

      same : d.ticket ≡ ticket
      same = eqb-true d.ticket ticket its.1

      by_test : (b : Bool) → is_sought m o d ≡ b → now ≤ n + cond b 1 0 → now + count_tried m o es old ≤ n + count_tried m o es new
      by_test true t le =
          omega (
            arith,
            le,
            one-more (λ e. is_sought m o e && contains nat_cmp old e.ticket) (λ e. is_sought m o e && contains nat_cmp new e.ticket) es d its.0 has-more
                (second-off (is_sought m o d) (contains nat_cmp old d.ticket) (ap (contains nat_cmp old) same ∙ out))
                (both (is_sought m o d) (contains nat_cmp new d.ticket) t (put-is d.ticket ∙ ap (λ b. cond b true (contains nat_cmp old d.ticket)) (eq-eqb ticket d.ticket (sym same)))),
          )
      by_test false t le =
          omega (arith, le, count-le (λ e. is_sought m o e && contains nat_cmp old e.ticket) (λ e. is_sought m o e && contains nat_cmp new e.ticket) es has-more)

-- all that were tried are sought
pub tried-sought : (m : Marked) (o : Opened) (es : List Waiting) (tried : BTreeSet ℕ) (old now : ℕ) → now ≤ old + count_tried m o es tried → now ≤ old + count_sought m o es
tried-sought m o es tried old now le =
    omega (arith, le, count-le (λ e. is_sought m o e && contains nat_cmp tried e.ticket) (is_sought m o) es (λ e h. both-left (is_sought m o e) (contains nat_cmp tried e.ticket) h))

pub at-least : (n x : ℕ) → n ≤ n + x
at-least n x = omega arith

pub steps-more : (old n now a b : ℕ) → n ≤ old + a → now + a ≤ n + b → now ≤ old + b
steps-more old n now a b h i = omega (arith, h, i)

-- none was tried yet
pub none-on-list : (set : BTreeSet ℕ) → set.keys ≡ [] → AreOnList set []
none-on-list set none t out = ap (list_any (is_at (nat_cmp t))) none

-- the tickets that were tried are on the list, of which one more was put into the set
pub on-list-more : (old new : BTreeSet ℕ) (ts : List ℕ) (ticket : ℕ) → AreOnList old ts → PutsOnly ticket old new → AreOnList new (ts ++ ticket ∷ [])
on-list-more old new ts ticket on puts t out =
    let last : (ticket == t) || false ≡ false = neither-right (has_ticket t ts) _ (sym (any-append (λ s. s == t) ts (ticket ∷ [])) ∙ out) in
    puts t (on t (neither-left (has_ticket t ts) _ (sym (any-append (λ s. s == t) ts (ticket ∷ [])) ∙ out))) (neither-left (ticket == t) false last)

was-on-list : (set : BTreeSet ℕ) (ts : List ℕ) (ticket : ℕ) → AreOnList set ts → contains nat_cmp set ticket ≡ true → has_ticket ticket ts ≡ true
was-on-list set ts ticket on has = by_test (has_ticket ticket ts) refl
  where
    by_test : (b : Bool) → has_ticket ticket ts ≡ b → b ≡ true
    by_test true h = refl
    by_test false h = absurd (not_both (contains nat_cmp set ticket) has (on ticket h))

module _ (w : World) (es : List Waiting) (ticket : ℕ) (spent : List ℕ) (best : Option Candidate) (left : Left) (set : BTreeSet ℕ) (before : List ℕ) (on : AreOnList set before) (t : Tried w es before best spent left) where
  -- the ticket was tried already
  pub once-tried : contains nat_cmp set ticket ≡ true → Tried w es (before ++ ticket ∷ []) best spent left
  once-tried has = tried-again w es ticket spent before best left (was-on-list set before ticket on has) t

  -- the best so far comes before its entry
  pub once-behind : (next : ℕ) (e : Waiting) → tickets_rise es next ≡ true → Some e ≡ find (λ e. e.ticket == ticket) es → true ≡ is_behind best e → Tried w es (before ++ ticket ∷ []) best spent left
  once-behind next e rise found behind =
      tried-more w es ticket spent next e best best left left rise found (λ fs b. best-stays w fs e best behind b) (λ fs b. tried-behind w fs e spent best left behind b) before t

-- ---- who is left to be tried again

pub again-one : (m : Marked) (o : Opened) (e : Waiting) (before after : List ℕ) → is_sought m o e ≡ true → AddsOnly e.ticket before after → ListsSought m o (e ∷ []) before after
again-one m o e before after sought adds t none out = adds t out (sym (ap (λ b. b && e.ticket == t) sought) ∙ neither-left (is_sought m o e && e.ticket == t) false none)

pub again-of : (m : Marked) (o : Opened) (es : List Waiting) (d : Waiting) (before after : List ℕ) → Member es d → ListsSought m o (d ∷ []) before after → ListsSought m o es before after
again-of m o es d before after i lists t none out = lists t (neither (is_sought m o d && d.ticket == t) false (none-at (λ (d : Waiting). is_sought m o d && d.ticket == t) es none d i) refl) out

-- those of the entry at a place
pub again-at : (m : Marked) (o : Opened) (es : List Waiting) (i : ℕ) (e : Waiting) (before after : List ℕ) → i < length es → e ≡ get_or es i e → ListsSought m o (e ∷ []) before after → ListsSought m o es before after
again-at m o es i e before after few at = again-of m o es e before after (member es e (subst (Among es) (sym at) (among-get es i e few)))

pub again-both : (m : Marked) (o : Opened) (es : List Waiting) (before between after : List ℕ) → ListsSought m o es before between → ListsSought m o es between after → ListsSought m o es before after
again-both m o es before between after first second t none out = second t none (first t none out)

-- who isn't sought isn't left
pub unsought-unlisted : (m : Marked) (o : Opened) (es : List Waiting) (next : ℕ) (e : Waiting) → tickets_rise es next ≡ true → Among es e → is_sought m o e ≡ false → is_sought_ticket m o es e.ticket ≡ false
unsought-unlisted m o es next e rise a none = none-of (λ (d : Waiting). is_sought m o d && d.ticket == e.ticket) es (λ d i. by_ticket d i (d.ticket == e.ticket) refl)
  where
    by_ticket : (d : Waiting) → Member es d → (b : Bool) → d.ticket == e.ticket ≡ b → is_sought m o d && b ≡ false
    by_ticket d i true same = off-and (is_sought m o d) true (ap (is_sought m o) (one-entry es next rise d e i (member es e a) (eqb-true d.ticket e.ticket same)) ∙ none)
    by_ticket d i false other = second-off (is_sought m o d) false refl

-- ---- a round

pub unsought : (m : Marked) (o : Opened) (e : Waiting) → may_be_sought m o.courses.items e ≡ false → is_sought m o e ≡ false
unsought m o e h =
    let named : is_named m e ≡ false = unnamed m o.courses.items e h in
    neither _ (wants_one o.courses.items e)
    (neither (list_any (λ t. t == e.ticket) m.tickets) (is_source m e && is_from m.from e) (no-ticket m e named) (off-and (is_source m e) (is_from m.from e) (no-source m e named)))
    (unwanting m o.courses.items e h)

passed-named : (best : Option Candidate) (m : Marked) (e : Waiting) → is_named m e ≡ false → is_named (marks_from best m) e ≡ false
passed-named None m e h = second-off (is_some e.give) false refl
passed-named (Some c) m e h = h

-- who isn't sought isn't after the round either
pub round-only : (m k n l : Marked) (o : Opened) (es : List Waiting) (next : ℕ) (best : Option Candidate) (before again spent : List ℕ) → tickets_rise es next ≡ true → before ≡ [] → ListsSought m o es before again
    → k ≡ marks_from best m → NotesMore spent k n → MarksOnly (λ e. has_ticket e.ticket again) es n l → SeeksOnly (λ e. false) es m o.courses.items l o.courses.items
round-only m k n l o es next best before again spent rise none lists passed notes only e a h i =
    neither (is_named l e) (wants_one o.courses.items e)
    (only e a (ap (λ x. is_named x e) notes.marks ∙ ap (λ x. is_named x e) passed ∙ passed-named best m e (unnamed m o.courses.items e h))
    (lists e.ticket (unsought-unlisted m o es next e rise a (unsought m o e h)) (ap (has_ticket e.ticket) none)))
    (unwanting m o.courses.items e h)
