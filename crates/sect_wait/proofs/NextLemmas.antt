-- The entry that is placed next, found in one pass.
use Rattle.std.specs.Prelude.{◌≡◌, ℕ, Bool, true, false, ◌&&◌, ◌||◌, ◌==◌, nat_lt, nat_le, cond, List, [], ◌∷◌, ◌++◌, filter, Option, Some, None, refl, ◌⊎◌}
use Rattle.std.specs.Option.{option_map_or}
use Rattle.std.specs.List.{list_any}
use Rattle.std.proofs.Common.{sym, ◌∙◌, ap, subst, arith, inl, inr}
use Rattle.std.proofs.lemmas.Bool.Decides.{nat_tests}
use Rattle.std.proofs.lemmas.List.{append-nil}
use Rattle.sect_base.specs.declared.choice.Choice.{Choice}
use Rattle.sect_model.specs.declared.held.Waiting.{Waiting}
use Rattle.sect_model.specs.World.{World}
use Rattle.sect_model.specs.Settle.{first_entry, comes_first, is_placeable, placement_of}
use Rattle.sect_model.proofs.Members.{decide, neither-left, neither-right, not_both}
use Rattle.sect_model.specs.Freer.{Among}
use Rattle.sect_model.proofs.FreerSettle.{touched-decide}
use Rattle.sect_wait.specs.declared.next.Candidate.{Candidate}
use Rattle.sect_wait.specs.declared.opened.Opened.{Opened}
use Rattle.sect_wait.specs.declared.entry.Left.{Left}
use Rattle.sect_wait.specs.Indexed.{MarksTold}
use Rattle.sect_wait.specs.Marked.{Marked, Needless, NotesMore, OthersNeedNoSearch, is_marked, is_noted, is_source, no_marks}
use Rattle.sect_wait.specs.Opened.{OthersBut, UnsoughtNeedNone, WasBlocked, is_sought}
use Rattle.sect_wait.specs.Placing.{IsOf, IsBest, KeepsLeft, KeepsListed, OthersTried, RestNeedNone, OthersAfter, candidate_of, is_before, is_behind, marks_from, turn_of}
use Rattle.sect_wait.proofs.MarkLemmas.{among-append, first-off, off-source}
use Rattle.sect_wait.proofs.NeedLemmas.{needless-more, needless-unplaced, same-notes}

-- ---- the first of some entries and one more

-- the first of three entries, whichever two are compared first
turns : (d f e : Waiting) → cond (comes_first d (cond (comes_first f e) f e)) d (cond (comes_first f e) f e) ≡ cond (comes_first (cond (comes_first d f) d f) e) (cond (comes_first d f) d f) e
turns d f e = grind (arith, nat_tests)

pub first-append : (es : List Waiting) (e : Waiting) → first_entry (es ++ e ∷ []) ≡ Some (option_map_or (λ f. cond (comes_first f e) f e) (first_entry es) e)
first-append [] e = refl
first-append (d ∷ es) e = ap (λ o. Some (option_map_or (λ f. cond (comes_first d f) d f) o d)) (first-append es e) ∙ by_rest (first_entry es)
  where
    by_rest : (o : Option Waiting)
        → Some (cond (comes_first d (option_map_or (λ f. cond (comes_first f e) f e) o e)) d (option_map_or (λ f. cond (comes_first f e) f e) o e))
        ≡ Some (cond (comes_first (option_map_or (λ f. cond (comes_first d f) d f) o d) e) (option_map_or (λ f. cond (comes_first d f) d f) o d) e)
    by_rest None = refl
    by_rest (Some f) = ap Some (turns d f e)

pub filter-more : {X : Type 0} (test : X → Bool) (xs : List X) (x : X) → filter test (xs ++ x ∷ []) ≡ filter test xs ++ cond (test x) (x ∷ []) []
filter-more test [] x = refl
filter-more test (y ∷ ys) x = by_test (test y) (filter-more test ys x)
  where
    by_test : (b : Bool) → filter test (ys ++ x ∷ []) ≡ filter test ys ++ cond (test x) (x ∷ []) []
        → cond b (y ∷ filter test (ys ++ x ∷ [])) (filter test (ys ++ x ∷ [])) ≡ cond b (y ∷ filter test ys) (filter test ys) ++ cond (test x) (x ∷ []) []
    by_test true ih = ap (λ zs. y ∷ zs) ih
    by_test false ih = ih

module _ (w : World) (before : List Waiting) (e : Waiting) where
  abbrev placeable : List Waiting → List Waiting
  placeable es = filter (is_placeable w) es

  -- an entry that can't be placed changes nothing
  not-placed : is_placeable w e ≡ false → first_entry (placeable (before ++ e ∷ [])) ≡ first_entry (placeable before)
  not-placed h = ap first_entry (filter-more (is_placeable w) before e ∙ ap (λ b. placeable before ++ cond b (e ∷ []) []) h ∙ append-nil (placeable before))

  -- one that can be placed is compared with the first so far
  is-placed : is_placeable w e ≡ true → first_entry (placeable (before ++ e ∷ [])) ≡ Some (option_map_or (λ f. cond (comes_first f e) f e) (first_entry (placeable before)) e)
  is-placed h = ap first_entry (filter-more (is_placeable w) before e ∙ ap (λ b. placeable before ++ cond b (e ∷ []) []) h) ∙ first-append (placeable before) e

  -- the first so far stays where it comes before the entry
  stays : (f : Waiting) → first_entry (placeable before) ≡ Some f → comes_first f e ≡ true → first_entry (placeable (before ++ e ∷ [])) ≡ Some f
  stays f first earlier = by_test (is_placeable w e) refl
    where
      by_test : (b : Bool) → is_placeable w e ≡ b → first_entry (placeable (before ++ e ∷ [])) ≡ Some f
      by_test true t = is-placed t ∙ ap (λ o. Some (option_map_or (λ g. cond (comes_first g e) g e) o e)) first ∙ ap (λ b. Some (cond b f e)) earlier
      by_test false t = not-placed t ∙ first

  -- a candidate comes before an entry where its own entry does
  same-order : (f : Waiting) (c : Candidate) → IsOf w f c → is_before c e ≡ comes_first f e
  same-order f c is = λ i. nat_lt (is.class i) e.class || (is.class i) == e.class && nat_le (is.ticket i) e.ticket

  pub best-stays : (best : Option Candidate) → true ≡ option_map_or (λ c. is_before c e) best false → IsBest w before best → IsBest w (before ++ e ∷ []) best
  best-stays None h best = cc
  best-stays (Some c) h best = (best.0, stays best.0 best.1 (sym (same-order best.0 c best.2) ∙ sym h), best.2)

  pub best-found : (best : Option Candidate) (choice : Choice) → false ≡ option_map_or (λ c. is_before c e) best false → Some (choice ∷ []) ≡ placement_of w e
      → IsBest w before best → IsBest w (before ++ e ∷ []) (Some (candidate_of e choice))
  best-found best choice h found is_best = (e, by_best best h is_best, record { ticket = refl; class = refl; student = refl; give = refl; choice = sym found })
    where
      placed : is_placeable w e ≡ true
      placed = ap (λ o. option_map_or (λ choices. true) o false) (sym found)

      by_best : (best : Option Candidate) → false ≡ option_map_or (λ c. is_before c e) best false → IsBest w before best → first_entry (placeable (before ++ e ∷ [])) ≡ Some e
      by_best None h b = is-placed placed ∙ ap (λ o. Some (option_map_or (λ g. cond (comes_first g e) g e) o e)) b
      by_best (Some c) h b =
          is-placed placed ∙ ap (λ o. Some (option_map_or (λ g. cond (comes_first g e) g e) o e)) b.1
          ∙ ap (λ t. Some (cond t b.0 e)) (sym (same-order b.0 c b.2) ∙ sym h)

  pub best-none : (best : Option Candidate) → None ≡ placement_of w e → IsBest w before best → IsBest w (before ++ e ∷ []) best
  best-none None h b = not-placed (ap (λ o. option_map_or (λ choices. true) o false) (sym h)) ∙ b
  best-none (Some c) h b = (b.0, not-placed (ap (λ o. option_map_or (λ choices. true) o false) (sym h)) ∙ b.1, b.2)

  pub best-unplaced : (best : Option Candidate) → is_placeable w e ≡ false → IsBest w before best → IsBest w (before ++ e ∷ []) best
  best-unplaced None h b = not-placed h ∙ b
  best-unplaced (Some c) h b = (b.0, not-placed h ∙ b.1, b.2)

-- ---- the touched entries alone

-- where no entry can be placed that isn't touched, the best of the touched ones is the best of all
pub best-of-touched : (w : World) (es : List Waiting) (touched : Waiting → Bool) (best : Option Candidate)
    → ((e : Waiting) → Among es e → touched e ≡ false → is_placeable w e ≡ false) → IsBest w (filter touched es) best → IsBest w es best
best-of-touched w es touched None none h = sym (touched-decide w es touched none) ∙ h
best-of-touched w es touched (Some c) none h = (h.0, sym (touched-decide w es touched none) ∙ h.1, h.2)

-- ---- those before the best

-- a candidate comes before its own entry, and one that isn't behind another comes before all that are behind that
own-behind : (e : Waiting) (choice : Choice) → is_before (candidate_of e choice) e ≡ true
own-behind e choice = grind (arith, nat_tests)

passes-on : (c : Candidate) (e f : Waiting) (choice : Choice) → is_before c e ≡ false → is_before (candidate_of e choice) f ≡ false → is_before c f ≡ false
passes-on c e f choice h g = grind (arith, nat_tests, h, g)

-- what is noted more
noted-more : (a b c : Bool) → (b ≡ true → c ≡ true) → a || b ≡ true → a || c ≡ true
noted-more true b c more h = h
noted-more false b c more h = more h

noted-right : (a b : Bool) → b ≡ true → a || b ≡ true
noted-right true b h = refl
noted-right false b h = h

pub noted-left : (a b : Bool) → a ≡ true → a || b ≡ true
noted-left true b h = refl
noted-left false b h = absurd (not_both false h refl)

still-noted : (before after : List ℕ) (e : Waiting) → KeepsListed before after → is_noted before e ≡ true → is_noted after e ≡ true
still-noted before after e kept has = by_test (is_noted after e) refl
  where
    by_test : (b : Bool) → is_noted after e ≡ b → b ≡ true
    by_test true h = refl
    by_test false h = absurd (not_both (is_noted before e) has (kept e.ticket h))

module _ (w : World) (before : List Waiting) (e : Waiting) (spent : List ℕ) where
  -- the entries so far, and one more
  tried-one : (best : Option Candidate) (left : Left) → OthersTried w before best spent left → OthersTried w (e ∷ []) best spent left → OthersTried w (before ++ e ∷ []) best spent left
  tried-one best left others one f a unlisted early = by_place (among-append before e f a)
    where
      by_place : Among before f ⊎ Among (e ∷ []) f → Needless w (is_noted spent f || is_noted left.spent.items f) f
      by_place (inl a) = others f a unlisted early
      by_place (inr a) = one f a unlisted early

  -- what was tried before, with more that is left
  still-tried : (best : Option Candidate) (old new : Left) → KeepsLeft old new → OthersTried w before best spent old → OthersTried w before best spent new
  still-tried best old new kept others f a unlisted early =
      needless-more w f (is_noted spent f || is_noted old.spent.items f) (is_noted spent f || is_noted new.spent.items f)
      (noted-more (is_noted spent f) (is_noted old.spent.items f) (is_noted new.spent.items f) (still-noted old.spent.items new.spent.items f kept.spent))
      (others f a (kept.again f.ticket unlisted) early)

  pub tried-behind : (best : Option Candidate) (left : Left) → true ≡ is_behind best e → OthersTried w before best spent left → OthersTried w (before ++ e ∷ []) best spent left
  tried-behind best left behind others = tried-one best left others (λ f a unlisted early. absurd (not_both (is_behind best e) (sym behind) (by_one f a early)))
    where
      by_one : (f : Waiting) → Among (e ∷ []) f → is_behind best f ≡ false → is_behind best e ≡ false
      by_one f (inl is) early = ap (is_behind best) is ∙ early
      by_one f (inr a) early = absurd a

  -- one that isn't sought needs no search
  pub tried-unsought : (best : Option Candidate) (left : Left) → Needless w (is_noted spent e) e → OthersTried w before best spent left → OthersTried w (before ++ e ∷ []) best spent left
  tried-unsought best left none others = tried-one best left others (λ f a unlisted early. by_one f a)
    where
      by_one : (f : Waiting) → Among (e ∷ []) f → Needless w (is_noted spent f || is_noted left.spent.items f) f
      by_one f (inl is) = subst (λ x. Needless w (is_noted spent x || is_noted left.spent.items x) x) is
          (needless-more w e (is_noted spent e) (is_noted spent e || is_noted left.spent.items e) (noted-left (is_noted spent e) (is_noted left.spent.items e)) none)
      by_one f (inr a) = absurd a

  pub tried-unplaced : (best : Option Candidate) (old new : Left) → KeepsLeft old new → RestNeedNone w (e ∷ []) new → OthersTried w before best spent old → OthersTried w (before ++ e ∷ []) best spent new
  tried-unplaced best old new kept none others = tried-one best new (still-tried best old new kept others) (λ f a unlisted early.
      needless-more w f (is_noted new.spent.items f) (is_noted spent f || is_noted new.spent.items f) (noted-right (is_noted spent f) (is_noted new.spent.items f)) (none f a unlisted))

  pub tried-found : (best : Option Candidate) (choice : Choice) (old new : Left) → false ≡ is_behind best e → KeepsLeft old new → OthersTried w before best spent old
      → OthersTried w (before ++ e ∷ []) (Some (candidate_of e choice)) spent new
  tried-found best choice old new ahead kept others =
      tried-one (Some (candidate_of e choice)) new (λ f a unlisted early. still-tried best old new kept others f a unlisted (by_best f best (sym ahead) early)) (λ f a unlisted early. by_one f a early)
    where
      by_best : (f : Waiting) (best : Option Candidate) → is_behind best e ≡ false → is_before (candidate_of e choice) f ≡ false → is_behind best f ≡ false
      by_best f None h g = refl
      by_best f (Some c) h g = passes-on c e f choice h g

      by_one : (f : Waiting) → Among (e ∷ []) f → is_before (candidate_of e choice) f ≡ false → Needless w (is_noted spent f || is_noted new.spent.items f) f
      by_one f (inl is) early = absurd (not_both (is_before (candidate_of e choice) e) (own-behind e choice) (ap (is_before (candidate_of e choice)) is ∙ early))
      by_one f (inr a) early = absurd a

-- ---- what holds once the best was found

module _ (w : World) (es : List Waiting) (m k n : Marked) (o : Opened) (left : Left) (but : OthersBut w es m o) (notes : NotesMore left.spent.items k n) where
  -- who was noted before, or is left as spent, is noted now
  now-noted : (e : Waiting) → k.spent ≡ m.spent → Needless w (is_noted m.spent e || is_noted left.spent.items e) e → Needless w (is_noted n.spent e) e
  now-noted e same h = needless-more w e (is_noted m.spent e || is_noted left.spent.items e) (is_noted n.spent e) (λ has. notes.noted e (ap (λ ts. is_noted ts e || is_noted left.spent.items e) same ∙ has)) h

  was-noted : (e : Waiting) → k.spent ≡ m.spent → Needless w (is_noted m.spent e) e → Needless w (is_noted n.spent e) e
  was-noted e same h = needless-more w e (is_noted m.spent e) (is_noted n.spent e) (λ has. notes.noted e (noted-left (is_noted k.spent e) (is_noted left.spent.items e) (ap (λ ts. is_noted ts e) same ∙ has))) h

  -- where one was found, those who aren't marked by their tickets need not be tried before its turn
  pub found-others : (c : Candidate) (l : Marked) → k ≡ record m { from = Some (turn_of c) } → OthersTried w es (Some c) m.spent left → MarksTold (Some left.again.items) n l → OthersBut w es l o
  found-others c l passed tried marks = record {
    others = λ e a u none. by_turn e a u (λ unmarked. but.others e a unmarked none) (decide (is_before c e));
    blocked = λ e a u give. by_blocked e a u give (decide (is_before c e));
  }
    where
      same : k.spent ≡ m.spent
      same = ap (λ (x : Marked). x.spent) passed

      -- who is behind the best and isn't marked now, wasn't marked
      was-unmarked : (e : Waiting) → is_marked l e ≡ false → is_before c e ≡ true → is_marked m e ≡ false
      was-unmarked e u behind =
          let v : is_marked (record m { from = Some (turn_of c) }) e ≡ false = ap (λ x. is_marked x e) (sym passed) ∙ ap (λ x. is_marked x e) (sym notes.marks) ∙ marks.kept.marks e u in
          off-source m e (neither-left _ (is_source m e && is_before c e) v)
          (first-off (is_source m e) (sym (ap (λ b. is_source m e && b) behind) ∙ neither-right (list_any (λ t. t == e.ticket) m.tickets) _ v))

      now : (e : Waiting) → Needless w (is_noted m.spent e) e → Needless w (is_noted l.spent e) e
      now e h = same-notes w e n l marks.kept (was-noted e same h)

      by_sought : (e : Waiting) → Among es e → is_marked l e ≡ false → is_before c e ≡ false → Needless w (is_noted l.spent e) e
      by_sought e a u early = same-notes w e n l marks.kept (now-noted e same (tried e a (marks.added e u) early))

      by_turn : (e : Waiting) → Among es e → is_marked l e ≡ false → (is_marked m e ≡ false → Needless w (is_noted m.spent e) e) → (is_before c e ≡ true) ⊎ (is_before c e ≡ false)
          → Needless w (is_noted l.spent e) e
      by_turn e a u old (inl behind) = now e (old (was-unmarked e u behind))
      by_turn e a u old (inr early) = by_sought e a u early

      by_old : (e : Waiting) → Needless w (is_noted m.spent e) e ⊎ WasBlocked w o e → Needless w (is_noted l.spent e) e ⊎ WasBlocked w o e
      by_old e (inl h) = inl (now e h)
      by_old e (inr b) = inr b

      by_blocked : (e : Waiting) → Among es e → is_marked l e ≡ false → e.give ≡ None → (is_before c e ≡ true) ⊎ (is_before c e ≡ false) → Needless w (is_noted l.spent e) e ⊎ WasBlocked w o e
      by_blocked e a u give (inl behind) = by_old e (but.blocked e a (was-unmarked e u behind) give)
      by_blocked e a u give (inr early) = inl (by_sought e a u early)

  -- where none was found, all were tried
  pub done-others : (l : Marked) → k ≡ no_marks m.spent → OthersTried w es None m.spent left → MarksTold (Some left.again.items) n l → OthersNeedNoSearch w es l
  done-others l passed tried marks e a u = same-notes w e n l marks.kept (now-noted e (ap (λ (x : Marked). x.spent) passed) (tried e a (marks.added e u) refl))

pub after-others : (w : World) (es : List Waiting) (m k n l : Marked) (o : Opened) (left : Left) (best : Option Candidate) → OthersBut w es m o → OthersTried w es best m.spent left
    → k ≡ marks_from best m → NotesMore left.spent.items k n → MarksTold (Some left.again.items) n l → OthersAfter w es best l o
after-others w es m k n l o left None but tried passed notes marks = done-others w es m k n o left but notes l passed tried marks
after-others w es m k n l o left (Some c) but tried passed notes marks = found-others w es m k n o left but notes c l passed tried marks

pub unsought : (w : World) (es : List Waiting) (m : Marked) (o : Opened) → OthersBut w es m o → UnsoughtNeedNone w es m o
unsought w es m o but e a h = but.others e a (neither-left (is_marked m e) _ h) (neither-right (is_marked m e) _ h)

-- who isn't sought can't be placed
pub unsought-unplaced : (w : World) (e : Waiting) (m : Marked) (o : Opened) → is_sought m o e ≡ false → UnsoughtNeedNone w (e ∷ []) m o → is_placeable w e ≡ false
unsought-unplaced w e m o h none = needless-unplaced w e (is_noted m.spent e) (none e (inl refl) h)
