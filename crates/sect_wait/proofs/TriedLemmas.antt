-- The entry that is placed next, found among the marked tickets.
use Rattle.std.specs.Prelude.{◌≡◌, ℕ, Bool, true, false, not, ◌||◌, ◌==◌, List, [], ◌∷◌, ◌++◌, filter, find, Option, Some, None, Result, Ok, Err, IfOk, refl, ◌⊎◌}
use Rattle.std.specs.Option.{is_some, option_or}
use Rattle.std.proofs.Common.{sym, ◌∙◌, ap, subst, arith, inl, inr}
use Rattle.std.proofs.lemmas.Bool.{eq-eqb, eqb-true}
use Rattle.std.proofs.lemmas.Bool.Decides.{nat_tests}
use Rattle.sect_catalog.proofs.SearchLemmas.{any-append}
use Rattle.sect_model.specs.declared.held.Waiting.{Waiting}
use Rattle.sect_model.specs.World.{World, State}
use Rattle.sect_model.specs.Freer.{Among}
use Rattle.sect_model.specs.Kept.{tickets_rise}
use Rattle.sect_model.specs.Settle.{first_entry, comes_first, is_placeable}
use Rattle.sect_model.proofs.Members.{Member, all-at, either, find-member, find-some, member-filter, not_both, not_true}
use Rattle.sect_model.proofs.FreerLemmas.{among, member}
use Rattle.sect_model.proofs.KeptMoves.{first_entry-member}
use Rattle.sect_model.proofs.SettleLemmas.{next_entry-none}
use Rattle.sect_model.proofs.SettleSteps.{next-is-first}
use Rattle.sect_wait.specs.declared.next.Candidate.{Candidate}
use Rattle.sect_wait.specs.declared.entry.Left.{Left}
use Rattle.sect_wait.specs.Indexed.{has_ticket}
use Rattle.sect_wait.specs.Marked.{Needless, is_noted}
use Rattle.sect_wait.specs.Placing.{IsBest, OthersTried, Tried}
use Rattle.sect_wait.proofs.MarkLemmas.{among-append, none-left}
use Rattle.sect_wait.proofs.NeedLemmas.{needless-more, needless-unplaced}
use Rattle.sect_wait.proofs.NextLemmas.{noted-left}
use Rattle.sect_wait.proofs.QueueLemmas.{one-entry}

-- no ticket was tried yet
pub tried-none : (w : World) (es : List Waiting) (spent : List ℕ) (left : Left) → Tried w es [] None spent left
tried-none w es spent left = record { tried = []; within = λ e a. absurd a; all = λ e a has. absurd (not_both false has refl); first = refl; others = λ e a unlisted behind. absurd a }

-- what holds of all holds of one
pub each-one : {P : Waiting → Type 0} (es : List Waiting) (e : Waiting) → Member es e → ((f : Waiting) → Among es f → P f) → (f : Waiting) → Among (e ∷ []) f → P f
each-one es e is_one each f (inl is) = each f (subst (Among es) is (among es e is_one))
each-one es e is_one each f (inr a) = absurd a

-- who has one of the tickets, has one of those before, or the last
pub one-of : (ticket : ℕ) (before : List ℕ) (f : Waiting) → has_ticket f.ticket (before ++ ticket ∷ []) ≡ true → (has_ticket f.ticket before ≡ true) ⊎ (f.ticket ≡ ticket)
one-of ticket before f has = by_place (either (has_ticket f.ticket before) ((ticket == f.ticket) || false) (sym (any-append (λ t. t == f.ticket) before (ticket ∷ [])) ∙ has))
  where
    by_last : (b : Bool) → ticket == f.ticket ≡ b → b || false ≡ true → f.ticket ≡ ticket
    by_last true same h = sym (eqb-true ticket f.ticket same)
    by_last false same h = absurd (not_both false h refl)

    by_place : (has_ticket f.ticket before ≡ true) ⊎ ((ticket == f.ticket) || false ≡ true) → (has_ticket f.ticket before ≡ true) ⊎ (f.ticket ≡ ticket)
    by_place (inl h) = inl h
    by_place (inr h) = inr (by_last (ticket == f.ticket) refl h)

module _ (w : World) (es : List Waiting) (ticket : ℕ) (spent : List ℕ) where
  -- no entry has the ticket
  pub tried-unknown : (best : Option Candidate) (m : Left) → None ≡ find (λ e. e.ticket == ticket) es → (before : List ℕ) → Tried w es before best spent m → Tried w es (before ++ ticket ∷ []) best spent m
  tried-unknown best m none before t = record { tried = t.tried; within = t.within; all = λ f a has. by_place f a (one-of ticket before f has); first = t.first; others = t.others }
    where
      by_place : (f : Waiting) → Among es f → (has_ticket f.ticket before ≡ true) ⊎ (f.ticket ≡ ticket) → Among t.tried f
      by_place f a (inl h) = t.all f a h
      by_place f a (inr same) =
          absurd (not_both (is_some (find (λ e. e.ticket == ticket) es)) (find-some (λ (e : Waiting). e.ticket == ticket) es f (member es f a) (eq-eqb f.ticket ticket same)) (ap is_some (sym none)))

  -- the ticket was tried already
  pub tried-again : (before : List ℕ) (best : Option Candidate) (m : Left) → has_ticket ticket before ≡ true → Tried w es before best spent m → Tried w es (before ++ ticket ∷ []) best spent m
  tried-again before best m has t = record { tried = t.tried; within = t.within; all = λ f a has. by_place f a (one-of ticket before f has); first = t.first; others = t.others }
    where
      by_place : (f : Waiting) → Among es f → (has_ticket f.ticket before ≡ true) ⊎ (f.ticket ≡ ticket) → Among t.tried f
      by_place f a (inl h) = t.all f a h
      by_place f a (inr same) = t.all f a (ap (λ n. has_ticket n before) same ∙ has)

  -- the entry of the ticket was tried
  pub tried-more : (next : ℕ) (e : Waiting) (best new : Option Candidate) (m n : Left) → tickets_rise es next ≡ true → Some e ≡ find (λ e. e.ticket == ticket) es
      → ((before : List Waiting) → IsBest w before best → IsBest w (before ++ e ∷ []) new) → ((before : List Waiting) → OthersTried w before best spent m → OthersTried w (before ++ e ∷ []) new spent n)
      → (before : List ℕ) → Tried w es before best spent m → Tried w es (before ++ ticket ∷ []) new spent n
  tried-more next e best new m n rise found better others before t = record {
    tried = t.tried ++ e ∷ [];
    within = λ f a. by_list f (among-append t.tried e f a);
    all = λ f a has. by_place f a (one-of ticket before f has);
    first = better t.tried t.first;
    others = others t.tried t.others;
  }
    where
      entry : Member es e × (e.ticket == ticket ≡ true)
      entry = find-member (λ (e : Waiting). e.ticket == ticket) es e (sym found)

      behind : (ds : List Waiting) (f : Waiting) → Among ds f ⊎ (e ≡ f) → Among (ds ++ e ∷ []) f
      behind [] f (inl a) = absurd a
      behind [] f (inr is) = inl is
      behind (d ∷ ds) f (inl (inl is)) = inl is
      behind (d ∷ ds) f (inl (inr a)) = inr (behind ds f (inl a))
      behind (d ∷ ds) f (inr is) = inr (behind ds f (inr is))

      by_list : (f : Waiting) → Among t.tried f ⊎ Among (e ∷ []) f → Among es f
      by_list f (inl a) = t.within f a
      by_list f (inr (inl is)) = subst (Among es) is (among es e entry.0)
      by_list f (inr (inr a)) = absurd a

      by_place : (f : Waiting) → Among es f → (has_ticket f.ticket before ≡ true) ⊎ (f.ticket ≡ ticket) → Among (t.tried ++ e ∷ []) f
      by_place f a (inl h) = behind t.tried f (inl (t.all f a h))
      by_place f a (inr same) = behind t.tried f (inr (one-entry es next rise e f entry.0 (member es f a) (eqb-true e.ticket ticket entry.1 ∙ sym same)))

  pub tried-better : {E : Type 0} (next : ℕ) (e : Waiting) (best : Option Candidate) (m n : Left) (r : Result (Option Candidate) E) → tickets_rise es next ≡ true → Some e ≡ find (λ e. e.ticket == ticket) es
      → IfOk r (λ new. (before : List Waiting) → IsBest w before best → IsBest w (before ++ e ∷ []) (option_or new best))
      → IfOk r (λ new. (before : List Waiting) → OthersTried w before best spent m → OthersTried w (before ++ e ∷ []) (option_or new best) spent n)
      → IfOk r (λ new. (before : List ℕ) → Tried w es before best spent m → Tried w es (before ++ ticket ∷ []) (option_or new best) spent n)
  tried-better next e best m n (Ok new) rise found better others = tried-more next e best (option_or new best) m n rise found better others
  tried-better next e best m n (Err x) rise found better others = tt

-- ---- all sought tickets were tried

module _ (w : World) (es : List Waiting) (next : ℕ) (tickets : List ℕ) (best : Option Candidate) (spent : List ℕ) (left : Left) (rise : tickets_rise es next ≡ true) (t : Tried w es tickets best spent left)
    (rest : (e : Waiting) → Among es e → has_ticket e.ticket tickets ≡ false → Needless w (is_noted spent e) e) where
  pub tried-others : OthersTried w es best spent left
  tried-others e a unlisted before = by_test (has_ticket e.ticket tickets) refl
    where
      by_test : (b : Bool) → has_ticket e.ticket tickets ≡ b → Needless w (is_noted spent e || is_noted left.spent.items e) e
      by_test true h = t.others e (t.all e a h) unlisted before
      by_test false h = needless-more w e (is_noted spent e) (is_noted spent e || is_noted left.spent.items e) (noted-left (is_noted spent e) (is_noted left.spent.items e)) (rest e a h)

  -- who can be placed was tried
  was-tried : (e : Waiting) → Among es e → is_placeable w e ≡ true → Among t.tried e
  was-tried e a able = by_test (has_ticket e.ticket tickets) refl
    where
      by_test : (b : Bool) → has_ticket e.ticket tickets ≡ b → Among t.tried e
      by_test true h = t.all e a h
      by_test false h = absurd (not_both (is_placeable w e) able (needless-unplaced w e (is_noted spent e) (rest e a h)))

  abbrev state : List Waiting → State
  state fs = record { world = w; entries = fs; next = next }

  none-able : (fs : List Waiting) → first_entry (filter (is_placeable w) fs) ≡ None → (e : Waiting) → Among fs e → is_placeable w e ≡ false
  none-able fs none e a = not_true (is_placeable w e) (all-at (λ f. not (is_placeable w f)) fs (next_entry-none (state fs) none) e (member fs e a))

  first-before : (fs : List Waiting) (g : Waiting) → first_entry (filter (is_placeable w) fs) ≡ Some g → (e : Waiting) → Among fs e → is_placeable w e ≡ true → comes_first g e ≡ true
  first-before fs g first e a able =
      ap (λ b. not b || comes_first g e) (sym able) ∙ all-at (λ f. not (is_placeable w f) || comes_first g f) fs (next-is-first (state fs) g first).1 e (member fs e a)

  first-is : (fs : List Waiting) (g : Waiting) → first_entry (filter (is_placeable w) fs) ≡ Some g → Among fs g × (is_placeable w g ≡ true)
  first-is fs g first = let found = member-filter (is_placeable w) fs g (first_entry-member (filter (is_placeable w) fs) g first) in (among fs g found.0, found.1)

  each_first : (e g : Waiting) → comes_first e g ≡ true → comes_first g e ≡ true → e.ticket ≡ g.ticket
  each_first e g h k = grind (arith, nat_tests, h, k)

  pub tried-best : IsBest w es best
  tried-best = by_best best t.first
    where
      same-first : (e : Waiting) → first_entry (filter (is_placeable w) t.tried) ≡ Some e → first_entry (filter (is_placeable w) es) ≡ Some e
      same-first e first = by_first (first_entry (filter (is_placeable w) es)) refl
        where
          here : Among t.tried e × (is_placeable w e ≡ true)
          here = first-is t.tried e first

          by_first : (o : Option Waiting) → first_entry (filter (is_placeable w) es) ≡ o → o ≡ Some e
          by_first None none = absurd (not_both (is_placeable w e) here.1 (none-able es none e (t.within e here.0)))
          by_first (Some g) same =
              let there = first-is es g same in
              ap Some (one-entry es next rise g e (member es g there.0) (member es e (t.within e here.0))
              (each_first g e (first-before es g same e (t.within e here.0) here.1) (first-before t.tried e first g (was-tried g there.0 there.1) there.1)))

      by_best : (best : Option Candidate) → IsBest w t.tried best → IsBest w es best
      by_best None none = ap first_entry (none-left w es (λ e a. by_able e a (is_placeable w e) refl))
        where
          by_able : (e : Waiting) → Among es e → (b : Bool) → is_placeable w e ≡ b → b ≡ false
          by_able e a true able = absurd (not_both (is_placeable w e) able (none-able t.tried none e (was-tried e a able)))
          by_able e a false able = refl
      by_best (Some c) first = (first.0, same-first first.0 first.1, first.2)
