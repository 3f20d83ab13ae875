-- What a student's own entries tell: whether one has a ticket, and the least ticket of those that share a course.
use Rattle.std.specs.Prelude.{◌≡◌, ℕ, Bool, true, false, ◌&&◌, ◌==◌, nat_le, cond, List, [], ◌∷◌, ◌++◌, map, filter, find, Option, Some, None, refl, ◌⊎◌}
use Rattle.std.specs.List.{list_any}
use Rattle.std.specs.Option.{is_some, option_map_or}
use Rattle.std.proofs.Common.{sym, ◌∙◌, ap, subst, arith, inl, inr}
use Rattle.std.proofs.lemmas.Bool.{eq-eqb, eqb-true}
use Rattle.std.proofs.lemmas.Bool.Decides.{nat_tests}
use Rattle.sect_base.specs.declared.ids.StudentId.{StudentId}
use Rattle.sect_base.specs.declared.ids.CourseId.{CourseId}
use Rattle.sect_model.specs.declared.held.Waiting.{Waiting}
use Rattle.sect_model.specs.Batch.{share_course}
use Rattle.sect_model.specs.Freer.{Among}
use Rattle.sect_model.specs.Kept.{tickets_rise}
use Rattle.sect_model.specs.Rules.{least}
use Rattle.sect_model.proofs.FreerLemmas.{among}
use Rattle.sect_model.proofs.ListLemmas.{some-is}
use Rattle.sect_model.proofs.Members.{Member, any-of, both, both-left, both-right, find-member, find-some, member-filter, member-map, member-of_filter, member-of_map, none-of, not_both}
use Rattle.sect_refuse.specs.Tickets.{is_shared, lesser, with_entry}
use Rattle.sect_wait.specs.Indexed.{has_ticket, AreTold}
use Rattle.sect_wait.proofs.QueueLemmas.{one-entry}
use Rattle.sect_wait.proofs.TriedLemmas.{one-of}

-- ---- whether a ticket is the student's

-- a student has an entry with the ticket exactly where the ticket's entry is the student's
pub own-ticket : (es : List Waiting) (student : StudentId) (ticket next : ℕ) → tickets_rise es next ≡ true → (o : Option Waiting) → find (λ e. e.ticket == ticket) es ≡ o
    → option_map_or (λ f. f.student.0 == student.0) o false ≡ list_any (λ e. e.student.0 == student.0 && e.ticket == ticket) es
own-ticket es student ticket next rise None found = sym (none-of (λ (e : Waiting). e.student.0 == student.0 && e.ticket == ticket) es (λ e m. by_ticket e m (e.ticket == ticket) refl))
  where
    never : (b : Bool) → b && false ≡ false
    never true = refl
    never false = refl

    by_ticket : (e : Waiting) → Member es e → (b : Bool) → e.ticket == ticket ≡ b → e.student.0 == student.0 && b ≡ false
    by_ticket e m true h = absurd (not_both (is_some (find (λ e. e.ticket == ticket) es)) (find-some (λ (e : Waiting). e.ticket == ticket) es e m h) (ap is_some found))
    by_ticket e m false h = never (e.student.0 == student.0)
own-ticket es student ticket next rise (Some f) found = by_test (f.student.0 == student.0) refl
  where
    own : Waiting → Bool
    own e = e.student.0 == student.0 && e.ticket == ticket

    entry : Member es f × (f.ticket == ticket ≡ true)
    entry = find-member (λ (e : Waiting). e.ticket == ticket) es f found

    only : (e : Waiting) → Member es e → own e ≡ true → f ≡ e
    only e m h = one-entry es next rise f e entry.0 m (eqb-true f.ticket ticket entry.1 ∙ sym (eqb-true e.ticket ticket (both-right (e.student.0 == student.0) (e.ticket == ticket) h)))

    by_test : (b : Bool) → f.student.0 == student.0 ≡ b → b ≡ list_any own es
    by_test true h = sym (any-of own es f entry.0 (both (f.student.0 == student.0) (f.ticket == ticket) h entry.1))
    by_test false h = sym (none-of own es (λ e m. by_own e m (own e) refl))
      where
        by_own : (e : Waiting) → Member es e → (b : Bool) → own e ≡ b → b ≡ false
        by_own e m false k = refl
        by_own e m true k =
            absurd (not_both (f.student.0 == student.0) (ap (λ (d : Waiting). d.student.0 == student.0) (only e m k) ∙ both-left (e.student.0 == student.0) (e.ticket == ticket) k) h)

-- ---- the least of a list

-- there is a number, and it is at most the other
abbrev pub is_below : Option ℕ → ℕ → Bool
is_below o n = option_map_or (λ m. nat_le m n) o false

-- the least is one of the list
least-member : (ns : List ℕ) (n : ℕ) → least ns ≡ Some n → Member ns n
least-member [] n h = absurd (not_both false (ap is_some h) refl)
least-member (k ∷ ks) n h = by_rest (least ks) (least-member ks n) h
  where
    by_rest : (o : Option ℕ) → (o ≡ Some n → Member ks n) → Some (option_map_or (λ m. cond (nat_le k m) k m) o k) ≡ Some n → Member (k ∷ ks) n
    by_rest None ih h = inl (some-is n k h)
    by_rest (Some m) ih h = by_order (nat_le k m) h
      where
        by_order : (b : Bool) → Some (cond b k m) ≡ Some n → Member (k ∷ ks) n
        by_order true h = inl (some-is n k h)
        by_order false h = inr (ih h)

-- the least is at most each of the list
least-below : (ns : List ℕ) (n : ℕ) → Member ns n → is_below (least ns) n ≡ true
least-below [] n m = absurd m
least-below (k ∷ ks) n m = by_rest (least ks) (least-below ks n) m
  where
    first : (a b c : ℕ) → a ≡ c → nat_le (cond (nat_le a b) a b) c ≡ true
    first a b c e = grind (arith, nat_tests, e)

    later : (a b c : ℕ) → nat_le b c ≡ true → nat_le (cond (nat_le a b) a b) c ≡ true
    later a b c h = grind (arith, nat_tests, h)

    itself : (a c : ℕ) → a ≡ c → nat_le a c ≡ true
    itself a c e = grind (arith, nat_tests, e)

    by_rest : (o : Option ℕ) → (Member ks n → is_below o n ≡ true) → Member (k ∷ ks) n → nat_le (option_map_or (λ m. cond (nat_le k m) k m) o k) n ≡ true
    by_rest None ih (inl e) = itself k n e
    by_rest None ih (inr m) = absurd (not_both false (ih m) refl)
    by_rest (Some m) ih (inl e) = first k m n e
    by_rest (Some m) ih (inr is_one) = later k m n (ih is_one)

-- what is one of the list and at most each of it is the least
least-is : (ns : List ℕ) (o : Option ℕ) → ((n : ℕ) → o ≡ Some n → Member ns n) → ((n : ℕ) → Member ns n → is_below o n ≡ true) → o ≡ least ns
least-is ns None within below = by_least (least ns) refl
  where
    by_least : (p : Option ℕ) → least ns ≡ p → None ≡ p
    by_least None h = refl
    by_least (Some n) h = absurd (not_both false (below n (least-member ns n h)) refl)
least-is ns (Some m) within below = by_least (least ns) refl (least-below ns m (within m refl))
  where
    same : (a b : ℕ) → nat_le a b ≡ true → nat_le b a ≡ true → a ≡ b
    same a b h k = grind (arith, nat_tests, h, k)

    by_least : (p : Option ℕ) → least ns ≡ p → is_below p m ≡ true → Some m ≡ p
    by_least None h k = absurd (not_both false k refl)
    by_least (Some n) h k = ap Some (same m n (below n (least-member ns n h)) k)

-- ---- the lesser of two

-- what holds of both holds of the lesser
lesser-one : (P : ℕ → Type 0) (o : Option ℕ) (t : ℕ) → ((n : ℕ) → o ≡ Some n → P n) → P t → (n : ℕ) → lesser o (Some t) ≡ Some n → P n
lesser-one P None t each last n h = subst P (some-is n t h) last
lesser-one P (Some m) t each last n h = by_order (nat_le m t) h
  where
    by_order : (b : Bool) → Some (cond b m t) ≡ Some n → P n
    by_order true h = each n h
    by_order false h = subst P (some-is n t h) last

-- the lesser is at most what the first is at most
lesser-left : (o : Option ℕ) (t n : ℕ) → is_below o n ≡ true → is_below (lesser o (Some t)) n ≡ true
lesser-left None t n h = absurd (not_both false h refl)
lesser-left (Some m) t n h = grind (arith, nat_tests, h)

-- the lesser is at most the second
lesser-right : (o : Option ℕ) (t n : ℕ) → t ≡ n → is_below (lesser o (Some t)) n ≡ true
lesser-right None t n h = grind (arith, nat_tests, h)
lesser-right (Some m) t n h = grind (arith, nat_tests, h)

-- an entry alone
pub with-one : (student : StudentId) (courses : List CourseId) (best : Option ℕ) (e : Waiting)
    → lesser best (least (map (λ e. e.ticket) (filter (is_shared student courses) (e ∷ [])))) ≡ with_entry student courses best e
with-one student courses best e = by_test (is_shared student courses e)
  where
    unless : (o : Option ℕ) → lesser o None ≡ o
    unless None = refl
    unless (Some m) = refl

    by_test : (b : Bool) → lesser best (least (map (λ e. e.ticket) (cond b (e ∷ []) []))) ≡ cond b (lesser best (Some e.ticket)) best
    by_test true = refl
    by_test false = unless best

-- ---- ticket by ticket

-- the least of those of the tickets whose entries pass the test
pub record IsLeastOf (test : Waiting → Bool) (es : List Waiting) (tickets : List ℕ) (best : Option ℕ) : Type 0 where
  pub within : (n : ℕ) → best ≡ Some n → Member (map (λ e. e.ticket) (filter test es)) n
  pub below : (e : Waiting) → Member es e → test e ≡ true → has_ticket e.ticket tickets ≡ true → is_below best e.ticket ≡ true

-- of no tickets there is none
pub least-none : (test : Waiting → Bool) (es : List Waiting) → IsLeastOf test es [] None
least-none test es = record { within = λ n h. absurd (not_both false (ap is_some h) refl); below = λ e m t has. absurd (not_both false has refl) }

module _ (test : Waiting → Bool) (es : List Waiting) (ticket next : ℕ) (rise : tickets_rise es next ≡ true) (before : List ℕ) (best : Option ℕ) (t : IsLeastOf test es before best) where
  -- one ticket more, by its entry
  least-by : (o : Option Waiting) → find (λ e. e.ticket == ticket) es ≡ o → IsLeastOf test es (before ++ ticket ∷ []) (option_map_or (λ e. cond (test e) (lesser best (Some e.ticket)) best) o best)
  least-by None none = record { within = t.within; below = λ e m u has. by_place e m u (one-of ticket before e has) }
    where
      by_place : (e : Waiting) → Member es e → test e ≡ true → (has_ticket e.ticket before ≡ true) ⊎ (e.ticket ≡ ticket) → is_below best e.ticket ≡ true
      by_place e m u (inl h) = t.below e m u h
      by_place e m u (inr same) =
          absurd (not_both (is_some (find (λ e. e.ticket == ticket) es)) (find-some (λ (e : Waiting). e.ticket == ticket) es e m (eq-eqb e.ticket ticket same)) (ap is_some none))
  least-by (Some f) found = by_test (test f) refl
    where
      entry : Member es f × (f.ticket == ticket ≡ true)
      entry = find-member (λ (e : Waiting). e.ticket == ticket) es f found

      only : (e : Waiting) → Member es e → e.ticket ≡ ticket → f ≡ e
      only e m same = one-entry es next rise f e entry.0 m (eqb-true f.ticket ticket entry.1 ∙ sym same)

      by_test : (b : Bool) → test f ≡ b → IsLeastOf test es (before ++ ticket ∷ []) (cond b (lesser best (Some f.ticket)) best)
      by_test true passes = record {
        within = lesser-one (Member (map (λ e. e.ticket) (filter test es))) best f.ticket t.within
            (member-of_map (λ (e : Waiting). e.ticket) (filter test es) f (member-of_filter test es f entry.0 passes));
        below = λ e m u has. by_place e m u (one-of ticket before e has);
      }
        where
          by_place : (e : Waiting) → Member es e → test e ≡ true → (has_ticket e.ticket before ≡ true) ⊎ (e.ticket ≡ ticket) → is_below (lesser best (Some f.ticket)) e.ticket ≡ true
          by_place e m u (inl h) = lesser-left best f.ticket e.ticket (t.below e m u h)
          by_place e m u (inr same) = lesser-right best f.ticket e.ticket (ap (λ (d : Waiting). d.ticket) (only e m same))
      by_test false fails = record { within = t.within; below = λ e m u has. by_place e m u (one-of ticket before e has) }
        where
          by_place : (e : Waiting) → Member es e → test e ≡ true → (has_ticket e.ticket before ≡ true) ⊎ (e.ticket ≡ ticket) → is_below best e.ticket ≡ true
          by_place e m u (inl h) = t.below e m u h
          by_place e m u (inr same) = absurd (not_both (test e) u (ap test (sym (only e m same)) ∙ fails))

  -- one ticket more
  pub least-more : IsLeastOf test es (before ++ ticket ∷ []) (option_map_or (λ e. cond (test e) (lesser best (Some e.ticket)) best) (find (λ e. e.ticket == ticket) es) best)
  least-more = least-by (find (λ e. e.ticket == ticket) es) refl

-- ---- all of the student's tickets

-- who shares a course is the student's, whose tickets are told
shared-told : (student : StudentId) (courses : List CourseId) (es : List Waiting) (tickets : List ℕ) → AreTold (λ e. student.0 == e.student.0) es (Some tickets)
    → (e : Waiting) → Among es e → is_shared student courses e ≡ true → has_ticket e.ticket tickets ≡ true
shared-told student courses es tickets told e a shared = by_test (has_ticket e.ticket tickets) refl
  where
    own : student.0 == e.student.0 ≡ true
    own = eq-eqb student.0 e.student.0 (sym (eqb-true e.student.0 student.0 (both-left (e.student.0 == student.0) (share_course e.want.courses courses) shared)))

    by_test : (b : Bool) → has_ticket e.ticket tickets ≡ b → b ≡ true
    by_test true h = refl
    by_test false h = absurd (not_both (student.0 == e.student.0) own (told e a h))

-- the least of the student's tickets is the least of all
pub least-told : (student : StudentId) (courses : List CourseId) (es : List Waiting) (tickets : List ℕ) (best : Option ℕ) → AreTold (λ e. student.0 == e.student.0) es (Some tickets)
    → IsLeastOf (is_shared student courses) es tickets best → best ≡ least (map (λ e. e.ticket) (filter (is_shared student courses) es))
least-told student courses es tickets best told t = least-is (map (λ e. e.ticket) (filter (is_shared student courses) es)) best t.within at_most
  where
    at_most : (n : ℕ) → Member (map (λ e. e.ticket) (filter (is_shared student courses) es)) n → is_below best n ≡ true
    at_most n m =
        let e = member-map (λ (e : Waiting). e.ticket) (filter (is_shared student courses) es) n m in
        let f = member-filter (is_shared student courses) es e.0 e.1 in
        subst (λ k. is_below best k ≡ true) e.2 (t.below e.0 f.0 f.1 (shared-told student courses es tickets told e.0 (among es e.0 f.0) f.1))
