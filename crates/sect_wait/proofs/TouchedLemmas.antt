-- How far settling has come in its searches: they are counted, and who may be sought was touched.
use Rattle.std.specs.Prelude.{◌≡◌, ℕ, ◌+◌, ◌*◌, ◌≤◌, Bool, true, false, not, ◌||◌, ◌&&◌, ◌==◌, List, [], ◌∷◌, ◌++◌, length, filter, Option, Some, None, Result, OnOk, refl}
use Rattle.std.specs.List.{list_any}
use Rattle.std.specs.Option.{option_map_or}
use Rattle.std.proofs.Common.{sym, ◌∙◌, ap, subst, arith, length-append}
use Rattle.std.proofs.lemmas.Bool.{eq-eqb}
use Rattle.sect_base.specs.declared.ids.StudentId.{StudentId}
use Rattle.sect_base.specs.declared.ids.CourseId.{CourseId}
use Rattle.sect_catalog.proofs.SearchLemmas.{any-append}
use Rattle.sect_model.specs.Data.{Want}
use Rattle.sect_model.specs.declared.held.Waiting.{Waiting}
use Rattle.sect_model.specs.declared.held.Placed.{Placed}
use Rattle.sect_model.specs.World.{World, leave, leave_all}
use Rattle.sect_model.specs.Freer.{Among, touches}
use Rattle.sect_model.proofs.Members.{Member, both-right, count-le, count-part, filter-same, neither-left, neither-right, none-at}
use Rattle.sect_model.proofs.FreerLemmas.{among, member}
use Rattle.sect_wait.specs.declared.next.Candidate.{Candidate}
use Rattle.sect_wait.specs.declared.opened.Opened.{Opened}
use Rattle.sect_wait.specs.Marked.{Marked}
use Rattle.sect_wait.specs.Opened.{is_sought}
use Rattle.sect_wait.specs.Placing.{IsBest, given_by, given_up, moved, placed_of}
use Rattle.sect_wait.specs.Queued.{Queued, left}
use Rattle.sect_wait.specs.Touched.{SeeksOnly, candidate_concerns, count_sought, count_touched, is_concerned, is_touched, may_be_sought, placement_concerns}
use Rattle.sect_wait.proofs.CountLemmas.{at-least, unsought}
use Rattle.sect_wait.proofs.MarkLemmas.{among-without, on-ok}
use Rattle.sect_wait.proofs.NeedLemmas.{neither}
use Rattle.sect_wait.proofs.OnlyLemmas.{both-seek}
use Rattle.sect_wait.proofs.PlacingLemmas.{best-member}

-- ---- the catalogue stays

leave_all-catalogue : (courses : List CourseId) (w : World) (student : StudentId) → (leave_all w student courses).catalogue ≡ w.catalogue
leave_all-catalogue [] w student = refl
leave_all-catalogue (c ∷ cs) w student = leave_all-catalogue cs (leave w student c) student

touches-same : (w v : World) (want : Want) (course : CourseId) → w.catalogue ≡ v.catalogue → touches w want course ≡ touches v want course
touches-same w v want course same = ap (λ k. touches (record v { catalogue = k }) want course) same

given-same : (w v : World) (want : Want) (give : Option CourseId) → w.catalogue ≡ v.catalogue → option_map_or (touches w want) give false ≡ option_map_or (touches v want) give false
given-same w v want None same = refl
given-same w v want (Some course) same = touches-same w v want course same

concerned-same : (w v : World) (student : StudentId) (course : CourseId) (e : Waiting) → w.catalogue ≡ v.catalogue → is_concerned w student course e ≡ is_concerned v student course e
concerned-same w v student course e same = ap (λ b. student.0 == e.student.0 || b) (touches-same w v e.want course same)

-- ---- a placement

-- the course to give up leaves
pub give-seek : (w : World) (student : StudentId) (course : CourseId) (give : Option CourseId) (es : List Waiting) (m n : Marked) (cs ds : List CourseId) → Some course ≡ give
    → SeeksOnly (is_concerned w student course) es m cs n ds → SeeksOnly (λ e. student.0 == e.student.0 || option_map_or (touches w e.want) give false) es m cs n ds
give-seek w student course give es m n cs ds is only =
    subst (λ g. SeeksOnly (λ e. student.0 == e.student.0 || option_map_or (touches w e.want) g false) es m cs n ds) is only

-- the course is given up, and then the student is enrolled
pub place-seek : {A E : Type 0} (w v : World) (c : Candidate) (es : List Waiting) (m k n : Marked) (cs ds xs : List CourseId) (r : Result A E) → v ≡ given_up w c
    → SeeksOnly (λ e. c.student.0 == e.student.0 || option_map_or (touches w e.want) c.give false) es m cs k ds → OnOk r (SeeksOnly (is_concerned v c.student c.choice.course) es k ds n xs)
    → OnOk r (SeeksOnly (candidate_concerns w c) es m cs n xs)
place-seek w v c es m k n cs ds xs r is give enrol =
    on-ok r (both-seek (λ e. c.student.0 == e.student.0 || option_map_or (touches w e.want) c.give false) (is_concerned v c.student c.choice.course) (candidate_concerns w c) es m k n cs ds xs parts give) enrol
  where
    same : v.catalogue ≡ w.catalogue
    same = ap (λ (u : World). u.catalogue) is ∙ leave_all-catalogue (given_by w c) w c.student

    parts : (e : Waiting) → candidate_concerns w c e ≡ false → (c.student.0 == e.student.0 || option_map_or (touches w e.want) c.give false ≡ false) × (is_concerned v c.student c.choice.course e ≡ false)
    parts e none =
        let taken : is_concerned w c.student c.choice.course e ≡ false = neither-left (is_concerned w c.student c.choice.course e) (option_map_or (touches w e.want) c.give false) none in (
          neither (c.student.0 == e.student.0) (option_map_or (touches w e.want) c.give false) (neither-left (c.student.0 == e.student.0) (touches w e.want c.choice.course) taken)
              (neither-right (is_concerned w c.student c.choice.course e) (option_map_or (touches w e.want) c.give false) none),
          concerned-same v w c.student c.choice.course e same ∙ taken,
        )

-- ---- the rounds

-- what is counted of the members of a list
count-among : (p q : Waiting → Bool) (es : List Waiting) → ((e : Waiting) → Member es e → q e ≡ false → p e ≡ false) → length (filter p es) ≤ length (filter q es)
count-among p q es h =
    subst (λ fs. length fs ≤ length (filter q es)) (sym (filter-same p (λ e. p e && q e) es (λ e i. by_test (p e) (q e) (h e i)))) (count-le (λ e. p e && q e) q es (λ e t. both-right (p e) (q e) t))
  where
    by_test : (a b : Bool) → (b ≡ false → a ≡ false) → a ≡ a && b
    by_test true true h = refl
    by_test true false h = h refl
    by_test false b h = refl

one_more : (n_old n m k most few : ℕ) → n ≤ n_old + k * most → few ≤ most → m ≤ n + few → m ≤ n_old + (k + 1) * most
one_more n_old n m k most few h i j = grind (arith, h, i, j)

-- from a world, a queue, marks and what opened, after so many steps: who may be sought is touched, and each round took at most as
-- many steps as entries pass a test that all the touched ones pass
pub record Counting (w_old : World) (q_old : Queued) (m_old : Marked) (cs_old : List CourseId) (n_old : ℕ) (w : World) (q : Queued) (m : Marked) (cs : List CourseId) (placed : List Placed) (n : ℕ) : Type 0 where
  pub catalogue : w.catalogue ≡ w_old.catalogue
  pub within : (e : Waiting) → Among q.entries e → Among q_old.entries e
  pub fewer : (test : Waiting → Bool) → length (filter test q.entries) ≤ length (filter test q_old.entries)
  pub sought : (e : Waiting) → Among q.entries e → is_touched w_old q_old.entries m_old cs_old placed e ≡ false → may_be_sought m cs e ≡ false
  pub counted : (test : Waiting → Bool) → ((e : Waiting) → test e ≡ false → is_touched w_old q_old.entries m_old cs_old placed e ≡ false) → n ≤ n_old + length placed * length (filter test q_old.entries)

pub counting-none : (w : World) (q : Queued) (m : Marked) (cs : List CourseId) (n : ℕ) (placed : List Placed) → Counting w q m cs n w q m cs placed n
counting-none w q m cs n placed = record {
  catalogue = refl;
  within = λ e a. a;
  fewer = λ test. omega arith;
  sought = λ e a none. neither-left (may_be_sought m cs e) (list_any (λ p. placement_concerns w q.entries p e) placed) none;
  counted = λ test wider. at-least n (length placed * length (filter test q.entries));
}

module _ (w_old : World) (q_old : Queued) (m_old : Marked) (cs_old : List CourseId) (n_old : ℕ) (w : World) (q : Queued) (m : Marked) (cs : List CourseId) (placed : List Placed) (n : ℕ)
    (s : Counting w_old q_old m_old cs_old n_old w q m cs placed n) (k : Marked) (o : Opened) (now : ℕ) (shut : SeeksOnly (λ e. false) q.entries m cs k o.courses.items) (steps : now ≤ n + count_sought k o q.entries) where
  -- the searches of one round more
  round-counted : (test : Waiting → Bool) → ((e : Waiting) → test e ≡ false → is_touched w_old q_old.entries m_old cs_old placed e ≡ false) → now ≤ n_old + (length placed + 1) * length (filter test q_old.entries)
  round-counted test wider = one_more n_old n now (length placed) (length (filter test q_old.entries)) (count_sought k o q.entries) (s.counted test wider) few steps
    where
      sought-few : count_sought k o q.entries ≤ length (filter test q.entries)
      sought-few = count-among (is_sought k o) test q.entries (λ e i fails. let a = among q.entries e i in unsought k o e (shut e a (s.sought e a (wider e fails)) refl))

      few : count_sought k o q.entries ≤ length (filter test q_old.entries)
      few = omega (arith, sought-few, s.fewer test)

  -- the last round
  pub counting-done : now ≤ n_old + (length placed + 1) * count_touched w_old q_old.entries m_old cs_old placed
  counting-done = round-counted (is_touched w_old q_old.entries m_old cs_old placed) (λ e none. none)

  -- a round that places
  module _ (c : Candidate) (best : IsBest w q.entries (Some c)) (l : Marked) (ds : List CourseId) (j : Marked) (next : SeeksOnly (λ e. false) q.entries k o.courses.items j o.courses.items)
      (place : SeeksOnly (candidate_concerns w c) q.entries j o.courses.items l ds) where
    -- who isn't touched with the placement wasn't before it, and the placement doesn't concern it
    untouched : (e : Waiting) → is_touched w_old q_old.entries m_old cs_old (placed ++ placed_of c ∷ []) e ≡ false
        → (is_touched w_old q_old.entries m_old cs_old placed e ≡ false) × (placement_concerns w_old q_old.entries (placed_of c) e ≡ false)
    untouched e none =
        let concerns : Placed → Bool = λ p. placement_concerns w_old q_old.entries p e in
        let two : list_any concerns placed || list_any concerns (placed_of c ∷ []) ≡ false
        = sym (any-append concerns placed (placed_of c ∷ [])) ∙ neither-right (may_be_sought m_old cs_old e) (list_any concerns (placed ++ placed_of c ∷ [])) none in (
          neither (may_be_sought m_old cs_old e) (list_any concerns placed) (neither-left (may_be_sought m_old cs_old e) (list_any concerns (placed ++ placed_of c ∷ [])) none)
              (neither-left (list_any concerns placed) (list_any concerns (placed_of c ∷ [])) two),
          neither-left (concerns (placed_of c)) false (neither-right (list_any concerns placed) (list_any concerns (placed_of c ∷ [])) two),
        )

    unconcerned : (e : Waiting) → placement_concerns w_old q_old.entries (placed_of c) e ≡ false → candidate_concerns w c e ≡ false
    unconcerned e none =
        neither (is_concerned w c.student c.choice.course e) (option_map_or (touches w e.want) c.give false)
        (concerned-same w w_old c.student c.choice.course e s.catalogue ∙ neither-left (is_concerned w_old c.student c.choice.course e) _ none)
        (ap (λ g. option_map_or (touches w e.want) g false) best.2.give ∙ given-same w w_old e.want best.0.give s.catalogue
        ∙ sym (ap (λ b. b && option_map_or (touches w_old e.want) best.0.give false) (eq-eqb best.0.ticket c.ticket (sym best.2.ticket)))
        ∙ none-at (λ (d : Waiting). d.ticket == c.ticket && option_map_or (touches w_old e.want) d.give false) q_old.entries
        (neither-right (is_concerned w_old c.student c.choice.course e) _ none) best.0 own)
      where
        own : Member q_old.entries best.0
        own = member q_old.entries best.0 (s.within best.0 (among q.entries best.0 (best-member w q.entries best.0 best.1)))

    pub counting-more : (v : World) (p : Queued) (more : List Placed) → v ≡ moved w c → p ≡ left q c.ticket → more ≡ placed ++ placed_of c ∷ [] → Counting w_old q_old m_old cs_old n_old v p l ds more now
    counting-more v p more world queue is =
        subst (λ xs. Counting w_old q_old m_old cs_old n_old v p l ds xs now) (sym is) (subst (λ u. Counting w_old q_old m_old cs_old n_old u p l ds (placed ++ placed_of c ∷ []) now) (sym world)
        (subst (λ r. Counting w_old q_old m_old cs_old n_old (moved w c) r l ds (placed ++ placed_of c ∷ []) now) (sym queue) (record {
          catalogue = leave_all-catalogue (given_by w c) w c.student ∙ s.catalogue;
          within = λ e a. s.within e (among-without q.entries c.ticket e a);
          fewer = λ test. omega (arith, count-part test (λ (d : Waiting). not (d.ticket == c.ticket)) q.entries, s.fewer test);
          sought = λ e a none.
              let b = among-without q.entries c.ticket e a in
              let u = untouched e none in
              place e b (next e b (shut e b (s.sought e b u.0) refl) refl) (unconcerned e u.1);
          counted = λ test wider.
              subst (λ x. now ≤ n_old + x * length (filter test q_old.entries)) (sym (length-append placed (placed_of c ∷ []))) (round-counted test (λ e fails. (untouched e (wider e fails)).0));
        })))
