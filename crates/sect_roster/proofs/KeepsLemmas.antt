-- The index of rows through each change.
use Rattle.std.specs.Prelude.{◌≡◌, ℕ, ◌<◌, Bool, true, false, not, ◌==◌, List, length, map, filter, find, insert, Option, Some, None, refl}
use Rattle.std.specs.List.{list_any, position_or_len, remove}
use Rattle.std.specs.Option.{is_some, option_map}
use Rattle.std.proofs.Common.{sym, ◌∙◌, ap, subst, arith}
use Rattle.std.proofs.lemmas.Bool.{eqb-true}
use Rattle.std.proofs.lemmas.Bool.Decides.{nat_tests}
use Rattle.sect_people.specs.Order.{all_differ}
use Rattle.sect_people.specs.Index.{rank}
use Rattle.sect_model.specs.World.{put_behind}
use Rattle.sect_model.specs.Kept.{is_ordered_by}
use Rattle.sect_model.proofs.Easy.{differ-filter, map-key, new-key}
use Rattle.sect_model.proofs.ListLemmas.{any-find}
use Rattle.sect_model.proofs.Members.{find-filter, find-map}
use Rattle.sect_model.proofs.PutLemmas.{differ-put, find-put, ordered-put}
use Rattle.sect_model.proofs.RosterLemmas.{ordered-filter}
use Rattle.sect_roster.specs.declared.mark.Mark.{Mark}
use Rattle.sect_roster.specs.Filed.{Keeps}
use Rattle.sect_roster.proofs.InsertLemmas.{differ-insert, find-insert, find-inserted, find-put-own, find-dropped, new-id, once, rank-place}
use Rattle.sect_roster.proofs.PlaceLemmas.{place-within, remove-one}

some-map : {X Y : Type 0} (f : X → Y) (o : Option X) → is_some (option_map f o) ≡ is_some o
some-map f None = refl
some-map f (Some x) = refl

pub found-any : {X : Type 0} (p : X → Bool) (xs : List X) → is_some (find p xs) ≡ true → list_any p xs ≡ true
found-any p xs h = sym (any-find p xs) ∙ h

pub keeps-as : {R : Type 0} (key id : R → ℕ) (rows rows' : List R) (marks marks' : List Mark) → rows ≡ rows' → marks ≡ marks' → Keeps key id rows' marks' → Keeps key id rows marks
keeps-as key id rows rows' marks marks' e f k = subst (λ rs. Keeps key id rs marks) (sym e) (subst (λ ms. Keeps key id rows' ms) (sym f) k)

module _ {R : Type 0} (key id : R → ℕ) (rows : List R) (marks : List Mark) (k : Keeps key id rows marks) where
  -- an id has a mark exactly where it has a row
  pub marked : (n : ℕ) → is_some (find (λ m. m.id == n) marks) ≡ is_some (find (λ r. id r == n) rows)
  marked n = sym (some-map (λ m. m.offering) (find (λ m. m.id == n) marks)) ∙ ap is_some (k.told n) ∙ some-map key (find (λ r. id r == n) rows)

  abbrev pub mark_of : R → Mark
  mark_of row = record { id = id row; offering = key row }

  told-put : (row : R) (place : ℕ) → is_some (find (λ r. id r == id row) rows) ≡ false → (n : ℕ) (b : Bool) → id row == n ≡ b
      → option_map (λ m. m.offering) (find (λ m. m.id == n) (put_behind (λ m. m.id) (mark_of row) marks)) ≡ option_map key (find (λ r. id r == n) (insert rows place row))
  told-put row place new n true e =
      let own = λ (j : ℕ). is_some (find (λ r. id r == j) rows) ≡ false in
      let none = subst own (eqb-true (id row) n e) new in
      ap (option_map (λ m. m.offering)) (find-put-own (λ m. m.id) (λ m. m.id == n) (mark_of row) marks e (marked n ∙ none))
      ∙ ap (option_map key) (sym (find-inserted (λ r. id r == n) rows place row e none))
  told-put row place new n false e =
      ap (option_map (λ m. m.offering)) (find-put (λ m. m.id) (λ m. m.id == n) (mark_of row) marks e)
      ∙ k.told n
      ∙ ap (option_map key) (sym (find-insert (λ r. id r == n) rows place row e))

  -- a row more
  pub put-keeps : (row : R) (place : ℕ) → is_some (find (λ r. id r == id row) rows) ≡ false → Keeps key id (insert rows place row) (put_behind (λ m. m.id) (mark_of row) marks)
  put-keeps row place new = record {
    differ = differ-insert id rows place row k.differ (new-id id (id row) rows new);
    marks_in_order = ordered-put (λ m. m.id) (mark_of row) marks k.marks_in_order;
    marks_differ = differ-put (λ m. m.id) (λ m. m.id) (mark_of row) marks k.marks_differ (new-key (λ m. m.id) marks (id row) (marked (id row) ∙ new));
    told = λ n. told-put row place new n (id row == n) refl;
  }

  other : (a b c : ℕ) → a == b ≡ false → c == a ≡ true → not (c == b) ≡ true
  other a b c h e = grind (arith, nat_tests)

  told-drop : (n m : ℕ) (b : Bool) → m == n ≡ b
      → option_map (λ m. m.offering) (find (λ x. x.id == m) (filter (λ m. not (m.id == n)) marks)) ≡ option_map key (find (λ r. id r == m) (filter (λ r. not (id r == n)) rows))
  told-drop n m true e =
      let same = eqb-true m n e in
      ap (λ j. option_map (λ m. m.offering) (find (λ x. x.id == j) (filter (λ m. not (m.id == n)) marks))) same
      ∙ ap (option_map (λ m. m.offering)) (find-dropped (λ m. m.id == n) marks)
      ∙ ap (option_map key) (sym (find-dropped (λ r. id r == n) rows))
      ∙ ap (λ j. option_map key (find (λ r. id r == j) (filter (λ r. not (id r == n)) rows))) (sym same)
  told-drop n m false e =
      ap (option_map (λ m. m.offering)) (find-filter (λ x. x.id == m) (λ x. not (x.id == n)) marks (λ x t. other m n x.id e t))
      ∙ k.told m
      ∙ ap (option_map key) (sym (find-filter (λ r. id r == m) (λ r. not (id r == n)) rows (λ r t. other m n (id r) e t)))

  -- without the row of an id
  pub drop-keeps : (n : ℕ) → Keeps key id (filter (λ r. not (id r == n)) rows) (filter (λ m. not (m.id == n)) marks)
  drop-keeps n = record {
    differ = differ-filter id (λ r. not (id r == n)) rows k.differ;
    marks_in_order = ordered-filter (λ m. m.id) (λ m. not (m.id == n)) marks k.marks_in_order;
    marks_differ = differ-filter (λ m. m.id) (λ m. not (m.id == n)) marks k.marks_differ;
    told = λ m. told-drop n m (m == n) refl;
  }

  -- one row has an id that is known
  pub once-row : (n : ℕ) → is_some (find (λ r. id r == n) rows) ≡ true → length (filter (λ r. id r == n) rows) ≡ 1
  once-row n h = once id n rows k.differ h

  -- ---- a change of rows that keeps their offerings and ids

  told-map : (f : R → R) → ((r : R) → key (f r) ≡ key r) → ((r : R) → id (f r) ≡ id r) → (n : ℕ)
      → option_map (λ m. m.offering) (find (λ m. m.id == n) marks) ≡ option_map key (find (λ r. id r == n) (map f rows))
  told-map f same_key same_id n =
      k.told n ∙ sym (ap (option_map key) (find-map (λ r. id r == n) f rows (λ r. ap (λ m. m == n) (same_id r))) ∙ through (find (λ r. id r == n) rows))
    where
      through : (o : Option R) → option_map key (option_map f o) ≡ option_map key o
      through None = refl
      through (Some r) = ap (λ n. Some n) (same_key r)

  pub change-keeps : (f : R → R) → ((r : R) → key (f r) ≡ key r) → ((r : R) → id (f r) ≡ id r) → Keeps key id (map f rows) marks
  change-keeps f same_key same_id = record {
    differ = ap all_differ (map-key id f rows same_id) ∙ k.differ;
    marks_in_order = k.marks_in_order;
    marks_differ = k.marks_differ;
    told = told-map f same_key same_id;
  }

-- ---- the marks

module _ (marks : List Mark) (n : ℕ) (ordered : is_ordered_by (λ m. m.id) marks ≡ true) (differ : all_differ (map (λ m. m.id) marks) ≡ true) (some : is_some (find (λ m. m.id == n) marks) ≡ true) where
  at-rank : rank (λ m. m.id) n marks ≡ position_or_len (λ m. m.id == n) marks
  at-rank = rank-place (λ m. m.id) n marks ordered some

  pub marks-left : remove marks (rank (λ m. m.id) n marks) ≡ filter (λ m. not (m.id == n)) marks
  marks-left = ap (remove marks) at-rank ∙ remove-one (λ m. m.id == n) marks (once (λ m. m.id) n marks differ some)

  pub marks-within : rank (λ m. m.id) n marks < length marks
  marks-within = let within = place-within (λ m. m.id == n) marks (found-any (λ m. m.id == n) marks some) in omega (arith, at-rank, within)
