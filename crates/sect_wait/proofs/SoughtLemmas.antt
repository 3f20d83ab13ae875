-- The tickets of the entries that are sought are listed.
use Rattle.std.specs.Prelude.{◌≡◌, ℕ, ◌+◌, ◌<◌, Bool, false, ◌||◌, ◌&&◌, ◌==◌, List, [], ◌∷◌, ◌++◌, length, take, Some, refl}
use Rattle.std.specs.List.{list_any}
use Rattle.std.specs.Option.{is_some}
use Rattle.std.proofs.Common.{sym, ◌∙◌, ap, get_or}
use Rattle.std.proofs.lemmas.List.{take_more}
use Rattle.sect_base.specs.declared.ids.CourseId.{CourseId}
use Rattle.sect_catalog.proofs.SearchLemmas.{any-append}
use Rattle.sect_model.specs.declared.held.Waiting.{Waiting}
use Rattle.sect_model.proofs.Members.{neither-left, neither-right}
use Rattle.sect_wait.specs.declared.opened.Opened.{Opened}
use Rattle.sect_wait.specs.Indexed.{AreTold, has_ticket}
use Rattle.sect_wait.specs.Marked.{Marked, is_from, is_source, wants_one}
use Rattle.sect_wait.specs.Opened.{AreListed, ListsMore, is_sought}
use Rattle.sect_wait.proofs.MarkLemmas.{off-and}
use Rattle.sect_wait.proofs.NeedLemmas.{neither, second-off}

-- these tickets more are listed
pub lists-told : (test : Waiting → Bool) (es : List Waiting) (told before after : List ℕ) → AreTold test es (Some told) → after ≡ before ++ told → ListsMore test es before after
lists-told test es told before after are is = record { kept = λ t h. neither-left (has_ticket t before) _ (two t h); added = λ e a h. are e a (neither-right (has_ticket e.ticket before) _ (two e.ticket h)) }
  where
    two : (t : ℕ) → has_ticket t after ≡ false → has_ticket t before || has_ticket t told ≡ false
    two t h = sym (any-append (λ s. s == t) before told) ∙ ap (has_ticket t) (sym is) ∙ h

-- no courses yet
pub lists-none : (es : List Waiting) (before : List ℕ) → ListsMore (wants_one []) es before before
lists-none es before = record { kept = λ t h. h; added = λ e a h. refl }

-- the courses so far, and one more
pub lists-more : (cs : List CourseId) (i : ℕ) (d : CourseId) (es : List Waiting) (before now after : List ℕ) → i < length cs → d ≡ get_or cs i d → ListsMore (wants_one (take i cs)) es before now
    → ListsMore (λ e. list_any (λ c. d.0 == c.0) e.want.courses) es now after → ListsMore (wants_one (take (i + 1) cs)) es before after
lists-more cs i d es before now after few at so_far one = record {
  kept = λ t h. so_far.kept t (one.kept t h);
  added = λ e a h. ap (λ xs. wants_one xs e) (take_more cs i d few ∙ ap (λ x. take i cs ++ x ∷ []) (sym at)) ∙ any-append (λ (x : CourseId). list_any (λ c. x.0 == c.0) e.want.courses) (take i cs) (d ∷ [])
      ∙ neither (wants_one (take i cs) e) (list_any (λ c. d.0 == c.0) e.want.courses || false) (so_far.added e a (one.kept e.ticket h)) (neither (list_any (λ c. d.0 == c.0) e.want.courses) false (one.added e a h) refl);
}

-- what is listed: the marked tickets, and those by the courses of three lists
pub lists-sought : (m : Marked) (o : Opened) (es : List Waiting) (first second third all : List ℕ) → m.all ≡ false → first ≡ [] ++ m.tickets → ListsMore (wants_one m.courses) es first second
    → ListsMore (wants_one m.givers) es second third → ListsMore (wants_one o.courses.items) es third all → AreListed (is_sought m o) es all
lists-sought m o es first second third all some is courses givers opened e a h =
    let unopened = opened.kept e.ticket h in
    let ungiven = givers.kept e.ticket unopened in
    let unlisted = courses.kept e.ticket ungiven in
    neither _ (wants_one o.courses.items e)
    (neither (list_any (λ t. t == e.ticket) m.tickets) (is_source m e && is_from m.from e) (ap (has_ticket e.ticket) (sym is) ∙ unlisted)
    (off-and (is_source m e) (is_from m.from e)
    (neither (m.all || wants_one m.courses e) (is_some e.give && wants_one m.givers e) (neither m.all (wants_one m.courses e) some (courses.added e a ungiven))
    (second-off (is_some e.give) (wants_one m.givers e) (givers.added e a unopened)))))
    (opened.added e a h)
