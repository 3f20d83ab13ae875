-- One link and one clock more have a worker.
use Rattle.std.proofs.Common.{◌≡◌, ◌∷◌, ◌++◌, [], ℕ, ◌+◌, ◌≤◌, List, length, map, take, sym, ap, refl, ◌∙◌, append_assoc, length-append, arith}
use Rattle.std.specs.Vec.Iter.{into_iter_items}
use Rattle.std.proofs.lemmas.List.{map-append}
use Rattle.std.proofs.lemmas.List.Elements.{All-push, All-same}
use Rattle.sect_serve.proofs.collect.servers.Goals as goal

one_behind : {S A : Type 0} (f : S → A) (ws ws' : List S) (s : S) (rest rest' all : List A) → ws' ≡ ws ++ s ∷ [] → rest ≡ f s ∷ rest' → map f ws ++ rest ≡ all → map f ws' ++ rest' ≡ all
one_behind f ws ws' s rest rest' all more step h =
    ap (λ l. l ++ rest') (ap (map f) more ∙ map-append f ws (s ∷ [])) ∙ (append_assoc (map f ws) (f s ∷ []) rest' ∙ (ap (λ l. map f ws ++ l) (sym step) ∙ h))

one_less : {A : Type 0} (xs xs' : List A) (x : A) (n n' : ℕ) → xs ≡ x ∷ xs' → n ≡ length xs → n' + 1 ≡ n → n' ≡ length xs'
one_less xs xs' x n n' step was gone = let short = ap length step in omega (arith, short, was, gone)

both_less : {A B : Type 0} (xs xs' : List A) (x : A) (ys ys' : List B) (y : B) → xs ≡ x ∷ xs' → ys ≡ y ∷ ys' → length xs ≤ length ys → length xs' ≤ length ys'
both_less xs xs' x ys ys' y step step' was = let short = ap length step in let short' = ap length step' in omega (arith, short, short', was)

one_moved : {S A : Type 0} (ws ws' : List S) (s : S) (xs xs' : List A) (x : A) (most most' : ℕ) → ws' ≡ ws ++ s ∷ [] → xs ≡ x ∷ xs' → length ws + length xs ≤ most → most' ≡ most → length ws' + length xs' ≤ most'
one_moved ws ws' s xs xs' x most most' more step was same =
    let longer = ap length more ∙ length-append ws (s ∷ []) in let short = ap length step in omega (arith, longer, short, was, same)

one_on : {A : Type 0} (xs xs' : List A) (x : A) (n : ℕ) → xs ≡ x ∷ xs' → n + length xs ≤ 64 → n + 1 + length xs' ≤ 64
one_on xs xs' x n step was = let short = ap length step in omega (arith, short, was)

pub loop-link-preserved : goal.loop-link-preserved
loop-link-preserved g c =
    let h = c.loop-link.invariant in
    let ahead : into_iter_items c.loop-link.link-iterator ≡ c.in-Some.link ∷ into_iter_items c.next.new.self = c.in-Some.ensures.steps.0 in
    let clocks : into_iter_items c.loop-link.clocks ≡ c.in-Some-next.clock ∷ into_iter_items c.next-in-loop-link.new.self = c.in-Some-next.ensures.items in
    let more = c.push_reserved.ensures.items in
    record {
      links = one_behind (λ s. s.link) c.loop-link.works.items _ _ _ _ _ more ahead h.links;
      days = one_behind (λ s. g.C.Clock.days s.clock) c.loop-link.works.items _ _ _ _ _ more (ap (λ l. take (length l) (map g.C.Clock.days (into_iter_items c.loop-link.clocks))) ahead
          ∙ ap (λ l. take (length (c.in-Some.link ∷ into_iter_items c.next.new.self)) (map g.C.Clock.days l)) clocks) h.days;
      sessions = All-same (λ s. s.sessions ≡ c.args.sessions) _ _ more (All-push (λ s. s.sessions ≡ c.args.sessions) c.loop-link.works.items _ h.sessions refl);
      ahead = one_less _ _ _ _ _ ahead h.ahead c.in-Some.ensures.steps.1;
      clocks_ahead = one_less _ _ _ _ _ clocks h.clocks_ahead c.in-Some-next.ensures.len;
      enough = both_less _ _ _ _ _ _ ahead clocks h.enough;
      room = one_moved _ _ _ _ _ _ _ _ more ahead h.room c.push_reserved.ensures.capacity;
      number = one_on _ _ _ _ ahead h.number;
    }
