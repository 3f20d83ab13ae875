-- Lines in pieces, of which the last line alone may end in a tree.
use Rattle.std.proofs.Common.{◌≡◌, ℕ, ◌+◌, ◌-◌, true, List, [], ◌∷◌, ◌++◌, refl, ap, ◌∙◌, sym, subst, append-nil, append_assoc, arith, codes, decimal, get_or, length, take, drop}
use Rattle.std.specs.Prelude.{not, flat_map}
use Rattle.std.specs.List.{list_all}
use Rattle.std.proofs.lemmas.Grind.{flat_map-append}
use Rattle.std.proofs.lemmas.List.{take_more, take_all, take-append-drop}
use Rattle.sect_catalog.proofs.AppendLemmas.{both-left, both-right}
use Rattle.sect_command.specs.TreeText.{tree_text}
use Rattle.sect_command.specs.declared.reply.Line.{Line}
use Rattle.sect_command.specs.declared.reply.LineResult.{LineResult}
use Rattle.sect_command.specs.declared.reply.LineResult.TheVariants as results
use Rattle.sect_words.specs.Parts.{behind}
use Rattle.sect_text.specs.Replies.{IsPiece, ends_in_tree, is_plain, line_front, line_words, result_front, result_words, tree_rest}

-- the pieces of a blocked result, one behind another
blocked_parts : (visits tree : List ℕ) → (visits ++ (32 ∷ [])) ++ tree ≡ visits ++ (32 ∷ tree ++ [])
blocked_parts visits tree = append_assoc visits (32 ∷ []) tree ∙ ap (λ (rest : List ℕ). visits ++ 32 ∷ rest) (sym (append-nil tree))

-- the words of a result are its front and its tree
result_whole : (r : LineResult) → result_front r ++ tree_rest r ≡ behind 32 (result_words r)
result_whole (results.Met choice) = append-nil (behind 32 (result_words (results.Met choice)))
result_whole (results.Held course) = append-nil (behind 32 (result_words (results.Held course)))
result_whole (results.Blocked visits tree) = ap (λ (rest : List ℕ). (32 ∷ codes "blocked") ++ (32 ∷ rest)) (blocked_parts (decimal visits) (tree_text tree))
result_whole results.Spent = refl
result_whole (results.Waiting ticket) = append-nil (behind 32 (result_words (results.Waiting ticket)))
result_whole results.Skipped = refl

-- the pieces of a line, one behind another
line_parts : (student rank front tree whole : List ℕ) → front ++ tree ≡ whole → ((32 ∷ student) ++ ((46 ∷ rank) ++ front)) ++ tree ≡ (32 ∷ student ++ ((46 ∷ rank) ++ [])) ++ whole
line_parts student rank front tree whole is =
    append_assoc (32 ∷ student) ((46 ∷ rank) ++ front) tree
    ∙ ap (λ (rest : List ℕ). (32 ∷ student) ++ rest) (append_assoc (46 ∷ rank) front tree ∙ ap (λ (rest : List ℕ). (46 ∷ rank) ++ rest) is)
    ∙ ap (λ (number : List ℕ). (32 ∷ student) ++ (number ++ whole)) (sym (append-nil (46 ∷ rank)))
    ∙ sym (append_assoc (32 ∷ student) ((46 ∷ rank) ++ []) whole)

-- the words of a line are its front and its tree
pub line_whole : (l : Line) → line_front l ++ tree_rest l.result ≡ behind 32 (line_words l)
line_whole l = line_parts (decimal l.student.0) (decimal l.rank) (result_front l.result) (tree_rest l.result) (behind 32 (result_words l.result)) (result_whole l.result)

-- without a tree nothing stands behind the front
no_rest : (r : LineResult) → not (ends_in_tree r) ≡ true → tree_rest r ≡ []
no_rest (results.Met choice) plain = refl
no_rest (results.Held course) plain = refl
no_rest (results.Blocked visits tree) plain = absurd (cc)
no_rest results.Spent plain = refl
no_rest (results.Waiting ticket) plain = refl
no_rest results.Skipped plain = refl

-- a line without a tree is its front
line_plain : (l : Line) → is_plain l ≡ true → line_front l ≡ behind 32 (line_words l)
line_plain l plain = sym (append-nil (line_front l)) ∙ ap (λ (rest : List ℕ). line_front l ++ rest) (sym (no_rest l.result plain)) ∙ line_whole l

-- lines without trees, and one behind them
lines_whole : (ls : List Line) (l : Line) → list_all is_plain ls ≡ true
    → flat_map line_front (ls ++ l ∷ []) ++ tree_rest l.result ≡ behind 32 (flat_map line_words (ls ++ l ∷ []))
lines_whole [] l plain =
    ap (λ (front : List ℕ). front ++ tree_rest l.result) (append-nil (line_front l)) ∙ line_whole l
    ∙ ap (λ (words : List (List ℕ)). behind 32 words) (sym (append-nil (line_words l)))
lines_whole (m ∷ ls) l plain =
    append_assoc (line_front m) (flat_map line_front (ls ++ l ∷ [])) (tree_rest l.result)
    ∙ ap (λ (rest : List ℕ). line_front m ++ rest) (lines_whole ls l (both-right (is_plain m) _ plain))
    ∙ ap (λ (front : List ℕ). front ++ behind 32 (flat_map line_words (ls ++ l ∷ []))) (line_plain m (both-left (is_plain m) _ plain))
    ∙ sym (flat_map-append (λ part. 32 ∷ part) (line_words m) (flat_map line_words (ls ++ l ∷ [])))

-- the fronts of a piece, and the tree of its last line, are its words
pub piece_whole : (ls : List Line) (d : Line) → IsPiece ls (length ls)
    → flat_map line_front ls ++ tree_rest (get_or ls (length ls - 1) d).result ≡ behind 32 (flat_map line_words ls)
piece_whole ls d piece =
    let last = get_or ls (length ls - 1) d in
    let next : length ls - 1 + 1 ≡ length ls = omega (arith, piece.some) in
    let parts : ls ≡ take (length ls - 1) ls ++ last ∷ [] =
    sym (take_all (length ls) ls (omega arith)) ∙ ap (λ n. take n ls) (sym next) ∙ take_more ls (length ls - 1) d (omega (arith, piece.some)) in
    subst (λ (ms : List Line). flat_map line_front ms ++ tree_rest last.result ≡ behind 32 (flat_map line_words ms)) (sym parts)
    (lines_whole (take (length ls - 1) ls) last piece.plain)

-- lines in two parts
pub lines_split : (ls : List Line) (n : ℕ) → behind 32 (flat_map line_words (take n ls)) ++ behind 32 (flat_map line_words (drop n ls)) ≡ behind 32 (flat_map line_words ls)
lines_split ls n =
    sym (flat_map-append (λ part. 32 ∷ part) (flat_map line_words (take n ls)) (flat_map line_words (drop n ls)))
    ∙ ap (λ (words : List (List ℕ)). behind 32 words) (sym (flat_map-append line_words (take n ls) (drop n ls)) ∙ ap (flat_map line_words) (take-append-drop n ls))
