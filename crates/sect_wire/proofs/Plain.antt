-- No byte of a reply's text is written by an escape.
use Rattle.std.proofs.Common.{◌≡◌, ℕ, suc, zero, ◌+◌, ◌==◌, ◌≤◌, ◌<◌, Bool, true, false, List, [], ◌∷◌, ◌++◌, map, refl, ap, sym, subst, ◌∙◌, append_assoc, arith, decimal, lit≤, lit<, nat_le, nat_lt, ◌/◌, ◌%◌, ◌||◌, cond}
use Rattle.std.specs.Prelude.{codes, flat_map, ◌&&◌, not, Option, None, Some, Result, Ok, Err, OnOk}
use Rattle.std.specs.List.{AllByRecursion}
use Rattle.std.proofs.lemmas.Bool.{and_parts, not-true, ne_eqb, leb-true}
use Rattle.std.proofs.lemmas.Bool.Decides.{nat_tests}
use Rattle.std.specs.Char.{digit_char}
use Rattle.std.specs.Fmt.{digit_glyph, digits, digits_onto}
use Rattle.json.specs.Print.{escape, escape_byte, escape_letter, quoted}
use Rattle.sect_base.specs.declared.choice.Choice.{Choice}
use Rattle.sect_base.specs.declared.ids.ReservationId.{ReservationId}
use Rattle.sect_base.specs.declared.ids.SectionId.{SectionId}
use Rattle.sect_base.specs.Tree.{Tree, Trees, broken, split, none, more, rule_number}
use Rattle.sect_catalog.specs.declared.row.CatalogFault.{CatalogFault}
use Rattle.sect_catalog.specs.declared.row.CatalogFault.TheVariants as catalog
use Rattle.sect_people.specs.declared.row.RequestFault.{RequestFault}
use Rattle.sect_people.specs.declared.row.RequestFault.TheVariants as request
use Rattle.sect_reserve.specs.declared.row.ReserveFault.{ReserveFault}
use Rattle.sect_reserve.specs.declared.row.ReserveFault.TheVariants as reserve
use Rattle.sect_command.specs.TreeText.{tree_text, others_text}
use Rattle.sect_command.specs.declared.reply.Reply.{Reply}
use Rattle.sect_command.specs.declared.reply.Reply.TheVariants as replies
use Rattle.sect_command.specs.declared.reply.Line.{Line}
use Rattle.sect_command.specs.declared.reply.LineResult.{LineResult}
use Rattle.sect_command.specs.declared.reply.LineResult.TheVariants as results
use Rattle.sect_command.specs.declared.reply.Refusal.{Refusal}
use Rattle.sect_command.specs.declared.reply.Refusal.TheVariants as refusals
use Rattle.sect_command.specs.declared.reply.RowFault.{RowFault}
use Rattle.sect_command.specs.declared.reply.RowFault.TheVariants as faults
use Rattle.sect_words.specs.Words.{optional_text, reservation_text, section_text, sections_text, choice_text}
use Rattle.sect_text.specs.Replies.{catalog_fault_words, request_fault_words, reserve_fault_words, row_fault_words, refusal_words, result_words, line_words, choice_words, reply_words, reply_text}
use Rattle.sect_read.proofs.Bytes.{all_append, all_joined}

-- the byte stands for itself in a string of JSON
abbrev Plain : ℕ → Type 0
Plain byte = (32 ≤ byte) × ((byte == 34) ≡ false) × ((byte == 92) ≡ false)

abbrev Text : List ℕ → Type 0
Text text = AllByRecursion Plain text

abbrev Texts : List (List ℕ) → Type 0
Texts texts = AllByRecursion (AllByRecursion Plain) texts

-- ---- bytes

stands : (byte : ℕ) → Plain byte → escape_byte byte ≡ byte ∷ []
unfolding escape_byte
stands byte p = λ i. cond (nat_lt 0 (letter i)) (92 ∷ letter i ∷ []) (cond (small byte p.0 i) (92 ∷ 117 ∷ 48 ∷ 48 ∷ digit_char (byte / 16) ∷ digit_char (byte % 16) ∷ []) (byte ∷ []))
  where
    small : (b : ℕ) → 32 ≤ b → nat_lt b 32 ≡ false
    small b high = grind (arith, nat_tests)

    other : (b k : ℕ) → 32 ≤ b → k < 32 → (b == k) ≡ false
    other b k high low = ne_eqb b k (λ e. absurd (omega (arith, e, high, low)))

    letter : escape_letter byte ≡ 0
    letter = λ i. cond (p.1 i || p.2 i) byte
        (cond (other byte 8 p.0 (lit< tt) i) 98 (cond (other byte 12 p.0 (lit< tt) i) 102 (cond (other byte 10 p.0 (lit< tt) i) 110 (cond (other byte 13 p.0 (lit< tt) i) 114 (cond (other byte 9 p.0 (lit< tt) i) 116 0)))))

stand : (text : List ℕ) → Text text → escape text ≡ text
stand [] all = refl
stand (b ∷ bs) all = ap (λ (front : List ℕ). front ++ escape bs) (stands b all.0) ∙ ap (λ (rest : List ℕ). b ∷ rest) (stand bs all.1)

abbrev are_plain : List ℕ → Bool
are_plain [] = true
are_plain (b ∷ bs) = nat_le 32 b && (not (b == 34) && (not (b == 92) && are_plain bs))

key : (word : List ℕ) → are_plain word ≡ true → Text word
key [] e = tt
key (b ∷ bs) e =
    let p = and_parts (nat_le 32 b) (not (b == 34) && (not (b == 92) && are_plain bs)) e in
    let q = and_parts (not (b == 34)) (not (b == 92) && are_plain bs) p.1 in
    let r = and_parts (not (b == 92)) (are_plain bs) q.1 in
    ((leb-true 32 b p.0, not-true (b == 34) q.0, not-true (b == 92) r.0), key bs r.1)

below : (d : ℕ) → d < 10 → nat_lt d 10 ≡ true
below d low = grind (arith, nat_tests)

glyph : (d : ℕ) → d < 10 → 48 + d ≡ digit_glyph false d
glyph d low = λ i. cond (sym (below d low) i) (48 + d) (87 + d)

digit : (d : ℕ) → d < 10 → Plain (digit_glyph false d)
digit d low = subst Plain (glyph d low)
    (omega arith, ne_eqb (48 + d) 34 (λ e. absurd (omega (arith, e))), ne_eqb (48 + d) 92 (λ e. absurd (omega (arith, e, low))))

onto : (k n : ℕ) (rest : List ℕ) → Text rest → Text (digits_onto k 10 false n rest)
onto zero n rest all = all
onto (suc k) n rest all = by_test (n / 10 == 0) (onto k (n / 10) (digit_glyph false (n % 10) ∷ rest) (digit (n % 10) (omega arith), all))
  where
    by_test : (b : Bool) → Text (digits_onto k 10 false (n / 10) (digit_glyph false (n % 10) ∷ rest))
        → Text (cond b (digit_glyph false (n % 10) ∷ rest) (digits_onto k 10 false (n / 10) (digit_glyph false (n % 10) ∷ rest)))
    by_test true longer = (digit (n % 10) (omega arith), all)
    by_test false longer = longer

number : (n : ℕ) → Text (decimal n)
unfolding digits
number n = onto 64 n [] tt

append : (xs ys : List (List ℕ)) → Texts xs → Texts ys → Texts (xs ++ ys)
append [] ys a b = b
append (x ∷ xs) ys a b = (a.0, append xs ys a.1 b)

each : {X : Type 0} (words : X → List (List ℕ)) → ((x : X) → Texts (words x)) → (xs : List X) → Texts (flat_map words xs)
each words one [] = tt
each words one (x ∷ xs) = append (words x) (flat_map words xs) (one x) (each words one xs)

sections : (xs : List SectionId) → Texts (map section_text xs)
sections [] = tt
sections (x ∷ xs) = (number x.0, sections xs)

-- ---- words

reserved : (id : Option ReservationId) → Text (optional_text reservation_text id)
reserved None = key (45 ∷ []) refl
reserved (Some r) = number r.0

choice : (c : Choice) → Text (choice_text c)
choice c =
    let all : Text (sections_text c.sections) = all_joined Plain 43 (lit≤ tt, refl, refl) (map section_text c.sections) (sections c.sections) in
    all_joined Plain 47 (lit≤ tt, refl, refl) (decimal c.course.0 ∷ optional_text reservation_text c.reservation ∷ decimal c.config.0 ∷ sections_text c.sections ∷ [])
    (number c.course.0, (reserved c.reservation, (number c.config.0, (all, tt))))

-- cycles of proofs have the shape of the tree
mutual
  tree : (t : Tree) → Text (tree_text t)
  tree (broken rule n) = all_append Plain (decimal (rule_number rule)) (58 ∷ decimal n) (number (rule_number rule)) ((lit≤ tt, refl, refl), number n)
  tree (split none) = key (codes "[]") refl
  tree (split (more t ts)) = ((lit≤ tt, refl, refl), all_append Plain (tree_text t) (others_text ts) (tree t) (others ts))

  others : (ts : Trees) → Text (others_text ts)
  others none = key (93 ∷ []) refl
  others (more t ts) = ((lit≤ tt, refl, refl), all_append Plain (tree_text t) (others_text ts) (tree t) (others ts))

-- ---- words of replies

catalog_texts : (x : CatalogFault) → Texts (catalog_fault_words x)
catalog_texts (catalog.Known n) = (key (codes "Known") refl, (number n, tt))
catalog_texts catalog.NoCourse = (key (codes "NoCourse") refl, tt)
catalog_texts catalog.NoConfig = (key (codes "NoConfig") refl, tt)
catalog_texts (catalog.NoSubpart n) = (key (codes "NoSubpart") refl, (number n, tt))
catalog_texts (catalog.NoSection n) = (key (codes "NoSection") refl, (number n, tt))
catalog_texts (catalog.BadParent n) = (key (codes "BadParent") refl, (number n, tt))
catalog_texts (catalog.TooMany n) = (key (codes "TooMany") refl, (number n, tt))

request_texts : (x : RequestFault) → Texts (request_fault_words x)
request_texts (request.UnknownCourse n) = (key (codes "UnknownCourse") refl, (number n, tt))
request_texts (request.Twice n) = (key (codes "Twice") refl, (number n, tt))
request_texts (request.TooMany n) = (key (codes "TooMany") refl, (number n, tt))

reserve_texts : (x : ReserveFault) → Texts (reserve_fault_words x)
reserve_texts (reserve.Known n) = (key (codes "Known") refl, (number n, tt))
reserve_texts (reserve.Foreign n) = (key (codes "Foreign") refl, (number n, tt))
reserve_texts reserve.NoGroup = (key (codes "NoGroup") refl, tt)
reserve_texts (reserve.TooMany n) = (key (codes "TooMany") refl, (number n, tt))

row_fault_texts : (x : RowFault) → Texts (row_fault_words x)
row_fault_texts (faults.Offering f) = (key (codes "offering") refl, catalog_texts f)
row_fault_texts (faults.Request f) = (key (codes "request") refl, request_texts f)
row_fault_texts (faults.Reserve f) = (key (codes "reserve") refl, reserve_texts f)

refusal_texts : (x : Refusal) → Texts (refusal_words x)
refusal_texts refusals.NotYours = (key (codes "NotYours") refl, tt)
refusal_texts (refusals.Unknown n) = (key (codes "Unknown") refl, (number n, tt))
refusal_texts refusals.EmptyWant = (key (codes "EmptyWant") refl, tt)
refusal_texts (refusals.TooMany n) = (key (codes "TooMany") refl, (number n, tt))
refusal_texts (refusals.NotEnrolled c) = (key (codes "NotEnrolled") refl, (number c.0, tt))
refusal_texts (refusals.WaitingAlready t) = (key (codes "WaitingAlready") refl, (number t, tt))
refusal_texts refusals.NotWaiting = (key (codes "NotWaiting") refl, tt)
refusal_texts (refusals.LimitBelow n) = (key (codes "LimitBelow") refl, (number n, tt))
refusal_texts (refusals.InUse n) = (key (codes "InUse") refl, (number n, tt))
refusal_texts (refusals.Row f) = (key (codes "Row") refl, row_fault_texts f)

result_texts : (x : LineResult) → Texts (result_words x)
result_texts (results.Met c) = (key (codes "met") refl, (choice c, tt))
result_texts (results.Held c) = (key (codes "held") refl, (number c.0, tt))
result_texts (results.Blocked v t) = (key (codes "blocked") refl, (number v, (tree t, tt)))
result_texts results.Spent = (key (codes "spent") refl, tt)
result_texts (results.Waiting t) = (key (codes "waiting") refl, (number t, tt))
result_texts results.Skipped = (key (codes "skipped") refl, tt)

line_texts : (l : Line) → Texts (line_words l)
line_texts l = (all_joined Plain 46 (lit≤ tt, refl, refl) (decimal l.student.0 ∷ decimal l.rank ∷ []) (number l.student.0, (number l.rank, tt)), result_texts l.result)

reply_texts : (x : Reply) → Texts (reply_words x)
reply_texts replies.Amended = (key (codes "amended") refl, tt)
reply_texts (replies.Enrolled c) = (key (codes "enrolled") refl, (choice c, tt))
reply_texts (replies.Dropped c) = (key (codes "dropped") refl, (number c.0, tt))
reply_texts (replies.Swapped cs) = (key (codes "swapped") refl, each choice_words (λ c. (choice c, tt)) cs)
reply_texts (replies.Waiting t) = (key (codes "waiting") refl, (number t, tt))
reply_texts (replies.Placed t c) = (key (codes "placed") refl, (number t, (choice c, tt)))
reply_texts (replies.Batched ls) = (key (codes "batched") refl, each line_words line_texts ls)
reply_texts (replies.Blocked v t) = (key (codes "blocked") refl, (number v, (tree t, tt)))
reply_texts (replies.Spent n) = (key (codes "spent") refl, (number n, tt))
reply_texts (replies.Refused r) = (key (codes "refused") refl, refusal_texts r)

-- a reply's text stands in quotes as it is
pub as_it_is : (r : Reply) → quoted (reply_text r) ≡ 34 ∷ (reply_text r ++ 34 ∷ [])
as_it_is r = ap (λ (text : List ℕ). 34 ∷ (text ++ 34 ∷ [])) (stand (reply_text r) (all_joined Plain 32 (lit≤ tt, refl, refl) (reply_words r) (reply_texts r)))

-- ---- the text of an answer

-- a text between two quotes, behind others
spliced : (old a d b text : List ℕ) → ((old ++ (a ++ (d ++ (b ++ 34 ∷ [])))) ++ text) ++ 34 ∷ 125 ∷ [] ≡ old ++ (a ++ (d ++ (b ++ ((34 ∷ (text ++ 34 ∷ [])) ++ 125 ∷ []))))
spliced old a d b text =
    append_assoc (old ++ (a ++ (d ++ (b ++ 34 ∷ [])))) text (34 ∷ 125 ∷ [])
    ∙ append_assoc old (a ++ (d ++ (b ++ 34 ∷ []))) (text ++ 34 ∷ 125 ∷ [])
    ∙ ap (λ (l : List ℕ). old ++ l) (append_assoc a (d ++ (b ++ 34 ∷ [])) (text ++ 34 ∷ 125 ∷ [])
    ∙ ap (λ (l : List ℕ). a ++ l) (append_assoc d (b ++ 34 ∷ []) (text ++ 34 ∷ 125 ∷ [])
    ∙ ap (λ (l : List ℕ). d ++ l) (append_assoc b (34 ∷ []) (text ++ 34 ∷ 125 ∷ [])
    ∙ ap (λ (l : List ℕ). b ++ 34 ∷ l) (sym (append_assoc text (34 ∷ []) (125 ∷ []))))))

-- a reply's text was put behind a quote, and a quote and a brace behind it
pub stands_behind : {T E : Type 0} (result : Result T E) (now replied placed old a d b : List ℕ) (r : Reply) → OnOk result (now ≡ replied ++ 34 ∷ 125 ∷ [])
    → replied ≡ placed ++ reply_text r → placed ≡ old ++ (a ++ (d ++ (b ++ 34 ∷ []))) → OnOk result (now ≡ old ++ (a ++ (d ++ (b ++ (quoted (reply_text r) ++ 125 ∷ [])))))
stands_behind (Ok x) now replied placed old a d b r ends told placed-is =
    ends ∙ ap (λ (l : List ℕ). l ++ 34 ∷ 125 ∷ []) (told ∙ ap (λ (l : List ℕ). l ++ reply_text r) placed-is)
    ∙ spliced old a d b (reply_text r)
    ∙ ap (λ (l : List ℕ). old ++ (a ++ (d ++ (b ++ (l ++ 125 ∷ []))))) (sym (as_it_is r))
stands_behind (Err e) now replied placed old a d b r ends told placed-is = tt
