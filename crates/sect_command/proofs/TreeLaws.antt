-- What is read as a tree is spelled so, and what is spelled so is read.
use Rattle.std.proofs.Common.{◌≡◌, ◌==◌, ℕ, zero, suc, ◌≤◌, ◌<◌, ◌^◌, Bool, true, false, List, [], ◌∷◌, ◌++◌, Option, None, Some, refl, ap, sym, ◌∙◌, subst, arith, append_assoc, length, length-append, decimal}
use Rattle.std.proofs.Math.Logic.{◌⊎◌, inl, inr}
use Rattle.std.specs.List.{find}
use Rattle.std.proofs.lemmas.List.{append-nil}
use Rattle.std.specs.Bool.{if◌then◌else◌}
use Rattle.sect_base.specs.declared.rule.Rule.{Rule}
use Rattle.sect_base.specs.declared.rule.Rule.TheVariants.{InOffering, Credits, NotApplicable, Expired, UsedUp, MustUse, CourseFull, OfferingFull, OfferingReserved, ConfigFull, ConfigReserved, NotIncluded, Restricted, Cancelled, Parent, SectionFull, SectionReserved, Overlap, FreeTime, NotAsked}
use Rattle.sect_base.specs.Tree.{Tree, Trees, broken, split, none, more, trees_of, rule_number, all_rules}
use Rattle.sect_command.specs.Reading.{begins_with_digit, number_in, rule_of, leaf_with, leaf_after, leaf_in, mark_in, options_by, options_after, options_in, split_of, opened_in, tree_by, tree_in}
use Rattle.sect_command.specs.TreeText.{tree_text, others_text, HasText, HaveTexts}
use Rattle.sect_command.proofs.NumberLaws.{Reads, same_read, same_rest, chosen, same_number, other_number, found_number, again_number}

-- a tree is found at the front of the text
abbrev pub IsSpelled : ℕ → List ℕ → Tree → List ℕ → Type 0
IsSpelled deep text t rest = HasText deep t × (text ≡ tree_text t ++ rest)

passes_by : {X : Type 0} (p : X → Bool) (ys : List X) (y x : X) → (find p ys ≡ Some x → p x ≡ true) → ((p y ≡ true) × (Some y ≡ Some x)) ⊎ ((p y ≡ false) × (find p ys ≡ Some x)) → p x ≡ true
passes_by p ys y x later (inl q) = let same : y ≡ x = cc in ap p (sym same) ∙ q.0
passes_by p ys y x later (inr q) = later q.1

-- what find gives passes
found_passes : {X : Type 0} (p : X → Bool) (xs : List X) (x : X) → find p xs ≡ Some x → p x ≡ true
found_passes p [] x e = absurd (cc)
found_passes p (y ∷ ys) x e = passes_by p ys y x (λ q. found_passes p ys x q) (chosen (p y) (Some y) (find p ys) (Some x) e)

found_rule : (n : ℕ) (rule : Rule) → rule_of n ≡ Some rule → rule_number rule ≡ n
found_rule n rule e = same_number (rule_number rule) n (found_passes (λ r. rule_number r == n) all_rules rule e)

again_rule : (rule : Rule) → rule_of (rule_number rule) ≡ Some rule
again_rule InOffering = refl
again_rule Credits = refl
again_rule NotApplicable = refl
again_rule Expired = refl
again_rule UsedUp = refl
again_rule MustUse = refl
again_rule CourseFull = refl
again_rule OfferingFull = refl
again_rule OfferingReserved = refl
again_rule ConfigFull = refl
again_rule ConfigReserved = refl
again_rule NotIncluded = refl
again_rule Restricted = refl
again_rule Cancelled = refl
again_rule Parent = refl
again_rule SectionFull = refl
again_rule SectionReserved = refl
again_rule Overlap = refl
again_rule FreeTime = refl
again_rule NotAsked = refl

small_rule : (rule : Rule) → rule_number rule < 2 ^ 32
small_rule InOffering = omega arith
small_rule Credits = omega arith
small_rule NotApplicable = omega arith
small_rule Expired = omega arith
small_rule UsedUp = omega arith
small_rule MustUse = omega arith
small_rule CourseFull = omega arith
small_rule OfferingFull = omega arith
small_rule OfferingReserved = omega arith
small_rule ConfigFull = omega arith
small_rule ConfigReserved = omega arith
small_rule NotIncluded = omega arith
small_rule Restricted = omega arith
small_rule Cancelled = omega arith
small_rule Parent = omega arith
small_rule SectionFull = omega arith
small_rule SectionReserved = omega arith
small_rule Overlap = omega arith
small_rule FreeTime = omega arith
small_rule NotAsked = omega arith

-- behind the number of a rule and its colon
found_with : (deep : ℕ) (text bs : List ℕ) (k : ℕ) (r : Option Rule) (o : Option (ℕ × List ℕ)) (t : Tree) (rest : List ℕ)
    → text ≡ decimal k ++ 58 ∷ bs → rule_of k ≡ r → number_in bs ≡ o → leaf_with r o ≡ Some (t, rest) → IsSpelled deep text t rest
found_with deep text bs k None o t rest front er eo e = absurd (cc)
found_with deep text bs k (Some rule) None t rest front er eo e = absurd (cc)
found_with deep text bs k (Some rule) (Some (n, behind)) t rest front er eo e =
    let leaf : broken rule n ≡ t = same_read (broken rule n) behind t rest e in
    let same : behind ≡ rest = same_rest (broken rule n) behind t rest e in
    let number = found_number bs n behind eo in
    let named : k ≡ rule_number rule = sym (found_rule k rule er) in
    let shape : text ≡ tree_text (broken rule n) ++ behind =
    front ∙ (λ i. decimal (named i) ++ 58 ∷ number.0 i) ∙ sym (append_assoc (decimal (rule_number rule)) (58 ∷ decimal n) behind) in
    (subst (HasText deep) leaf number.1, shape ∙ (λ i. tree_text (leaf i) ++ same i))

found_colon : (deep : ℕ) (text : List ℕ) (k b : ℕ) (bs : List ℕ) (t : Tree) (rest : List ℕ) → number_in text ≡ Some (k, b ∷ bs)
    → (((b == 58) ≡ true) × (leaf_with (rule_of k) (number_in bs) ≡ Some (t, rest))) ⊎ (((b == 58) ≡ false) × Reads None t rest) → IsSpelled deep text t rest
found_colon deep text k b bs t rest eo (inl p) =
    let front : text ≡ decimal k ++ 58 ∷ bs = (found_number text k (b ∷ bs) eo).0 ∙ ap (λ (c : ℕ). decimal k ++ c ∷ bs) (same_number b 58 p.0) in
    found_with deep text bs k (rule_of k) (number_in bs) t rest front refl refl p.1
found_colon deep text k b bs t rest eo (inr p) = absurd (cc)

found_after : (deep : ℕ) (text : List ℕ) (o : Option (ℕ × List ℕ)) (t : Tree) (rest : List ℕ) → number_in text ≡ o → leaf_after o ≡ Some (t, rest) → IsSpelled deep text t rest
found_after deep text None t rest eo e = absurd (cc)
found_after deep text (Some (k, [])) t rest eo e = absurd (cc)
found_after deep text (Some (k, b ∷ bs)) t rest eo e =
    found_colon deep text k b bs t rest eo (chosen (b == 58) (leaf_with (rule_of k) (number_in bs)) None (Some (t, rest)) e)

found_leaf : (deep : ℕ) (text : List ℕ) (t : Tree) (rest : List ℕ) → leaf_in text ≡ Some (t, rest) → IsSpelled deep text t rest
found_leaf deep text t rest e = found_after deep text (number_in text) t rest refl e

-- the byte behind a tree in brackets
abbrev mark_byte : Bool → ℕ
mark_byte true = 93
mark_byte false = 44

found_comma : (b : ℕ) (bs : List ℕ) (last : Bool) (rest : List ℕ) → (((b == 44) ≡ true) × Reads (Some (false, bs)) last rest) ⊎ (((b == 44) ≡ false) × Reads None last rest) → b ∷ bs ≡ mark_byte last ∷ rest
found_comma b bs last rest (inl p) =
    let is : false ≡ last = same_read false bs last rest p.1 in
    let same : bs ≡ rest = same_rest false bs last rest p.1 in
    let byte = same_number b 44 p.0 in
    (λ i. byte i ∷ bs) ∙ (λ i. mark_byte (is i) ∷ same i)
found_comma b bs last rest (inr p) = absurd (cc)

found_close : (b : ℕ) (bs : List ℕ) (last : Bool) (rest : List ℕ) → (((b == 93) ≡ true) × Reads (Some (true, bs)) last rest) ⊎ (((b == 93) ≡ false) × Reads (if b == 44 then Some (false, bs) else None) last rest) → b ∷ bs ≡ mark_byte last ∷ rest
found_close b bs last rest (inl p) =
    let is : true ≡ last = same_read true bs last rest p.1 in
    let same : bs ≡ rest = same_rest true bs last rest p.1 in
    let byte = same_number b 93 p.0 in
    (λ i. byte i ∷ bs) ∙ (λ i. mark_byte (is i) ∷ same i)
found_close b bs last rest (inr p) = found_comma b bs last rest (chosen (b == 44) (Some (false, bs)) None (Some (last, rest)) p.1)

found_mark : (text : List ℕ) (last : Bool) (rest : List ℕ) → mark_in text ≡ Some (last, rest) → text ≡ mark_byte last ∷ rest
found_mark [] last rest e = absurd (cc)
found_mark (b ∷ bs) last rest e = found_close b bs last rest (chosen (b == 93) (Some (true, bs)) (if b == 44 then Some (false, bs) else None) (Some (last, rest)) e)

found_bracket : (b : ℕ) (bs inside : List ℕ) → (((b == 91) ≡ true) × (Some bs ≡ Some inside)) ⊎ (((b == 91) ≡ false) × (None ≡ Some inside)) → b ∷ bs ≡ 91 ∷ inside
found_bracket b bs inside (inl p) =
    let same : bs ≡ inside = cc in
    let byte = same_number b 91 p.0 in
    λ i. byte i ∷ same i
found_bracket b bs inside (inr p) = absurd (cc)

found_opened : (text inside : List ℕ) → opened_in text ≡ Some inside → text ≡ 91 ∷ inside
found_opened [] inside e = absurd (cc)
found_opened (b ∷ bs) inside e = found_bracket b bs inside (chosen (b == 91) (Some bs) None (Some inside) e)

-- the trees found behind those before, at least one
abbrev AreSpelled : ℕ → List ℕ → List Tree → List Tree → List ℕ → Type 0
AreSpelled deep text before ts rest = (t : Tree) × (us : List Tree) × (ts ≡ before ++ t ∷ us) × HasText deep t × HaveTexts deep (trees_of us) × (text ≡ tree_text t ++ (others_text (trees_of us) ++ rest))

found_behind : (deep : ℕ) (next : List Tree → List ℕ → Option (List Tree × List ℕ)) (before : List Tree) (text : List ℕ) (ts : List Tree) (rest : List ℕ)
    → ((b : List Tree) (x : List ℕ) → next b x ≡ Some (ts, rest) → AreSpelled deep x b ts rest)
    → (t : Tree) (r : List ℕ) → IsSpelled deep text t r
    → (m : Option (Bool × List ℕ)) → mark_in r ≡ m → options_by (before ++ t ∷ []) m next ≡ Some (ts, rest) → AreSpelled deep text before ts rest
found_behind deep next before text ts rest later t r spelled None em e = absurd (cc)
found_behind deep next before text ts rest later t r spelled (Some (true, x)) em e =
    let all : ts ≡ before ++ t ∷ [] = sym (same_read (before ++ t ∷ []) x ts rest e) in
    let same : x ≡ rest = same_rest (before ++ t ∷ []) x ts rest e in
    (t, [], all, spelled.0, tt, spelled.1 ∙ ap (λ (y : List ℕ). tree_text t ++ y) (found_mark r true x em ∙ ap (λ (y : List ℕ). 93 ∷ y) same))
found_behind deep next before text ts rest later t r spelled (Some (false, x)) em e =
    let w : AreSpelled deep x (before ++ t ∷ []) ts rest = later (before ++ t ∷ []) x e in
    let inner : x ≡ (tree_text w.0 ++ others_text (trees_of w.1)) ++ rest = w.5 ∙ sym (append_assoc (tree_text w.0) (others_text (trees_of w.1)) rest) in (
      t,
      w.0 ∷ w.1,
      w.2 ∙ append_assoc before (t ∷ []) (w.0 ∷ w.1),
      spelled.0,
      (w.3, w.4),
      spelled.1 ∙ ap (λ (y : List ℕ). tree_text t ++ y) (found_mark r false x em ∙ ap (λ (y : List ℕ). 44 ∷ y) inner),
    )

found_option : (deep : ℕ) (next : List Tree → List ℕ → Option (List Tree × List ℕ)) (before : List Tree) (text : List ℕ) (ts : List Tree) (rest : List ℕ)
    → ((b : List Tree) (x : List ℕ) → next b x ≡ Some (ts, rest) → AreSpelled deep x b ts rest)
    → (o : Option (Tree × List ℕ)) → ((t : Tree) (r : List ℕ) → o ≡ Some (t, r) → IsSpelled deep text t r)
    → options_after o before next ≡ Some (ts, rest) → AreSpelled deep text before ts rest
found_option deep next before text ts rest later None tree e = absurd (cc)
found_option deep next before text ts rest later (Some (t, r)) tree e = found_behind deep next before text ts rest later t r (tree t r refl) (mark_in r) refl e

found_options : (deep : ℕ) → ((text : List ℕ) (t : Tree) (rest : List ℕ) → tree_in deep text ≡ Some (t, rest) → IsSpelled deep text t rest)
    → (n : ℕ) (before : List Tree) (text : List ℕ) (ts : List Tree) (rest : List ℕ) → options_in (tree_in deep) n before text ≡ Some (ts, rest) → AreSpelled deep text before ts rest
found_options deep tree zero before text ts rest e = absurd (cc)
found_options deep tree (suc n) before text ts rest e =
    found_option deep (options_in (tree_in deep) n) before text ts rest (λ b x q. found_options deep tree n b x ts rest q) (tree_in deep text) (λ t r q. tree text t r q) e

found_split : (deep : ℕ) (text inside : List ℕ) (t : Tree) (rest : List ℕ) → opened_in text ≡ Some inside
    → (p : Option (List Tree × List ℕ)) → ((ts : List Tree) (r : List ℕ) → p ≡ Some (ts, r) → AreSpelled deep inside [] ts r)
    → split_of p ≡ Some (t, rest) → IsSpelled (suc deep) text t rest
found_split deep text inside t rest eo None options e = absurd (cc)
found_split deep text inside t rest eo (Some (ts, r)) options e =
    let w : AreSpelled deep inside [] ts r = options ts r refl in
    let whole : split (trees_of ts) ≡ t = same_read (split (trees_of ts)) r t rest e in
    let same : r ≡ rest = same_rest (split (trees_of ts)) r t rest e in
    let tree : split (trees_of (w.0 ∷ w.1)) ≡ t = ap (λ (xs : List Tree). split (trees_of xs)) (sym w.2) ∙ whole in
    let shape : text ≡ tree_text (split (trees_of (w.0 ∷ w.1))) ++ r =
    found_opened text inside eo ∙ ap (λ (y : List ℕ). 91 ∷ y) (w.5 ∙ sym (append_assoc (tree_text w.0) (others_text (trees_of w.1)) r)) in
    let have : HasText (suc deep) (split (trees_of (w.0 ∷ w.1))) = (w.3, w.4) in
    (subst (HasText (suc deep)) tree have, shape ∙ (λ i. tree_text (tree i) ++ same i))

found_opening : (deep : ℕ) (text : List ℕ) (t : Tree) (rest : List ℕ) → ((text : List ℕ) (t : Tree) (rest : List ℕ) → tree_in deep text ≡ Some (t, rest) → IsSpelled deep text t rest)
    → (o : Option (List ℕ)) → opened_in text ≡ o → tree_by (tree_in deep) text o ≡ Some (t, rest) → IsSpelled (suc deep) text t rest
found_opening deep text t rest tree None eo e = found_leaf (suc deep) text t rest e
found_opening deep text t rest tree (Some inside) eo e =
    found_split deep text inside t rest eo (options_in (tree_in deep) (length inside) [] inside) (λ ts r q. found_options deep tree (length inside) [] inside ts r q) e

-- what is read as a tree is spelled so
pub found_tree : (deep : ℕ) (text : List ℕ) (t : Tree) (rest : List ℕ) → tree_in deep text ≡ Some (t, rest) → IsSpelled deep text t rest
found_tree zero text t rest e = found_leaf zero text t rest e
found_tree (suc deep) text t rest e = found_opening deep text t rest (λ x u r q. found_tree deep x u r q) (opened_in text) refl e

again_leaf : (rule : Rule) (n : ℕ) (rest : List ℕ) → n < 2 ^ 32 → begins_with_digit rest ≡ false → leaf_in (tree_text (broken rule n) ++ rest) ≡ Some (broken rule n, rest)
again_leaf rule n rest fits e =
    let behind = again_number n rest fits e in
    let front : number_in (tree_text (broken rule n) ++ rest) ≡ Some (rule_number rule, 58 ∷ (decimal n ++ rest)) =
    ap number_in (append_assoc (decimal (rule_number rule)) (58 ∷ decimal n) rest) ∙ again_number (rule_number rule) (58 ∷ (decimal n ++ rest)) (small_rule rule) refl in
    ap leaf_after front ∙ (λ i. leaf_with (again_rule rule i) (behind i))

not_bracket : (b : ℕ) (bs : List ℕ) (x : ℕ × List ℕ) (v : Bool) → (b == 91) ≡ v → number_in (b ∷ bs) ≡ Some x → opened_in (b ∷ bs) ≡ None
not_bracket b bs x true t e =
    let byte = same_number b 91 t in
    let none : number_in (91 ∷ bs) ≡ Some x = subst (λ (c : ℕ). number_in (c ∷ bs) ≡ Some x) byte e in
    absurd (cc)
not_bracket b bs x false t e = rw t refl

-- a number begins with no bracket
not_opened : (text : List ℕ) (x : ℕ × List ℕ) → number_in text ≡ Some x → opened_in text ≡ None
not_opened [] x e = refl
not_opened (b ∷ bs) x e = not_bracket b bs x (b == 91) refl e

-- the trees as a list
abbrev list_of : Trees → List Tree
list_of none = []
list_of (more t ts) = t ∷ list_of ts

trees_of-list_of : (ts : Trees) → trees_of (list_of ts) ≡ ts
trees_of-list_of none = refl
trees_of-list_of (more t ts) = ap (more t) (trees_of-list_of ts)

no_digit : (ts : Trees) (rest : List ℕ) → begins_with_digit (others_text ts ++ rest) ≡ false
no_digit none rest = refl
no_digit (more t ts) rest = refl

again_options : (deep : ℕ) → ((t : Tree) (rest : List ℕ) → HasText deep t → begins_with_digit rest ≡ false → tree_in deep (tree_text t ++ rest) ≡ Some (t, rest))
    → (ts : Trees) (t : Tree) (n : ℕ) (before : List Tree) (rest : List ℕ) → HasText deep t → HaveTexts deep ts → length (others_text ts) ≤ n
    → options_in (tree_in deep) n before ((tree_text t ++ others_text ts) ++ rest) ≡ Some (before ++ t ∷ list_of ts, rest)
again_options deep tree none t zero before rest h hs fits = absurd (omega arith)
again_options deep tree none t (suc m) before rest h hs fits =
    let one : tree_in deep ((tree_text t ++ others_text none) ++ rest) ≡ Some (t, others_text none ++ rest) =
    ap (tree_in deep) (append_assoc (tree_text t) (others_text none) rest) ∙ tree t (others_text none ++ rest) h (no_digit none rest) in
    ap (λ (o : Option (Tree × List ℕ)). options_after o before (options_in (tree_in deep) m)) one
again_options deep tree (more u us) t zero before rest h hs fits = absurd (omega arith)
again_options deep tree (more u us) t (suc m) before rest h hs fits =
    let one : tree_in deep ((tree_text t ++ others_text (more u us)) ++ rest) ≡ Some (t, others_text (more u us) ++ rest) =
    ap (tree_in deep) (append_assoc (tree_text t) (others_text (more u us)) rest) ∙ tree t (others_text (more u us) ++ rest) h (no_digit (more u us) rest) in
    let shorter : length (others_text us) ≤ m = omega (arith, length-append (tree_text u) (others_text us)) in
    ap (λ (o : Option (Tree × List ℕ)). options_after o before (options_in (tree_in deep) m)) one
    ∙ again_options deep tree us u m (before ++ t ∷ []) rest hs.0 hs.1 shorter
    ∙ ap (λ (xs : List Tree). Some (xs, rest)) (append_assoc before (t ∷ []) (u ∷ list_of us))

-- what is spelled as a tree is read so
pub again_tree : (deep : ℕ) (t : Tree) (rest : List ℕ) → HasText deep t → begins_with_digit rest ≡ false → tree_in deep (tree_text t ++ rest) ≡ Some (t, rest)
again_tree zero (broken rule n) rest h e = again_leaf rule n rest h e
again_tree zero (split ts) rest h e = absurd h
again_tree (suc deep) (broken rule n) rest h e =
    let front : number_in (tree_text (broken rule n) ++ rest) ≡ Some (rule_number rule, 58 ∷ (decimal n ++ rest)) =
    ap number_in (append_assoc (decimal (rule_number rule)) (58 ∷ decimal n) rest) ∙ again_number (rule_number rule) (58 ∷ (decimal n ++ rest)) (small_rule rule) refl in
    ap (tree_by (tree_in deep) (tree_text (broken rule n) ++ rest)) (not_opened (tree_text (broken rule n) ++ rest) (rule_number rule, 58 ∷ (decimal n ++ rest)) front) ∙ again_leaf rule n rest h e
again_tree (suc deep) (split none) rest h e = absurd h
again_tree (suc deep) (split (more t ts)) rest h e =
    let fits : length (others_text ts) ≤ length ((tree_text t ++ others_text ts) ++ rest) = omega (arith, length-append (tree_text t ++ others_text ts) rest, length-append (tree_text t) (others_text ts)) in
    ap split_of (again_options deep (λ u r p q. again_tree deep u r p q) ts t (length ((tree_text t ++ others_text ts) ++ rest)) [] rest h.0 h.1 fits)
    ∙ ap (λ (us : Trees). Some (split (more t us), rest)) (trees_of-list_of ts)

abbrev Finds : List ℕ → ℕ → Option Tree → Type 0
Finds text deep found = (t : Tree) → HasText deep t → text ≡ tree_text t → found ≡ Some t

-- the whole of a text is read
read_whole : (deep : ℕ) (text : List ℕ) (t : Tree) → HasText deep t → text ≡ tree_text t → tree_in deep text ≡ Some (t, [])
read_whole deep text t h e = ap (tree_in deep) (e ∙ sym (append-nil (tree_text t))) ∙ again_tree deep t [] h refl

pub none_found : (deep : ℕ) (text : List ℕ) → tree_in deep text ≡ None → Finds text deep None
none_found deep text read t h e = let whole = read_whole deep text t h e in absurd (cc)

pub one_found : (deep : ℕ) (text : List ℕ) (b : Tree) (rest : List ℕ) → tree_in deep text ≡ Some (b, rest) → Finds text deep (Some b)
one_found deep text b rest read t h e = ap Some (same_read b rest t [] (sym read ∙ read_whole deep text t h e))

pub more_found : (deep : ℕ) (text : List ℕ) (b : Tree) (rest : List ℕ) → tree_in deep text ≡ Some (b, rest) → false ≡ (length rest == 0) → Finds text deep None
more_found deep text b rest read some t h e =
    let empty : rest ≡ [] = same_rest b rest t [] (sym read ∙ read_whole deep text t h e) in
    let zero_length : length rest ≡ 0 = ap length empty in
    absurd (other_number (length rest) 0 (sym some) zero_length)

pub found_whole : (deep : ℕ) (text : List ℕ) (b : Tree) (rest : List ℕ) → tree_in deep text ≡ Some (b, rest) → true ≡ (length rest == 0) → HasText deep b × (text ≡ tree_text b)
found_whole deep text b [] read empty = let found = found_tree deep text b [] read in (found.0, found.1 ∙ append-nil (tree_text b))
found_whole deep text b (x ∷ xs) read empty = absurd (omega (arith, same_number (length (x ∷ xs)) 0 (sym empty)))
