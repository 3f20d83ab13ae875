-- What stands at the front of a text, with what follows it: a number, a leaf, a tree.
use Rattle.std.specs.Prelude.{ℕ, zero, suc, ◌+◌, ◌-◌, ◌*◌, ◌^◌, Bool, true, false, if◌then◌else◌, nat_lt, List, [], ◌∷◌, ◌++◌, length, Option, None, Some, find, ◌==◌}
use Rattle.std.specs.Char.{is_ascii_digit}
use Rattle.sect_base.specs.declared.rule.Rule.{Rule}
use Rattle.sect_base.specs.Tree.{Tree, broken, split, trees_of, rule_number, all_rules}

-- behind the digits of a number there may be more digits, while the number has 32 bits
abbrev pub digits_after : ℕ → List ℕ → Option (ℕ × List ℕ)
digits_after number [] = Some (number, [])
digits_after number (b ∷ bs) =
    if is_ascii_digit b
    then (if nat_lt (number * 10 + (b - 48)) (2 ^ 32) then digits_after (number * 10 + (b - 48)) bs else None)
    else Some (number, b ∷ bs)

abbrev pub begins_with_digit : List ℕ → Bool
begins_with_digit [] = false
begins_with_digit (b ∷ bs) = is_ascii_digit b

-- a number of 32 bits in decimal digits, the first of which is 0 in 0 alone
abbrev pub number_in : List ℕ → Option (ℕ × List ℕ)
number_in [] = None
number_in (b ∷ bs) =
    if b == 48
    then (if begins_with_digit bs then None else Some (0, bs))
    else (if is_ascii_digit b then digits_after (b - 48) bs else None)

-- the rule of a number
abbrev pub rule_of : ℕ → Option Rule
rule_of n = find (λ rule. rule_number rule == n) all_rules

abbrev pub leaf_with : Option Rule → Option (ℕ × List ℕ) → Option (Tree × List ℕ)
leaf_with None _ = None
leaf_with (Some rule) None = None
leaf_with (Some rule) (Some (number, rest)) = Some (broken rule number, rest)

-- behind the number of a rule there stand a colon and another number
abbrev pub leaf_after : Option (ℕ × List ℕ) → Option (Tree × List ℕ)
leaf_after None = None
leaf_after (Some (rule, [])) = None
leaf_after (Some (rule, b ∷ bs)) = if b == 58 then leaf_with (rule_of rule) (number_in bs) else None

abbrev pub leaf_in : List ℕ → Option (Tree × List ℕ)
leaf_in text = leaf_after (number_in text)

-- behind a tree in brackets there stands the bracket that closes (true), or a comma (false)
abbrev pub mark_in : List ℕ → Option (Bool × List ℕ)
mark_in [] = None
mark_in (b ∷ bs) = if b == 93 then Some (true, bs) else (if b == 44 then Some (false, bs) else None)

abbrev pub options_by : List Tree → Option (Bool × List ℕ) → (List Tree → List ℕ → Option (List Tree × List ℕ)) → Option (List Tree × List ℕ)
options_by ts None next = None
options_by ts (Some (true, rest)) next = Some (ts, rest)
options_by ts (Some (false, rest)) next = next ts rest

abbrev pub options_after : Option (Tree × List ℕ) → List Tree → (List Tree → List ℕ → Option (List Tree × List ℕ)) → Option (List Tree × List ℕ)
options_after None before next = None
options_after (Some (t, rest)) before next = options_by (before ++ t ∷ []) (mark_in rest) next

-- the trees in brackets, at most so many behind those before, where read gives the tree at the front
abbrev pub options_in : (List ℕ → Option (Tree × List ℕ)) → ℕ → List Tree → List ℕ → Option (List Tree × List ℕ)
options_in read zero before text = None
options_in read (suc n) before text = options_after (read text) before (options_in read n)

abbrev pub split_of : Option (List Tree × List ℕ) → Option (Tree × List ℕ)
split_of None = None
split_of (Some (ts, rest)) = Some (split (trees_of ts), rest)

-- what stands behind a bracket that opens
abbrev pub opened_in : List ℕ → Option (List ℕ)
opened_in [] = None
opened_in (b ∷ bs) = if b == 91 then Some bs else None

-- where a bracket opens a split, else a leaf
abbrev pub tree_by : (List ℕ → Option (Tree × List ℕ)) → List ℕ → Option (List ℕ) → Option (Tree × List ℕ)
tree_by read text None = leaf_in text
tree_by read text (Some inside) = split_of (options_in read (length inside) [] inside)

-- a tree with at most so many brackets round a leaf
abbrev pub tree_in : ℕ → List ℕ → Option (Tree × List ℕ)
tree_in zero text = leaf_in text
tree_in (suc deep) text = tree_by (tree_in deep) text (opened_in text)
