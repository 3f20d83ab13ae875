-- One turn of reading the options of a split.
use Rattle.std.proofs.Common.{◌≡◌, ℕ, suc, ◌+◌, ◌-◌, ◌<◌, true, false, List, [], ◌∷◌, ◌++◌, Option, None, Some, ap, sym, ◌∙◌, arith}
use Rattle.sect_base.specs.Tree.{Tree}
use Rattle.sect_command.specs.Reading.{mark_in, options_by, options_after, options_in}

one_turn : (read : List ℕ → Option (Tree × List ℕ)) (end turn : ℕ) (before : List Tree) (text : List ℕ) → turn < end
    → options_in read (end - turn) before text ≡ options_after (read text) before (options_in read (end - (turn + 1)))
one_turn read end turn before text h =
    let e : end - turn ≡ suc (end - (turn + 1)) = omega arith in
    ap (λ n. options_in read n before text) e

pub no_option : (read : List ℕ → Option (Tree × List ℕ)) (end turn : ℕ) (before : List Tree) (text : List ℕ) (whole : Option (List Tree × List ℕ)) → turn < end
    → options_in read (end - turn) before text ≡ whole
    → read text ≡ None
    → None ≡ whole
no_option read end turn before text whole h p r =
    sym (one_turn read end turn before text h ∙ ap (λ o. options_after o before (options_in read (end - (turn + 1)))) r) ∙ p

-- what is left to read behind a tree
behind_tree : (read : List ℕ → Option (Tree × List ℕ)) (end turn : ℕ) (before : List Tree) (text : List ℕ) (whole : Option (List Tree × List ℕ)) (t : Tree) (rest : List ℕ) → turn < end
    → options_in read (end - turn) before text ≡ whole
    → read text ≡ Some (t, rest)
    → options_by (before ++ t ∷ []) (mark_in rest) (options_in read (end - (turn + 1))) ≡ whole
behind_tree read end turn before text whole t rest h p r =
    sym (one_turn read end turn before text h ∙ ap (λ o. options_after o before (options_in read (end - (turn + 1)))) r) ∙ p

pub no_mark : (read : List ℕ → Option (Tree × List ℕ)) (end turn : ℕ) (before : List Tree) (text : List ℕ) (whole : Option (List Tree × List ℕ)) (t : Tree) (rest : List ℕ) → turn < end
    → options_in read (end - turn) before text ≡ whole
    → read text ≡ Some (t, rest)
    → mark_in rest ≡ None
    → None ≡ whole
no_mark read end turn before text whole t rest h p r m =
    sym (ap (λ o. options_by (before ++ t ∷ []) o (options_in read (end - (turn + 1)))) m) ∙ behind_tree read end turn before text whole t rest h p r

pub closed : (read : List ℕ → Option (Tree × List ℕ)) (end turn : ℕ) (before : List Tree) (text : List ℕ) (whole : Option (List Tree × List ℕ)) (t : Tree) (rest behind : List ℕ) (all : List Tree) → turn < end
    → options_in read (end - turn) before text ≡ whole
    → read text ≡ Some (t, rest)
    → mark_in rest ≡ Some (true, behind)
    → all ≡ before ++ t ∷ []
    → Some (all, behind) ≡ whole
closed read end turn before text whole t rest behind all h p r m e =
    ap (λ (ts : List Tree). Some (ts, behind)) e ∙ sym (ap (λ o. options_by (before ++ t ∷ []) o (options_in read (end - (turn + 1)))) m) ∙ behind_tree read end turn before text whole t rest h p r

pub next_option : (read : List ℕ → Option (Tree × List ℕ)) (end turn : ℕ) (before : List Tree) (text : List ℕ) (whole : Option (List Tree × List ℕ)) (t : Tree) (rest behind : List ℕ) (all : List Tree) → turn < end
    → options_in read (end - turn) before text ≡ whole
    → read text ≡ Some (t, rest)
    → mark_in rest ≡ Some (false, behind)
    → all ≡ before ++ t ∷ []
    → options_in read (end - (turn + 1)) all behind ≡ whole
next_option read end turn before text whole t rest behind all h p r m e =
    ap (λ (ts : List Tree). options_in read (end - (turn + 1)) ts behind) e ∙ sym (ap (λ o. options_by (before ++ t ∷ []) o (options_in read (end - (turn + 1)))) m) ∙ behind_tree read end turn before text whole t rest h p r
