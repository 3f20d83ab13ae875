-- The walk of a router: literal bytes are followed, and a parameter takes what stands before the next slash.
use Rattle.std.proofs.Common.{◌≡◌, ℕ, zero, suc, ◌-◌, ◌<◌, List, [], ◌∷◌, ◌++◌, length, Option, Some, None, true, false, cond, refl, ap, ◌∙◌, arith, ◌==◌, subst, lit<}
use Rattle.std.proofs.lemmas.Bool.{and_from, and_right, false_from_ne_true, lt-ltb}
use Rattle.std.proofs.lemmas.Bool.Decides.{Decides-eqb}
use Rattle.std.proofs.lemmas.Slice.Eq.{ends_is}
use Rattle.matchit.specs.Rows.{RowsOf}
use Rattle.matchit.specs.Seek.{own, step, or_else, seek, param_step, segment, has_slash, cuts, longest_from, longest_suffix, with_suffix}
use Rattle.matchit.proofs.LongestLemmas.{better-yes, better-no}
use Rattle.sect_words.proofs.Pieces.{Lacks}

one_less : (n : ℕ) → suc n - 1 ≡ n
one_less n = omega arith

module _ {K : Type 0} where
  -- the rows behind these bytes
  abbrev pub after : List ℕ → RowsOf K → RowsOf K
  after [] rs = rs
  after (b ∷ bs) rs = after bs (step b rs)

  param_none : (p : List ℕ) → (param_step {K = K} [] p).1 ≡ []
  unfolding param_step
  param_none p =
      elim (has_slash p) as (λ v. (cond {A = ℕ × RowsOf K} v (0, []) (length p, [])).1 ≡ []) [
        | true ↦ refl
        | false ↦ refl
      ]

  nothing : (k : ℕ) (p : List ℕ) → seek {K = K} k [] p ≡ None
  unfolding seek
  nothing k [] = refl
  nothing (suc k) (b ∷ p) = nothing k p
  nothing zero (b ∷ p) = simp (nothing 0 p, param_none (b ∷ p), nothing (((param_step {K = K} [] (b ∷ p)).0) - 1) p)

  first_wins : (o other : Option K) (k : K) → o ≡ Some k → or_else o other ≡ Some k
  first_wins o other k e = ap (λ x. or_else x other) e

  second_wins : (o p other : Option K) (k : K) → o ≡ None → p ≡ Some k → or_else o (or_else p other) ≡ Some k
  second_wins o p other k e f = ap (λ x. or_else x (or_else p other)) e ∙ ap (λ x. or_else x other) f

  -- literal bytes are followed
  pub go_on : (bytes : List ℕ) (rs : RowsOf K) (path : List ℕ) (k : K) → seek 0 (after bytes rs) path ≡ Some k → seek 0 rs (bytes ++ path) ≡ Some k
  unfolding seek
  go_on [] rs path k e = e
  go_on (b ∷ bs) rs path k e = first_wins (seek 0 (step b rs) (bs ++ path)) _ k (go_on bs (step b rs) path k e)

  skip : (taken rest : List ℕ) (rs : RowsOf K) → seek (length taken) rs (taken ++ rest) ≡ seek 0 rs rest
  unfolding seek
  skip [] rest rs = refl
  skip (b ∷ bs) rest rs = skip bs rest rs

  skip_all : (taken : List ℕ) (rs : RowsOf K) → seek (length taken) rs taken ≡ own rs
  unfolding seek
  skip_all [] rs = refl
  skip_all (b ∷ bs) rs = skip_all bs rs

  -- a path goes on behind a parameter
  param_wins : (rs R : RowsOf K) (d : ℕ) (path : List ℕ) (n : ℕ) (k : K) → step d rs ≡ [] → param_step (step 256 rs) (d ∷ path) ≡ (n, R) → seek (n - 1) R path ≡ Some k → seek 0 rs (d ∷ path) ≡ Some k
  unfolding seek
  param_wins rs R d path n k none took goes =
      second_wins (seek 0 (step d rs) path) _ _ k
      (ap (λ r. seek 0 r path) none ∙ nothing 0 path)
      (ap (λ (p : ℕ × RowsOf K). seek (p.0 - 1) p.1 path) took ∙ goes)

  param_cut : (R : RowsOf K) (path suffix : List ℕ) → 0 < length suffix → longest_suffix (segment path) R ≡ suffix → param_step R path ≡ (length (segment path) - length suffix, with_suffix suffix R)
  unfolding param_step
  param_cut R path suffix some long = rw (long, lt-ltb 0 (length suffix) some) refl

  param_all : (R : RowsOf K) (path : List ℕ) → longest_suffix (segment path) R ≡ [] → has_slash path ≡ false → param_step R path ≡ (length path, R)
  unfolding param_step
  param_all R path long none = rw (long, none) refl

  -- what may end where a parameter ends
  abbrev pub ends_of : Option K → RowsOf K
  ends_of None = []
  ends_of (Some k) = ([], k) ∷ []

  -- a parameter before a slash, and one that may end the path
  abbrev pub params : List ℕ → K → Option K → RowsOf K
  params w k None = (256 ∷ 47 ∷ w, k) ∷ []
  params w k (Some s) = (256 ∷ 47 ∷ w, k) ∷ (256 ∷ [], s) ∷ []

  behind_params : (w : List ℕ) (k : K) (o : Option K) → step 256 (params w k o) ≡ (47 ∷ w, k) ∷ ends_of o
  behind_params w k None = refl
  behind_params w k (Some s) = refl

  no_literal : (d : ℕ) (w : List ℕ) (k : K) (o : Option K) → (256 == d) ≡ false → step d (params w k o) ≡ []
  no_literal d w k None e = rw e refl
  no_literal d w k (Some s) e = rw e refl

  longest_mid : (seg w : List ℕ) (k : K) (o : Option K) → cuts seg (47 ∷ []) ≡ true → longest_suffix seg ((47 ∷ w, k) ∷ ends_of o) ≡ 47 ∷ []
  longest_mid seg w k None e = better-yes seg [] (47 ∷ []) e
  longest_mid seg w k (Some s) e = ap (λ b. longest_from seg b (([], s) ∷ [])) (better-yes seg [] (47 ∷ []) e)

  longest_end : (seg w : List ℕ) (k s : K) → cuts seg (47 ∷ []) ≡ false → longest_suffix seg ((47 ∷ w, k) ∷ ends_of (Some s)) ≡ []
  longest_end seg w k s e = ap (λ b. longest_from seg b (([], s) ∷ [])) (better-no seg [] (47 ∷ []) e)

  with_slash : (w : List ℕ) (k : K) (o : Option K) → with_suffix (47 ∷ []) ((47 ∷ w, k) ∷ ends_of o) ≡ (47 ∷ w, k) ∷ []
  with_slash w k None = refl
  with_slash w k (Some s) = refl

segment_cut : (word rest : List ℕ) → Lacks 47 word → segment (word ++ (47 ∷ rest)) ≡ word ++ (47 ∷ [])
segment_cut [] rest lack = refl
segment_cut (b ∷ bs) rest lack = rw lack.0 (ap (λ s. b ∷ s) (segment_cut bs rest lack.1))

segment_all : (word : List ℕ) → Lacks 47 word → segment word ≡ word
segment_all [] lack = refl
segment_all (b ∷ bs) lack = rw lack.0 (ap (λ s. b ∷ s) (segment_all bs lack.1))

no_slash : (word : List ℕ) → Lacks 47 word → has_slash word ≡ false
no_slash [] lack = refl
no_slash (b ∷ bs) lack = rw lack.0 (no_slash bs lack.1)

length_behind : (word : List ℕ) → length (word ++ (47 ∷ [])) ≡ suc (length word)
length_behind [] = refl
length_behind (b ∷ bs) = ap suc (length_behind bs)

lacks_end : (front : List ℕ) → Lacks 47 (front ++ (47 ∷ [])) → ⊥
lacks_end [] lack = absurd (cc (lack.0))
lacks_end (b ∷ bs) lack = lacks_end bs lack.1

cut_there : (d : ℕ) (ds : List ℕ) → cuts (d ∷ (ds ++ (47 ∷ []))) (47 ∷ []) ≡ true
cut_there d ds =
    and_from _ _ (lt-ltb 1 (length (d ∷ (ds ++ (47 ∷ [])))) (omega (arith, length_behind ds)))
    ((ends_is Decides-eqb (d ∷ (ds ++ (47 ∷ []))) (47 ∷ []) _ refl).1 (d ∷ ds) refl)

cut_not : (word : List ℕ) → Lacks 47 word → cuts word (47 ∷ []) ≡ false
cut_not word lack = and_right _ _ (false_from_ne_true _ (λ yes.
    let is = (ends_is Decides-eqb word (47 ∷ []) _ refl).0 yes in
    lacks_end _ (subst (Lacks 47) is lack)))

module _ {K : Type 0} where
  -- a parameter before a slash takes what stands before it
  pub goes_through : (d : ℕ) (ds rest w : List ℕ) (k : K) (o : Option K) → (256 == d) ≡ false → Lacks 47 (d ∷ ds) → seek 0 ((47 ∷ w, k) ∷ []) (47 ∷ rest) ≡ Some k
      → seek 0 (params w k o) (d ∷ (ds ++ (47 ∷ rest))) ≡ Some k
  goes_through d ds rest w k o apart lack goes =
      let seg = segment_cut (d ∷ ds) rest lack in
      let long = ap (λ s. longest_suffix s ((47 ∷ w, k) ∷ ends_of o)) seg ∙ longest_mid (d ∷ (ds ++ (47 ∷ []))) w k o (cut_there d ds) in
      let cut = param_cut ((47 ∷ w, k) ∷ ends_of o) (d ∷ (ds ++ (47 ∷ rest))) (47 ∷ []) (lit< tt) long in
      let len : length (segment (d ∷ (ds ++ (47 ∷ rest)))) - 1 ≡ suc (length ds) = omega (arith, ap length seg, length_behind ds) in
      param_wins (params w k o) ((47 ∷ w, k) ∷ []) d (ds ++ (47 ∷ rest)) (suc (length ds)) k (no_literal d w k o apart)
      (ap (λ r. param_step r (d ∷ (ds ++ (47 ∷ rest)))) (behind_params w k o) ∙ cut ∙ (λ i. (len i, with_slash w k o i)))
      (ap (λ n. seek n ((47 ∷ w, k) ∷ []) (ds ++ (47 ∷ rest))) (one_less (length ds)) ∙ skip ds (47 ∷ rest) _ ∙ goes)

  -- a parameter at the end takes all
  pub ends_all : (d : ℕ) (ds w : List ℕ) (k s : K) → (256 == d) ≡ false → Lacks 47 (d ∷ ds) → seek 0 (params w k (Some s)) (d ∷ ds) ≡ Some s
  ends_all d ds w k s apart lack =
      let long = longest_end (segment (d ∷ ds)) w k s (ap (λ g. cuts g (47 ∷ [])) (segment_all (d ∷ ds) lack) ∙ cut_not (d ∷ ds) lack) in
      param_wins (params w k (Some s)) ((47 ∷ w, k) ∷ ends_of (Some s)) d ds (suc (length ds)) s (no_literal d w k (Some s) apart)
      (param_all ((47 ∷ w, k) ∷ ends_of (Some s)) (d ∷ ds) long (no_slash (d ∷ ds) lack))
      (ap (λ n. seek n ((47 ∷ w, k) ∷ ends_of (Some s)) ds) (one_less (length ds)) ∙ skip_all ds _)

  only_step : (d : ℕ) (k : K) → (256 == d) ≡ false → step {K = K} d ((256 ∷ [], k) ∷ []) ≡ []
  only_step d k e = rw e refl

  -- the same where nothing else may follow
  pub ends_only : (d : ℕ) (ds : List ℕ) (k : K) → (256 == d) ≡ false → Lacks 47 (d ∷ ds) → seek 0 ((256 ∷ [], k) ∷ []) (d ∷ ds) ≡ Some k
  ends_only d ds k apart lack =
      param_wins ((256 ∷ [], k) ∷ []) (([], k) ∷ []) d ds (suc (length ds)) k (only_step d k apart)
      (param_all (([], k) ∷ []) (d ∷ ds) refl (no_slash (d ∷ ds) lack))
      (ap (λ n. seek n (([], k) ∷ []) ds) (one_less (length ds)) ∙ skip_all ds _)
