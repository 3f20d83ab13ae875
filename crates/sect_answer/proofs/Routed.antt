-- The path of a target matches its route.
use Rattle.std.proofs.Common.{◌≡◌, ℕ, ◌<◌, ◌^◌, List, [], ◌∷◌, ◌++◌, length, Option, Some, None, false, refl, ap, arith, ◌==◌, decimal, codes, sym, inl, inr, lit<, ◌≤◌, ◌∙◌}
use Rattle.std.specs.Prelude.{option_map}
use Rattle.std.proofs.lemmas.Bool.{ne_eqb, eq-eqb}
use Rattle.std.proofs.lemmas.Fmt.{decimal_nonempty}
use Rattle.matchit.specs.Seek.{seek}
use Rattle.sect_base.specs.declared.limit.Caller.{Caller}
use Rattle.sect_base.specs.declared.limit.Caller.TheVariants as callers
use Rattle.sect_command.specs.declared.view.Query.{Query}
use Rattle.sect_command.specs.declared.view.Query.TheVariants as queries
use Rattle.sect_words.proofs.Pieces.{Lacks}
use Rattle.sect_read.proofs.Bytes.{lacks_decimal}
use Rattle.sect_read.specs.Fits.{Fits64, FitsCaller}
use Rattle.sect_answer.specs.Targets.{FitsReport, FitsTarget, IsTarget, ask_path, report_path, target_path}
use Rattle.sect_answer.specs.Routes.{desk_routes, route_of}
use Rattle.sect_answer.specs.declared.target.Target.{Target}
use Rattle.sect_answer.specs.declared.target.Target.TheVariants as targets
use Rattle.sect_answer.specs.declared.target.Route.{Route}
use Rattle.sect_answer.specs.declared.target.Route.TheVariants as routes
use Rattle.sect_answer.proofs.Seek.{params, go_on, goes_through, ends_all, ends_only}

-- a number as what a parameter takes: a byte that is no parameter's token and the bytes behind it, without a slash
pub record IsTaken (word : List ℕ) : Type 0 where
  pub byte : ℕ
  pub bytes : List ℕ
  pub is : word ≡ byte ∷ bytes
  pub apart : (256 == byte) ≡ false
  pub lack : Lacks 47 (byte ∷ bytes)

taken_word : (word : List ℕ) → 0 < length word → Lacks 256 word → Lacks 47 word → IsTaken word
taken_word [] some token lack = absurd (omega (arith, some))
taken_word (b ∷ bs) some token lack = record {
  byte = b;
  bytes = bs;
  is = refl;
  apart = ne_eqb 256 b (λ e. absurd (cc (token.0, eq-eqb b 256 (sym e))));
  lack = lack;
}

pub taken_number : (n : ℕ) → n < 2 ^ 64 → IsTaken (decimal n)
taken_number n small = taken_word (decimal n) (decimal_nonempty n small) (lacks_decimal 256 n (inr (lit< tt)) small) (lacks_decimal 47 n (inl (lit< tt)) small)

module _ {K : Type 0} where
  pub own_only : (k : K) → seek 0 (([], k) ∷ []) [] ≡ Some k
  unfolding seek
  own_only k = refl

  through : (word rest w : List ℕ) (k : K) (o : Option K) → IsTaken word → seek 0 ((47 ∷ w, k) ∷ []) (47 ∷ rest) ≡ Some k → seek 0 (params w k o) (word ++ (47 ∷ rest)) ≡ Some k
  through word rest w k o t goes = rw t.is (goes_through t.byte t.bytes rest w k o t.apart t.lack goes)

  all : (word w : List ℕ) (k s : K) → IsTaken word → seek 0 (params w k (Some s)) word ≡ Some s
  all word w k s t = rw t.is (ends_all t.byte t.bytes w k s t.apart t.lack)

  only : (word : List ℕ) (k : K) → IsTaken word → seek 0 ((256 ∷ [], k) ∷ []) word ≡ Some k
  only word k t = rw t.is (ends_only t.byte t.bytes k t.apart t.lack)

  -- an id, a word and a number
  pub asks : (id number : List ℕ) (k : K) (o : Option K) → IsTaken id → IsTaken number
      → seek 0 (params (codes "asks/" ++ (256 ∷ [])) k o) (id ++ (codes "/asks/" ++ number)) ≡ Some k
  asks id number k o a b = through id (codes "asks/" ++ number) (codes "asks/" ++ (256 ∷ [])) k o a
      (go_on (codes "/asks/") ((codes "/asks/" ++ (256 ∷ []), k) ∷ []) number k (only number k b))

  -- an id and the name of a report
  pub roll : (id : List ℕ) (k : K) → IsTaken id → seek 0 (params (codes "roll") k None) (id ++ codes "/roll") ≡ Some k
  roll id k a = through id (codes "roll") (codes "roll") k None a (go_on (codes "/roll") ((codes "/roll", k) ∷ []) [] k (own_only k))

  pub openings : (id : List ℕ) (k : K) → IsTaken id → seek 0 (params (codes "open") k None) (id ++ codes "/open") ≡ Some k
  openings id k a = through id (codes "open") (codes "open") k None a (go_on (codes "/open") ((codes "/open", k) ∷ []) [] k (own_only k))

  -- an id that ends the path
  pub last : (id w : List ℕ) (k s : K) → IsTaken id → seek 0 (params w k (Some s)) id ≡ Some s
  last = all

-- the route by which a caller asks
abbrev pub ask_form : Caller → Route
ask_form (callers.Student s) = routes.StudentAsk
ask_form (callers.Registrar r) = routes.RegistrarAsk

-- the route of a report
abbrev pub report_form : Query → Route
report_form (queries.Schedule s) = routes.Schedule
report_form (queries.Roll s) = routes.Roll
report_form (queries.Open o) = routes.Open
report_form queries.Waiting = routes.Waiting
report_form queries.Unmet = routes.Unmet
report_form (queries.Rows t) = routes.Unmet

-- the route of a target
abbrev pub form_of : Target → Route
form_of (targets.Ask id) = ask_form id.caller
form_of (targets.Look q) = report_form q

small : (n : ℕ) → n ≤ 4294967295 → n < 2 ^ 64
small n fits = omega (arith, fits)

wide : (n : ℕ) → n ≤ 18446744073709551615 → n < 2 ^ 64
wide n fits = omega (arith, fits)

routed_ask : (c : Caller) (n : ℕ) → FitsCaller c → Fits64 n → route_of (ask_path c n) ≡ Some (ask_form c)
routed_ask (callers.Student s) n fits number = ap (option_map (λ r. r.value))
    (go_on (codes "/students/") desk_routes (decimal s.0 ++ (codes "/asks/" ++ decimal n)) _
    (asks (decimal s.0) (decimal n) _ (Some _) (taken_number s.0 (small s.0 fits)) (taken_number n (wide n number))))
routed_ask (callers.Registrar r) n fits number = ap (option_map (λ r. r.value))
    (go_on (codes "/registrars/") desk_routes (decimal r ++ (codes "/asks/" ++ decimal n)) _
    (asks (decimal r) (decimal n) _ None (taken_number r (small r fits)) (taken_number n (wide n number))))

routed_report : (q : Query) → FitsReport q → route_of (report_path q) ≡ Some (report_form q)
routed_report (queries.Schedule s) fits = ap (option_map (λ r. r.value))
    (go_on (codes "/students/") desk_routes (decimal s.0) _ (last (decimal s.0) _ _ _ (taken_number s.0 (small s.0 fits))))
routed_report (queries.Roll s) fits = ap (option_map (λ r. r.value))
    (go_on (codes "/sections/") desk_routes (decimal s.0 ++ codes "/roll") _ (roll (decimal s.0) _ (taken_number s.0 (small s.0 fits))))
routed_report (queries.Open o) fits = ap (option_map (λ r. r.value))
    (go_on (codes "/offerings/") desk_routes (decimal o.0 ++ codes "/open") _ (openings (decimal o.0) _ (taken_number o.0 (small o.0 fits))))
routed_report queries.Waiting fits = ap (option_map (λ r. r.value)) (go_on (codes "/waiting") desk_routes [] _ (own_only _))
routed_report queries.Unmet fits = ap (option_map (λ r. r.value)) (go_on (codes "/unmet") desk_routes [] _ (own_only _))
routed_report (queries.Rows t) fits = absurd fits

routed_path : (t : Target) → FitsTarget t → route_of (target_path t) ≡ Some (form_of t)
routed_path (targets.Ask id) fits = routed_ask id.caller id.number fits.0 fits.1
routed_path (targets.Look q) fits = routed_report q fits

-- the path of a target matches the target's route
pub routed : (path : List ℕ) (t : Target) → IsTarget path t → route_of path ≡ Some (form_of t)
routed path t target = ap route_of target.1 ∙ routed_path t target.0
