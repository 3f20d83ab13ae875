-- What is read of a path is the target whose path it is, and it is read of that path.
use Rattle.std.proofs.Common.{◌≡◌, ℕ, List, [], ◌∷◌, ◌++◌, Option, Some, None, refl, ap, sym, ◌∙◌, subst, append-nil, arith, decimal, codes, inl, lit<, IfSome}
use Rattle.std.specs.Prelude.{option_map}
use Rattle.std.specs.Str.{bytes_eq}
use Rattle.sect_base.specs.declared.limit.Caller.{Caller}
use Rattle.sect_base.specs.declared.limit.Caller.TheVariants as callers
use Rattle.sect_command.specs.declared.view.Query.{Query}
use Rattle.sect_command.specs.declared.view.Query.TheVariants as queries
use Rattle.sect_words.specs.Parts.{joined, pieces}
use Rattle.sect_words.specs.Reading.{with_rest, word_at}
use Rattle.sect_words.specs.ReadingWords.{u32_of, student_caller, student_id, section_id, offering_id}
use Rattle.sect_words.proofs.Exact.{bind_found, if_found, same_word}
use Rattle.sect_words.proofs.Pieces.{Lacks, joined_pieces, pieces_joined}
use Rattle.sect_read.specs.Fits.{Fits32, Fits64, FitsCaller}
use Rattle.sect_read.proofs.Bytes.{lacks_decimal}
use Rattle.sect_read.proofs.Steps.{key_step, word_found, word_step, end_step, word_then, word_back}
use Rattle.sect_read.proofs.WordLaws.{exact_u32, exact_u64}
use Rattle.sect_read.proofs.PartLaws.{no_slash}
use Rattle.sect_answer.specs.Targets.{FitsReport, FitsTarget, IsTarget, ask_path, report_path, target_path}
use Rattle.sect_answer.specs.Routes.{route_of}
use Rattle.sect_answer.specs.Reading.{ask_at, asked, ended, id_at, looked, only_path, report_at, target_in}
use Rattle.sect_answer.specs.declared.target.Target.{Target}
use Rattle.sect_answer.specs.declared.target.Target.TheVariants as targets
use Rattle.sect_answer.specs.declared.target.Route.{Route}
use Rattle.sect_answer.specs.declared.target.Route.TheVariants as routes
use Rattle.sect_answer.proofs.Routed.{ask_form, report_form, form_of, routed}

-- the parts of a path whose last part ends it
abbrev Parts : Type 0
Parts = List (List ℕ)

ended_found : {X : Type 0} (o : Option (X × Parts)) (x : X) → ended o ≡ Some x → o ≡ Some (x, [])
ended_found None x e = absurd (cc)
ended_found (Some (y, [])) x e = let same : y ≡ x = cc in ap (λ z. Some (z, [])) same
ended_found (Some (y, w ∷ ws)) x e = absurd (cc)

map_found : {X Y : Type 0} (f : X → Y) (o : Option X) (y : Y) {G : Type 0} → option_map f o ≡ Some y → ((x : X) → o ≡ Some x → f x ≡ y → G) → G
map_found f None y e k = absurd (cc)
map_found f (Some x) y e k = let same : f x ≡ y = cc in k x refl same

id_found : (name : List ℕ) (ws : Parts) (id : ℕ) (rest : Parts) → id_at name ws ≡ Some (id, rest) → Fits32 id × (ws ≡ [] ∷ name ∷ decimal id ∷ rest)
unfolding id_at
id_found name ws id rest e = key_step [] ws _ _ e (λ r1 e1 p. key_step name r1 _ _ p (λ r2 e2 p.
    let q = word_found exact_u32 r2 id rest p in
    (q.0, word_then [] ws r1 _ e1 (word_then name r1 r2 _ e2 q.1))))

ask_found : (name : List ℕ) (ws : Parts) (x : ℕ × ℕ) (rest : Parts) → ask_at name ws ≡ Some (x, rest)
    → Fits32 x.0 × Fits64 x.1 × (ws ≡ [] ∷ name ∷ decimal x.0 ∷ codes "asks" ∷ decimal x.1 ∷ rest)
unfolding ask_at
ask_found name ws x rest e = bind_found (id_at name ws) _ _ e (λ p is e.
    let q = id_found name ws p.0 p.1 is in
    key_step (codes "asks") p.1 _ _ e (λ r2 e2 e. word_step exact_u64 r2 _ _ e (λ n r3 f3 e3 e.
    end_step (p.0, n) x r3 rest e (λ (y : ℕ × ℕ) r. Fits32 y.0 × Fits64 y.1 × (ws ≡ [] ∷ name ∷ decimal y.0 ∷ codes "asks" ∷ decimal y.1 ∷ r))
    (q.0, f3, q.1 ∙ ap (λ (vs : Parts). [] ∷ name ∷ decimal p.0 ∷ vs) (word_then _ p.1 r2 _ e2 e3)))))

report_found : (name report : List ℕ) (ws : Parts) (id : ℕ) (rest : Parts) → report_at name report ws ≡ Some (id, rest) → Fits32 id × (ws ≡ [] ∷ name ∷ decimal id ∷ report ∷ rest)
unfolding report_at
report_found name report ws id rest e = bind_found (id_at name ws) _ _ e (λ p is e.
    let q = id_found name ws p.0 p.1 is in
    key_step report p.1 _ _ e (λ r2 e2 e.
    end_step p.0 id r2 rest e (λ y r. Fits32 y × (ws ≡ [] ∷ name ∷ decimal y ∷ report ∷ r))
    (q.0, q.1 ∙ ap (λ (vs : Parts). [] ∷ name ∷ decimal p.0 ∷ vs) e2)))

-- the path that the parts make up
whole_path : (path : List ℕ) (ws : Parts) → pieces 47 path ≡ ws → path ≡ joined 47 ws
whole_path path ws e = sym (joined_pieces 47 path) ∙ ap (joined 47) e

-- the paths as parts between slashes
student_ask_path : (s n : ℕ) → joined 47 ([] ∷ codes "students" ∷ decimal s ∷ codes "asks" ∷ decimal n ∷ []) ≡ codes "/students/" ++ (decimal s ++ (codes "/asks/" ++ decimal n))
student_ask_path s n = ap (λ (ds : List ℕ). codes "/students/" ++ (decimal s ++ (codes "/asks/" ++ ds))) (append-nil (decimal n))

registrar_ask_path : (r n : ℕ) → joined 47 ([] ∷ codes "registrars" ∷ decimal r ∷ codes "asks" ∷ decimal n ∷ []) ≡ codes "/registrars/" ++ (decimal r ++ (codes "/asks/" ++ decimal n))
registrar_ask_path r n = ap (λ (ds : List ℕ). codes "/registrars/" ++ (decimal r ++ (codes "/asks/" ++ ds))) (append-nil (decimal n))

schedule_path : (s : ℕ) → joined 47 ([] ∷ codes "students" ∷ decimal s ∷ []) ≡ codes "/students/" ++ decimal s
schedule_path s = ap (λ (ds : List ℕ). codes "/students/" ++ ds) (append-nil (decimal s))

only_found : (path text : List ℕ) (q : Query) (t : Target) → only_path path text q ≡ Some t → (path ≡ text) × (targets.Look q ≡ t)
only_found path text q t e = if_found (bytes_eq path text) (Some (targets.Look q)) None t e
    (λ same e. (same_word path text same, cc))
    (λ other e. absurd (cc))

-- what is read is the target of the path
pub found : (r : Route) (path : List ℕ) (t : Target) → target_in r path ≡ Some t → IsTarget path t
found routes.StudentAsk path t e = map_found (asked student_caller) _ t e (λ x is same.
    let q = ask_found (codes "students") (pieces 47 path) x [] (ended_found _ x is) in
    subst (IsTarget path) same ((q.0, q.1), whole_path path _ q.2 ∙ student_ask_path x.0 x.1))
found routes.RegistrarAsk path t e = map_found (asked callers.Registrar) _ t e (λ x is same.
    let q = ask_found (codes "registrars") (pieces 47 path) x [] (ended_found _ x is) in
    subst (IsTarget path) same ((q.0, q.1), whole_path path _ q.2 ∙ registrar_ask_path x.0 x.1))
found routes.Schedule path t e = map_found (looked (λ id. queries.Schedule (student_id id))) _ t e (λ x is same.
    let q = id_found (codes "students") (pieces 47 path) x [] (ended_found _ x is) in
    subst (IsTarget path) same (q.0, whole_path path _ q.1 ∙ schedule_path x))
found routes.Roll path t e = map_found (looked (λ id. queries.Roll (section_id id))) _ t e (λ x is same.
    let q = report_found (codes "sections") (codes "roll") (pieces 47 path) x [] (ended_found _ x is) in
    subst (IsTarget path) same (q.0, whole_path path _ q.1))
found routes.Open path t e = map_found (looked (λ id. queries.Open (offering_id id))) _ t e (λ x is same.
    let q = report_found (codes "offerings") (codes "open") (pieces 47 path) x [] (ended_found _ x is) in
    subst (IsTarget path) same (q.0, whole_path path _ q.1))
found routes.Waiting path t e = let q = only_found path (codes "/waiting") queries.Waiting t e in subst (IsTarget path) q.1 (tt, q.0)
found routes.Unmet path t e = let q = only_found path (codes "/unmet") queries.Unmet t e in subst (IsTarget path) q.1 (tt, q.0)

wide_slash : (n : ℕ) → Fits64 n → Lacks 47 (decimal n)
wide_slash n fits = lacks_decimal 47 n (inl (lit< tt)) (omega (arith, fits))

abbrev Apart : Parts → Type 0
Apart ws = pieces 47 (joined 47 ws) ≡ ws

-- the parts of the paths of targets
apart_ask : (name : List ℕ) (s n : ℕ) → Lacks 47 name → Fits32 s → Fits64 n → Apart ([] ∷ name ∷ decimal s ∷ codes "asks" ∷ decimal n ∷ [])
apart_ask name s n lack id number = pieces_joined 47 [] (name ∷ decimal s ∷ codes "asks" ∷ decimal n ∷ []) tt
    (lack, (no_slash s id, ((refl, (refl, (refl, (refl, tt)))), (wide_slash n number, tt))))

apart_id : (name : List ℕ) (s : ℕ) → Lacks 47 name → Fits32 s → Apart ([] ∷ name ∷ decimal s ∷ [])
apart_id name s lack id = pieces_joined 47 [] (name ∷ decimal s ∷ []) tt (lack, (no_slash s id, tt))

apart_report : (name report : List ℕ) (s : ℕ) → Lacks 47 name → Lacks 47 report → Fits32 s → Apart ([] ∷ name ∷ decimal s ∷ report ∷ [])
apart_report name report s lack end id = pieces_joined 47 [] (name ∷ decimal s ∷ report ∷ []) tt (lack, (no_slash s id, (end, tt)))

lacks_students : Lacks 47 (codes "students")
lacks_students = (refl, (refl, (refl, (refl, (refl, (refl, (refl, (refl, tt))))))))

lacks_registrars : Lacks 47 (codes "registrars")
lacks_registrars = (refl, (refl, (refl, (refl, (refl, (refl, (refl, (refl, (refl, (refl, tt))))))))))

lacks_sections : Lacks 47 (codes "sections")
lacks_sections = (refl, (refl, (refl, (refl, (refl, (refl, (refl, (refl, tt))))))))

lacks_offerings : Lacks 47 (codes "offerings")
lacks_offerings = (refl, (refl, (refl, (refl, (refl, (refl, (refl, (refl, (refl, tt)))))))))

again_ask : (c : Caller) (n : ℕ) → FitsCaller c → Fits64 n → target_in (ask_form c) (ask_path c n) ≡ Some (targets.Ask (record { caller = c; number = n }))
unfolding ask_at id_at
again_ask (callers.Student s) n id number =
    ap (λ path. option_map (asked student_caller) (ended (ask_at (codes "students") (pieces 47 path)))) (sym (student_ask_path s.0 n))
    ∙ ap (λ ws. option_map (asked student_caller) (ended (ask_at (codes "students") ws))) (apart_ask (codes "students") s.0 n lacks_students id number)
    ∙ ap (λ o. option_map (asked student_caller) (ended o)) (word_back exact_u32 s.0 _ _ _ id (word_back exact_u64 n _ _ _ number refl))
again_ask (callers.Registrar r) n id number =
    ap (λ path. option_map (asked callers.Registrar) (ended (ask_at (codes "registrars") (pieces 47 path)))) (sym (registrar_ask_path r n))
    ∙ ap (λ ws. option_map (asked callers.Registrar) (ended (ask_at (codes "registrars") ws))) (apart_ask (codes "registrars") r n lacks_registrars id number)
    ∙ ap (λ o. option_map (asked callers.Registrar) (ended o)) (word_back exact_u32 r _ _ _ id (word_back exact_u64 n _ _ _ number refl))

with_id : (s : ℕ) (rest : Parts) → Fits32 s → word_at u32_of (decimal s ∷ rest) ≡ Some (s, rest)
with_id s rest fits = ap (λ o. with_rest rest o) (exact_u32.again s fits)

again_report : (q : Query) → FitsReport q → target_in (report_form q) (report_path q) ≡ Some (targets.Look q)
unfolding report_at id_at
again_report (queries.Schedule s) fits =
    ap (λ path. option_map (looked (λ id. queries.Schedule (student_id id))) (ended (id_at (codes "students") (pieces 47 path)))) (sym (schedule_path s.0))
    ∙ ap (λ ws. option_map (looked (λ id. queries.Schedule (student_id id))) (ended (id_at (codes "students") ws))) (apart_id (codes "students") s.0 lacks_students fits)
    ∙ ap (λ o. option_map (looked (λ id. queries.Schedule (student_id id))) (ended o)) (with_id s.0 [] fits)
again_report (queries.Roll s) fits =
    ap (λ ws. option_map (looked (λ id. queries.Roll (section_id id))) (ended (report_at (codes "sections") (codes "roll") ws))) (apart_report (codes "sections") (codes "roll") s.0 lacks_sections (refl, (refl, (refl, (refl, tt)))) fits)
    ∙ ap (λ o. option_map (looked (λ id. queries.Roll (section_id id))) (ended o)) (word_back exact_u32 s.0 _ _ _ fits refl)
again_report (queries.Open o) fits =
    ap (λ ws. option_map (looked (λ id. queries.Open (offering_id id))) (ended (report_at (codes "offerings") (codes "open") ws))) (apart_report (codes "offerings") (codes "open") o.0 lacks_offerings (refl, (refl, (refl, (refl, tt)))) fits)
    ∙ ap (λ o. option_map (looked (λ id. queries.Open (offering_id id))) (ended o)) (word_back exact_u32 o.0 _ _ _ fits refl)
again_report queries.Waiting fits = refl
again_report queries.Unmet fits = refl
again_report (queries.Rows t) fits = absurd fits

again_path : (t : Target) → FitsTarget t → target_in (form_of t) (target_path t) ≡ Some t
again_path (targets.Ask id) fits = again_ask id.caller id.number fits.0 fits.1
again_path (targets.Look q) fits = again_report q fits

-- the target of a path is what is read of it
pub again : (path : List ℕ) (t : Target) → IsTarget path t → target_in (form_of t) path ≡ Some t
again path t target = ap (target_in (form_of t)) target.1 ∙ again_path t target.0

-- what was read of the path, where something was
pub found_option : (r : Route) (path : List ℕ) (o : Option Target) → o ≡ target_in r path → IfSome o (IsTarget path)
found_option r path None e = tt
found_option r path (Some t) e = found r path t (sym e)

-- a target of the path is the one that its route reads
pub only_target : (r : Route) (path text : List ℕ) (o : Option Target) → o ≡ target_in r path → text ≡ path → route_of text ≡ Some r → (t : Target) → IsTarget path t → o ≡ Some t
only_target r path text o read same matched t target =
    let form : r ≡ form_of t = some_same r (form_of t) (sym matched ∙ ap route_of same ∙ routed path t target) in
    read ∙ ap (λ r. target_in r path) form ∙ again path t target
  where
    some_same : (a b : Route) → Some a ≡ Some b → a ≡ b
    some_same a b e = cc
