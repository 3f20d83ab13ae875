-- The path of a target is UTF-8.
use Rattle.std.proofs.Common.{◌≡◌, ℕ, List, [], ◌∷◌, ◌++◌, codes, decimal, refl, sym, subst, Bool, true, ◌&&◌, ltb, zero, suc, get_or, lit<, ◌<◌, ◌≤◌, arith}
use Rattle.std.specs.Str.{IsUtf8}
use Rattle.std.proofs.lemmas.Bool.{and_parts, ltb-true}
use Rattle.std.proofs.lemmas.Fmt.{IsAscii-decimal}
use Rattle.std.proofs.lemmas.Str.{IsUtf8-append, IsUtf8-from_ascii}
use Rattle.sect_base.specs.declared.limit.Caller.{Caller}
use Rattle.sect_base.specs.declared.limit.Caller.TheVariants as callers
use Rattle.sect_command.specs.declared.view.Query.{Query}
use Rattle.sect_command.specs.declared.view.Query.TheVariants as queries
use Rattle.sect_read.specs.Fits.{Fits64, FitsCaller}
use Rattle.sect_answer.specs.Targets.{FitsReport, FitsTarget, IsTarget, ask_path, report_path, target_path}
use Rattle.sect_answer.specs.declared.target.Target.{Target}
use Rattle.sect_answer.specs.declared.target.Target.TheVariants as targets

abbrev all_ascii : List ℕ → Bool
all_ascii [] = true
all_ascii (b ∷ bs) = ltb b 128 && all_ascii bs

ascii : (bytes : List ℕ) → all_ascii bytes ≡ true → (i : ℕ) → get_or bytes i 0 < 128
ascii [] e i = lit< tt
ascii (b ∷ bs) e zero = ltb-true b 128 (and_parts (ltb b 128) (all_ascii bs) e).0
ascii (b ∷ bs) e (suc i) = ascii bs (and_parts (ltb b 128) (all_ascii bs) e).1 i

text : (bytes : List ℕ) → all_ascii bytes ≡ true → IsUtf8 bytes
text bytes e = IsUtf8-from_ascii bytes (ascii bytes e)

number : (n : ℕ) → Fits64 n → IsUtf8 (decimal n)
number n fits = IsUtf8-from_ascii (decimal n) (IsAscii-decimal n (omega (arith, fits)))

small : (n : ℕ) → n ≤ 4294967295 → IsUtf8 (decimal n)
small n fits = IsUtf8-from_ascii (decimal n) (IsAscii-decimal n (omega (arith, fits)))

behind : (text rest : List ℕ) → IsUtf8 text → IsUtf8 rest → IsUtf8 (text ++ rest)
behind = IsUtf8-append

ask_utf8 : (c : Caller) (n : ℕ) → FitsCaller c → Fits64 n → IsUtf8 (ask_path c n)
ask_utf8 (callers.Student s) n fits wide = behind (codes "/students/") _ (text (codes "/students/") refl) (behind (decimal s.0) _ (small s.0 fits) (behind (codes "/asks/") _ (text (codes "/asks/") refl) (number n wide)))
ask_utf8 (callers.Registrar r) n fits wide = behind (codes "/registrars/") _ (text (codes "/registrars/") refl) (behind (decimal r) _ (small r fits) (behind (codes "/asks/") _ (text (codes "/asks/") refl) (number n wide)))

report_utf8 : (q : Query) → FitsReport q → IsUtf8 (report_path q)
report_utf8 (queries.Schedule s) fits = behind (codes "/students/") _ (text (codes "/students/") refl) (small s.0 fits)
report_utf8 (queries.Roll s) fits = behind (codes "/sections/") _ (text (codes "/sections/") refl) (behind (decimal s.0) _ (small s.0 fits) (text (codes "/roll") refl))
report_utf8 (queries.Open o) fits = behind (codes "/offerings/") _ (text (codes "/offerings/") refl) (behind (decimal o.0) _ (small o.0 fits) (text (codes "/open") refl))
report_utf8 queries.Waiting fits = text (codes "/waiting") refl
report_utf8 queries.Unmet fits = text (codes "/unmet") refl
report_utf8 (queries.Rows t) fits = absurd fits

path_utf8 : (t : Target) → FitsTarget t → IsUtf8 (target_path t)
path_utf8 (targets.Ask id) fits = ask_utf8 id.caller id.number fits.0 fits.1
path_utf8 (targets.Look q) fits = report_utf8 q fits

pub utf8 : (path : List ℕ) (t : Target) → IsTarget path t → IsUtf8 path
utf8 path t target = subst IsUtf8 (sym target.1) (path_utf8 t target.0)
