-- What may be asked for is asked for by its plain words.
use Rattle.std.proofs.Common.{◌≡◌, ◌==◌, ◌+◌, ◌<◌, ◌≤◌, ◌^◌, ◌%◌, ℕ, Bool, true, false, List, [], ◌∷◌, ◌++◌, Option, None, Some, codes, decimal, nat_le, refl, subst, sym, arith}
use Rattle.std.specs.Str.{bytes_eq}
use Rattle.std.proofs.lemmas.Bool.Decides.{nat_tests}
use Rattle.std.proofs.lemmas.Fmt.{decimal_by_steps}
use Rattle.sect_base.specs.Day.{LAST_DAY}
use Rattle.sect_base.specs.DayText.{date_text}
use Rattle.sect_command.specs.declared.view.Table.{Table}
use Rattle.sect_command.specs.declared.view.Table.TheVariants as tables
use Rattle.sect_command.specs.declared.view.Query.TheVariants as queries
use Rattle.sect_words.specs.Days.{day_text}
use Rattle.sect_words.specs.ReadingWords.{between_of, day_of, number_of}
use Rattle.sect_words.proofs.Dates.{has_day}
use Rattle.sect_words.proofs.Exact.{same_word}
use Rattle.sect_words.proofs.Numbers.{exact_upto}
use Rattle.sect_words.proofs.Values.{exact_day}
use Rattle.sect_usage.specs.declared.verb.Verb.TheVariants as verbs
use Rattle.sect_usage.specs.declared.verb.Topic.TheVariants as topics
use Rattle.sect_usage.specs.declared.words.Words.TheVariants as asked
use Rattle.sect_usage.specs.Grammar.{asked_for, query_by, table_of, takes, verb_of, words_of}
use Rattle.sect_usage.specs.Items.{items_of, option, option_by, positional}
use Rattle.sect_usage.specs.Laws.{is_plain}
use Rattle.sect_usage.specs.Spelling.{MayBeAsked, PlainWords, word_list}

-- a plain word stands alone
pub positional_word : (word : List ℕ) (words : List (List ℕ)) → is_plain word ≡ true → items_of (word ∷ words) ≡ positional word ∷ items_of words
positional_word [] words plain = absurd (cc)
positional_word (b ∷ bs) words plain = by (b == 45) refl
  where
    by : (test : Bool) → (b == 45) ≡ test → items_of ((b ∷ bs) ∷ words) ≡ positional (b ∷ bs) ∷ items_of words
    by true e = absurd (let no : false ≡ true = rw e at plain in cc)
    by false e = rw e refl

-- a plain word is a value
pub value_word : (name word : List ℕ) → is_plain word ≡ true → option_by name word ≡ option name word
value_word name [] plain = absurd (cc)
value_word name (b ∷ bs) plain = by (b == 45) refl
  where
    by : (test : Bool) → (b == 45) ≡ test → option_by name (b ∷ bs) ≡ option name (b ∷ bs)
    by true e = absurd (let no : false ≡ true = rw e at plain in cc)
    by false e = rw e refl

-- a plain word doesn't ask for help
pub no_help : (word : List ℕ) → is_plain word ≡ true → bytes_eq word (codes "--help") ≡ false
no_help word plain = by (bytes_eq word (codes "--help")) refl
  where
    by : (test : Bool) → bytes_eq word (codes "--help") ≡ test → test ≡ false
    by false e = refl
    by true e = absurd (let no : is_plain (codes "--help") ≡ true = subst (λ (w : List ℕ). is_plain w ≡ true) (same_word word (codes "--help") e) plain in cc)

digit_plain : (n : ℕ) (bs : List ℕ) → is_plain ((48 + n) ∷ bs) ≡ true
digit_plain n bs = grind (arith, nat_tests)

more_plain : (ds more : List ℕ) → is_plain ds ≡ true → is_plain (ds ++ more) ≡ true
more_plain [] more plain = absurd (cc)
more_plain (b ∷ bs) more plain = plain

pub number_plain : (n : ℕ) → n < 2 ^ 64 → is_plain (decimal n) ≡ true
number_plain = decimal_by_steps (λ n ds. is_plain ds ≡ true) (λ n low. digit_plain n []) (λ n ds long plain. more_plain ds ((48 + n % 10) ∷ []) plain)

date_plain : (year month date : ℕ) → is_plain (date_text year month date) ≡ true
date_plain year month date = grind (arith, nat_tests)

day_plain : (day : ℕ) → day ≤ LAST_DAY → is_plain (day_text day) ≡ true
day_plain day fits =
    let is = has_day day fits in
    subst (λ (w : List ℕ). is_plain w ≡ true) (sym is.is_text) (date_plain is.year is.month is.date)

read_number : (most n : ℕ) → most < 2 ^ 64 → n ≤ most → number_of most (decimal n) ≡ Some n
read_number most n small fits = (exact_upto most small).again n fits

pub read_id : (n : ℕ) → n < 2 ^ 32 → number_of 4294967295 (decimal n) ≡ Some n
read_id n fits = read_number 4294967295 n (omega arith) (omega (arith, fits))

-- a table's rows are asked for
import_bare : (table : Table) (first : ℕ) → option_by (codes "first") (decimal first) ≡ option (codes "first") (decimal first) → number_of 18446744073709551615 (decimal first) ≡ Some first
    → words_of (word_list (asked.Import table first None)) ≡ Some (asked.Import table first None)
unfolding words_of verb_of table_of asked_for takes
import_bare tables.Offerings first value read = rw (value, read) refl
import_bare tables.Students first value read = rw (value, read) refl
import_bare tables.Requests first value read = rw (value, read) refl
import_bare tables.Reservations first value read = rw (value, read) refl

-- and with the first day of the term
import_dated : (table : Table) (first day : ℕ) → option_by (codes "first") (decimal first) ≡ option (codes "first") (decimal first) → number_of 18446744073709551615 (decimal first) ≡ Some first
    → option_by (codes "term") (day_text day) ≡ option (codes "term") (day_text day) → day_of (day_text day) ≡ Some day
    → words_of (word_list (asked.Import table first (Some day))) ≡ Some (asked.Import table first (Some day))
unfolding words_of verb_of table_of asked_for takes
import_dated tables.Offerings first day value read begin told = rw (value, begin, read, told) refl
import_dated tables.Students first day value read begin told = rw (value, begin, read, told) refl
import_dated tables.Requests first day value read begin told = rw (value, begin, read, told) refl
import_dated tables.Reservations first day value read begin told = rw (value, begin, read, told) refl

import_words : (table : Table) (first : ℕ) (term : Option ℕ) → MayBeAsked (asked.Import table first term) → words_of (word_list (asked.Import table first term)) ≡ Some (asked.Import table first term)
import_words table first None may = import_bare table first (value_word (codes "first") (decimal first) (number_plain first may.0)) (read_number 18446744073709551615 first (omega arith) (omega (arith, may.0)))
import_words table first (Some day) may =
    import_dated table first day (value_word (codes "first") (decimal first) (number_plain first may.0)) (read_number 18446744073709551615 first (omega arith) (omega (arith, may.0)))
    (value_word (codes "term") (day_text day) (day_plain day may.1)) (exact_day.again day may.1)

export_words : (table : Table) → words_of (word_list (asked.Export table)) ≡ Some (asked.Export table)
unfolding words_of verb_of table_of asked_for takes
export_words tables.Offerings = refl
export_words tables.Students = refl
export_words tables.Requests = refl
export_words tables.Reservations = refl

-- the option of a number is read
number_value : (name : List ℕ) (n most : ℕ) → most < 2 ^ 64 → n ≤ most → option_by name (decimal n) ≡ option name (decimal n)
number_value name n most small fits = value_word name (decimal n) (number_plain n (omega (arith, small, fits)))

serve_words : (port workers sessions : ℕ) → MayBeAsked (asked.Serve port workers sessions)
    → words_of (word_list (asked.Serve port workers sessions)) ≡ Some (asked.Serve port workers sessions)
unfolding words_of verb_of asked_for takes between_of
serve_words port workers sessions may =
    let port_low : nat_le 1 port ≡ true = grind (arith, nat_tests, may.0.0) in
    let workers_low : nat_le 1 workers ≡ true = grind (arith, nat_tests, may.1.0) in
    let sessions_low : nat_le 1 sessions ≡ true = grind (arith, nat_tests, may.2.0) in
    rw (
      number_value (codes "port") port 65535 (omega arith) may.0.1,
      number_value (codes "workers") workers 64 (omega arith) may.1.1,
      number_value (codes "sessions") sessions 1000000 (omega arith) may.2.1,
      read_number 65535 port (omega arith) may.0.1,
      read_number 64 workers (omega arith) may.1.1,
      read_number 1000000 sessions (omega arith) may.2.1,
      port_low,
      workers_low,
      sessions_low,
    ) refl

plan_words : (student budget : ℕ) → student < 2 ^ 32 → 1 ≤ budget → budget ≤ 20000
    → words_of (word_list (asked.Plan (record { 0 = student }) budget)) ≡ Some (asked.Plan (record { 0 = student }) budget)
unfolding words_of verb_of asked_for takes between_of
plan_words student budget fits low high =
    let budget_low : nat_le 1 budget ≡ true = grind (arith, nat_tests, low) in
    let plain = number_plain student (omega (arith, fits)) in
    rw (
      positional_word (decimal student) (codes "--budget" ∷ (decimal budget ∷ [])) plain,
      number_value (codes "budget") budget 20000 (omega arith) high,
      read_id student fits,
      read_number 20000 budget (omega arith) high,
      budget_low,
    ) refl

pub plain_words : PlainWords
unfolding words_of verb_of query_by asked_for takes between_of
plain_words asked.Run may = refl
plain_words (asked.Serve port workers sessions) may = serve_words port workers sessions may
plain_words (asked.Make n) may =
    let plain = number_plain n (omega (arith, may.1)) in
    let low : nat_le 1 n ≡ true = grind (arith, nat_tests, may.0) in
    rw (no_help (decimal n) plain, positional_word (decimal n) [] plain, read_number 100 n (omega arith) may.1, low) refl
plain_words asked.Audit may = refl
plain_words (asked.Report (queries.Roll id)) may = rw (positional_word (decimal id.0) [] (number_plain id.0 (omega (arith, may))), read_id id.0 may) refl
plain_words (asked.Report (queries.Open id)) may = rw (positional_word (decimal id.0) [] (number_plain id.0 (omega (arith, may))), read_id id.0 may) refl
plain_words (asked.Report (queries.Schedule id)) may = rw (positional_word (decimal id.0) [] (number_plain id.0 (omega (arith, may))), read_id id.0 may) refl
plain_words (asked.Report queries.Waiting) may = refl
plain_words (asked.Report queries.Unmet) may = refl
plain_words (asked.Report (queries.Rows table)) may = absurd may
plain_words (asked.Import table first term) may = import_words table first term may
plain_words (asked.Export table) may = export_words table
plain_words (asked.Plan student budget) may = plan_words student.0 budget may.0 may.1.0 may.1.1
plain_words asked.Survey may = refl
plain_words (asked.Help topics.Desk) may = refl
plain_words (asked.Help (topics.Command verbs.Run)) may = refl
plain_words (asked.Help (topics.Command verbs.Serve)) may = refl
plain_words (asked.Help (topics.Command verbs.Make)) may = refl
plain_words (asked.Help (topics.Command verbs.Audit)) may = refl
plain_words (asked.Help (topics.Command verbs.Report)) may = refl
plain_words (asked.Help (topics.Command verbs.Import)) may = refl
plain_words (asked.Help (topics.Command verbs.Export)) may = refl
plain_words (asked.Help (topics.Command verbs.Plan)) may = refl
plain_words (asked.Help (topics.Command verbs.Survey)) may = refl
plain_words asked.Version may = refl
