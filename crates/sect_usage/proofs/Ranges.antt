-- What words ask for is in its range.
use Rattle.std.proofs.Common.{◌≡◌, ◌≤◌, ◌<◌, ◌^◌, ℕ, Bool, true, false, List, [], ◌∷◌, Option, None, Some, refl, subst, arith}
use Rattle.std.specs.Prelude.{⊤, ◌&&◌, nat_le, if◌then◌else◌, option_map}
use Rattle.std.specs.Prelude.{codes}
use Rattle.std.specs.Str.{bytes_eq}
use Rattle.std.proofs.lemmas.Bool.{leb-true}
use Rattle.sect_base.specs.declared.ids.StudentId.{StudentId}
use Rattle.sect_command.specs.declared.view.Query.{Query}
use Rattle.sect_command.specs.declared.view.Table.{Table}
use Rattle.sect_words.specs.Reading.{◌>>=◌}
use Rattle.sect_words.specs.ReadingWords.{between_of, number_of, student_of, u64_of}
use Rattle.sect_words.proofs.Exact.{bind_found, if_found}
use Rattle.sect_words.proofs.Numbers.{exact_upto}
use Rattle.sect_usage.specs.declared.verb.Verb.{Verb}
use Rattle.sect_usage.specs.declared.verb.Verb.TheVariants as verbs
use Rattle.sect_usage.specs.declared.verb.Topic.TheVariants as topics
use Rattle.sect_usage.specs.declared.words.Words.{Words}
use Rattle.sect_usage.specs.declared.words.Words.TheVariants as asked
use Rattle.sect_usage.specs.Grammar.{asked_for, desk_words, import_of, make_of, plan_of, query_of, serve_of, table_of, takes, term_of, usual_or, verb_of, words_of}
use Rattle.sect_usage.specs.Items.{Item, items_of, positionals, value_of}
use Rattle.sect_usage.specs.Laws.{AskedInRange, IsBetween, IsInRange}
use Rattle.sect_usage.specs.Options.{allows, is_help, one_keeper, the_one, where_none}
use Rattle.sect_usage.specs.Programs.{asked_by, lone_of, words_by}

-- what is asked for, if anything is, is in its range
abbrev InRange : Option Words → Type 0
InRange None = ⊤
InRange (Some what) = IsInRange what

if_in_range : (test : Bool) (a b : Option Words) → InRange a → InRange b → InRange (if test then a else b)
if_in_range true a b h k = h
if_in_range false a b h k = k

where_in_range : (o : Option Words) (words : List (List ℕ)) → InRange o → InRange (where_none o words)
where_in_range o [] h = h
where_in_range o (word ∷ words) h = tt

report_in_range : (query : Option Query) → InRange (option_map asked.Report query)
report_in_range None = tt
report_in_range (Some query) = tt

export_in_range : (table : Option Table) → InRange (option_map asked.Export table)
export_in_range None = tt
export_in_range (Some table) = tt

-- a number from the least to the most was read
between_in_range : (least most : ℕ) → most < 2 ^ 64 → (word : List ℕ) (n : ℕ) → between_of least most word ≡ Some n → IsBetween least most n
unfolding between_of
between_in_range least most small word n is =
    bind_found (number_of most word) (λ m. if nat_le least m then Some m else None) n is (λ m read tested.
    let high : m ≤ most = ((exact_upto most small).found word m read).0 in
    if_found (nat_le least m) (Some m) None n tested
    (λ low same. let is_n : m ≡ n = cc in (omega (arith, is_n, leb-true least m low), omega (arith, is_n, high)))
    (λ low none. absurd cc))

-- one was read, or there was no word
usual_in_range : (usual least most : ℕ) → most < 2 ^ 64 → least ≤ usual → usual ≤ most → (word : Option (List ℕ)) (n : ℕ)
    → usual_or usual least most word ≡ Some n → IsBetween least most n
usual_in_range usual least most small low high None n is = let same : usual ≡ n = cc in (omega (arith, same, low), omega (arith, same, high))
usual_in_range usual least most small low high (Some word) n is = between_in_range least most small word n is

make_in_range : (offerings : Option ℕ) → ((n : ℕ) → offerings ≡ Some n → IsBetween 1 100 n) → InRange (offerings >>= λ n. Some (asked.Make n))
make_in_range None h = tt
make_in_range (Some n) h = h n refl

made_in_range : (items : List Item) → InRange (make_of items)
made_in_range items =
    make_in_range (the_one (positionals items) >>= between_of 1 100)
    (λ n is. bind_found (the_one (positionals items)) (between_of 1 100) n is (λ word one read. between_in_range 1 100 (omega arith) word n read))

bind_in_range : {A : Type 0} (o : Option A) (f : A → Option Words) → ((x : A) → o ≡ Some x → InRange (f x)) → InRange (o >>= f)
bind_in_range None f h = tt
bind_in_range (Some x) f h = h x refl

imported_in_range : (items : List Item) → InRange (import_of items)
imported_in_range items =
    let asks : Table → ℕ → Option ℕ → Option Words = λ table first term. Some (asked.Import table first term) in
    let with_first : Table → ℕ → Option Words = λ table first. term_of (value_of (codes "term") items) >>= asks table first in
    bind_in_range (the_one (positionals items) >>= table_of) (λ table. (value_of (codes "first") items >>= u64_of) >>= with_first table)
    (λ table _. bind_in_range (value_of (codes "first") items >>= u64_of) (with_first table)
    (λ first _. bind_in_range (term_of (value_of (codes "term") items)) (asks table first) (λ term _. tt)))

served_in_range : (items : List Item) → InRange (serve_of items)
served_in_range items =
    let port_word = value_of (codes "port") items in
    let workers_word = value_of (codes "workers") items in
    let sessions_word = value_of (codes "sessions") items in
    let asks : ℕ → ℕ → ℕ → Option Words = λ port workers sessions. Some (asked.Serve port workers sessions) in
    let with_workers : ℕ → ℕ → Option Words = λ port workers. usual_or 1000000 1 1000000 sessions_word >>= asks port workers in
    let with_port : ℕ → Option Words = λ port. usual_or 4 1 64 workers_word >>= with_workers port in
    bind_in_range (port_word >>= between_of 1 65535) with_port
    (λ port port_is. bind_in_range (usual_or 4 1 64 workers_word) (with_workers port)
    (λ workers workers_is. bind_in_range (usual_or 1000000 1 1000000 sessions_word) (asks port workers)
    (λ sessions sessions_is. (
      bind_found port_word (between_of 1 65535) port port_is (λ word one read. between_in_range 1 65535 (omega arith) word port read),
      usual_in_range 4 1 64 (omega arith) (omega arith) (omega arith) workers_word workers workers_is,
      usual_in_range 1000000 1 1000000 (omega arith) (omega arith) (omega arith) sessions_word sessions sessions_is,
    ))))

planned_in_range : (items : List Item) → InRange (plan_of items)
planned_in_range items =
    let budget_word = value_of (codes "budget") items in
    let asks : StudentId → ℕ → Option Words = λ student budget. Some (asked.Plan student budget) in
    bind_in_range (the_one (positionals items) >>= student_of) (λ student. usual_or 2000 1 20000 budget_word >>= asks student)
    (λ student _. bind_in_range (usual_or 2000 1 20000 budget_word) (asks student)
    (λ budget is. usual_in_range 2000 1 20000 (omega arith) (omega arith) (omega arith) budget_word budget is))

for_in_range : (verb : Verb) (items : List Item) → InRange (asked_for verb items)
unfolding asked_for
for_in_range verbs.Run items = where_in_range (Some asked.Run) (positionals items) tt
for_in_range verbs.Serve items = where_in_range (serve_of items) (positionals items) (served_in_range items)
for_in_range verbs.Make items = made_in_range items
for_in_range verbs.Audit items = where_in_range (Some asked.Audit) (positionals items) tt
for_in_range verbs.Report items = report_in_range (query_of (positionals items))
for_in_range verbs.Import items = imported_in_range items
for_in_range verbs.Export items = export_in_range (the_one (positionals items) >>= table_of)
for_in_range verbs.Plan items = planned_in_range items
for_in_range verbs.Survey items = where_in_range (Some asked.Survey) (positionals items) tt

by_in_range : (verb : Verb) (items : List Item) → InRange (asked_by desk_words verb items)
by_in_range verb items = if_in_range (allows (takes verb) items && one_keeper items) (asked_for verb items) None (for_in_range verb items) tt

lone_in_range : (word : List ℕ) → InRange (lone_of desk_words word)
lone_in_range word =
    if_in_range (bytes_eq word (codes "--help")) (Some (asked.Help topics.Desk)) (if bytes_eq word (codes "--version") then Some asked.Version else None) tt
    (if_in_range (bytes_eq word (codes "--version")) (Some asked.Version) None tt tt)

words_in_range : (verb : Option Verb) (word : List ℕ) (words : List (List ℕ)) → InRange (words_by desk_words verb word words)
words_in_range None word words = where_in_range (lone_of desk_words word) words (lone_in_range word)
words_in_range (Some verb) word words =
    if_in_range (is_help words) (Some (asked.Help (topics.Command verb))) (asked_by desk_words verb (items_of words)) tt (by_in_range verb (items_of words))

all_in_range : (words : List (List ℕ)) → InRange (words_of words)
unfolding words_of
all_in_range [] = tt
all_in_range (word ∷ words) = words_in_range (verb_of word) word words

pub asked_in_range : AskedInRange
asked_in_range words what is = subst InRange is (all_in_range words)
