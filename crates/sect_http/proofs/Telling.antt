-- What is told of a page.
use Rattle.std.proofs.Common.{◌≡◌, ◌⊎◌, ℕ, ◌+◌, ◌<◌, ◌≤◌, ◌||◌, Bool, true, false, List, [], ◌++◌, refl, sym, ap, ◌∙◌, ⊎_elim, arith, length}
use Rattle.std.proofs.lemmas.Bool.{cases_lt}
use Rattle.sect_talk.specs.Pages.{page_text}
use Rattle.sect_talk.specs.declared.page.Page.{Page}
use Rattle.sect_http.specs.Telling.{ANSWER_ROOM, said_text}

same_page : (page closed : Page) (closing headless : Bool) (text : List ℕ) → closed ≡ record page { closing = page.closing || closing }
    → page_text closed headless text ≡ said_text (record { page = page; body = text }) closing headless
same_page page closed closing headless text same = ap (λ (p : Page). page_text p headless text) same

-- the bytes of a page that was printed where nothing stood
pub page_told : (page closed : Page) (closing headless : Bool) (text before out : List ℕ) → closed ≡ record page { closing = page.closing || closing } → before ≡ []
    → out ≡ before ++ page_text closed headless text → out ≡ said_text (record { page = page; body = text }) closing headless
page_told page closed closing headless text before out same none is =
    is ∙ (ap (λ (l : List ℕ). l ++ page_text closed headless text) none ∙ same_page page closed closing headless text same)

false_is_not_true : false ≡ true → ⊥
false_is_not_true e = cc

more_than : (n cap : ℕ) → ANSWER_ROOM ≤ cap → (n ≤ cap → false ≡ true) → ANSWER_ROOM < n
more_than n cap room lacks = ⊎_elim (λ (less : ANSWER_ROOM < n). less) (λ (few : n ≤ ANSWER_ROOM). absurd (false_is_not_true (lacks (omega (arith, few, room))))) (cases_lt ANSWER_ROOM n)

-- a page for which there was no room is long
pub page_long : (page closed : Page) (closing headless : Bool) (text before : List ℕ) (cap : ℕ) → closed ≡ record page { closing = page.closing || closing } → before ≡ [] → ANSWER_ROOM ≤ cap
    → (length before + length (page_text closed headless text) ≤ cap → false ≡ true) → ANSWER_ROOM < length (said_text (record { page = page; body = text }) closing headless)
page_long page closed closing headless text before cap same none room lacks =
    let e = ap length (same_page page closed closing headless text same) in
    let z = ap length none in
    more_than (length (said_text (record { page = page; body = text }) closing headless)) cap room (λ few. lacks (omega (arith, e, z, few)))
