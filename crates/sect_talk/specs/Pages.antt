-- The texts of answers.
use Rattle.std.specs.Prelude.{ℕ, Bool, true, if◌then◌else◌, List, [], ◌∷◌, ◌++◌, Option, None, Some, codes, decimal, length}
use Rattle.std.specs.List.{concat}
use Rattle.std.specs.Option.{unwrap_or}
use Rattle.http.specs.StatusCode.{code_digits, reason_phrase}
use Rattle.sect_talk.specs.declared.page.Kind.{Kind}
use Rattle.sect_talk.specs.declared.page.Kind.TheVariants as kinds
use Rattle.sect_talk.specs.declared.page.Method.{Method}
use Rattle.sect_talk.specs.declared.page.Method.TheVariants as methods
use Rattle.sect_talk.specs.declared.page.Page.{Page}

-- the phrase of a status
unfoldable pub phrase : ℕ → List ℕ
phrase status = unwrap_or (reason_phrase status) []

-- the digits of a status
unfoldable pub code_text : ℕ → List ℕ
code_text status = code_digits status

-- what a body is, as its field says
abbrev pub kind_text : Kind → List ℕ
kind_text kinds.Json = codes "application/json"
kind_text kinds.Text = codes "text/plain"

-- the name of a method
abbrev pub method_text : Method → List ℕ
method_text methods.Get = codes "GET"
method_text methods.Post = codes "POST"

-- the field that names the method that is allowed
abbrev pub allow_line : Option Method → List ℕ
allow_line None = []
allow_line (Some methods.Get) = codes "Allow: GET\r\n"
allow_line (Some methods.Post) = codes "Allow: POST\r\n"

-- the field that says that the connection closes
abbrev pub closing_line : Bool → List ℕ
closing_line closing = if closing then codes "Connection: close\r\n" else []

-- the bytes of the body, which an answer to HEAD leaves out
abbrev pub shown_body : Bool → List ℕ → List ℕ
shown_body headless body = if headless then [] else body

-- what stands before the length: the status line, and what the body is
unfoldable pub page_front : Page → List ℕ
page_front page = concat (
    codes "HTTP/1.1 " ∷ code_text page.status ∷ codes " " ∷ phrase page.status
    ∷ codes "\r\nContent-Type: " ∷ kind_text page.kind ∷ codes "\r\nContent-Length: " ∷ [])

-- what stands between the length and the body: the fields that aren't always there, and an empty line
unfoldable pub page_end : Page → List ℕ
page_end page = concat (codes "\r\n" ∷ allow_line page.allow ∷ closing_line page.closing ∷ codes "\r\n" ∷ [])

-- the text of an answer; the length is the body's, also where it is left out
abbrev pub page_text : Page → Bool → List ℕ → List ℕ
page_text page headless body = page_front page ++ (decimal (length body) ++ (page_end page ++ shown_body headless body))
