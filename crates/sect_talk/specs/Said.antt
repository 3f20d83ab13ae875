-- What is said to requests that no other crate answers.
use Rattle.std.specs.Prelude.{ℕ, Bool, true, false, List, ◌++◌, Option, None, Some, codes}
use Rattle.sect_talk.specs.declared.page.Kind.TheVariants.{Json, Text}
use Rattle.sect_talk.specs.declared.page.Method.{Method}
use Rattle.sect_talk.specs.declared.page.Page.{Page}

-- a page with its body
pub record Said : Type 0 where
  pub page : Page
  pub body : List ℕ

-- a body that names an error
abbrev pub error_body : List ℕ → List ℕ
error_body word = codes "{\"error\":\"" ++ (word ++ codes "\"}")

-- a page of JSON
abbrev pub json_page : ℕ → Option Method → Bool → Page
json_page status allow closing = record { status = status; kind = Json; allow = allow; closing = closing }

-- a refusal behind which the connection closes
abbrev pub refusal : ℕ → List ℕ → Said
refusal status word = record { page = json_page status None true; body = error_body word }

-- a refusal behind which the connection stays
abbrev pub stays : ℕ → Option Method → List ℕ → Said
stays status allow word = record { page = json_page status allow false; body = error_body word }

-- no route matches
abbrev pub no_route : Said
no_route = stays 404 None (codes "route")

-- the route has another method, which is named
abbrev pub other_method : Method → Said
other_method method = stays 405 (Some method) (codes "method")

-- the body is no command
abbrev pub no_command : Said
no_command = stays 400 None (codes "body")

-- a report
abbrev pub report_said : List ℕ → Said
report_said text = record { page = record { status = 200; kind = Text; allow = None; closing = false }; body = text }

-- memory was wanting
abbrev pub no_memory : Said
no_memory = refusal 507 (codes "memory")
