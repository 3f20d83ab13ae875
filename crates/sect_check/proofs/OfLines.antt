-- The walk over the words of a line comes to its end exactly where the line is a request.
use Rattle.std.proofs.Common.{◌≡◌, ℕ, Bool, true, false, List, [], ◌∷◌, Option, Some, None, refl, ap, sym, subst}
use Rattle.std.specs.Prelude.{Result, Ok, Err, ⊤, if◌then◌else◌, codes}
use Rattle.std.specs.Option.{is_some}
use Rattle.std.specs.Str.{bytes_eq}
use Rattle.sect_base.specs.declared.limit.Id.{Id}
use Rattle.sect_command.specs.declared.command.Command.{Command}
use Rattle.sect_read.proofs.LineLaws.{Outcome, line_again, line_found}
use Rattle.sect_read.specs.declared.fault.WireFault.{WireFault}
use Rattle.sect_read.specs.declared.line.LineAsk.{LineAsk}
use Rattle.sect_read.specs.Lines.{IsLine}
use Rattle.sect_read.specs.ReadingCommands.{verb_of}
use Rattle.sect_read.specs.ReadingLines.{asked, asked_behind, asked_by, at_of, day_behind, front_at, id_at, line_at, line_day_at, line_of}
use Rattle.sect_words.specs.Parts.{pieces}
use Rattle.sect_words.specs.Reading.{◌>>=◌, later_parts, whole}
use Rattle.sect_words.specs.ReadingWords.{day_of}
use Rattle.sect_check.specs.declared.form.Form.TheVariants as forms
use Rattle.sect_read.specs.declared.verb.Verb.{Verb}
use Rattle.sect_read.specs.declared.verb.Verb.TheVariants as verbs
use Rattle.sect_check.specs.Fits.{fits}
use Rattle.sect_check.specs.Walks.{Walk, arguments_walk, day_by, day_walk, end_walk, front_walk, verb_at, verb_walk, line_walk, passed, PassesRequests, request_walk, stopped, walk_on, word_walk}
use Rattle.sect_check.proofs.Agree.{Agree, agree_then, agree_made, agree_number, agree_caller}
use Rattle.sect_check.proofs.OfCommands.{agree_offering, agree_student, agree_requests, agree_reserve, agree_expire, agree_restrict, agree_limit_command, agree_enrol, agree_drop, agree_swap, agree_wait, agree_unwait, agree_unreserve, agree_unrestrict, agree_cancel, agree_batch}

-- ---- lines

pub day_then : (b : Bool) (o : Option ℕ) (words later : List (List ℕ)) → b ≡ is_some o
    → Agree (if b then passed later else stopped words forms.DayMark) (o >>= λ day. Some (Some day, later))
day_then true (Some day) words later e = refl
day_then true None words later e = absurd (cc)
day_then false None words later e = tt
day_then false (Some day) words later e = absurd (cc)

pub day_at : (o : Option (List ℕ)) (words : List (List ℕ)) → Agree (day_by o words) (day_behind words o)
unfolding fits
day_at None words = refl
day_at (Some text) words = day_then (fits forms.Day text) (day_of text) words (later_parts words) refl

pub agree_line_day : (words : List (List ℕ)) → Agree (day_walk words) (line_day_at words)
unfolding day_walk line_day_at
agree_line_day words = day_at (at_of words) words

pub agree_line_id : (words : List (List ℕ)) → Agree (walk_on (word_walk forms.Caller words) (λ caller. word_walk forms.Number caller)) (id_at words)
unfolding id_at
agree_line_id words = agree_then _ _ _ _ (agree_caller words) (λ caller a. agree_made _ _ _ (agree_number a))

pub agree_front : (words : List (List ℕ)) → Agree (front_walk words) (front_at words)
unfolding front_walk front_at
agree_front words = agree_then _ _ _ _ (agree_line_day words) (λ day a. agree_made _ _ _ (agree_line_id a))

-- the walk comes to the end where a request is read, and stops where none is
abbrev pub Ends : Walk → Result LineAsk WireFault → Type 0
Ends (passed rest) (Ok ask) = rest ≡ []
Ends (passed rest) (Err fault) = ⊥
Ends (stopped rest form) (Ok ask) = ⊥
Ends (stopped rest form) (Err fault) = ⊤

pub ends_command : (front : Option ℕ × Id) (verb : Verb) (w : Walk) (r : Option (Command × List (List ℕ))) → Agree w r
    → Ends (walk_on w (λ rest. end_walk verb rest)) (asked front (whole r))
ends_command front verb (passed rest) (Some (command, [])) same =
    subst (λ (l : List (List ℕ)). Ends (end_walk verb l) (asked front (whole (Some (command, []))))) (sym same) refl
ends_command front verb (passed rest) (Some (command, part ∷ parts)) same =
    subst (λ (l : List (List ℕ)). Ends (end_walk verb l) (asked front (whole (Some (command, part ∷ parts))))) (sym same) tt
ends_command front verb (passed rest) None same = absurd same
ends_command front verb (stopped rest form) None same = tt
ends_command front verb (stopped rest form) (Some (command, left)) same = absurd same

pub ends_verb : (front : Option ℕ × Id) (verb : Option Verb) (word : List ℕ) (words : List (List ℕ))
    → Ends (verb_walk verb (word ∷ words)) (asked_by front verb words)
unfolding arguments_walk
ends_verb front None word words = tt
ends_verb front (Some verbs.Offering) word words = ends_command front _ _ _ (agree_offering words)
ends_verb front (Some verbs.Student) word words = ends_command front _ _ _ (agree_student words)
ends_verb front (Some verbs.Requests) word words = ends_command front _ _ _ (agree_requests words)
ends_verb front (Some verbs.Reserve) word words = ends_command front _ _ _ (agree_reserve words)
ends_verb front (Some verbs.Unreserve) word words = ends_command front _ _ _ (agree_unreserve words)
ends_verb front (Some verbs.Expire) word words = ends_command front _ _ _ (agree_expire words)
ends_verb front (Some verbs.Restrict) word words = ends_command front _ _ _ (agree_restrict words)
ends_verb front (Some verbs.Unrestrict) word words = ends_command front _ _ _ (agree_unrestrict words)
ends_verb front (Some verbs.Limit) word words = ends_command front _ _ _ (agree_limit_command words)
ends_verb front (Some verbs.Cancel) word words = ends_command front _ _ _ (agree_cancel words)
ends_verb front (Some verbs.Enrol) word words = ends_command front _ _ _ (agree_enrol words)
ends_verb front (Some verbs.Drop) word words = ends_command front _ _ _ (agree_drop words)
ends_verb front (Some verbs.Swap) word words = ends_command front _ _ _ (agree_swap words)
ends_verb front (Some verbs.Wait) word words = ends_command front _ _ _ (agree_wait words)
ends_verb front (Some verbs.Unwait) word words = ends_command front _ _ _ (agree_unwait words)
ends_verb front (Some verbs.Batch) word words = ends_command front _ _ _ (agree_batch words)

pub ends_behind : (front : Option ℕ × Id) (words : List (List ℕ)) → Ends (verb_walk (verb_at words) words) (asked_behind front words)
ends_behind front [] = tt
ends_behind front (word ∷ words) = ends_verb front (verb_of word) word words

pub ends_front : (w : Walk) (r : Option ((Option ℕ × Id) × List (List ℕ))) → Agree w r
    → Ends (walk_on w (λ front. verb_walk (verb_at front) front)) (line_at r)
ends_front (passed rest) (Some (front, left)) same =
    subst (λ (l : List (List ℕ)). Ends (verb_walk (verb_at l) l) (asked_behind front left)) (sym same) (ends_behind front left)
ends_front (passed rest) None same = absurd same
ends_front (stopped rest form) None same = tt
ends_front (stopped rest form) (Some (front, left)) same = absurd same

pub ends_line : (line : List ℕ) → Ends (line_walk line) (line_of line)
unfolding request_walk
ends_line line = ends_front (front_walk (pieces 32 line)) (front_at (pieces 32 line)) (agree_front (pieces 32 line))

pub found_at : (line : List ℕ) (r : Result LineAsk WireFault) → Ends (passed []) r → Outcome line r → (ask : LineAsk) × IsLine line ask
found_at line (Ok ask) e found = (ask, found)
found_at line (Err fault) e found = absurd e

pub passed_at : (w : Walk) (ask : LineAsk) → Ends w (Ok ask) → w ≡ passed []
passed_at (passed rest) ask e = ap passed e
passed_at (stopped rest form) ask e = absurd e

-- the words of a line are passed to its end exactly where it is a request
pub passes_requests : PassesRequests
passes_requests line = (
  λ e. found_at line (line_of line) (subst (λ (w : Walk). Ends w (line_of line)) e (ends_line line)) (line_found line),
  λ asks. passed_at (line_walk line) asks.0 (subst (λ r. Ends (line_walk line) r) (line_again line asks.0 asks.1) (ends_line line)),
)
