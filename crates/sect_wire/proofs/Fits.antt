-- What is read of a body has a text.
use Rattle.std.proofs.Common.{◌≡◌, ◌≤◌, ℕ, Bool, true, List, [], ◌∷◌, Option, None, Some, Ok, refl, ap, subst, is_some, nat_le, option_map, option_and_then, codes, lit≤}
use Rattle.std.proofs.lemmas.Bool.{leb-true}
use Rattle.std.proofs.lemmas.Option.{cond_some}
use Rattle.serde_json.specs.Data.{Data, Items, no_items, item}
use Rattle.serde_json.specs.Find.{as_array, as_null, as_number, as_str, as_u64, get}
use Rattle.sect_command.specs.declared.command.Command.{Command}
use Rattle.sect_command.specs.declared.command.Command.TheVariants as commands
use Rattle.sect_words.specs.Parts.{pieces}
use Rattle.sect_words.specs.ReadingWords.{course_id, section_id, student_id}
use Rattle.sect_words.proofs.Exact.{bind_found, if_found}
use Rattle.sect_read.specs.Fits.{Fits32, Fits64, FitsCommand, FitsCourse, FitsList, FitsOptional, FitsSection, FitsStated, FitsStudent, FitsWant}
use Rattle.sect_read.specs.Lines.{IsCommand}
use Rattle.sect_read.specs.ReadingCommands.{command_at}
use Rattle.sect_read.proofs.Steps.{whole_found}
use Rattle.sect_read.proofs.CommandLaws.{command_found}
use Rattle.sect_wire.specs.declared.verbs.Verb.{Verb}
use Rattle.sect_wire.specs.declared.verbs.Verb.TheVariants as verbs
use Rattle.sect_wire.specs.Values.{course_in, each_in, has_only, list_in, optional, optional_in, or_default, ranged, required, section_in, small, student_in, u64_in}
use Rattle.sect_wire.specs.Bodies.{and_then, arguments_in, budget_in, command_of, command_with, drop_in, enrol_in, names_of, object_in, or_cause, swap_in, take_in, take_names, text_in, unwait_in, verb_in, wait_in, want_in, written}

-- what is read fits
abbrev Sound : {X : Type 0} → (Data → Option X) → (X → Type 0) → Type 0
Sound of Fits = (d : Data) (x : _) → of d ≡ Some x → Fits x

some_is : {A : Type 0} (x y : A) → Some x ≡ Some y → x ≡ y
some_is x y e = cc

small_fits : (most : ℕ) → Sound (small most) (λ n. n ≤ most)
unfolding small
small_fits most d n e = bind_found (option_and_then as_u64 (as_number d)) _ n e (λ m is e.
    let test = cond_some (nat_le m most) m n e in
    subst (λ k. k ≤ most) test.1 (leb-true m most test.0))

ranged_fits : (most : ℕ) → Sound (ranged most) (FitsStated most)
unfolding ranged
ranged_fits most d n e = bind_found (small most d) _ n e (λ m is e.
    let test = cond_some (nat_le 1 m) m n e in
    subst (FitsStated most) test.1 (leb-true 1 m test.0, small_fits most d m is))

map_fits : {X : Type 0} (make : ℕ → X) (Fits : X → Type 0) → ((n : ℕ) → Fits32 n → Fits (make n)) → Sound (λ d. option_map make (small 4294967295 d)) Fits
map_fits make Fits fits d x e = by (small 4294967295 d) refl e
  where
    by : (o : Option ℕ) → small 4294967295 d ≡ o → option_map make o ≡ Some x → Fits x
    by None is e = absurd (cc)
    by (Some n) is e = subst Fits (some_is (make n) x e) (fits n (small_fits 4294967295 d n is))

course_fits : Sound course_in FitsCourse
course_fits = map_fits course_id FitsCourse (λ n fits. fits)

section_fits : Sound section_in FitsSection
section_fits = map_fits section_id FitsSection (λ n fits. fits)

student_fits : Sound student_in FitsStudent
student_fits = map_fits student_id FitsStudent (λ n fits. fits)

module _ {X : Type 0} (of : Data → Option X) (Fits : X → Type 0) (sound : Sound of Fits) where
  each_fits : (ds : Items) (xs : List X) → each_in of ds ≡ Some xs → FitsList Fits xs
  each_fits no_items xs e = subst (FitsList Fits) (some_is [] xs e) tt
  each_fits (item d ds) xs e = bind_found (of d) _ xs e (λ y is e. bind_found (each_in of ds) _ xs e (λ ys later e.
      subst (FitsList Fits) (some_is (y ∷ ys) xs e) (sound d y is, each_fits ds ys later)))

  list_fits : Sound (list_in of) (FitsList Fits)
  unfolding list_in
  list_fits d xs e = bind_found (as_array d) _ xs e (λ ds is e. each_fits ds xs e)

  optional_fits : Sound (optional_in of) (FitsOptional Fits)
  unfolding optional_in
  optional_fits d x e = if_found (is_some (as_null d)) (Some None) (option_map Some (of d)) x e
      (λ null e. subst (FitsOptional Fits) (some_is None x e) tt)
      (λ other e. by (of d) refl e)
    where
      by : (o : Option X) → of d ≡ o → option_map Some o ≡ Some x → FitsOptional Fits x
      by None is e = absurd (cc)
      by (Some y) is e = subst (FitsOptional Fits) (some_is (Some y) x e) (sound d y is)

  required_fits : (name : List ℕ) → Sound (required of name) Fits
  required_fits name d x e = bind_found (get name d) of x e (λ v is e. sound v x e)

  default_fits : (default : X) → Fits default → (name : List ℕ) → Sound (optional default of name) Fits
  default_fits default fits name d x e = by (get name d) e
    where
      by : (o : Option Data) → or_default default of o ≡ Some x → Fits x
      by None e = subst Fits (some_is default x e) fits
      by (Some v) e = sound v x e

want_fits : Sound want_in FitsWant
unfolding want_in
want_fits d w e =
    bind_found (required (list_in course_in) (codes "courses") d) _ w e (λ courses c e.
    bind_found (optional [] (list_in section_in) (codes "only") d) _ w e (λ only o e.
    bind_found (optional 21 (ranged 21) (codes "rank") d) _ w e (λ rank r e.
    subst FitsWant (some_is _ w e) (
      required_fits (list_in course_in) (FitsList FitsCourse) (list_fits course_in FitsCourse course_fits) (codes "courses") d courses c,
      default_fits (list_in section_in) (FitsList FitsSection) (list_fits section_in FitsSection section_fits) [] tt (codes "only") d only o,
      default_fits (ranged 21) (FitsStated 21) (ranged_fits 21) 21 (lit≤ tt, lit≤ tt) (codes "rank") d rank r,
    ))))

take_fits : Sound take_in FitsWant
unfolding take_in
take_fits d w e = if_found (has_only take_names d) (want_in d) None w e (λ named e. want_fits d w e) (λ other e. absurd (cc))

student_there : (d : Data) (s : _) → required student_in (codes "student") d ≡ Some s → FitsStudent s
student_there d s e = required_fits student_in FitsStudent student_fits (codes "student") d s e

budget_fits : Sound budget_in (FitsStated 20000)
budget_fits d n e = default_fits (ranged 20000) (FitsStated 20000) (ranged_fits 20000) 2000 (lit≤ tt, lit≤ tt) (codes "budget") d n e

enrol_fits : Sound enrol_in FitsCommand
unfolding enrol_in
enrol_fits d x e =
    bind_found (required student_in (codes "student") d) _ x e (λ student s e.
    bind_found (want_in d) _ x e (λ want w e.
    bind_found (budget_in d) _ x e (λ budget b e.
    subst FitsCommand (some_is _ x e) (student_there d student s, want_fits d want w, budget_fits d budget b))))

drop_fits : Sound drop_in FitsCommand
unfolding drop_in
drop_fits d x e =
    bind_found (required student_in (codes "student") d) _ x e (λ student s e.
    bind_found (required course_in (codes "course") d) _ x e (λ course c e.
    subst FitsCommand (some_is _ x e) (student_there d student s, required_fits course_in FitsCourse course_fits (codes "course") d course c)))

swap_fits : Sound swap_in FitsCommand
unfolding swap_in
swap_fits d x e =
    bind_found (required student_in (codes "student") d) _ x e (λ student s e.
    bind_found (required (list_in course_in) (codes "give") d) _ x e (λ given g e.
    bind_found (required (list_in take_in) (codes "take") d) _ x e (λ taken t e.
    bind_found (budget_in d) _ x e (λ budget b e.
    subst FitsCommand (some_is _ x e) (
      student_there d student s,
      required_fits (list_in course_in) (FitsList FitsCourse) (list_fits course_in FitsCourse course_fits) (codes "give") d given g,
      required_fits (list_in take_in) (FitsList FitsWant) (list_fits take_in FitsWant take_fits) (codes "take") d taken t,
      budget_fits d budget b,
    )))))

wait_fits : Sound wait_in FitsCommand
unfolding wait_in
wait_fits d x e =
    bind_found (required student_in (codes "student") d) _ x e (λ student s e.
    bind_found (want_in d) _ x e (λ want w e.
    bind_found (optional None (optional_in course_in) (codes "give") d) _ x e (λ given g e.
    bind_found (optional 5 (ranged 9) (codes "class") d) _ x e (λ class c e.
    subst FitsCommand (some_is _ x e) (
      student_there d student s,
      want_fits d want w,
      default_fits (optional_in course_in) (FitsOptional FitsCourse) (optional_fits course_in FitsCourse course_fits) None tt (codes "give") d given g,
      default_fits (ranged 9) (FitsStated 9) (ranged_fits 9) 5 (lit≤ tt, lit≤ tt) (codes "class") d class c,
    )))))

unwait_fits : Sound unwait_in FitsCommand
unfolding unwait_in
unwait_fits d x e =
    bind_found (required student_in (codes "student") d) _ x e (λ student s e.
    bind_found (required u64_in (codes "ticket") d) _ x e (λ ticket t e.
    subst FitsCommand (some_is _ x e) (student_there d student s, required_fits u64_in Fits64 (small_fits 18446744073709551615) (codes "ticket") d ticket t)))

-- a command that is spelled out has a text
spelled_fits : (shown : Bool) (c : Command) (words : List (List ℕ)) → IsCommand shown c words → FitsCommand c
spelled_fits shown (commands.Offering row) words is = is.0
spelled_fits shown (commands.Student row) words is = is.0
spelled_fits shown (commands.Requests student asked) words is = is.0
spelled_fits shown (commands.Reserve row) words is = is.0
spelled_fits shown (commands.Unreserve id) words is = is.0
spelled_fits shown (commands.Expire id expiry) words is = is.0
spelled_fits shown (commands.Restrict row) words is = is.0
spelled_fits shown (commands.Unrestrict id) words is = is.0
spelled_fits shown (commands.SetLimit cap limit) words is = is.0
spelled_fits shown (commands.Cancel id) words is = is.0
spelled_fits shown (commands.Enrol student want budget) words is = is.6
spelled_fits shown (commands.Drop student course) words is = is.0
spelled_fits shown (commands.Swap student given taken budget) words is = is.4
spelled_fits shown (commands.Wait student want give class) words is = is.6
spelled_fits shown (commands.Unwait student ticket) words is = is.0
spelled_fits shown (commands.Batch students) words is = is.0

text_fits : Sound text_in FitsCommand
text_fits d c e = bind_found (as_str d) written c e (λ text is e.
    let f = command_found true (pieces 32 text) c [] (whole_found (command_at true (pieces 32 text)) c e) in
    spelled_fits true c f.0 f.1)

arguments_fit : (verb : Verb) → Sound (arguments_in verb) FitsCommand
arguments_fit verbs.Enrol = enrol_fits
arguments_fit verbs.Drop = drop_fits
arguments_fit verbs.Swap = swap_fits
arguments_fit verbs.Wait = wait_fits
arguments_fit verbs.Unwait = unwait_fits
arguments_fit verbs.Line = required_fits text_in FitsCommand text_fits (codes "text")

command_fits : (verb : Verb) → Sound (command_with verb) FitsCommand
unfolding command_with
command_fits verb d c e = if_found (has_only (names_of verb) d) (arguments_in verb d) None c e (λ named e. arguments_fit verb d c e) (λ other e. absurd (cc))

cause_found : {X Y : Type 0} (n : ℕ) (o : Option X) (f : X → _) (y : Y) {G : Type 0} → and_then (or_cause n o) f ≡ Ok y → ((x : X) → o ≡ Some x → f x ≡ Ok y → G) → G
cause_found n None f y e k = absurd (cc)
cause_found n (Some x) f y e k = k x refl e

last_found : (o : Option Command) (c : Command) → or_cause 2 o ≡ Ok c → o ≡ Some c
last_found None c e = absurd (cc)
last_found (Some x) c e = let same : x ≡ c = cc in ap Some same

pub body_fits : (body : List ℕ) (c : Command) → command_of body ≡ Ok c → FitsCommand c
unfolding command_of
body_fits body c e = cause_found 0 (object_in body) _ c e (λ d object e. cause_found 1 (required verb_in (codes "verb") d) _ c e (λ verb named e.
    command_fits verb d c (last_found (command_with verb d) c e)))
