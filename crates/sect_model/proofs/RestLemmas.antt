-- The rest of a path is a path.
use Rattle.std.specs.Prelude.{◌≡◌, nat_le, Bool, true, false, cond, List, [], ◌∷◌, ◌++◌, length, Option, Some, None, refl}
use Rattle.std.specs.Option.{option_map_or}
use Rattle.std.proofs.Common.{sym, ◌∙◌, ap}
use Rattle.sect_model.specs.Data.{StudentId, CourseId, ReservationId, ConfigId, SectionId, Choice, Want, Move, Pick, Enrolment}
use Rattle.sect_model.specs.declared.pick.Pick.TheVariants.{Course as picks_course, Reservation as picks_reservation, Config as picks_config, Section as picks_section}
use Rattle.sect_model.specs.World.{World, enrol, enrol_all, leave, leave_all}
use Rattle.sect_model.specs.Path.{Path, options_for, close, sections_due}
use Rattle.sect_model.specs.Rules.{world_at, rules_on, first_broken, leaf_of}
use Rattle.sect_model.specs.Rest.{rest_path, in_front, RestIsPath, RestHasOptions, RestExtends}

-- ---- only the roster differs

enrol-only : (cs : List Choice) (w : World) (st : StudentId) → enrol_all w st cs ≡ record w { roster = (enrol_all w st cs).roster }
enrol-only [] w st = refl
enrol-only (c ∷ cs) w st = enrol-only cs (enrol w st c) st

leave-only : (cs : List CourseId) (w : World) (st : StudentId) → leave_all w st cs ≡ record w { roster = (leave_all w st cs).roster }
leave-only [] w st = refl
leave-only (c ∷ cs) w st = leave-only cs (leave w st c) st

pub only-roster : (w : World) (mv : Move) (p : Path) → world_at w mv p ≡ record w { roster = (world_at w mv p).roster }
only-roster w mv p =
    enrol-only p.done (leave_all w mv.student mv.give) mv.student
    ∙ (λ i. record (leave-only mv.give w mv.student i) { roster = (world_at w mv p).roster })

options-kept : (w : World) (es : List Enrolment) (want : Want) (c : Option CourseId) (r : Option (Option ReservationId)) (g : Option ConfigId) (ss : List SectionId)
    → options_for w want c r g ss ≡ options_for (record w { roster = es }) want c r g ss
options-kept w es want None r g ss = refl
options-kept w es want (Some c) None g ss = refl
options-kept w es want (Some c) (Some r) None ss = refl
options-kept w es want (Some c) (Some r) (Some g) ss = refl

due-kept : (w : World) (es : List Enrolment) (c : Option CourseId) (g : Option ConfigId) → sections_due w c g ≡ sections_due (record w { roster = es }) c g
due-kept w es None g = refl
due-kept w es (Some c) None = refl
due-kept w es (Some c) (Some g) = refl

-- ---- the laws

same-rules : (v : World) (st : StudentId) (want : Want) (p : Path) (pick : Pick) → rules_on v st want p pick ≡ rules_on v st want (rest_path p) pick
same-rules v st want p (picks_course c) = refl
same-rules v st want p (picks_reservation r) = refl
same-rules v st want p (picks_config g) = refl
same-rules v st want p (picks_section s) = refl

pub rest-is-path : RestIsPath
unfolding leaf_of
rest-is-path w mv want p pick e =
    ap (λ x. option_map_or (λ want. first_broken (rules_on (world_at w mv p) mv.student want p pick)) x None) e
    ∙ ap first_broken (same-rules (world_at w mv p) mv.student want p pick)

pub rest-has-options : RestHasOptions
rest-has-options w mv want p e =
    ap (λ x. option_map_or (λ want. options_for w want p.course p.reservation p.config p.sections) x []) e
    ∙ options-kept w (world_at w mv p).roster want p.course p.reservation p.config p.sections
    ∙ ap (λ v. options_for v want p.course p.reservation p.config p.sections) (sym (only-roster w mv p))

none-behind : {X : Type 0} (xs : List X) → xs ≡ xs ++ []
none-behind [] = refl
none-behind (x ∷ xs) = ap (λ ys. x ∷ ys) (none-behind xs)

pub rest-extends : RestExtends
rest-extends w mv p (picks_course c) = λ i. record { done = none-behind p.done i; course = Some c; reservation = p.reservation; config = p.config; sections = p.sections }
rest-extends w mv p (picks_reservation r) = λ i. record { done = none-behind p.done i; course = p.course; reservation = Some r; config = p.config; sections = p.sections }
rest-extends w mv p (picks_config g) = λ i. record { done = none-behind p.done i; course = p.course; reservation = p.reservation; config = Some g; sections = p.sections }
rest-extends w mv p (picks_section s) =
    by_whole p.course p.reservation p.config (nat_le (sections_due w p.course p.config) (length more))
    ∙ (λ i. in_front p.done (cond (nat_le (due i) (length more)) (close q p.course p.reservation p.config) q))
  where
    more : List SectionId
    more = p.sections ++ s ∷ []

    q : Path
    q = record { done = []; course = p.course; reservation = p.reservation; config = p.config; sections = more }

    due : sections_due w p.course p.config ≡ sections_due (world_at w mv p) p.course p.config
    due = due-kept w (world_at w mv p).roster p.course p.config ∙ ap (λ v. sections_due v p.course p.config) (sym (only-roster w mv p))

    open_on : (c : Option CourseId) (r : Option (Option ReservationId)) (g : Option ConfigId) → Path
    open_on c r g = record { done = p.done; course = c; reservation = r; config = g; sections = more }

    rest_on : (c : Option CourseId) (r : Option (Option ReservationId)) (g : Option ConfigId) → Path
    rest_on c r g = record { done = []; course = c; reservation = r; config = g; sections = more }

    stays : (c : Option CourseId) (r : Option (Option ReservationId)) (g : Option ConfigId) → open_on c r g ≡ in_front p.done (rest_on c r g)
    stays c r g = λ i. record { done = none-behind p.done i; course = c; reservation = r; config = g; sections = more }

    by_whole : (c : Option CourseId) (r : Option (Option ReservationId)) (g : Option ConfigId) (b : Bool)
        → cond b (close (open_on c r g) c r g) (open_on c r g) ≡ in_front p.done (cond b (close (rest_on c r g) c r g) (rest_on c r g))
    by_whole c r g false = stays c r g
    by_whole (Some c) (Some r) (Some g) true = refl
    by_whole (Some c) (Some r) None true = stays (Some c) (Some r) None
    by_whole (Some c) None g true = stays (Some c) None g
    by_whole None r g true = stays None r g
