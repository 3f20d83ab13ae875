-- What is said of a reply doesn't depend on the day.
use Rattle.std.proofs.Common.{◌≡◌, ◌∙◌, ℕ, ◌+◌, List, [], ◌∷◌, ◌++◌, refl, ap, Option, None, Some}
use Rattle.std.specs.Prelude.{cond, nat_le, length}
use Rattle.std.specs.Option.{option_map_or}
use Rattle.sect_base.specs.Tree.{Tree, Trees, broken, split, none, more}
use Rattle.sect_base.specs.declared.rule.Rule.{Rule}
use Rattle.sect_base.specs.declared.rule.Rule.TheVariants.{InOffering, Credits, NotApplicable, Expired, UsedUp, MustUse, CourseFull, OfferingFull, OfferingReserved, ConfigFull, ConfigReserved, NotIncluded, Restricted, Cancelled, Parent, SectionFull, SectionReserved, Overlap, FreeTime, NotAsked}
use Rattle.sect_command.specs.declared.command.Command.{Command}
use Rattle.sect_command.specs.declared.reply.Line.{Line}
use Rattle.sect_command.specs.declared.reply.LineResult.{LineResult}
use Rattle.sect_command.specs.declared.reply.LineResult.TheVariants as results
use Rattle.sect_command.specs.declared.reply.Reply.{Reply}
use Rattle.sect_command.specs.declared.reply.Reply.TheVariants as replies
use Rattle.sect_explain.specs.Explained.{decision_line, explain_below, explain_each, indent, verdict_text}
use Rattle.sect_explain.specs.Reason.{pick_text, reason_text}
use Rattle.sect_explain.specs.Replied.{explain_lines, explain_move, explain_result, has_blocked, reply_explained, requested, request_line, unblocked_text}
use Rattle.sect_model.specs.Change.{put_day}
use Rattle.sect_model.specs.Data.{ConfigId, CourseId, Move, ReservationId, SectionId, StudentId, Want}
use Rattle.sect_model.specs.declared.pick.Pick.{Pick}
use Rattle.sect_model.specs.declared.pick.Pick.TheVariants as picks
use Rattle.sect_model.specs.Path.{Path, close, close_if_whole, extend, options_at, options_for, sections_due, start, want_at}
use Rattle.sect_model.specs.Refuted.{move_in}
use Rattle.sect_model.specs.World.{World}

module _ (w : World) (day : ℕ) where
  abbrev later : World
  later = put_day w day

  same_options_for : (want : Want) (course : Option CourseId) (reservation : Option (Option ReservationId)) (config : Option ConfigId) (sections : List SectionId)
      → options_for later want course reservation config sections ≡ options_for w want course reservation config sections
  same_options_for want None r g ss = refl
  same_options_for want (Some c) None g ss = refl
  same_options_for want (Some c) (Some r) None ss = refl
  same_options_for want (Some c) (Some r) (Some g) ss = refl

  abbrev options_by : Path → World → Option Want → List Pick
  options_by p v want = option_map_or (λ x. options_for v x p.course p.reservation p.config p.sections) want []

  same_options_by : (p : Path) (want : Option Want) → options_by p later want ≡ options_by p w want
  same_options_by p None = refl
  same_options_by p (Some want) = same_options_for want p.course p.reservation p.config p.sections

  same_due : (course : Option CourseId) (config : Option ConfigId) → sections_due later course config ≡ sections_due w course config
  same_due None config = refl
  same_due (Some c) None = refl
  same_due (Some c) (Some g) = refl

  same_close : (p : Path) → close_if_whole later p ≡ close_if_whole w p
  same_close p = ap (λ (n : ℕ). cond (nat_le n (length p.sections)) (close p p.course p.reservation p.config) p) (same_due p.course p.config)

  same_extend : (p : Path) (pick : Pick) → extend later p pick ≡ extend w p pick
  same_extend p (picks.Course c) = refl
  same_extend p (picks.Reservation r) = refl
  same_extend p (picks.Config g) = refl
  same_extend p (picks.Section s) = same_close (record p { sections = p.sections ++ s ∷ [] })

  same_reason : (rule : Rule) (n : ℕ) → reason_text later rule n ≡ reason_text w rule n
  same_reason InOffering n = refl
  same_reason Credits n = refl
  same_reason NotApplicable n = refl
  same_reason Expired n = refl
  same_reason UsedUp n = refl
  same_reason MustUse n = refl
  same_reason CourseFull n = refl
  same_reason OfferingFull n = refl
  same_reason OfferingReserved n = refl
  same_reason ConfigFull n = refl
  same_reason ConfigReserved n = refl
  same_reason NotIncluded n = refl
  same_reason Restricted n = refl
  same_reason Cancelled n = refl
  same_reason Parent n = refl
  same_reason SectionFull n = refl
  same_reason SectionReserved n = refl
  same_reason Overlap n = refl
  same_reason FreeTime n = refl
  same_reason NotAsked n = refl

  same_verdict : (t : Tree) → verdict_text later t ≡ verdict_text w t
  same_verdict (broken rule n) = same_reason rule n
  same_verdict (split ts) = refl

  same_line : (depth : ℕ) (pick : Pick) (t : Tree) → decision_line later depth pick t ≡ decision_line w depth pick t
  same_line depth pick t = ap (λ (text : List ℕ). indent depth ++ (pick_text pick ++ text)) (same_verdict t)

  mutual
    same_below : (mv : Move) (p : Path) (depth : ℕ) (t : Tree) → explain_below later mv p depth t ≡ explain_below w mv p depth t
    same_below mv p depth (broken rule n) = refl
    same_below mv p depth (split ts) =
        ap (λ (options : List Pick). explain_each later mv p depth options ts) (same_options_by p (want_at mv p)) ∙ same_each mv p depth (options_at w mv p) ts

    same_each : (mv : Move) (p : Path) (depth : ℕ) (options : List Pick) (ts : Trees) → explain_each later mv p depth options ts ≡ explain_each w mv p depth options ts
    same_each mv p depth [] ts = refl
    same_each mv p depth (pick ∷ options) none = refl
    same_each mv p depth (pick ∷ options) (more t ts) =
        let then : explain_below later mv (extend later p pick) (depth + 1) t ≡ explain_below w mv (extend w p pick) (depth + 1) t =
        ap (λ (q : Path). explain_below later mv q (depth + 1) t) (same_extend p pick) ∙ same_below mv (extend w p pick) (depth + 1) t in
        λ i. same_line depth pick t i ++ (then i ++ same_each mv p depth options ts i)

  same_move : (mv : Option Move) (t : Tree) → explain_move later mv t ≡ explain_move w mv t
  same_move None t = refl
  same_move (Some mv) t = same_below mv start 0 t

  same_result : (student : StudentId) (rank : ℕ) (result : LineResult) → explain_result later student rank result ≡ explain_result w student rank result
  same_result student rank (results.Met choice) = refl
  same_result student rank (results.Held course) = refl
  same_result student rank (results.Blocked visits tree) = ap (λ (text : List ℕ). request_line student rank ++ text) (same_move (requested w student rank) tree)
  same_result student rank results.Spent = refl
  same_result student rank (results.Waiting ticket) = refl
  same_result student rank results.Skipped = refl

  same_lines : (lines : List Line) → explain_lines later lines ≡ explain_lines w lines
  same_lines [] = refl
  same_lines (l ∷ lines) = λ i. same_result l.student l.rank l.result i ++ same_lines lines i

  pub same_reply : (command : Command) (reply : Reply) → reply_explained later command reply ≡ reply_explained w command reply
  same_reply command (replies.Blocked visits tree) = same_move (move_in command) tree
  same_reply command (replies.Batched lines) = ap (λ (text : List ℕ). cond (has_blocked lines) text unblocked_text) (same_lines lines)
  same_reply command replies.Amended = refl
  same_reply command (replies.Enrolled choice) = refl
  same_reply command (replies.Dropped course) = refl
  same_reply command (replies.Swapped choices) = refl
  same_reply command (replies.Waiting ticket) = refl
  same_reply command (replies.Placed ticket choice) = refl
  same_reply command (replies.Spent budget) = refl
  same_reply command (replies.Refused refusal) = refl
