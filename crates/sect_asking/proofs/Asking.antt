-- Lines that ask, and what answers them.
use Rattle.std.proofs.Common.{◌≡◌, ℕ, false, true, List, ◌++◌, refl, sym, ap, ◌∙◌, subst}
use Rattle.std.specs.Prelude.{Option, None, Some, Result, Ok, Err, IfSome, OnOk, codes, decimal, slice_get}
use Rattle.sect_base.specs.declared.limit.Caller.{Caller}
use Rattle.sect_base.specs.declared.limit.Id.{Id}
use Rattle.sect_command.specs.declared.command.Command.{Command}
use Rattle.sect_command.specs.declared.command.Command.TheVariants as commands
use Rattle.sect_command.specs.declared.reply.Reply.{Reply}
use Rattle.sect_edge.specs.Causes.{Rose}
use Rattle.sect_once.specs.declared.answer.Answer.{Answer}
use Rattle.sect_once.specs.declared.answer.Answer.TheVariants as answers
use Rattle.sect_once.specs.declared.entry.Entry.{Entry}
use Rattle.sect_once.specs.declared.entry.Note.{Note}
use Rattle.sect_once.specs.Desks.{Standing, Answers as AnswersAsk}
use Rattle.sect_once.specs.History.{history, IsFull}
use Rattle.sect_once.specs.Told.{TellsReply}
use Rattle.sect_text.specs.Replies.{reply_text}
use Rattle.sect_wire.specs.Objects.{TellsTexts}
use Rattle.sect_script.specs.declared.script.LineFault.{LineFault}
use Rattle.sect_read.specs.declared.fault.WireFault.{WireFault}
use Rattle.sect_read.specs.declared.fault.WireFault.TheVariants as wire
use Rattle.sect_read.specs.declared.line.LineAsk.{LineAsk}
use Rattle.sect_wire.specs.Fits.{FitsCommand, FitsId}
use Rattle.sect_wire.specs.Lines.{IsCommand, IsLine}
use Rattle.sect_wire.specs.ReadingLines.{Says}
use Rattle.sect_asking.specs.AnswerLines.{answer_line}
use Rattle.sect_asking.specs.Asks.{is_passed_over, AnswersScript, AnswersText, HasReply, IsAskedOn, IsAsking, IsKnown, IsTold, Sitting}

-- what an answer says where the log has room and the keeper met no fault
pub is_told : {O K : Type 0} (stepped : O → ℕ → Caller → Command → O × Reply) (is_row : Entry Command Reply → List ℕ → Type 0) (rows : K → Option (List (List ℕ))) (faults : K → ℕ)
    (d n : Standing O Command Reply K) (id : Id) (day : ℕ) (command : Command) (answer : Answer Reply) → AnswersAsk stepped is_row rows faults id day command d n answer
    → (IsFull is_row d.log → ⊥) → (Rose (faults d.keeper) (faults n.keeper) → ⊥) → IsTold d.log id command answer
is_told stepped is_row rows faults d n id day command (answers.Done place reply) h room quiet = tt
is_told stepped is_row rows faults d n id day command (answers.NumberReused place) h room quiet = h.0
is_told stepped is_row rows faults d n id day command answers.LogFull h room quiet = room h.1
is_told stepped is_row rows faults d n id day command answers.KeeperFault h room quiet = quiet h.rose
is_told stepped is_row rows faults d n id day command answers.Memory h room quiet = tt

-- the line of an answer has the text that tells the reply of its entry
pub told_line : (is_told : Reply → List ℕ → Type 0) → TellsTexts is_told → (log : List (Note Command Reply)) (answer : Answer Reply) (place : ℕ) (reply : Reply) (text : List ℕ)
    → HasReply log answer → answer ≡ answers.Done place reply → TellsReply is_told (history log) place text
    → answer_line answer ≡ decimal place ++ (codes " " ++ (text ++ codes "\n"))
told_line is_told tells log answer place reply text has is told =
    let entry : (e : Entry Command Reply) × (slice_get (history log) place ≡ Some e) × (e.reply ≡ reply) = subst (HasReply log) is has in
    let same : text ≡ reply_text reply = tells entry.0.reply text (told entry.0 entry.1) ∙ ap reply_text entry.2 in
    ap answer_line is ∙ ap (λ (t : List ℕ). decimal place ++ (codes " " ++ (t ++ codes "\n"))) (sym same)

-- what holds where it went well
pub on_ok : {P Q : Type 0} (r : Result (Unit {0}) LineFault) → (P → Q) → OnOk r P → OnOk r Q
on_ok (Ok x) f p = f p
on_ok (Err fault) f p = tt

-- what holds of what is there
pub if_some : {A : Type 0} {P Q : A → Type 0} (o : Option A) → ((x : A) → P x → Q x) → IfSome o P → IfSome o Q
if_some None f p = tt
if_some (Some x) f p = f x p

-- the command of a line has a text
command_fits : (command : Command) (words : List (List ℕ)) → IsCommand true command words → FitsCommand command
command_fits (commands.Offering row) words h = h.0
command_fits (commands.Student row) words h = h.0
command_fits (commands.Requests student asked) words h = h.0
command_fits (commands.Reserve row) words h = h.0
command_fits (commands.Unreserve id) words h = h.0
command_fits (commands.Expire reservation expiry) words h = h.0
command_fits (commands.Restrict row) words h = h.0
command_fits (commands.Unrestrict id) words h = h.0
command_fits (commands.SetLimit cap limit) words h = h.0
command_fits (commands.Cancel id) words h = h.0
command_fits (commands.Enrol student want budget) words h = h.6
command_fits (commands.Drop student course) words h = h.0
command_fits (commands.Swap student given taken budget) words h = h.4
command_fits (commands.Wait student want give class) words h = h.6
command_fits (commands.Unwait student ticket) words h = h.0
command_fits (commands.Batch students) words h = h.0

-- the id and the command of a line have texts
pub line_fits : (line : List ℕ) (ask : LineAsk) → IsLine line ask → FitsId ask.id × FitsCommand ask.command
line_fits line ask h = (h.2, command_fits ask.command h.0 h.3)

-- a line that isn't passed over is answered by the answer to its request
pub answers_request : {O K : Type 0} (stepped : O → ℕ → Caller → Command → O × Reply) (is_row : Entry Command Reply → List ℕ → Type 0) (rows : K → Option (List (List ℕ))) (faults : K → ℕ)
    (old new : Sitting O Command Reply K) (line : List ℕ) (ask : LineAsk) (day : ℕ) (answer : Answer Reply) → is_passed_over line ≡ false → IsLine line ask
    → IsAskedOn ask.day old.days new.days day → AnswersAsk stepped is_row rows faults ask.id day ask.command old.desk new.desk answer
    → AnswersScript stepped is_row rows faults old line (answer_line answer) new
answers_request stepped is_row rows faults old new line ask day answer passed is on answered =
    subst (λ b. AnswersText stepped is_row rows faults b old line (answer_line answer) new) (sym passed)
    (record { ask = ask; day = day; answer = answer; is_line = is; on = on; answered = answered; told = is_told stepped is_row rows faults old.desk new.desk ask.id day ask.command answer answered; written = refl })

-- a line that was read in vain is no request
pub is_bad : (line : List ℕ) (fault : WireFault) → is_passed_over line ≡ false → ((ask : LineAsk) → IsLine line ask → Says (Err fault) (Ok ask))
    → (fault ≡ wire.Memory → ⊥) → IsKnown line → ⊥
is_bad line wire.BadLine passed only most known =
    let asks : IsAsking false line = subst (λ b. IsAsking b line) passed known in
    let told : Says (Err wire.BadLine) (Ok asks.0) = only asks.0 asks.1 in cc
is_bad line wire.UnknownVerb passed only most known =
    let asks : IsAsking false line = subst (λ b. IsAsking b line) passed known in
    let told : Says (Err wire.UnknownVerb) (Ok asks.0) = only asks.0 asks.1 in cc
is_bad line (wire.BadBody cause) passed only most known =
    let asks : IsAsking false line = subst (λ b. IsAsking b line) passed known in
    absurd (only asks.0 asks.1)
is_bad line wire.Memory passed only most known = most refl
