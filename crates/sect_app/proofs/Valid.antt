-- Valid input ends Done, or for want of memory.
use Rattle.std.proofs.Common.{◌≡◌, ◌≢◌, ◌⊎◌, ℕ, suc, ◌+◌, ◌^◌, ◌≤◌, Bool, true, false, List, [], ◌∷◌, ◌++◌, Option, None, Some, length, length-append, refl, sym, ap, ◌∙◌, subst, inl, inr, append-nil, arith}
use Rattle.std.specs.Prelude.{All, IfSome, IsSome, unwrap_or, ⊤}
use Rattle.std.specs.Io.KnownBytes.{Consumes, IsAtEnd}
use Rattle.std.specs.Option.{IsSomeAnd}
use Rattle.sect_command.specs.declared.view.Table.{Table}
use Rattle.sect_csv.specs.Intake.{read_so_far}
use Rattle.sect_edge.specs.Causes.{Rose}
use Rattle.sect_edge.specs.Link.{Connections}
use Rattle.sect_history.specs.Step.{stepped}
use Rattle.sect_model.specs.World.{empty_state}
use Rattle.sect_once.specs.Opening.{IsCause, IsFirstBad}
use Rattle.sect_once.specs.declared.answer.OpenFault.{OpenFault}
use Rattle.sect_once.specs.declared.answer.OpenFault.TheVariants as shut
use Rattle.sect_tables.specs.Rows.{Step}
use Rattle.sect_tables.specs.declared.given.Given.{Given}
use Rattle.sect_wire.specs.Laws.{IsRow}
use Rattle.sect_script.specs.Lines.{Line}
use Rattle.sect_script.specs.Run.{Ahead, IsRest, LINES_LIMIT, NextIsBad}
use Rattle.sect_script.specs.Statuses.{Says, status_of}
use Rattle.sect_script.specs.declared.script.RunEnd.{RunEnd}
use Rattle.sect_script.specs.declared.script.RunEnd.TheVariants as ends
use Rattle.sect_script.specs.declared.status.Status.{Status}
use Rattle.sect_script.specs.declared.status.Status.TheVariants as statuses
use Rattle.sect_asking.specs.Asks.{IsKnown}
use Rattle.sect_asking.specs.Desk.{shut_status}
use Rattle.sect_app.specs.Table.{AtBadRow, AtEnd, AtMemory, AtReadFault, AtWriteFault, EndsTable, OpenWithoutNumber, PastLimit, TABLE_LIMIT, WithoutNumber}
use Rattle.sect_app.specs.Made.{Prints}
use Rattle.sect_serve.specs.Serving.{SomeRose}
use Rattle.sect_serve.specs.declared.serving.ServeEnd.{ServeEnd}
use Rattle.sect_serve.specs.declared.serving.ServeEnd.TheVariants as serve_ends
use Rattle.sect_tell.specs.Told.{PrintsBy}
use Rattle.sect_usage.specs.declared.words.Words.{Words}
use Rattle.sect_usage.specs.declared.words.Words.TheVariants as asked
use Rattle.sect_app.proofs.Tables.{Fronts, fronts}
use Rattle.sect_app.specs.Machine.{DeskDoes, DeskStaysShut}
use Rattle.sect_app.specs.Serving.{ServesOver, serve_status}
use Rattle.sect_app.specs.Top.{IsUnfaulted, sessions_in}
use Rattle.sect_app.specs.Valid.{AllOpen, AreValidLines, AreValidRows, IsDoneOrMemory, IsValid, IsValidLine, NoneRose}

-- without a fault it is done, or memory is wanted
abbrev pub EndsWell : Status → Type 0
EndsWell status = IsUnfaulted status → IsDoneOrMemory status

-- a status that tells none of the four faults
pub unfaulted : (status : Status) → (status ≡ statuses.ReadFault → ⊥) → (status ≡ statuses.WriteFault → ⊥) → (status ≡ statuses.KeeperFault → ⊥)
    → (status ≡ statuses.LinkFault → ⊥) → IsUnfaulted status
unfaulted statuses.Done read write keeper link = tt
unfaulted statuses.BadWords read write keeper link = tt
unfaulted (statuses.BadLine line field) read write keeper link = tt
unfaulted statuses.ReadFault read write keeper link = read refl
unfaulted statuses.WriteFault read write keeper link = write refl
unfaulted statuses.KeeperFault read write keeper link = keeper refl
unfaulted (statuses.BadEntry row) read write keeper link = tt
unfaulted statuses.LinkFault read write keeper link = link refl
unfaulted statuses.Memory read write keeper link = tt

-- none of the rows is the first bad one
none_is_bad : (told : Option (List (List ℕ))) (row : ℕ) → IsSomeAnd told AllOpen → IsFirstBad empty_state stepped IsRow told row → ⊥
none_is_bad None row opens bad = absurd opens
none_is_bad (Some rows) row opens bad = opens row bad

module _ {K : Type 0} (rows : K → Option (List (List ℕ))) (faults : K → ℕ) where
  shut_ends : (keeper back : K) (fault : OpenFault) → IsSomeAnd (rows keeper) AllOpen → IsCause empty_state stepped IsRow rows faults keeper back fault
      → EndsWell (shut_status fault)
  shut_ends keeper back shut.KeeperFault opens cause = λ well. absurd well
  shut_ends keeper back (shut.BadEntry row) opens cause = λ well. absurd (none_is_bad (rows keeper) row opens cause)
  shut_ends keeper back shut.Memory opens cause = λ well. inr refl

  -- a keeper that doesn't open
  stays_shut : (keeper back : K) (left left' taken taken' : Option (List ℕ)) (status : Status) → IsSomeAnd (rows keeper) AllOpen
      → DeskStaysShut rows faults keeper back left left' taken taken' status → EndsWell status
  stays_shut keeper back left left' taken taken' status opens s = subst EndsWell (sym s.status_is) (shut_ends keeper back s.fault opens s.cause)

-- what holds of all holds of each
all_at : {X : Type 0} (P : X → Type 0) (front : List X) (x : X) (rest : List X) → All P (front ++ x ∷ rest) → P x
all_at P [] x rest all = all 0 x (omega arith)
all_at P (y ∷ front) x rest all = all_at P front x rest (λ k d less. all (suc k) d (omega (arith, less)))

-- of valid lines the next is neither bad nor one too many
no_bad_line : (lines rest : List Line) (limit : ℕ) → length (lines ++ rest) ≤ limit → All IsValidLine (lines ++ rest)
    → limit ≡ LINES_LIMIT → NextIsBad IsKnown (length lines) rest → ⊥
no_bad_line lines rest limit few valid is (bad, more, next, inl many) =
    let long = ap length next in
    omega (arith, few, is, many, long, length-append lines rest)
no_bad_line lines rest limit few valid is (bad, more, next, inr unknown) =
    let one = all_at IsValidLine lines bad more (subst (λ (behind : List Line). All IsValidLine (lines ++ behind)) next valid) in
    unknown one.0 one.1

ahead_ends : (end : RunEnd) (input : Option (List ℕ)) (lines : List Line) → IsSomeAnd input AreValidLines → Ahead input lines (IsRest IsKnown end (length lines))
    → EndsWell (status_of end)
ahead_ends ends.Done input lines valid ahead = λ well. inl refl
ahead_ends (ends.BadLine number field) None lines valid ahead = absurd valid
ahead_ends (ends.BadLine number field) (Some text) lines valid (rest, split, bad) = λ well.
    absurd (no_bad_line lines rest LINES_LIMIT (subst (λ (all : List Line). length all ≤ LINES_LIMIT) split valid.0) (subst (All IsValidLine) split valid.1) refl bad)
ahead_ends ends.ReadFault input lines valid ahead = λ well. absurd well
ahead_ends ends.WriteFault input lines valid ahead = λ well. absurd well
ahead_ends ends.Memory input lines valid ahead = λ well. inr refl

-- no line or row was bad
abbrev pub IsNotBad : RunEnd → Type 0
IsNotBad ends.Done = ⊤
IsNotBad (ends.BadLine row field) = ⊥
IsNotBad ends.ReadFault = ⊤
IsNotBad ends.WriteFault = ⊤
IsNotBad ends.Memory = ⊤

not_bad_ends : (end : RunEnd) → IsNotBad end → EndsWell (status_of end)
not_bad_ends ends.Done good = λ well. inl refl
not_bad_ends (ends.BadLine row field) good = absurd good
not_bad_ends ends.ReadFault good = λ well. absurd well
not_bad_ends ends.WriteFault good = λ well. absurd well
not_bad_ends ends.Memory good = λ well. inr refl

module _ (first : ℕ) (shown whole : Step) (read more : List ℕ) (ended : Bool) (given : List Given) where
  -- of a table with no bad row, in its bytes, each command of which has a number
  table_ends : {end : RunEnd} → EndsTable first shown read more ended given end → (more ≡ [] → Fronts shown whole) → whole.0.fault ≡ None
      → first + length whole.1 ≤ 2 ^ 64 → length (read ++ more) ≤ TABLE_LIMIT → IsNotBad end
  table_ends (AtEnd all well is none) known good numbers small = tt
  table_ends (AtBadRow row field bad is has none) known good numbers small =
      let two = sym ((known none).bad (row, field) bad) ∙ good in absurd cc
  table_ends (WithoutNumber next rest is full none) known good numbers small =
      omega (arith, (known none).fewer, ap length is, length-append given (next ∷ rest), full, numbers)
  table_ends (OpenWithoutNumber row out is none) known good numbers small =
      omega (arith, (known none).begun_is_given row out.0 good, ap length is, out.1, numbers)
  table_ends (PastLimit row is going well given_is has full one) known good numbers small =
      omega (arith, full, one, length-append read more, small)
  table_ends (AtReadFault going well is has none) known good numbers small = tt
  table_ends (AtWriteFault none) known good numbers small = tt
  table_ends AtMemory known good numbers small = tt

-- what the bytes that were taken of a table tell of it
import_ends : (table : Table) (term : Option ℕ) (first : ℕ) (input left' : Option (List ℕ)) (read more : List ℕ) (ended : Bool) (given : List Given) (end : RunEnd)
    → IsSomeAnd input (AreValidRows table term first) → Consumes input left' (read ++ more) → (ended ≡ true → IsAtEnd left')
    → EndsTable first (read_so_far table term read ended) read more ended given end → EndsWell (status_of end)
import_ends table term first None left' read more ended given end valid consumed at_end how = absurd valid
import_ends table term first (Some text) None read more ended given end valid consumed at_end how = absurd consumed
import_ends table term first (Some text) (Some rest) read more ended given end valid consumed at_end how =
    let known : more ≡ [] → Fronts (read_so_far table term read ended) (read_so_far table term text true) = λ none.
    let is : read ++ rest ≡ text = ap (λ (m : List ℕ). m ++ rest) (sym (append-nil read)) ∙ ap (λ (m : List ℕ). (read ++ m) ++ rest) (sym none) ∙ sym consumed in
    subst (λ (t : List ℕ). Fronts (read_so_far table term read ended) (read_so_far table term t true)) is (fronts table term read rest ended at_end) in
    let small : length (read ++ more) ≤ TABLE_LIMIT = omega (arith, valid.small, ap length consumed, length-append (read ++ more) rest) in
    not_bad_ends end (table_ends first (read_so_far table term read ended) (read_so_far table term text true) read more ended given how known valid.well valid.numbers small)

-- where neither the words nor the input are called bad
no_bad_input : (P : Status → Type 0) → (P statuses.BadWords → ⊥) → ((line field : ℕ) → P (statuses.BadLine line field) → ⊥) → ((row : ℕ) → P (statuses.BadEntry row) → ⊥)
    → (status : Status) → P status → EndsWell status
no_bad_input P words line entry statuses.Done is = λ well. inl refl
no_bad_input P words line entry statuses.BadWords is = absurd (words is)
no_bad_input P words line entry (statuses.BadLine number field) is = absurd (line number field is)
no_bad_input P words line entry statuses.ReadFault is = λ well. absurd well
no_bad_input P words line entry statuses.WriteFault is = λ well. absurd well
no_bad_input P words line entry statuses.KeeperFault is = λ well. absurd well
no_bad_input P words line entry (statuses.BadEntry row) is = absurd (entry row is)
no_bad_input P words line entry statuses.LinkFault is = λ well. absurd well
no_bad_input P words line entry statuses.Memory is = λ well. inr refl

printed : (IsText : List ℕ → Type 0) (taken taken' : Option (List ℕ)) (status : Status) → PrintsBy IsText taken taken' status → EndsWell status
printed IsText taken taken' = no_bad_input (PrintsBy IsText taken taken') (λ is. is) (λ line field is. is) (λ row is. is)

summed : (text : List ℕ) (taken taken' : Option (List ℕ)) (status : Status) → Prints text taken taken' status → EndsWell status
summed text taken taken' = no_bad_input (Prints text taken taken') (λ is. is) (λ line field is. is) (λ row is. is)

said : (text : List ℕ) (taken taken' : Option (List ℕ)) (status : Status) → Says text taken taken' status → EndsWell status
said text taken taken' = no_bad_input (Says text taken taken') (λ is. is) (λ line field is. is) (λ row is. is)

module _ {K : Type 0} (rows : K → Option (List (List ℕ))) (faults : K → ℕ) (keeper back : K) (left left' taken taken' days : Option (List ℕ)) (status : Status) where
  -- what was done by one session for valid input
  pub does_well : (words : Words) → sessions_in words ≡ None → DeskDoes rows faults words keeper back left left' taken taken' days status
      → IsValid words (rows keeper) left → EndsWell status
  does_well asked.Run alone (inl desk) valid =
      subst EndsWell (sym desk.runs.status_is) (ahead_ends desk.runs.end left desk.runs.ran.lines valid.1 desk.runs.ran.input)
  does_well asked.Run alone (inr s) valid = stays_shut rows faults keeper back left left' taken taken' status valid.0 s
  does_well (asked.Serve port workers sessions) alone does valid = absurd cc
  does_well (asked.Make offerings) alone ((day, days', gives, prints), same) valid = summed _ taken taken' status prints
  does_well asked.Audit alone (inl audits) valid = printed _ taken taken' status audits.told.prints
  does_well asked.Audit alone (inr s) valid = stays_shut rows faults keeper back left left' taken taken' status valid s
  does_well (asked.Report query) alone (inl tells) valid = printed _ taken taken' status tells.prints
  does_well (asked.Report query) alone (inr s) valid = stays_shut rows faults keeper back left left' taken taken' status valid s
  does_well (asked.Import table first term) alone (inl desk) valid =
      let ran = desk.runs.ran in
      subst EndsWell (sym desk.runs.status_is)
      (import_ends table term first left left' ran.read ran.more ran.ended ran.asks.asked desk.runs.end valid.1 ran.consumed ran.at_end ran.asks.how)
  does_well (asked.Import table first term) alone (inr s) valid = stays_shut rows faults keeper back left left' taken taken' status valid.0 s
  does_well (asked.Export table) alone (inl tells) valid = printed _ taken taken' status tells.prints
  does_well (asked.Export table) alone (inr s) valid = stays_shut rows faults keeper back left left' taken taken' status valid s
  does_well (asked.Plan student budget) alone (inl tells) valid = printed _ taken taken' status tells.prints
  does_well (asked.Plan student budget) alone (inr s) valid = stays_shut rows faults keeper back left left' taken taken' status valid s
  does_well asked.Survey alone (inl tells) valid = printed _ taken taken' status tells.prints
  does_well asked.Survey alone (inr s) valid = stays_shut rows faults keeper back left left' taken taken' status valid s
  does_well (asked.Help topic) alone (says, same) valid = said _ taken taken' status says
  does_well asked.Version alone (says, same) valid = said _ taken taken' status says

-- how serving ends
served_ends : (end : ServeEnd) → EndsWell (serve_status end)
served_ends serve_ends.Done = λ well. inl refl
served_ends serve_ends.LinkFault = λ well. absurd well
served_ends serve_ends.Memory = λ well. inr refl

module _ {I T L K : Type 0} (rows : K → Option (List (List ℕ))) (keeper_faults : K → ℕ)
    (left : I → Option (List ℕ)) (taken : T → Option (List ℕ)) (in_faults : I → ℕ) (out_faults : T → ℕ)
    (connections : L → Option (Connections (I × T))) (faults : L → ℕ) where
  over_ends : (keeper back : K) (links backs : List L) (days : List (Option (List ℕ))) (sessions : ℕ) (read wrote : Option (List ℕ)) (status : Status)
      → IsSomeAnd (rows keeper) AllOpen
      → ServesOver rows keeper_faults left taken in_faults out_faults connections faults keeper back links backs days sessions read wrote status → EndsWell status
  over_ends keeper back links backs days sessions read wrote status opens (inl s) = subst EndsWell (sym s.status_is) (served_ends s.end)
  over_ends keeper back links backs days sessions read wrote status opens (inr (s, same)) = stays_shut rows keeper_faults keeper back read read wrote wrote status opens s

  -- links that were served over a keeper that opens
  pub serves_well : (keeper : K) (back : Option K) (links backs : List L) (days : List (Option (List ℕ))) (sessions : ℕ) (read wrote : Option (List ℕ)) (status : Status)
      → IsSomeAnd (rows keeper) AllOpen → IsSome back
      → IfSome back (λ b. ServesOver rows keeper_faults left taken in_faults out_faults connections faults keeper b links backs days sessions read wrote status)
      → EndsWell status
  serves_well keeper None links backs days sessions read wrote status opens some serves = absurd (let no : false ≡ true = some in cc)
  serves_well keeper (Some back) links backs days sessions read wrote status opens some serves =
      over_ends keeper back links backs days sessions read wrote status opens serves

-- connections are served for words that want a keeper that opens
pub serving_opens : (words : Words) (sessions : ℕ) (rows : Option (List (List ℕ))) (input : Option (List ℕ)) → sessions_in words ≡ Some sessions
    → IsValid words rows input → IsSomeAnd rows AllOpen
serving_opens asked.Run sessions rows input is valid = absurd cc
serving_opens (asked.Serve port workers most) sessions rows input is valid = valid
serving_opens (asked.Make offerings) sessions rows input is valid = absurd cc
serving_opens asked.Audit sessions rows input is valid = absurd cc
serving_opens (asked.Report query) sessions rows input is valid = absurd cc
serving_opens (asked.Import table first term) sessions rows input is valid = absurd cc
serving_opens (asked.Export table) sessions rows input is valid = absurd cc
serving_opens (asked.Plan student budget) sessions rows input is valid = absurd cc
serving_opens asked.Survey sessions rows input is valid = absurd cc
serving_opens (asked.Help topic) sessions rows input is valid = absurd cc
serving_opens asked.Version sessions rows input is valid = absurd cc

-- the words that were found are those that there are
pub same_words : (found : Option Words) (mine theirs : Words) → Some mine ≡ found → found ≡ Some theirs → mine ≡ theirs
same_words found mine theirs is are = ap (λ (o : Option Words). unwrap_or o mine) (is ∙ are)

-- the keeper's count rose, and it didn't
not_both : {K : Type 0} (faults : K → ℕ) (keeper : K) (back : Option K) → IsSome back → IfSome back (λ b. Rose (faults keeper) (faults b))
    → IfSome back (λ b. Rose (faults keeper) (faults b) → ⊥) → ⊥
not_both faults keeper None some rose quiet = absurd cc
not_both faults keeper (Some back) some rose quiet = quiet rose

module _ {S T L K : Type 0} (in_faults : S → ℕ) (out_faults : T → ℕ) (link_faults : L → ℕ) (keeper_faults : K → ℕ) where
  -- where no count rose and neither the source nor the sink is told of, the status tells no fault
  pub quiet_serving : (source source' : S) (sink sink' : T) (links links' : List L) (keeper : K) (back : Option K) (status : Status)
      → NoneRose in_faults out_faults link_faults keeper_faults source source' sink sink' links links' keeper back
      → status ≢ statuses.ReadFault → status ≢ statuses.WriteFault → (status ≡ statuses.KeeperFault → IfSome back (λ b. Rose (keeper_faults keeper) (keeper_faults b)))
      → (status ≡ statuses.LinkFault → SomeRose link_faults links links') → IsSome back → IsUnfaulted status
  quiet_serving source source' sink sink' links links' keeper back status none read write keeper_rose link some =
      unfaulted status (λ e. absurd (read e)) (λ e. absurd (write e))
      (λ e. not_both keeper_faults keeper back some (keeper_rose e) none.of_keeper)
      (λ e. none.of_links (link e))
