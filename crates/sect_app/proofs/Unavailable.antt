-- Few answers on connections tell a fault of the keeper.
use Rattle.std.proofs.Common.{◌≡◌, ◌⊎◌, ◌==◌, ◌||◌, ℕ, ◌+◌, ◌≤◌, Bool, true, false, cond, List, [], ◌∷◌, ◌++◌, Option, length, map, count_by, refl, sym, ap, ◌∙◌, subst, inl, inr, nat_le, nat_lt, ◌&&◌, append_assoc, eq-eqb, arith}
use Rattle.std.specs.List.{All, concat}
use Rattle.std.proofs.lemmas.List.Elements.{All-head, All-tail}
use mathlib.Core.List.{IsPrefix}
use Rattle.sect_answer.specs.Answering.{Does, Sitting, Tells, answer_said}
use Rattle.sect_answer.specs.declared.errand.Errand.{Errand}
use Rattle.sect_answer.specs.declared.errand.Errand.TheVariants.{NoRoute, OtherMethod, NoCommand, Asks, Looks}
use Rattle.sect_base.specs.declared.limit.Id.{Id}
use Rattle.sect_command.specs.declared.command.Command.{Command}
use Rattle.sect_command.specs.declared.reply.Reply.{Reply}
use Rattle.sect_edge.specs.Link.{Connections}
use Rattle.sect_head.specs.declared.told.Refusal.{Refusal}
use Rattle.sect_head.specs.declared.told.Refusal.TheVariants as refusals
use Rattle.sect_history.specs.Step.{stepped}
use Rattle.sect_http.specs.Answers.{refused}
use Rattle.sect_model.specs.Look.{look}
use Rattle.sect_model.specs.World.{empty_state}
use Rattle.sect_office.specs.Offices.{IsLast, Shows}
use Rattle.sect_once.specs.declared.answer.Answer.{Answer}
use Rattle.sect_once.specs.declared.answer.Answer.TheVariants as answers
use Rattle.sect_once.specs.declared.entry.Note.{Note}
use Rattle.sect_once.specs.declared.entry.Note.TheVariants.{Acted, Faulted}
use Rattle.sect_once.specs.Faults.{AtMostFaults}
use Rattle.sect_once.specs.History.{faulted}
use Rattle.sect_talk.specs.Said.{Said, no_command, no_memory, no_route, other_method, report_said}
use Rattle.sect_wire.specs.Laws.{IsRow}
use Rattle.sect_serve.specs.Serving.{Worker}
use Rattle.sect_serve.specs.Talks.{FrontsBegin, Talk}
use Rattle.sect_talk.specs.Asked.{Asked, Bytes, Exchange, Head, Whole}
use Rattle.sect_talk.specs.Talk.{Exchanges}
use Rattle.sect_turn.specs.Rule.{one_if}
use Rattle.sect_app.proofs.Faulted.{count-append, count-cons, count-either, few_are}
use Rattle.sect_app.specs.Faulted.{FewOfConnections, is_unavailable, links_told, talks_told}
use Rattle.sect_app.specs.Serving.{MachineAnswers}

-- ---- the places of faults in a log

none_counted : (places : List ℕ) → count_by (λ (place : ℕ). false) places ≡ 0
none_counted [] = refl
none_counted (place ∷ places) = omega (arith, count-cons (λ (p : ℕ). false) place places, none_counted places)

module _ {C R : Type 0} where
  -- whether the note at this place, of those that have their places from a number on, is of a fault
  abbrev is_noted : ℕ → List (Note C R) → ℕ → Bool
  is_noted k [] place = false
  is_noted k (Acted e ∷ notes) place = is_noted (k + 1) notes place
  is_noted k (Faulted id ∷ notes) place = (place == k) || is_noted (k + 1) notes place

  noted_at : (k : ℕ) (before : List (Note C R)) (id : Id) (more : List (Note C R)) (place : ℕ) → place ≡ k + length before
      → is_noted k (before ++ Faulted id ∷ more) place ≡ true
  noted_at k [] id more place is = ap (λ (b : Bool). b || is_noted (k + 1) more place) (eq-eqb place k (omega (arith, is)))
  noted_at k (Acted e ∷ before) id more place is = noted_at (k + 1) before id more place (omega (arith, is))
  noted_at k (Faulted other ∷ before) id more place is = or_true (place == k) _ (noted_at (k + 1) before id more place (omega (arith, is)))
    where
      or_true : (a b : Bool) → b ≡ true → (a || b) ≡ true
      or_true true b h = refl
      or_true false b h = h

  -- of places that differ no more are of faults than faults were noted
  few_noted : (k : ℕ) (notes : List (Note C R)) (places : List ℕ) → ((place : ℕ) → count_by (λ y. y == place) places ≤ 1)
      → count_by (is_noted k notes) places ≤ faulted notes
  few_noted k [] places once = omega (arith, none_counted places)
  few_noted k (Acted e ∷ notes) places once = few_noted (k + 1) notes places once
  few_noted k (Faulted id ∷ notes) places once =
      omega (arith, count-either (λ y. y == k) (is_noted (k + 1) notes) places, once k, few_noted (k + 1) notes places once)

one_at_most : (b : Bool) → one_if b ≤ 1
one_at_most true = omega arith
one_at_most false = omega arith

-- ---- answers

-- 1 where it holds, and where what is said is a 503
abbrev one_where : Bool → ℕ
one_where b = cond b 1 0

abbrev unavailable : Said → ℕ
unavailable said = one_where (said.page.status == 503)

-- what is said with another status is none
else_said : (said other : Said) → said ≡ other → (other.page.status == 503) ≡ false → unavailable said ≡ 0
else_said said other same else = ap unavailable same ∙ ap one_where else

refusal_said : (why : Refusal) (said : Said) → said ≡ refused why → unavailable said ≡ 0
refusal_said refusals.Head said told = else_said said (refused refusals.Head) told refl
refusal_said refusals.Coding said told = else_said said (refused refusals.Coding) told refl
refusal_said refusals.Length said told = else_said said (refused refusals.Length) told refl
refusal_said refusals.Size said told = else_said said (refused refusals.Size) told refl

at_most_one : (b : Bool) → one_where b ≤ 1
at_most_one true = omega arith
at_most_one false = omega arith

module _ (log : List (Note Command Reply)) where
  -- how many of these places are of faults
  abbrev noted : List ℕ → ℕ
  noted places = count_by (is_noted 0 log) places

  -- where nothing was said of a fault, no place was lost
  quiet_counts : (said : Said) (own own' : List ℕ) → unavailable said ≡ 0 → own' ≡ own → unavailable said + noted own ≤ noted own'
  quiet_counts said own own' quiet same = omega (arith, quiet, ap noted same)

  last_counts : (said : Said) (own own' : List ℕ) (place : ℕ) → unavailable said ≡ 0 → own' ≡ own ++ place ∷ []
      → unavailable said + noted own ≤ noted own'
  last_counts said own own' place quiet more = omega (arith, quiet, ap noted more, count-append (is_noted 0 log) own (place ∷ []))

  fault_counts : (id : Id) (said : Said) (old front : List (Note Command Reply)) (own own' : List ℕ) → IsPrefix front log
      → IsLast IsRow id (Faulted id) old front own own' → unavailable said + noted own ≤ noted own'
  fault_counts id said old front own own' (more, is) last =
      let all : last.before ++ Faulted id ∷ more ≡ log =
      sym (append_assoc last.before (Faulted id ∷ []) more) ∙ ap (λ (f : List (Note Command Reply)). f ++ more) (sym last.front_is) ∙ is in
      let here : is_noted 0 log (length last.before) ≡ true =
      subst (λ (l : List (Note Command Reply)). is_noted 0 l (length last.before) ≡ true) all (noted_at 0 last.before id more (length last.before) (omega arith)) in
      let one : one_where (is_noted 0 log (length last.before)) ≡ 1 = ap one_where here in
      omega (arith, at_most_one (said.page.status == 503), ap noted last.own_is, count-append (is_noted 0 log) own (length last.before ∷ []), count-cons (is_noted 0 log) (length last.before) [], one)

  answer_counts : (id : Id) (day : ℕ) (command : Command) (old new : Sitting) (said : Said) (a : Answer Reply) → IsPrefix new.front log
      → Shows IsRow id day command old.front new.front old.own new.own a → Tells a said → unavailable said + noted old.own ≤ noted new.own
  answer_counts id day command old new said (answers.Done place reply) within (has, inl same) (inl told) =
      quiet_counts said old.own new.own (else_said said (answer_said (answers.Done place reply)) told refl) same
  answer_counts id day command old new said (answers.Done place reply) within (has, inl same) (inr want) =
      quiet_counts said old.own new.own (else_said said no_memory want refl) same
  answer_counts id day command old new said (answers.Done place reply) within (has, inr last) (inl told) =
      last_counts said old.own new.own (length last.before) (else_said said (answer_said (answers.Done place reply)) told refl) last.own_is
  answer_counts id day command old new said (answers.Done place reply) within (has, inr last) (inr want) =
      last_counts said old.own new.own (length last.before) (else_said said no_memory want refl) last.own_is
  answer_counts id day command old new said (answers.NumberReused place) within (has, same) told =
      quiet_counts said old.own new.own (else_said said (answer_said (answers.NumberReused place)) told refl) same
  answer_counts id day command old new said answers.LogFull within (is_new, full, same) told =
      quiet_counts said old.own new.own (else_said said (answer_said answers.LogFull) told refl) same
  answer_counts id day command old new said answers.KeeperFault within last told = fault_counts id said old.front new.front old.own new.own within last
  answer_counts id day command old new said answers.Memory within (roomy, same) told =
      quiet_counts said old.own new.own (else_said said (answer_said answers.Memory) told refl) same

  errand_counts : (e : Errand) (old new : Sitting) (said : Said) → IsPrefix new.front log → Does empty_state stepped IsRow look e old said new
      → unavailable said + noted old.own ≤ noted new.own
  errand_counts NoRoute old new said within (same, told) = quiet_counts said old.own new.own (else_said said no_route told refl) (ap (λ (s : Sitting). s.own) same)
  errand_counts (OtherMethod method) old new said within (same, told) =
      quiet_counts said old.own new.own (else_said said (other_method method) told refl) (ap (λ (s : Sitting). s.own) same)
  errand_counts NoCommand old new said within (same, told) = quiet_counts said old.own new.own (else_said said no_command told refl) (ap (λ (s : Sitting). s.own) same)
  errand_counts (Asks id command) old new said within d = answer_counts id d.day command old new said d.answer within d.shows d.told
  errand_counts (Looks query) old new said within d = quiet_counts said old.own new.own (by said d.told) d.own
    where
      by : {text : List ℕ} (s : Said) → (s ≡ report_said text) ⊎ (s ≡ no_memory) → unavailable s ≡ 0
      by {text} s (inl told) = else_said s (report_said text) told refl
      by s (inr want) = else_said s no_memory want refl

  request_counts : (old : Sitting) (asked : Asked) (said : Said) (new : Sitting) → IsPrefix new.front log → MachineAnswers old asked said new
      → unavailable said + noted old.own ≤ noted new.own
  request_counts old (Bytes raw) said new within (same, inl (why, is, told)) = quiet_counts said old.own new.own (refusal_said why said told) (ap (λ (s : Sitting). s.own) same)
  request_counts old (Bytes raw) said new within (same, inr want) = quiet_counts said old.own new.own (else_said said no_memory want refl) (ap (λ (s : Sitting). s.own) same)
  request_counts old (Head h) said new within (same, inl (why, is, told)) = quiet_counts said old.own new.own (refusal_said why said told) (ap (λ (s : Sitting). s.own) same)
  request_counts old (Head h) said new within (same, inr want) = quiet_counts said old.own new.own (else_said said no_memory want refl) (ap (λ (s : Sitting). s.own) same)
  request_counts old (Whole h body) said new within (framed, inl (same, want)) =
      quiet_counts said old.own new.own (else_said said no_memory want refl) (ap (λ (s : Sitting). s.own) same)
  request_counts old (Whole h body) said new within (framed, inr (e, is, does)) = errand_counts e old new said within does

  exchanges_count : (old new : Sitting) (number : ℕ) (xs : List (Exchange Sitting)) → Exchanges MachineAnswers old number xs new
      → All (λ (x : Exchange Sitting). IsPrefix x.after.front log) xs → count_by is_unavailable xs + noted old.own ≤ noted new.own
  exchanges_count old new number [] same begin = omega (arith, ap (λ (s : Sitting). noted s.own) same)
  exchanges_count old new number (x ∷ xs) (fits, answered, last, more) begin =
      omega (
        arith,
        count-cons is_unavailable x xs,
        request_counts old x.asked x.said x.after (All-head (λ (y : Exchange Sitting). IsPrefix y.after.front log) x xs begin) answered,
        exchanges_count x.after new (number + 1) xs more (All-tail (λ (y : Exchange Sitting). IsPrefix y.after.front log) x xs begin),
      )

  -- ---- connections, workers

  module _ {I T L : Type 0} (left : I → Option (List ℕ)) (taken : T → Option (List ℕ)) (in_faults : I → ℕ) (out_faults : T → ℕ)
      (connections : L → Option (Connections (I × T))) (faults : L → ℕ) where
    abbrev OneTalk : Type 0
    OneTalk = Talk MachineAnswers left taken in_faults out_faults

    abbrev Begin : OneTalk → Type 0
    Begin t = All (λ (x : Exchange Sitting). IsPrefix x.after.front log) t.talked.exchanges

    talk_counts : (t : OneTalk) → Begin t → count_by is_unavailable t.talked.exchanges ≤ noted t.calls
    talk_counts t begin =
        omega (arith, exchanges_count t.before t.after 1 t.talked.exchanges t.talked.answered begin, ap noted t.own, count-append (is_noted 0 log) t.before.own t.calls)

    talks_count : (ts : List OneTalk) → FrontsBegin MachineAnswers left taken in_faults out_faults log ts
        → count_by is_unavailable (talks_told left taken in_faults out_faults connections faults ts) ≤ noted (concat (map (λ (t : OneTalk). t.calls) ts))
    talks_count [] begin = omega arith
    talks_count (t ∷ ts) begin =
        omega (
          arith,
          count-append is_unavailable t.talked.exchanges (talks_told left taken in_faults out_faults connections faults ts),
          talk_counts t (All-head Begin t ts begin),
          talks_count ts (All-tail Begin t ts begin),
          count-append (is_noted 0 log) t.calls (concat (map (λ (u : OneTalk). u.calls) ts)),
        )

    abbrev OneWorker : ℕ → List (Note Command Reply) → Type 0
    OneWorker sessions first = Worker MachineAnswers left taken in_faults out_faults connections faults sessions first log

    workers_count : (sessions : ℕ) (first : List (Note Command Reply)) (ws : List (OneWorker sessions first))
        → count_by is_unavailable (links_told left taken in_faults out_faults connections faults sessions first log ws)
        ≤ noted (concat (map (λ (w : OneWorker sessions first). w.calls) ws))
    workers_count sessions first [] = omega arith
    workers_count sessions first (w ∷ ws) =
        omega (
          arith,
          count-append is_unavailable (talks_told left taken in_faults out_faults connections faults w.did.talks) (links_told left taken in_faults out_faults connections faults sessions first log ws),
          talks_count w.did.talks w.fronts,
          ap noted w.did.calls_are,
          workers_count sessions first ws,
          count-append (is_noted 0 log) w.calls (concat (map (λ (v : OneWorker sessions first). v.calls) ws)),
        )

module _ {I T L K : Type 0} (rows : K → Option (List (List ℕ))) (keeper_faults : K → ℕ)
    (left : I → Option (List ℕ)) (taken : T → Option (List ℕ)) (in_faults : I → ℕ) (out_faults : T → ℕ)
    (connections : L → Option (Connections (I × T))) (faults : L → ℕ) where
  pub few_of_connections : FewOfConnections rows keeper_faults left taken in_faults out_faults connections faults
  few_of_connections keeper back links backs days sessions status desk =
      let serves = desk.serves in
      let served = serves.served in
      let once : (place : ℕ) → count_by (λ y. y == place) serves.calls ≤ 1 = λ place. omega (arith, serves.closing place, one_at_most (nat_le (length desk.opened.log) place && nat_lt place (length serves.last.log))) in
      let counted = workers_count serves.last.log left taken in_faults out_faults connections faults sessions desk.opened.log served.workers in
      few_are _ (faulted serves.last.log) serves.last.base (keeper_faults keeper) (keeper_faults back)
      (omega (arith, counted, ap (noted serves.last.log) served.calls_are, few_noted 0 serves.last.log serves.calls once))
      (serves.base ∙ desk.opens.base)
      (subst (λ (k : K). AtMostFaults (faulted serves.last.log) serves.last.base (keeper_faults k)) (sym serves.back_is) serves.sound.counted)
