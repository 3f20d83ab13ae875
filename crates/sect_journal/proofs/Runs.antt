-- What is kept along a list of calls.
use Rattle.std.proofs.Common.{◌≡◌, ⊎_elim, ℕ, true, false, List, [], ◌∷◌, ◌++◌, All, Contains, Option, Some, None, refl, sym, ◌∙◌, ap, subst, append-nil}
use Rattle.std.specs.Prelude.{⊤}
use Rattle.std.proofs.lemmas.List.Elements.{All-nil, All-weaker, All-contains, Contains-append_left, Contains-append_right, Contains-append_cases}
use Rattle.sect_journal.specs.Disk.{Content, Told, Stays}
use Rattle.sect_journal.specs.Standing.{Standing, Looks, Leaves, LeavesNow, where_told}
use Rattle.sect_journal.specs.Opening.{IsOpened}
use Rattle.sect_journal.specs.Runs.{Call, Append, Look, Takes, IsRun, acknowledged, unanswered, begun}
use Rattle.sect_journal.proofs.Keeps.{leaves_more, stays_weaker, stays_none}

-- a journal whose rows are the acknowledged ones, and whose loose rows are among those that weren't answered
record StandsAt (t : Told) (rows : List (List ℕ)) (since : List (List (List ℕ))) (here : List (List ℕ)) (loose : List (List (List ℕ))) : Type 0 where
  same : here ≡ rows
  among : All (Contains since) loose
  now : Leaves here loose t.now

abbrev Stands : Option Told → List (List ℕ) → List (List (List ℕ)) → List (List ℕ) → List (List (List ℕ)) → Type 0
Stands None rows since here loose = ⊤
Stands (Some t) rows since here loose = StandsAt t rows since here loose

stands_leaves : (told : Option Told) (rows : List (List ℕ)) (since : List (List (List ℕ))) (here : List (List ℕ)) (loose : List (List (List ℕ))) → Stands told rows since here loose → LeavesNow rows since told
stands_leaves None rows since here loose stands = tt
stands_leaves (Some t) rows since here loose stands =
    leaves_more rows loose since (λ group has. All-contains (Contains since) loose group stands.among has) t.now (subst (λ r. Leaves r loose t.now) stands.same stands.now)

wider : (since loose : List (List (List ℕ))) (group r : List (List ℕ)) → All (Contains since) loose → Contains (loose ++ group ∷ []) r → Contains (since ++ group ∷ []) r
wider since loose group r among has = ⊎_elim
    (λ old. Contains-append_left since (group ∷ []) r (All-contains (Contains since) loose r among old))
    (λ new. Contains-append_right since (group ∷ []) r new)
    (Contains-append_cases loose (group ∷ []) r has)

-- an append that was answered Ok
done_stands : (told new : Option Told) (P : Content → Type 0) (rows : List (List ℕ)) (since : List (List (List ℕ))) (here : List (List ℕ)) (loose : List (List (List ℕ))) (here_new : List (List ℕ)) (loose_new : List (List (List ℕ))) (group : List (List ℕ)) → Stands told rows since here loose
    → here_new ≡ here ++ where_told told group → All (Contains {X = List (List ℕ)} []) loose_new → Stays told new P → LeavesNow here_new loose_new new → Stands new (rows ++ group) [] here_new loose_new
done_stands None new P rows since here loose here_new loose_new group stands is among stays now = subst (λ u. Stands u (rows ++ group) [] here_new loose_new) (sym stays) tt
done_stands (Some t) new P rows since here loose here_new loose_new group stands is among (u, is_new, s) now =
    subst (λ v. Stands v (rows ++ group) [] here_new loose_new) (sym is_new)
    (record { same = is ∙ ap (λ l. l ++ group) stands.same; among = among; now = subst (λ v. LeavesNow here_new loose_new v) is_new now })

-- one that wasn't
failed_stands : (told new : Option Told) (P : Content → Type 0) (rows : List (List ℕ)) (since : List (List (List ℕ))) (here : List (List ℕ)) (loose : List (List (List ℕ))) (here_new : List (List ℕ)) (loose_new : List (List (List ℕ))) (group : List (List ℕ)) → Stands told rows since here loose
    → here_new ≡ here → All (Contains (loose ++ group ∷ [])) loose_new → Stays told new P → LeavesNow here_new loose_new new → Stands new rows (since ++ group ∷ []) here_new loose_new
failed_stands None new P rows since here loose here_new loose_new group stands is among stays now = subst (λ u. Stands u rows (since ++ group ∷ []) here_new loose_new) (sym stays) tt
failed_stands (Some t) new P rows since here loose here_new loose_new group stands is among (u, is_new, s) now =
    subst (λ v. Stands v rows (since ++ group ∷ []) here_new loose_new) (sym is_new)
    (record {
      same = is ∙ stands.same;
      among = All-weaker (Contains (loose ++ group ∷ [])) (Contains (since ++ group ∷ [])) (λ r has. wider since loose group r stands.among has) loose_new among;
      now = subst (λ v. LeavesNow here_new loose_new v) is_new now;
    })

-- while an append goes on
append_stays : (told new : Option Told) (rows : List (List ℕ)) (since : List (List (List ℕ))) (here : List (List ℕ)) (loose : List (List (List ℕ))) (group : List (List ℕ)) → Stands told rows since here loose → Stays told new (Leaves here (loose ++ group ∷ [])) → Stays told new (Leaves rows (since ++ group ∷ []))
append_stays None new rows since here loose group stands stays = stays
append_stays (Some t) new rows since here loose group stands stays =
    stays_weaker (Some t) new (Leaves rows (loose ++ group ∷ [])) (Leaves rows (since ++ group ∷ [])) (leaves_more rows (loose ++ group ∷ []) (since ++ group ∷ []) (λ r has. wider since loose group r stands.among has))
    (subst (λ h. Stays (Some t) new (Leaves h (loose ++ group ∷ []))) stands.same stays)

-- while a call reads
look_stays : (told : Option Told) (rows : List (List ℕ)) (since : List (List (List ℕ))) → LeavesNow rows since told → Stays told told (Leaves rows since)
look_stays None rows since now = refl
look_stays (Some t) rows since now = (t, refl, stays_none t (Leaves rows since) now)

module _ {D : Type 0} (told : D → Option Told) where
  look_stands : (rows : List (List ℕ)) (since : List (List (List ℕ))) (old new : Standing D) → Stands (told old.disk) rows since old.rows old.loose → Looks told old new → Stands (told new.disk) rows since new.rows new.loose
  look_stands rows since old new stands looks =
      subst (λ u. Stands u rows since new.rows new.loose) (sym looks.told_same)
      (subst (λ r. Stands (told old.disk) rows since r new.loose) (sym (ap (λ s. s.rows) looks.same))
      (subst (λ l. Stands (told old.disk) rows since old.rows l) (sym (ap (λ s. s.loose) looks.same)) stands))

  run_stands : (calls : List Call) (rows : List (List ℕ)) (since : List (List (List ℕ))) (start end : Standing D) → Stands (told start.disk) rows since start.rows start.loose → IsRun told calls start end
      → Stands (told end.disk) (acknowledged rows calls) (unanswered since calls) end.rows end.loose
  run_stands [] rows since start end stands same = subst (λ s. Stands (told s.disk) rows since s.rows s.loose) same stands
  run_stands (Append group true ∷ calls) rows since start end stands (next, takes, rest) =
      run_stands calls (rows ++ group) [] next end
      (done_stands (told start.disk) (told next.disk) (Leaves start.rows (start.loose ++ group ∷ [])) rows since start.rows start.loose next.rows next.loose group stands takes.rows takes.loose takes.moments takes.now) rest
  run_stands (Append group false ∷ calls) rows since start end stands (next, takes, rest) =
      run_stands calls rows (since ++ group ∷ []) next end
      (failed_stands (told start.disk) (told next.disk) (Leaves start.rows (start.loose ++ group ∷ [])) rows since start.rows start.loose next.rows next.loose group stands takes.rows takes.loose takes.moments takes.now) rest
  run_stands (Look ∷ calls) rows since start end stands (next, takes, rest) =
      run_stands calls rows since next end (look_stands rows since start next stands takes) rest

  opened_stands : (u : Option Told) (rows : List (List ℕ)) (loose : List (List (List ℕ))) → loose ≡ [] → LeavesNow rows [] u → Stands u rows [] rows loose
  opened_stands None rows loose none now = tt
  opened_stands (Some t) rows loose none now = record {
    same = refl;
    among = subst (λ l. All (Contains {X = List (List ℕ)} []) l) (sym none) (All-nil (Contains {X = List (List ℕ)} []));
    now = subst (λ l. Leaves rows l t.now) (sym none) now;
  }

  after_run : (before : Option Told) (start end : Standing D) (calls : List Call) → IsOpened told before start → IsRun told calls start end
      → Stands (told end.disk) (acknowledged start.rows calls) (unanswered [] calls) end.rows end.loose
  after_run before start end calls opened run = run_stands calls start.rows [] start end (opened_stands (told start.disk) start.rows start.loose opened.loose opened.now) run

  -- between two calls
  pub leaves_between : (before : Option Told) (start end : Standing D) (calls : List Call) → IsOpened told before start → IsRun told calls start end
      → LeavesNow (acknowledged start.rows calls) (unanswered [] calls) (told end.disk)
  leaves_between before start end calls opened run =
      stands_leaves (told end.disk) (acknowledged start.rows calls) (unanswered [] calls) end.rows end.loose (after_run before start end calls opened run)

  -- in a call
  pub leaves_within : (before : Option Told) (start end next : Standing D) (calls : List Call) (call : Call) → IsOpened told before start → IsRun told calls start end → Takes told call end next
      → Stays (told end.disk) (told next.disk) (Leaves (acknowledged start.rows calls) (unanswered [] calls ++ begun call))
  leaves_within before start end next calls (Append group done) opened run takes =
      append_stays (told end.disk) (told next.disk) (acknowledged start.rows calls) (unanswered [] calls) end.rows end.loose group (after_run before start end calls opened run) takes.moments
  leaves_within before start end next calls Look opened run takes =
      let since = unanswered [] calls in
      let here = look_stays (told end.disk) (acknowledged start.rows calls) since (leaves_between before start end calls opened run) in
      subst (λ u. Stays (told end.disk) u (Leaves (acknowledged start.rows calls) (since ++ []))) (sym takes.told_same)
      (subst (λ l. Stays (told end.disk) (told end.disk) (Leaves (acknowledged start.rows calls) l)) (sym (append-nil since)) here)
