-- From what works have done to the workers of links.
use Rattle.std.proofs.Common.{◌≡◌, ◌<◌, ◌≤◌, ◌⊎◌, ℕ, ◌+◌, List, [], ◌∷◌, ◌++◌, length, map, take, Option, Some, None, refl, sym, ap, ◌∙◌, subst, inl, inr, arith, rules}
use Rattle.std.specs.List.{All, concat}
use Rattle.std.proofs.lemmas.List.{length-map}
use Rattle.std.proofs.lemmas.List.Elements.{All-cons, All-head, All-nil, All-tail}
use mathlib.Core.List.{IsPrefix}
use Rattle.sect_answer.specs.Answering.{Sitting}
use Rattle.sect_command.specs.declared.command.Command.{Command}
use Rattle.sect_command.specs.declared.reply.Reply.{Reply}
use Rattle.sect_edge.specs.Causes.{Rose}
use Rattle.sect_edge.specs.Link.{Connections}
use Rattle.sect_office.proofs.Running.{prefix_of_prefix}
use Rattle.sect_office.specs.Works.{AddsRuns, HaveRun, Run}
use Rattle.sect_once.specs.declared.entry.Note.{Note}
use Rattle.sect_talk.specs.Said.{Said}
use Rattle.sect_talk.specs.Asked.{Asked}
use Rattle.sect_serve.specs.Talks.{Talk, FrontsBegin}
use Rattle.sect_serve.specs.Working.{IsWorkerEnd, WorkerDid, at_first}
use Rattle.sect_serve.specs.Serving.{HaveServed, SomeRose, Worker, worse, worst}
use Rattle.sect_serve.specs.declared.server.WorkerEnd.{WorkerEnd}
use Rattle.sect_serve.specs.declared.server.WorkerEnd.TheVariants as workers
use Rattle.sect_serve.specs.declared.serving.ServeEnd.{ServeEnd}
use Rattle.sect_serve.specs.declared.serving.ServeEnd.TheVariants.{Done, LinkFault, Memory}
use Rattle.sect_serve.proofs.Attending.{did_nothing}
use Rattle.sect_serve.proofs.Fronts.{Grows, fronts_begin}

-- a fault of a link comes from a worker that failed
from_failed : {C : Type 0} (end : ServeEnd) (e : WorkerEnd) (told : Option (Connections C)) (count count' talks sessions : ℕ)
    → IsWorkerEnd e told count count' talks sessions → worse end e ≡ LinkFault → (end ≡ LinkFault) ⊎ Rose count count'
from_failed end workers.Done told count count' talks sessions ended is = inl is
from_failed end workers.Failed told count count' talks sessions ended is = inr ended
from_failed end workers.Memory told count count' talks sessions ended is = let no : ⊥ = search rules in absurd no

module _ {I T L : Type 0} (answers : Sitting → Asked → Said → Sitting → Type 0)
    (left : I → Option (List ℕ)) (taken : T → Option (List ℕ)) (in_faults : I → ℕ) (out_faults : T → ℕ)
    (connections : L → Option (Connections (I × T))) (faults : L → ℕ) (sessions : ℕ) (first log : List (Note Command Reply)) where
  abbrev OneWorker : Type 0
  OneWorker = Worker answers left taken in_faults out_faults connections faults sessions first log

  abbrev link_of : OneWorker → L
  link_of w = w.link

  abbrev back_of : OneWorker → L
  back_of w = w.link_back

  abbrev days_of : OneWorker → Option (List ℕ)
  days_of w = w.days

  abbrev end_of : OneWorker → WorkerEnd
  end_of w = w.end

  abbrev calls_of : OneWorker → List ℕ
  calls_of w = w.calls

  put_first : (end : ServeEnd) (w : OneWorker) (ws : List OneWorker) → (end ≡ LinkFault) ⊎ Rose (faults w.link) (faults w.link_back)
      → (end ≡ LinkFault) ⊎ SomeRose faults (map link_of (w ∷ ws)) (map back_of (w ∷ ws))
  put_first end w ws (inl is) = inl is
  put_first end w ws (inr rose) = inr (inl rose)

  one_failed : (end : ServeEnd) (w : OneWorker) (ws : List OneWorker) → (worse end w.end ≡ LinkFault) ⊎ SomeRose faults (map link_of ws) (map back_of ws)
      → (end ≡ LinkFault) ⊎ SomeRose faults (map link_of (w ∷ ws)) (map back_of (w ∷ ws))
  one_failed end w ws (inl is) =
      put_first end w ws (from_failed end w.end (connections w.link_back) (faults w.link) (faults w.link_back) (length w.did.talks) sessions w.did.ended is)
  one_failed end w ws (inr some) = inr (inr some)

  some_failed : (end : ServeEnd) (ws : List OneWorker) → worst end (map end_of ws) ≡ LinkFault → (end ≡ LinkFault) ⊎ SomeRose faults (map link_of ws) (map back_of ws)
  some_failed end [] is = inl is
  some_failed end (w ∷ ws) is = one_failed end w ws (some_failed (worse end w.end) ws is)

  -- where all ended as they did from Done on, a fault is of some link
  a_link_rose : (ws : List OneWorker) → (Done ≡ LinkFault) ⊎ SomeRose faults (map link_of ws) (map back_of ws) → SomeRose faults (map link_of ws) (map back_of ws)
  a_link_rose ws (inl is) = let no : ⊥ = search rules in absurd no
  a_link_rose ws (inr some) = some

  -- workers by their parts
  served : (links backs : List L) (days : List (Option (List ℕ))) (end : ServeEnd) (calls : List ℕ) (ws : List OneWorker)
      → map link_of ws ≡ links → map back_of ws ≡ backs → map days_of ws ≡ days → concat (map calls_of ws) ≡ calls → end ≡ worst Done (map end_of ws)
      → HaveServed answers left taken in_faults out_faults connections faults links backs days sessions end first log calls
  served links backs days end calls ws links_are backs_are days_are calls_are end_is = record {
    workers = ws;
    links_are = links_are;
    backs_are = backs_are;
    days_are = days_are;
    calls_are = calls_are;
    end_is = end_is;
    cause = λ is. subst (λ l. SomeRose faults l backs) links_are (subst (SomeRose faults (map link_of ws)) backs_are (a_link_rose ws (some_failed Done ws (sym end_is ∙ is))));
  }

  module _ (grow : Grows answers) where
    -- the fronts of a worker's talks
    pub begin : (told told' : Option (Connections (I × T))) (count count' : ℕ) (days : Option (List ℕ)) (end : WorkerEnd) (seen : List (Note Command Reply)) (calls : List ℕ)
        (it : WorkerDid answers left taken in_faults out_faults told told' count count' days sessions end first seen calls) → IsPrefix seen log
        → FrontsBegin answers left taken in_faults out_faults log it.talks
    begin told told' count count' days end seen calls it within =
        fronts_begin answers grow log left taken in_faults out_faults (at_first first days) it.last 0 it.steps it.talks it.follow (subst (λ l. IsPrefix l log) (sym it.seen_is) within)

  module _ {W X : Type 0} (did : W → List (Note Command Reply) → List (Note Command Reply) → List ℕ → X → Type 0)
      (link : W → L) (days : W → Option (List ℕ)) (count : W → ℕ) (given_link : X → L) (given_end : X → WorkerEnd)
      (says : (w : W) (seen : List (Note Command Reply)) (calls : List ℕ) (x : X) → did w first seen calls x
      → WorkerDid answers left taken in_faults out_faults (connections (link w)) (connections (given_link x)) (faults (link w)) (faults (given_link x)) (days w) (count w) (given_end x) first seen calls)
      (grow : Grows answers) (last : List (Note Command Reply)) (longer : IsPrefix last log) where
    abbrev OneRun : Type 0
    OneRun = Run W (Note Command Reply) X

    abbrev HasRun : OneRun → Type 0
    HasRun r = did r.work first r.seen r.calls r.given × IsPrefix r.seen last

    abbrev work_of : OneRun → W
    work_of r = r.work

    worker_of : (r : OneRun) → HasRun r → count r.work ≡ sessions → OneWorker
    worker_of r (did_it, seen_so) many =
        let within : IsPrefix r.seen log = prefix_of_prefix r.seen last log seen_so longer in
        let did_so = subst (λ n. WorkerDid answers left taken in_faults out_faults (connections (link r.work)) (connections (given_link r.given)) (faults (link r.work)) (faults (given_link r.given))
        (days r.work) n (given_end r.given) first r.seen r.calls) many (says r.work r.seen r.calls r.given did_it) in record {
          link = link r.work;
          link_back = given_link r.given;
          days = days r.work;
          end = given_end r.given;
          seen = r.seen;
          calls = r.calls;
          did = did_so;
          within = within;
          fronts = begin grow (connections (link r.work)) (connections (given_link r.given)) (faults (link r.work)) (faults (given_link r.given)) (days r.work) (given_end r.given) r.seen r.calls did_so within;
        }

    workers_of : (runs : List OneRun) → All HasRun runs → All (λ w. count w ≡ sessions) (map work_of runs) → List OneWorker
    workers_of [] ran many = []
    workers_of (r ∷ runs) ran many =
        worker_of r (All-head HasRun r runs ran) (All-head (λ w. count w ≡ sessions) r.work (map work_of runs) many)
        ∷ workers_of runs (All-tail HasRun r runs ran) (All-tail (λ w. count w ≡ sessions) r.work (map work_of runs) many)

    along : {A : Type 0} (f : OneWorker → A) (h : OneRun → A) → ((r : OneRun) (ran : HasRun r) (many : count r.work ≡ sessions) → f (worker_of r ran many) ≡ h r)
        → (runs : List OneRun) (ran : All HasRun runs) (many : All (λ w. count w ≡ sessions) (map work_of runs)) → map f (workers_of runs ran many) ≡ map h runs
    unfolding workers_of
    along f h same [] ran many = refl
    along f h same (r ∷ runs) ran many =
        let one = same r (All-head HasRun r runs ran) (All-head (λ w. count w ≡ sessions) r.work (map work_of runs) many) in
        let rest = along f h same runs (All-tail HasRun r runs ran) (All-tail (λ w. count w ≡ sessions) r.work (map work_of runs) many) in
        ap (λ a. a ∷ map f (workers_of runs (All-tail HasRun r runs ran) (All-tail (λ w. count w ≡ sessions) r.work (map work_of runs) many))) one ∙ ap (λ l. h r ∷ l) rest

    through : {A B C : Type 0} (f : B → C) (h : A → B) (xs : List A) → map (λ a. f (h a)) xs ≡ map f (map h xs)
    through f h [] = refl
    through f h (x ∷ xs) = ap (λ l. f (h x) ∷ l) (through f h xs)

    -- what runs of workers' works say of their links
    have_served : (works : List W) (given : List X) (own own' : List ℕ) → own ≡ [] → All (λ w. count w ≡ sessions) works → AddsRuns did first last works given own own'
        → HaveServed answers left taken in_faults out_faults connections faults (map link works) (map given_link given) (map days works) sessions (worst Done (map given_end given)) first log own'
    unfolding worker_of
    have_served works given own own' fresh many (calls, added, h) =
        let alike : All (λ w. count w ≡ sessions) (map work_of h.runs) = subst (All (λ w. count w ≡ sessions)) (sym h.works_are) many in
        let ws = workers_of h.runs h.each alike in
        served (map link works) (map given_link given) (map days works) (worst Done (map given_end given)) own' ws
        (along link_of (λ (r : OneRun). link r.work) (λ r ran n. refl) h.runs h.each alike ∙ (through link work_of h.runs ∙ ap (map link) h.works_are))
        (along back_of (λ (r : OneRun). given_link r.given) (λ r ran n. refl) h.runs h.each alike ∙ (through given_link (λ (r : OneRun). r.given) h.runs ∙ ap (map given_link) h.given_are))
        (along days_of (λ (r : OneRun). days r.work) (λ r ran n. refl) h.runs h.each alike ∙ (through days work_of h.runs ∙ ap (map days) h.works_are))
        (ap concat (along calls_of (λ (r : OneRun). r.calls) (λ r ran n. refl) h.runs h.each alike) ∙ (h.calls_are ∙ (ap (λ l. l ++ calls) (sym fresh) ∙ sym added)))
        (ap (worst Done) (sym (along end_of (λ (r : OneRun). given_end r.given) (λ r ran n. refl) h.runs h.each alike ∙ (through given_end (λ (r : OneRun). r.given) h.runs ∙ ap (map given_end) h.given_are))))

    -- the same, of the links that were handed back and the end
    pub links_served : (works : List W) (given : List X) (own own' : List ℕ) (backs : List L) (end : ServeEnd) → own ≡ [] → All (λ w. count w ≡ sessions) works
        → AddsRuns did first last works given own own' → backs ≡ map given_link given → end ≡ worst Done (map given_end given)
        → HaveServed answers left taken in_faults out_faults connections faults (map link works) backs (map days works) sessions end first log own'
    links_served works given own own' backs end fresh many ran backs_are end_is =
        subst (λ l. HaveServed answers left taken in_faults out_faults connections faults (map link works) l (map days works) sessions end first log own') (sym backs_are)
        (subst (λ e. HaveServed answers left taken in_faults out_faults connections faults (map link works) (map given_link given) (map days works) sessions e first log own') (sym end_is)
        (have_served works given own own' fresh many ran))

module _ {I T L : Type 0} (answers : Sitting → Asked → Said → Sitting → Type 0)
    (left : I → Option (List ℕ)) (taken : T → Option (List ℕ)) (in_faults : I → ℕ) (out_faults : T → ℕ)
    (connections : L → Option (Connections (I × T))) (faults : L → ℕ) (sessions : ℕ) (first log : List (Note Command Reply)) (begins : IsPrefix first log) (grow : Grows answers) where
  abbrev Idle : Type 0
  Idle = Worker answers left taken in_faults out_faults connections faults sessions first log

  idle_one : L → Option (List ℕ) → Idle
  idle_one link days =
      let did_so = did_nothing answers left taken in_faults out_faults (connections link) (faults link) days sessions first [] refl in record {
        link = link;
        link_back = link;
        days = days;
        end = workers.Memory;
        seen = first;
        calls = [];
        did = did_so;
        within = begins;
        fronts = begin answers left taken in_faults out_faults connections faults sessions first log grow (connections link) (connections link) (faults link) (faults link) days workers.Memory first [] did_so begins;
      }

  idle : List L → List (Option (List ℕ)) → List Idle
  idle [] days = []
  idle (link ∷ links) [] = []
  idle (link ∷ links) (d ∷ days) = idle_one link d ∷ idle links days

  idle_links : (links : List L) (days : List (Option (List ℕ))) → length links ≡ length days → map (λ (w : Idle). w.link) (idle links days) ≡ links
  unfolding idle idle_one
  idle_links [] days same = refl
  idle_links (link ∷ links) [] same = let no : ⊥ = omega (arith, same) in absurd no
  idle_links (link ∷ links) (d ∷ days) same = ap (λ l. link ∷ l) (idle_links links days (omega (arith, same)))

  idle_backs : (links : List L) (days : List (Option (List ℕ))) → length links ≡ length days → map (λ (w : Idle). w.link_back) (idle links days) ≡ links
  unfolding idle idle_one
  idle_backs [] days same = refl
  idle_backs (link ∷ links) [] same = let no : ⊥ = omega (arith, same) in absurd no
  idle_backs (link ∷ links) (d ∷ days) same = ap (λ l. link ∷ l) (idle_backs links days (omega (arith, same)))

  idle_days : (links : List L) (days : List (Option (List ℕ))) → length links ≡ length days → map (λ (w : Idle). w.days) (idle links days) ≡ days
  unfolding idle idle_one
  idle_days [] [] same = refl
  idle_days [] (d ∷ days) same = let no : ⊥ = omega (arith, same) in absurd no
  idle_days (link ∷ links) [] same = let no : ⊥ = omega (arith, same) in absurd no
  idle_days (link ∷ links) (d ∷ days) same = ap (λ l. d ∷ l) (idle_days links days (omega (arith, same)))

  idle_calls : (links : List L) (days : List (Option (List ℕ))) → concat (map (λ (w : Idle). w.calls) (idle links days)) ≡ []
  unfolding idle idle_one
  idle_calls [] days = refl
  idle_calls (link ∷ links) [] = refl
  idle_calls (link ∷ links) (d ∷ days) = idle_calls links days

  idle_ends : (links : List L) (days : List (Option (List ℕ))) → worst Memory (map (λ (w : Idle). w.end) (idle links days)) ≡ Memory
  unfolding idle idle_one
  idle_ends [] days = refl
  idle_ends (link ∷ links) [] = refl
  idle_ends (link ∷ links) (d ∷ days) = idle_ends links days

  idle_end : (links : List L) (days : List (Option (List ℕ))) → length links ≡ length days → 0 < length links → worst Done (map (λ (w : Idle). w.end) (idle links days)) ≡ Memory
  unfolding idle idle_one
  idle_end [] days same some = let no : ⊥ = omega (arith, some) in absurd no
  idle_end (link ∷ links) [] same some = let no : ⊥ = omega (arith, same) in absurd no
  idle_end (link ∷ links) (d ∷ days) same some = idle_ends links days

  -- no worker could begin, for want of memory
  none_served : (links : List L) (days : List (Option (List ℕ))) → length links ≡ length days → 0 < length links
      → HaveServed answers left taken in_faults out_faults connections faults links links days sessions Memory first log []
  none_served links days same some =
      served answers left taken in_faults out_faults connections faults sessions first log links links days Memory [] (idle links days)
      (idle_links links days same) (idle_backs links days same) (idle_days links days same) (idle_calls links days) (sym (idle_end links days same some))

  -- the same, of the links that were handed back
  pub no_link_served : (links backs : List L) (days : List (Option (List ℕ))) (calls : List ℕ) → length links ≡ length days → 0 < length links → backs ≡ links → calls ≡ []
      → HaveServed answers left taken in_faults out_faults connections faults links backs days sessions Memory first log calls
  no_link_served links backs days calls same some backs_are none =
      subst (λ l. HaveServed answers left taken in_faults out_faults connections faults links l days sessions Memory first log calls) (sym backs_are)
      (subst (λ l. HaveServed answers left taken in_faults out_faults connections faults links links days sessions Memory first log l) (sym none) (none_served links days same some))

module _ {W N X : Type 0} (did : W → List N → List N → List ℕ → X → Type 0) where
  -- as many were given as there were works
  pub as_many_given : (first last : List N) (works : List W) (given : List X) (own own' : List ℕ) → AddsRuns did first last works given own own' → length given ≡ length works
  as_many_given first last works given own own' (calls, added, h) =
      ap length (sym h.given_are) ∙ (length-map h.runs (λ (r : Run W N X). r.given) ∙ (sym (length-map h.runs (λ (r : Run W N X). r.work)) ∙ ap length h.works_are))
