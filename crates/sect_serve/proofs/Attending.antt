-- Talks one after another.
use Rattle.std.proofs.Common.{◌≡◌, ◌≤◌, ◌<◌, ◌⊎◌, ℕ, ◌+◌, ◌-◌, List, [], ◌∷◌, ◌++◌, length, map, Option, Some, None, refl, sym, inr, ap, ◌∙◌, subst, append_assoc, append-nil, length-append, arith}
use Rattle.std.specs.List.{concat}
use Rattle.std.proofs.lemmas.List.{map-append}
use Rattle.sect_answer.specs.Answering.{Sitting}
use Rattle.sect_command.specs.declared.command.Command.{Command}
use Rattle.sect_command.specs.declared.reply.Reply.{Reply}
use Rattle.sect_edge.specs.Causes.{Rose}
use Rattle.sect_edge.specs.Link.{Connections, GivesConnection, TakesBack, HasOneOut, Ends, KeepsConnections}
use Rattle.sect_office.specs.Calls.{AddsCalls}
use Rattle.sect_once.specs.declared.entry.Note.{Note}
use Rattle.sect_talk.specs.Said.{Said}
use Rattle.sect_talk.specs.Asked.{Asked}
use Rattle.sect_talk.specs.Talk.{Talked}
use Rattle.sect_talk.specs.declared.end.End.{End}
use Rattle.sect_talk.specs.declared.end.End.TheVariants.{ReadFault, WriteFault}
use Rattle.sect_serve.specs.Talks.{Talk, Follow, HandsBack}
use Rattle.sect_serve.specs.Working.{Attends, IsWorkerEnd, NoneToCome, Underway, WorkerDid, Works, at_first}
use Rattle.sect_serve.specs.declared.server.WorkerEnd.{WorkerEnd}
use Rattle.sect_serve.specs.declared.server.WorkerEnd.TheVariants.{Done, Failed, Memory}

-- a connection that was given is out
pub one_is_out : {C : Type 0} (old new : Option (Connections C)) (given : C) → GivesConnection old new given → HasOneOut new
one_is_out None new given is = subst HasOneOut (sym is) tt
one_is_out (Some old) new given (rest, first, is) = subst HasOneOut (sym is) (omega arith)

-- a link that gives its end, or a fault, tells what it told
pub kept_is_same : {C : Type 0} (old new : Option (Connections C)) → KeepsConnections old new → new ≡ old
kept_is_same None new is = is
kept_is_same (Some old) new is = is

pub end_is_same : {C : Type 0} (old new : Option (Connections C)) → Ends old new → new ≡ old
end_is_same None new is = is
end_is_same (Some old) new (none, is) = is

pub none_comes : {C : Type 0} (old new : Option (Connections C)) → Ends old new → NoneToCome new
none_comes None new is = subst NoneToCome (sym is) tt
none_comes (Some old) new (none, is) = subst NoneToCome (sym is) none

-- what ended a worker since its last talk ended it since its first
ended_since : {C : Type 0} (end : WorkerEnd) (told : Option (Connections C)) (count count_mid count' talks sessions : ℕ) → count ≤ count_mid
    → IsWorkerEnd end told count_mid count' talks sessions → IsWorkerEnd end told count count' talks sessions
ended_since Done told count count_mid count' talks sessions more ended = ended
ended_since Failed told count count_mid count' talks sessions more ended = omega (arith, more, ended)
ended_since Memory told count count_mid count' talks sessions more ended = tt

module _ {I T : Type 0} (answers : Sitting → Asked → Said → Sitting → Type 0)
    (left : I → Option (List ℕ)) (taken : T → Option (List ℕ)) (in_faults : I → ℕ) (out_faults : T → ℕ) where
  abbrev One : Type 0
  One = Talk answers left taken in_faults out_faults

  follow_then : (a b c : Sitting) (i j k : ℕ) (ts us : List One) → Follow answers left taken in_faults out_faults a i ts b j
      → Follow answers left taken in_faults out_faults b j us c k → Follow answers left taken in_faults out_faults a i (ts ++ us) c k
  follow_then a b c i j k [] us (same, at) more =
      subst (λ n. Follow answers left taken in_faults out_faults a n us c k) at (subst (λ s. Follow answers left taken in_faults out_faults s j us c k) same more)
  follow_then a b c i j k (t ∷ ts) us (before, step, rest) more = (before, step, follow_then t.after b c t.next_step j k ts us rest more)

  follow_own : (a b : Sitting) (i j : ℕ) (ts : List One) → Follow answers left taken in_faults out_faults a i ts b j
      → b.own ≡ a.own ++ concat (map (λ (t : One). t.calls) ts)
  follow_own a b i j [] (same, at) = ap (λ (s : Sitting). s.own) same ∙ sym (append-nil a.own)
  follow_own a b i j (t ∷ ts) (before, step, rest) =
      follow_own t.after b t.next_step j ts rest
      ∙ (ap (λ l. l ++ concat (map (λ (u : One). u.calls) ts)) (t.own ∙ ap (λ (s : Sitting). s.own ++ t.calls) before)
      ∙ append_assoc a.own t.calls (concat (map (λ (u : One). u.calls) ts)))

  hands_none : (told : Option (Connections (I × T))) → HandsBack answers left taken in_faults out_faults told told []
  hands_none None = refl
  hands_none (Some old) = (old.to_come, refl, ap (λ l. Some (record { to_come = old.to_come; out = old.out; handed_back = l })) (sym (append-nil old.handed_back)))

  hands_then : (x y z : Option (Connections (I × T))) (ts us : List One) → HandsBack answers left taken in_faults out_faults x y ts
      → HandsBack answers left taken in_faults out_faults y z us → HandsBack answers left taken in_faults out_faults x z (ts ++ us)
  hands_then None y z ts us is more = subst (λ w. HandsBack answers left taken in_faults out_faults w z us) is more
  hands_then (Some old) y z ts us (rest, come, is) more =
      let then = subst (λ w. HandsBack answers left taken in_faults out_faults w z us) is more in (
        then.0,
        come ∙ (ap (λ l. map (λ (t : One). t.came) ts ++ l) then.1
            ∙ (sym (append_assoc (map (λ (t : One). t.came) ts) (map (λ (t : One). t.came) us) then.0)
            ∙ ap (λ l. l ++ then.0) (sym (map-append (λ (t : One). t.came) ts us)))),
        then.2 ∙ ap (λ l. Some (record { to_come = then.0; out = old.out; handed_back = l }))
            (append_assoc old.handed_back (map (λ (t : One). t.back) ts) (map (λ (t : One). t.back) us)
            ∙ ap (λ l. old.handed_back ++ l) (sym (map-append (λ (t : One). t.back) ts us))),
      )

  hands_one : (told mid told' : Option (Connections (I × T))) (t : One) → GivesConnection told mid t.came → TakesBack mid told' t.back
      → HandsBack answers left taken in_faults out_faults told told' (t ∷ [])
  hands_one None mid told' t given back = subst (λ w. TakesBack w told' t.back) given back
  hands_one (Some old) mid told' t (rest, first, given) back =
      let gone : old.out + 1 - 1 ≡ old.out = omega arith in
      (rest, first, subst (λ w. TakesBack w told' t.back) given back ∙ ap (λ n. Some (record { to_come = rest; out = n; handed_back = old.handed_back ++ t.back ∷ [] })) gone)

  -- nothing was done yet
  pub begun : (told : Option (Connections (I × T))) (count : ℕ) (old : Sitting) (step : ℕ)
      → Underway answers left taken in_faults out_faults told told count count old old step step 0
  begun told count old step = record { talks = []; follow = (refl, refl); back = hands_none told; many = refl; later = omega arith }

  -- more talks behind the others
  pub more_talks : (told mid told' : Option (Connections (I × T))) (count count_mid count' : ℕ) (a b c : Sitting) (i j k n m : ℕ)
      → Underway answers left taken in_faults out_faults told mid count count_mid a b i j n
      → Underway answers left taken in_faults out_faults mid told' count_mid count' b c j k m
      → Underway answers left taken in_faults out_faults told told' count count' a c i k (n + m)
  more_talks told mid told' count count_mid count' a b c i j k n m h g = record {
    talks = h.talks ++ g.talks;
    follow = follow_then a b c i j k h.talks g.talks h.follow g.follow;
    back = hands_then told mid told' h.talks g.talks h.back g.back;
    many = length-append h.talks g.talks ∙ (ap (λ l. l + length g.talks) h.many ∙ ap (λ l. n + l) g.many);
    later = omega (arith, h.later, g.later);
  }

  -- one connection came, was talked over, and was handed back
  pub attended : (told mid told' : Option (Connections (I × T))) (count count_mid count' : ℕ) (old new : Sitting) (step next : ℕ) (end : End) (came back : I × T)
      → GivesConnection told mid came → TakesBack mid told' back → count ≤ count_mid → count_mid ≤ count'
      → Talked answers (left came.0) (left back.0) (taken came.1) (taken back.1) step next old new end
      → AddsCalls old.front new.front old.own new.own
      → (in_faults came.0 ≤ in_faults back.0) × (out_faults came.1 ≤ out_faults back.1)
      → (end ≡ ReadFault → Rose (in_faults came.0) (in_faults back.0)) → (end ≡ WriteFault → Rose (out_faults came.1) (out_faults back.1))
      → Underway answers left taken in_faults out_faults told told' count count' old new step next 1
  attended told mid told' count count_mid count' old new step next end came back given taken_back more more' talked calls later read write =
      let t : One = record {
        came = came;
        back = back;
        before = old;
        after = new;
        first_step = step;
        next_step = next;
        end = end;
        calls = calls.0;
        talked = talked;
        own = calls.1;
        rises = calls.2;
        later = later;
        read_fault = read;
        write_fault = write;
      } in record {
        talks = t ∷ [];
        follow = (refl, refl, (refl, refl));
        back = hands_one told mid told' t given taken_back;
        many = refl;
        later = omega (arith, more, more');
      }

  -- a worker that ended behind some talks
  pub worked : (told mid told' : Option (Connections (I × T))) (count count_mid count' : ℕ) (a b c : Sitting) (i j k n sessions : ℕ) (end : WorkerEnd)
      → Underway answers left taken in_faults out_faults told mid count count_mid a b i j n → n ≤ sessions
      → Attends answers left taken in_faults out_faults mid told' count_mid count' b c j k (Some end)
      → Works answers left taken in_faults out_faults told told' count count' a c i k sessions end
  worked told mid told' count count_mid count' a b c i j k n sessions end h few (kept, more, same, at, ended) =
      let follow = subst (λ m. Follow answers left taken in_faults out_faults a i h.talks c m) (sym at) (subst (λ s. Follow answers left taken in_faults out_faults a i h.talks s j) (sym same) h.follow) in (
        n,
        record { talks = h.talks; follow = follow; back = subst (λ w. HandsBack answers left taken in_faults out_faults told w h.talks) (sym kept) h.back; many = h.many; later = omega (arith, h.later, more) },
        few,
        ended_since end told' count count_mid count' n sessions h.later (ended n sessions),
      )

  -- a worker that has talked as often as it may
  pub worked_through : (told told' : Option (Connections (I × T))) (count count' : ℕ) (a b : Sitting) (i j sessions : ℕ)
      → Underway answers left taken in_faults out_faults told told' count count' a b i j sessions
      → Works answers left taken in_faults out_faults told told' count count' a b i j sessions Done
  worked_through told told' count count' a b i j sessions h = (sessions, h, omega arith, inr refl)

  -- a worker that ended
  pub did_work : (told told' : Option (Connections (I × T))) (count count' : ℕ) (days : Option (List ℕ)) (own : List ℕ) (front : List (Note Command Reply)) (new : Sitting)
      (next sessions : ℕ) (end : WorkerEnd) → own ≡ []
      → Works answers left taken in_faults out_faults told told' count count' (record { front = front; own = own; days = days }) new 0 next sessions end
      → WorkerDid answers left taken in_faults out_faults told told' count count' days sessions end front new.front new.own
  did_work told told' count count' days own front new next sessions end fresh (n, h, few, ended) =
      let follow : Follow answers left taken in_faults out_faults (at_first front days) 0 h.talks new next =
      subst (λ l. Follow answers left taken in_faults out_faults (record { front = front; own = l; days = days }) 0 h.talks new next) fresh h.follow in
      record {
        talks = h.talks;
        last = new;
        steps = next;
        follow = follow;
        seen_is = refl;
        calls_are = sym (follow_own (at_first front days) new 0 next h.talks follow);
        back = h.back;
        few = omega (arith, few, h.many);
        ended = subst (λ l. IsWorkerEnd end told' count count' l sessions) (sym h.many) ended;
        later = h.later;
      }

  -- a worker that wanted memory for its bench
  pub did_nothing : (told : Option (Connections (I × T))) (count : ℕ) (days : Option (List ℕ)) (sessions : ℕ) (first : List (Note Command Reply)) (own : List ℕ) → own ≡ []
      → WorkerDid answers left taken in_faults out_faults told told count count days sessions Memory first first own
  did_nothing told count days sessions first own fresh =
      did_work told told count count days own first (record { front = first; own = own; days = days }) 0 sessions Memory fresh (0, begun told count (record { front = first; own = own; days = days }) 0, omega arith, tt)
