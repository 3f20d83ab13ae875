-- How far settling has come: what is placed so far, and what is left to settle.
use Rattle.std.specs.Prelude.{◌≡◌, ◌<◌, IsTrue, List, [], ◌∷◌, ◌++◌, length, Option, Some, None, Result, Ok, Err, IfOk, OnOk, OnErr, refl}
use Rattle.std.specs.List.{list_all}
use Rattle.std.proofs.Common.{sym, ◌∙◌, ap, subst, append_assoc}
use Rattle.std.proofs.lemmas.List.{append-nil}
use Rattle.sect_model.specs.declared.held.Waiting.{Waiting}
use Rattle.sect_model.specs.declared.held.Placed.{Placed}
use Rattle.sect_model.specs.World.{World, State}
use Rattle.sect_model.specs.Kept.{KeptWorld, KeptState, entry_fits}
use Rattle.sect_model.specs.Settle.{Settled, settle, with_placed, place, is_settled}
use Rattle.sect_model.proofs.KeptMoves.{place-state}
use Rattle.sect_model.proofs.SettleLemmas.{settles, settled-stays, next_entry-none, place-shorter}
use Rattle.sect_model.proofs.SettleSteps.{settle-unfolds}
use Rattle.sect_wait.specs.declared.next.Candidate.{Candidate}
use Rattle.sect_wait.specs.Queued.{Queued, IsQueue, state_of, left}
use Rattle.sect_wait.specs.Placing.{IsBest, moved, placed_of}
use Rattle.sect_wait.proofs.PlacingLemmas.{placed-state, placed-one, best-member}

-- from a world and queue to a world and queue: these are placed, and settling what is left goes on
pub record Settling (w_old : World) (q_old : Queued) (w : World) (q : Queued) (placed : List Placed) : Type 0 where
  pub settles : settle (state_of w_old q_old) ≡ with_placed placed (settle (state_of w q))
  pub kept : KeptState (state_of w q)

with-none : (r : Settled) → with_placed [] r ≡ r
with-none r = refl

with-more : (xs ys : List Placed) (r : Settled) → with_placed xs (with_placed ys r) ≡ with_placed (xs ++ ys) r
with-more xs ys r = λ i. record { state = r.state; placed = sym (append_assoc xs ys r.placed) i }

pub settling-none : (w : World) (q : Queued) (placed : List Placed) → KeptWorld w → IsQueue q → IsTrue (list_all (entry_fits w) q.entries) → placed ≡ [] → Settling w q w q placed
settling-none w q placed k is_queue fit none = record {
  settles = ap (λ ps. with_placed ps (settle (state_of w q))) (sym none);
  kept = record { world = k; in_order = is_queue.in_order; entries_fit = fit };
}

module _ (w : World) (q : Queued) (c : Candidate) (k : KeptState (state_of w q)) (best : IsBest w q.entries (Some c)) where
  next_state : place (state_of w q) best.0 ≡ state_of (moved w c) (left q c.ticket)
  next_state = placed-state (state_of w q) best.0 c best.2

  pub shorter : length (left q c.ticket).entries < length q.entries
  shorter = subst (λ s. length s.entries < length q.entries) next_state (place-shorter (state_of w q) best.0 best.1)

  next-kept : KeptState (state_of (moved w c) (left q c.ticket))
  next-kept = subst KeptState next_state (place-state (state_of w q) best.0 (best-member w q.entries best.0 best.1) k)

  next-settles : settle (state_of w q) ≡ with_placed (placed_of c ∷ []) (settle (state_of (moved w c) (left q c.ticket)))
  next-settles = settle-unfolds (state_of w q) best.0 best.1 ∙ (λ i. with_placed (placed-one w best.0 c best.2 i) (settle (next_state i)))

-- a placement more
pub settling-more : (w_old : World) (q_old : Queued) (w : World) (q : Queued) (placed : List Placed) (c : Candidate) (v : World) (p : Queued) (now : List Placed)
    → Settling w_old q_old w q placed → IsBest w q.entries (Some c) → v ≡ moved w c → p ≡ left q c.ticket → now ≡ placed ++ placed_of c ∷ [] → Settling w_old q_old v p now
settling-more w_old q_old w q placed c v p now s best world queue more =
    subst (λ xs. Settling w_old q_old v p xs) (sym more) (subst (λ u. Settling w_old q_old u p (placed ++ placed_of c ∷ [])) (sym world)
    (subst (λ r. Settling w_old q_old (moved w c) r (placed ++ placed_of c ∷ [])) (sym queue) (record {
      settles = s.settles ∙ ap (with_placed placed) (next-settles w q c s.kept best) ∙ with-more placed (placed_of c ∷ []) (settle (state_of (moved w c) (left q c.ticket)));
      kept = next-kept w q c s.kept best;
    })))

-- no entry is left that can be placed
pub settling-done : (w_old : World) (q_old : Queued) (w : World) (q : Queued) (placed : List Placed) → Settling w_old q_old w q placed → IsBest w q.entries None
    → settle (state_of w_old q_old) ≡ record { state = state_of w q; placed = placed }
settling-done w_old q_old w q placed s best =
    s.settles ∙ ap (with_placed placed) (settled-stays (state_of w q) (next_entry-none (state_of w q) best)) ∙ (λ i. record { state = state_of w q; placed = append-nil placed i })

-- what a round found
pub best-of : (w : World) (es : List Waiting) (o p : Option Candidate) → o ≡ p → IsBest w es o → IsBest w es p
best-of w es o p is best = subst (IsBest w es) is best

-- ---- the end

-- after settling nobody is left who can be placed
pub nobody-left : {E : Type 0} (s t : State) (r : Result (List Placed) E) → IfOk r (λ placed. settle s ≡ record { state = t; placed = placed }) → OnOk r (IsTrue (is_settled t))
nobody-left s t (Ok placed) e = subst (λ u. IsTrue (is_settled u)) (ap (λ (x : Settled). x.state) e) (settles s)
nobody-left s t (Err x) e = tt

-- what holds anyway holds after a failure
pub on-err : {A E P : Type 0} (r : Result A E) → P → OnErr r P
on-err (Ok x) p = tt
on-err (Err x) p = p
