-- The undoing of several changes, one after the other.
use Rattle.std.specs.Prelude.{◌≡◌, ℕ, ◌+◌, ◌<◌, ◌≤◌, List, [], ◌∷◌, ◌++◌, length, take, drop, refl}
use Rattle.std.proofs.Common.{sym, ◌∙◌, ap, subst, arith, length-append}
use Rattle.std.proofs.lemmas.List.{take-append-le, drop-append-le, take_all, drop_all}
use Rattle.sect_space.specs.declared.back.Back.{Back}
use Rattle.sect_space.specs.Recorded.{Recorded}
use Rattle.sect_space.specs.Roomed.{Roomed}
use Rattle.sect_space.specs.Room.{KeepsRoom, KeepsUses}
use Rattle.sect_space.specs.Made.{Taken}
use Rattle.sect_space.specs.Undo.{undone, Undoable}
use Rattle.sect_space.specs.Undoing.{MadeBy, UndoneLast, Undoing}
use Rattle.sect_space.proofs.Steps.{last-of, made-by, taken-last, undone-last}

trans : {a b c : ℕ} → a ≤ b → b ≤ c → a ≤ c
trans h i = omega (arith, h, i)

pub room-both : (r s t : Roomed) → KeepsRoom r s → KeepsRoom s t → KeepsRoom r t
room-both r s t h k = record {
  lists = record {
    roster = λ n. trans (h.lists.roster n) (k.lists.roster n);
    reservations = λ n. trans (h.lists.reservations n) (k.lists.reservations n);
    restrictions = λ n. trans (h.lists.restrictions n) (k.lists.restrictions n);
    reservation_ids = trans h.lists.reservation_ids k.lists.reservation_ids;
    restriction_ids = trans h.lists.restriction_ids k.lists.restriction_ids;
  };
  uses = λ id known. k.uses id (h.uses id known);
}

pub room-same : (r : Roomed) → KeepsRoom r r
room-same r = record {
  lists = record { roster = λ n. omega arith; reservations = λ n. omega arith; restrictions = λ n. omega arith; reservation_ids = omega arith; restriction_ids = omega arith };
  uses = λ id known. known;
}

-- the last recorded change made the world
pub last-made : (r : Roomed) (backs : List Back) (back : Back) → Undoable r (backs ++ back ∷ []) → MadeBy r back
last-made r backs back u = made-by r backs back (last-of r backs back u)

-- the last recorded change is taken back, and the others may be
pub last-undone : (r : Roomed) (u : Recorded) (s : Roomed) (v : Recorded) (back : Back) → Undoable r u.backs → u.backs ≡ v.backs ++ back ∷ [] → v.spare ≡ u.spare + 1 → Taken r s back → KeepsUses r s
    → UndoneLast r u s v
last-undone r u s v back w e n t uses =
    let l = last-of r v.backs back (subst (Undoable r) e w) in
    record {
      last = back;
      recorded = e;
      world = t.world;
      room = record { lists = t.room; uses = uses };
      undo_room = omega (arith, n);
      undoable = l.rest s (t.world ∙ taken-last r v.backs back l) (record { lists = t.room; uses = uses });
    }

pub undoing-none : (r : Roomed) (u : Recorded) (len : ℕ) → Undoable r u.backs → len ≤ length u.backs → Undoing r u len r u
undoing-none r u len w h = record { within = h; world = refl; recorded = refl; room = room-same r; undo_room = omega arith; undoable = w }

pub undoing-more : (r : Roomed) (u : Recorded) (len : ℕ) (s : Roomed) (v : Recorded) (t : Roomed) (w : Recorded) → Undoing r u len s v → len < length v.backs → UndoneLast s v t w
    → Undoing r u len t w
undoing-more r u len s v t w d h l =
    let n = ap length l.recorded ∙ length-append w.backs (l.last ∷ []) in
    let k : len ≤ length w.backs = shorter (length v.backs) (length w.backs) n h in
    record {
      within = k;
      world =
          ap (λ x. undone x (drop len w.backs)) l.world
          ∙ sym (undone-last s.world (drop len w.backs) l.last)
          ∙ ap (undone s.world) (sym (ap (drop len) l.recorded ∙ drop-append-le len w.backs (l.last ∷ []) k))
          ∙ d.world;
      recorded = sym (ap (take len) l.recorded ∙ take-append-le len w.backs (l.last ∷ []) k) ∙ d.recorded;
      room = room-both r s t d.room l.room;
      undo_room = trans d.undo_room l.undo_room;
      undoable = l.undoable;
    }
  where
    shorter : (m n : ℕ) → m ≡ n + 1 → len < m → len ≤ n
    shorter m n e h = omega (arith, e, h)

pub shorter-last : (u : Recorded) (back : Back) (vs : List Back) → u.backs ≡ vs ++ back ∷ [] → length vs < length u.backs
shorter-last u back vs e = omega (arith, ap length e ∙ length-append vs (back ∷ []))

-- where none is left behind the first
pub undoing-world : (r : Roomed) (u : Recorded) (len : ℕ) (s : Roomed) (v : Recorded) → Undoing r u len s v → length v.backs ≤ len → s.world ≡ undone r.world (drop len u.backs)
undoing-world r u len s v d h = ap (undone s.world) (sym (drop_all len v.backs h)) ∙ d.world

pub undoing-recorded : (r : Roomed) (u : Recorded) (len : ℕ) (s : Roomed) (v : Recorded) → Undoing r u len s v → length v.backs ≤ len → v.backs ≡ take len u.backs
undoing-recorded r u len s v d h = sym (take_all len v.backs h) ∙ d.recorded
