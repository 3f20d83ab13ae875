-- One change more, or one less: what changes lead to, what is kept of them, and what is undone.
use Rattle.std.specs.Prelude.{◌≡◌, ℕ, ◌+◌, ◌-◌, ◌≤◌, ◌==◌, List, [], ◌∷◌, ◌++◌, length, take, drop, refl, ◌⊎◌}
use Rattle.std.specs.List.{list_any}
use Rattle.std.specs.Option.{is_some}
use Rattle.std.proofs.Common.{sym, ◌∙◌, ap, subst, arith, inl, inr, append_assoc, length-append}
use Rattle.std.proofs.lemmas.List.{append-nil}
use Rattle.std.proofs.Math.Seq.{take-append_seam, drop-append_seam}
use Rattle.sect_model.specs.declared.change.Change.{Change}
use Rattle.sect_model.specs.World.{World, reservation_of}
use Rattle.sect_model.specs.Kept.{KeptWorld}
use Rattle.sect_model.specs.Fits.{Fits, changed}
use Rattle.sect_model.proofs.ChangeLemmas.{changes-keep}
use Rattle.sect_model.proofs.Members.{or-left}
use Rattle.sect_space.specs.declared.back.Back.{Back}
use Rattle.sect_space.specs.Back.{back_of, taken_back}
use Rattle.sect_space.specs.Roomed.{Roomed}
use Rattle.sect_roster.specs.Slots.{capacity_of, number_of}
use Rattle.sect_roster.specs.Rostered.{number_held}
use Rattle.sect_space.specs.Room.{HasRoom, KeepsRoom, free_for}
use Rattle.sect_space.specs.Undo.{undone, all_changed, backs_of, AllFit, RoomFor, Undoable, Since}
use Rattle.sect_space.specs.Undoing.{MadeBy}
use Rattle.sect_space.proofs.TakenBack.{taken-back}

-- ---- changes in two parts

changed-append : (w : World) (cs ds : List Change) → all_changed w (cs ++ ds) ≡ all_changed (all_changed w cs) ds
changed-append w [] ds = refl
changed-append w (c ∷ cs) ds = changed-append (changed w c) cs ds

backs-append : (w : World) (cs ds : List Change) → backs_of w (cs ++ ds) ≡ backs_of w cs ++ backs_of (all_changed w cs) ds
backs-append w [] ds = refl
backs-append w (c ∷ cs) ds = ap (λ bs. back_of w c ∷ bs) (backs-append (changed w c) cs ds)

fit-append : (w : World) (cs ds : List Change) → AllFit w cs → AllFit (all_changed w cs) ds → AllFit w (cs ++ ds)
fit-append w [] ds f g = g
fit-append w (c ∷ cs) ds f g = (f.0, fit-append (changed w c) cs ds f.1 g)

fit-front : (w : World) (cs ds : List Change) → AllFit w (cs ++ ds) → AllFit w cs
fit-front w [] ds f = tt
fit-front w (c ∷ cs) ds f = (f.0, fit-front (changed w c) cs ds f.1)

fit-back : (w : World) (cs ds : List Change) → AllFit w (cs ++ ds) → AllFit (all_changed w cs) ds
fit-back w [] ds f = f
fit-back w (c ∷ cs) ds f = fit-back (changed w c) cs ds f.1

-- after changes that fit, a kept world is kept
pub all-keep : (w : World) (cs : List Change) → KeptWorld w → AllFit w cs → KeptWorld (all_changed w cs)
all-keep w [] k f = k
all-keep w (c ∷ cs) k f = all-keep (changed w c) cs (changes-keep w c k f.0) f.1

-- ---- room

trans : {a b c : ℕ} → a ≤ b → b ≤ c → a ≤ c
trans h i = omega (arith, h, i)

-- more room serves too
has-more : (r s : Roomed) (w : World) → KeepsRoom r s → HasRoom r w → HasRoom s w
has-more r s w k h = record {
  lists = record {
    roster = λ n. trans (h.lists.roster n) (k.lists.roster n);
    reservations = λ n. trans (h.lists.reservations n) (k.lists.reservations n);
    restrictions = λ n. trans (h.lists.restrictions n) (k.lists.restrictions n);
    reservation_ids = trans h.lists.reservation_ids k.lists.reservation_ids;
    restriction_ids = trans h.lists.restriction_ids k.lists.restriction_ids;
  };
  uses = λ id known. k.uses id (h.uses id known);
}

room-more : (r s : Roomed) (w : World) (cs : List Change) → KeepsRoom r s → RoomFor r w cs → RoomFor s w cs
room-more r s w [] k h = has-more r s w k h
room-more r s w (c ∷ cs) k h = (has-more r s w k h.0, room-more r s (changed w c) cs k h.1)

room-append : (r : Roomed) (w : World) (cs : List Change) (c : Change) → RoomFor r w cs → HasRoom r (changed (all_changed w cs) c) → RoomFor r w (cs ++ c ∷ [])
room-append r w [] c h i = (h, i)
room-append r w (d ∷ cs) c h i = (h.0, room-append r (changed w d) cs c h.1 i)

room-front : (r : Roomed) (w : World) (cs : List Change) (c : Change) → RoomFor r w (cs ++ c ∷ []) → RoomFor r w cs
room-front r w [] c h = h.0
room-front r w (d ∷ cs) c h = (h.0, room-front r (changed w d) cs c h.1)

room-last : (r : Roomed) (w : World) (cs : List Change) → RoomFor r w cs → HasRoom r (all_changed w cs)
room-last r w [] h = h
room-last r w (c ∷ cs) h = room-last r (changed w c) cs h.1

-- a world's own lists have room for it
own-room : (r : Roomed) (w : World) → r.world ≡ w → HasRoom r w
own-room r w e = subst (HasRoom r) e (record {
  lists = record {
    roster = λ n. enough (number_held n r.world.roster) (free_for r n);
    reservations = λ n. enough (number_of (λ x. x.offering.0) n r.world.reservations) (capacity_of r.reservation_rooms n - number_of (λ x. x.offering.0) n r.world.reservations);
    restrictions = λ n. enough (number_of (λ x. x.offering.0) n r.world.restrictions) (capacity_of r.restriction_rooms n - number_of (λ x. x.offering.0) n r.world.restrictions);
    reservation_ids = enough (length r.world.reservations) r.reservation_spare;
    restriction_ids = enough (length r.world.restrictions) r.restriction_spare;
  };
  uses = λ id known. or-left (is_some (reservation_of r.world id)) (list_any (λ k. k == id.0) r.counted_ids) known;
})
  where
    enough : (a b : ℕ) → a ≤ a + b
    enough a b = omega arith

-- ---- what can be undone

-- nothing was recorded
pub undoable-none : (r : Roomed) → KeptWorld r.world → Undoable r []
undoable-none r k = record { before = r.world; changes = []; kept = k; fit = tt; led = refl; recorded = refl; room = own-room r r.world refl }

-- a change more
pub undoable-more : (r s : Roomed) (backs : List Back) (c : Change) → Undoable r backs → Fits r.world c → s.world ≡ changed r.world c → KeepsRoom r s
    → Undoable s (backs ++ back_of r.world c ∷ [])
undoable-more r s backs c u f e k = record {
  before = u.before;
  changes = u.changes ++ c ∷ [];
  kept = u.kept;
  fit = fit-append u.before u.changes (c ∷ []) u.fit (subst (λ w. Fits w c) (sym u.led) f, tt);
  led = changed-append u.before u.changes (c ∷ []) ∙ ap (λ w. changed w c) u.led ∙ sym e;
  recorded = backs-append u.before u.changes (c ∷ []) ∙ (λ i. u.recorded i ++ back_of (u.led i) c ∷ []);
  room = room-append s u.before u.changes c (room-more r s u.before u.changes k u.room) (own-room s (changed (all_changed u.before u.changes) c) (e ∙ ap (λ w. changed w c) (sym u.led)));
}

-- more room, and the same world
pub undoable-room : (r s : Roomed) (backs : List Back) → Undoable r backs → s.world ≡ r.world → KeepsRoom r s → Undoable s backs
undoable-room r s backs u e k = record {
  before = u.before;
  changes = u.changes;
  kept = u.kept;
  fit = u.fit;
  led = u.led ∙ sym e;
  recorded = u.recorded;
  room = room-more r s u.before u.changes k u.room;
}

-- ---- the last change

-- a list is empty, or has a last element
abbrev Ends : {X : Type 0} → List X → Type 0
Ends {X} xs = (xs ≡ []) ⊎ ((front : List X) × (last : X) × (xs ≡ front ++ last ∷ []))

ends : {X : Type 0} (xs : List X) → Ends xs
ends [] = inl refl
ends {X = X} (x ∷ xs) = longer (ends xs)
  where
    longer : Ends xs → Ends (x ∷ xs)
    longer (inl e) = inr ([], x, ap (λ ys. x ∷ ys) e)
    longer (inr (front, last, e)) = inr (x ∷ front, last, ap (λ ys. x ∷ ys) e)

no-last : {X : Type 0} (xs : List X) (x : X) → [] ≡ xs ++ x ∷ [] → ⊥
no-last [] x e = cc
no-last (y ∷ ys) x e = cc

same-last : {X : Type 0} (xs ys : List X) (x y : X) → xs ++ x ∷ [] ≡ ys ++ y ∷ [] → (xs ≡ ys) × (x ≡ y)
same-last [] [] x y e = (refl, cc)
same-last [] (z ∷ zs) x y e = absurd (no-last zs y cc)
same-last (z ∷ zs) [] x y e = absurd (no-last zs x cc)
same-last {X = X} (z ∷ zs) (v ∷ vs) x y e = both (same-last zs vs x y cc)
  where
    first : z ≡ v
    first = cc

    both : (zs ≡ vs) × (x ≡ y) → (z ∷ zs ≡ v ∷ vs) × (x ≡ y)
    both (a, b) = (λ i. first i ∷ a i, b)

-- the last of the recorded changes fits the world before it, which is kept and for which there is room
pub record Last (r : Roomed) (backs : List Back) (back : Back) : Type 0 where
  pub before : World
  pub change : Change
  pub kept : KeptWorld before
  pub fits : Fits before change
  pub led : changed before change ≡ r.world
  pub recorded : back_of before change ≡ back
  pub room : HasRoom r before
  pub rest : (s : Roomed) → s.world ≡ before → KeepsRoom r s → Undoable s backs

pub last-of : (r : Roomed) (backs : List Back) (back : Back) → Undoable r (backs ++ back ∷ []) → Last r backs back
last-of r backs back u = by_end (ends u.changes)
  where
    by_end : Ends u.changes → Last r backs back
    by_end (inl e) = absurd (no-last backs back (sym (ap (backs_of u.before) e) ∙ u.recorded))
    by_end (inr (front, last, e)) =
        let s = same-last (backs_of u.before front) backs (back_of (all_changed u.before front) last) back (sym (backs-append u.before front (last ∷ [])) ∙ sym (ap (backs_of u.before) e) ∙ u.recorded) in
        let f : AllFit u.before (front ++ last ∷ []) = subst (AllFit u.before) e u.fit in
        let m : RoomFor r u.before (front ++ last ∷ []) = subst (RoomFor r u.before) e u.room in
        let n : RoomFor r u.before front = room-front r u.before front last m in
        record {
          before = all_changed u.before front;
          change = last;
          kept = all-keep u.before front u.kept (fit-front u.before front (last ∷ []) f);
          fits = (fit-back u.before front (last ∷ []) f).0;
          led = sym (changed-append u.before front (last ∷ [])) ∙ sym (ap (all_changed u.before) e) ∙ u.led;
          recorded = s.1;
          room = room-last r u.before front n;
          rest = λ t g k. record {
            before = u.before;
            changes = front;
            kept = u.kept;
            fit = fit-front u.before front (last ∷ []) f;
            led = sym g;
            recorded = s.0;
            room = room-more r t u.before front k n;
          };
        }

pub made-by : (r : Roomed) (backs : List Back) (back : Back) → Last r backs back → MadeBy r back
made-by r backs back l = record { before = l.before; change = l.change; kept = l.kept; fits = l.fits; led = l.led; recorded = l.recorded; room = l.room }

-- the world after the last change is taken back
pub taken-last : (r : Roomed) (backs : List Back) (back : Back) (l : Last r backs back) → taken_back r.world back ≡ l.before
taken-last r backs back l = (λ i. taken_back (sym l.led i) (sym l.recorded i)) ∙ taken-back l.before l.change l.kept l.fits

-- ---- undoing

pub undone-last : (w : World) (bs : List Back) (b : Back) → undone w (bs ++ b ∷ []) ≡ undone (taken_back w b) bs
undone-last w [] b = refl
undone-last w (c ∷ bs) b = ap (λ v. taken_back v c) (undone-last w bs b)

-- the changes taken back again leave the world from which they led
pub all-taken-back : (w : World) (cs : List Change) → KeptWorld w → AllFit w cs → undone (all_changed w cs) (backs_of w cs) ≡ w
all-taken-back w [] k f = refl
all-taken-back w (c ∷ cs) k f =
    ap (λ v. taken_back v (back_of w c)) (all-taken-back (changed w c) cs (changes-keep w c k f.0) f.1)
    ∙ taken-back w c k f.0

-- ---- since

pub since-none : (w : World) (backs : List Back) → Since w backs w backs
since-none w backs = record { changes = []; fit = tt; led = refl; recorded = sym (append-nil backs) }

pub since-more : (w v : World) (backs backs_now : List Back) (c : Change) → Since w backs v backs_now → Fits v c → Since w backs (changed v c) (backs_now ++ back_of v c ∷ [])
since-more w v backs backs_now c s f = record {
  changes = s.changes ++ c ∷ [];
  fit = fit-append w s.changes (c ∷ []) s.fit (subst (λ x. Fits x c) (sym s.led) f, tt);
  led = changed-append w s.changes (c ∷ []) ∙ ap (λ x. changed x c) s.led;
  recorded =
      (λ i. s.recorded i ++ back_of (sym s.led i) c ∷ [])
      ∙ append_assoc backs (backs_of w s.changes) (back_of (all_changed w s.changes) c ∷ [])
      ∙ ap (λ bs. backs ++ bs) (sym (backs-append w s.changes (c ∷ [])));
}

pub since-both : (u v w : World) (bs cs ds : List Back) → Since u bs v cs → Since v cs w ds → Since u bs w ds
since-both u v w bs cs ds s t = record {
  changes = s.changes ++ t.changes;
  fit = fit-append u s.changes t.changes s.fit (subst (λ x. AllFit x t.changes) (sym s.led) t.fit);
  led = changed-append u s.changes t.changes ∙ ap (λ x. all_changed x t.changes) s.led ∙ t.led;
  recorded =
      t.recorded
      ∙ (λ i. s.recorded i ++ backs_of (sym s.led i) t.changes)
      ∙ append_assoc bs (backs_of u s.changes) (backs_of (all_changed u s.changes) t.changes)
      ∙ ap (λ xs. bs ++ xs) (sym (backs-append u s.changes t.changes));
}

-- what led from a kept world, taken back, leads to it, and leaves what was recorded before
pub since-undone : (w v : World) (backs backs_now : List Back) → KeptWorld w → Since w backs v backs_now
    → (undone v (drop (length backs) backs_now) ≡ w) × (take (length backs) backs_now ≡ backs)
since-undone w v backs backs_now k s = (
  (λ i. undone (sym s.led i) ((ap (drop (length backs)) s.recorded ∙ drop-append_seam backs (backs_of w s.changes)) i)) ∙ all-taken-back w s.changes k s.fit,
  ap (take (length backs)) s.recorded ∙ take-append_seam backs (backs_of w s.changes),
)

pub since-longer : (w v : World) (backs backs_now : List Back) → Since w backs v backs_now → length backs ≤ length backs_now
since-longer w v backs backs_now s = omega (arith, ap length s.recorded ∙ length-append backs (backs_of w s.changes))
