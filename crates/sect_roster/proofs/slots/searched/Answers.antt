-- A slot that doesn't stand at the rank isn't there.
use Rattle.std.proofs.Common.{◌≡◌, ◌≢◌, ◌∙◌, ◌<◌, ◌==◌, ap, sym, arith, false, nat_lt, length}
use Rattle.std.proofs.lemmas.Bool.{lt-ltb}
use Rattle.std.proofs.lemmas.Bool.Decides.{nat_tests}
use Rattle.sect_people.specs.Index.{rank as rank_of}
use Rattle.sect_model.proofs.Members.{not_both}
use Rattle.sect_roster.proofs.SlotLemmas.{no-slot, other-at, slots-ordered}
use Rattle.sect_roster.proofs.slots.searched.Goals as goal

pub rank_near-place-requires : goal.rank_near-place-requires
rank_near-place-requires g c = slots-ordered g.R.Keyed.key_of c.args.slots.now c.requires

pub returns-else-key-number-clause-none : goal.returns-else-key-number-clause-none
returns-else-key-number-clause-none g c =
    no-slot g.R.Keyed.key_of c.args.number c.args.slots.now c.requires
    (other-at c.args.number c.args.slots.now c.rank_near-place.result c.in-Some.slot.now c.rank_near-place.ensures c.in-Some.ensures.lookup.1
    (ap (λ m. m == c.args.number) (sym c.key.ensures) ∙ differs c.key.result c.args.number c.if-key-number.false))
  where
    differs : (a b : _) → a ≢ b → a == b ≡ false
    differs a b h = grind (arith, nat_tests)

pub returns-in-None-clause-none : goal.returns-in-None-clause-none
returns-in-None-clause-none g c =
    no-slot g.R.Keyed.key_of c.args.number c.args.slots.now c.requires
    (λ l d. absurd (past c.rank_near-place.result (rank_of (λ s. s.number) c.args.number c.args.slots.now) (length c.args.slots.now) c.rank_near-place.ensures (sym c.in-None.ensures.lookup.0) l))
  where
    past : (a b k : _) → a ≡ b → nat_lt a k ≡ false → b < k → ⊥
    past a b k e f l = not_both (nat_lt a k) (ap (λ m. nat_lt m k) e ∙ lt-ltb b k l) f
