use Rattle.std.proofs.Common.{arith, inl, inr, ⊎_elim}
use Rattle.std.proofs.lemmas.Bool.Decides.{nat_tests}
use Rattle.sect_once.specs.History.{entries_of}
use Rattle.sect_once.proofs.Openings.{full_log, full_entries}
use Rattle.sect_once.proofs.Pasts.{as_many}
use Rattle.sect_once.proofs.past.Past.is_full.Goals as goal

pub returns-then-len-ge-MOST_NOTES : goal.returns-then-len-ge-MOST_NOTES
returns-then-len-ge-MOST_NOTES g c = let many = as_many g.O.Object.start g.O.Object.stepped g.O.Object.is_row (g.O.Object.state c.self.inside.object.value) (entries_of g.O.Object.entry_of c.self.inside.rows.texts) c.self.inside.places.keys c.self.inside.rows.texts c.args.self.now c.self.invariant c.self.view_is in
    (λ h. full_log g.O.Object.is_row c.args.self.now.entries (inl (omega (arith, c.len.ensures, many.0))), λ f. grind (arith, nat_tests))

pub returns-else-len-ge-MOST_NOTES : goal.returns-else-len-ge-MOST_NOTES
returns-else-len-ge-MOST_NOTES g c = let many = as_many g.O.Object.start g.O.Object.stepped g.O.Object.is_row (g.O.Object.state c.self.inside.object.value) (entries_of g.O.Object.entry_of c.self.inside.rows.texts) c.self.inside.places.keys c.self.inside.rows.texts c.args.self.now c.self.invariant c.self.view_is in (
  λ h. full_log g.O.Object.is_row c.args.self.now.entries (inr (c.is_heavy.ensures.0 h)),
  λ f. ⊎_elim (λ big. absurd (omega (arith, big, c.len.ensures, many.0))) (λ heavy. c.is_heavy.ensures.1 heavy) (full_entries g.O.Object.is_row c.args.self.now.entries f),
)
