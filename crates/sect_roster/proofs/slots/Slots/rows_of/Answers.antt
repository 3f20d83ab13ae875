-- The number's rows are those of its slot.
use Rattle.std.proofs.Common.{◌∙◌, ◌==◌, ap, sym}
use Rattle.std.specs.List.{list_any}
use Rattle.sect_roster.specs.Slots.{rows_of}
use Rattle.sect_roster.proofs.Changed.{at, own-items}
use Rattle.sect_roster.proofs.SlotLemmas.{absent-none}
use Rattle.sect_roster.proofs.slots.Slots.rows_of.Goals as goal

pub returns-in-Some : goal.returns-in-Some
returns-in-Some g c =
    let n = c.args.number in
    let key = g.R.Keyed.key_of in
    let ss = c.self.inside.slots.items in
    let a = at key ss c.as_slice.result.now n c.in-Some.place c.index.result.now c.self.invariant c.as_slice.ensures.value c.in-Some.ensures.found c.index.ensures in
    c.rows.ensures ∙ sym (own-items key ss n c.in-Some.place c.index.result.now a) ∙ ap (λ v. rows_of key n v.items) c.self.view_is

pub returns-in-None : goal.returns-in-None
returns-in-None g c =
    let n = c.args.number in
    let key = g.R.Keyed.key_of in
    sym (absent-none key n c.self.inside.slots.items c.self.invariant (ap (λ ts. list_any (λ s. s.number == n) ts) (sym c.as_slice.ensures.value) ∙ c.in-None.ensures.none))
    ∙ ap (λ v. rows_of key n v.items) c.self.view_is
