-- A meeting that is clear of a calendar overlaps none that the calendar has.
use Rattle.std.specs.Prelude.{◌≡◌, ℕ, suc, zero, Bool, true, false, ◌&&◌, List, refl}
use Rattle.std.proofs.Common.{inl, inr}
use Rattle.std.proofs.lemmas.Bool.{and_parts, and_from, or_cases, both_ways, false_from_ne_true}
use Rattle.sect_base.specs.Pattern.{Pattern, some_below, has_bit, takes_slot, meetings_overlap}
use Rattle.sect_base.specs.Calendar.{is_set, IsClearFor, HasPairsOf}

-- a number that passes the test
abbrev Witness : (ℕ → Bool) → Type 0
Witness test = (k : ℕ) × (test k ≡ true)

witness : (n : ℕ) (test : ℕ → Bool) → some_below n test ≡ true → Witness test
unfolding some_below
witness zero test some = absurd (both_ways false refl some)
witness (suc n) test some = elim (or_cases (test n) (some_below n test) some) [ inl here ↦ (n, here) | inr before ↦ witness n test before ]

pub clear-no_overlap : (words : List ℕ) (p q : Pattern) → IsClearFor words p → HasPairsOf words q → meetings_overlap p q ≡ false
unfolding meetings_overlap
clear-no_overlap words p q clear has = false_from_ne_true (meetings_overlap p q) (λ overlap.
    let days = λ (day : ℕ). has_bit p.days day && has_bit q.days day in
    let weeks = λ (week : ℕ). has_bit p.weeks week && has_bit q.weeks week in
    let slots = λ (slot : ℕ). takes_slot p slot && takes_slot q slot in
    let first = and_parts (some_below 7 days && some_below 60 weeks) (some_below 288 slots) overlap in
    let second = and_parts (some_below 7 days) (some_below 60 weeks) first.0 in
    let (day, on_day) = witness 7 days second.0 in
    let (slot, in_slot) = witness 288 slots first.1 in
    let both_days = and_parts (has_bit p.days day) (has_bit q.days day) on_day in
    let both_slots = and_parts (takes_slot p slot) (takes_slot q slot) in_slot in
    both_ways (is_set words day slot)
    (clear day slot (and_from (has_bit p.days day) (takes_slot p slot) both_days.0 both_slots.0))
    (has day slot (and_from (has_bit q.days day) (takes_slot q slot) both_days.1 both_slots.1)))
