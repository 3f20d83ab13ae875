-- Weekdays of a meeting, and the slots of a week in turn.
use Rattle.std.specs.Prelude.{◌≡◌, ℕ, suc, ◌+◌, ◌-◌, ◌*◌, ◌%◌, ◌^◌, ◌<◌, ◌++◌, List}
use Rattle.std.proofs.Common.{◌≤◌, ◌∙◌, ap, sym, subst, arith, append_assoc}
use Rattle.std.proofs.lemmas.List.{append-nil}
use Rattle.std.proofs.lemmas.Nat.{one_shl, pow_pos}
use Rattle.std.proofs.Math.Pow.{pow-lt}
use Rattle.sect_base.specs.Pattern.{Pattern, IsPattern}
use Rattle.sect_shown.specs.declared.hour.Hour.{Hour}
use Rattle.sect_shown.specs.Week.{slot_text, slots_text}

-- a meeting on one weekday in place of its own
pub one-weekday : (m : Pattern) (day start slots weeks : ℕ) → day < 7 → IsPattern m → start ≡ m.start → slots ≡ m.slots → weeks ≡ m.weeks
    → IsPattern (record { days = 1 * 2 ^ day % 256; start = start; slots = slots; weeks = weeks })
one-weekday m day start slots weeks h p s t u =
    let one : 1 * 2 ^ day % 256 ≡ 2 ^ day = one_shl day 8 (omega (arith, h)) in
    record {
      some_day = subst (λ n. 0 < n) (sym one) (pow_pos day);
      weekdays = subst (λ n. n < 2 ^ 7) (sym one) (pow-lt h);
      begins = subst (λ n. n < 288) (sym s) p.begins;
      some_slot = subst (λ n. 0 < n) (sym t) p.some_slot;
      ends = omega (arith, p.ends, s, t);
      some_week = subst (λ n. 0 < n) (sym u) p.some_week;
      sixty_weeks = subst (λ n. n < 2 ^ 60) (sym u) p.sixty_weeks;
    }

-- one slot more
pub slots-more : (hours : List Hour) (slot slots : ℕ) (before into new : List ℕ) → slot < slots → new ≡ into ++ slot_text hours slot
    → into ++ slots_text hours slot (slots - slot) ≡ before ++ slots_text hours 0 slots
    → new ++ slots_text hours (slot + 1) (slots - (slot + 1)) ≡ before ++ slots_text hours 0 slots
unfolding slots_text
slots-more hours slot slots before into new h text whole =
    let e : slots - slot ≡ suc (slots - (slot + 1)) = omega (arith, h) in
    ap (λ xs. xs ++ slots_text hours (slot + 1) (slots - (slot + 1))) text
    ∙ append_assoc into (slot_text hours slot) (slots_text hours (slot + 1) (slots - (slot + 1)))
    ∙ ap (λ n. into ++ slots_text hours slot n) (sym e)
    ∙ whole

-- no slot is left
pub slots-all : (hours : List Hour) (slot slots : ℕ) (before into : List ℕ) → slots ≤ slot
    → into ++ slots_text hours slot (slots - slot) ≡ before ++ slots_text hours 0 slots
    → into ≡ before ++ slots_text hours 0 slots
unfolding slots_text
slots-all hours slot slots before into h whole =
    let e : slots - slot ≡ 0 = omega (arith, h) in
    sym (append-nil into) ∙ ap (λ n. into ++ slots_text hours slot n) (sym e) ∙ whole
