-- What a read of a disk in memory gives is always an image.
use Rattle.std.proofs.Common.{◌≡◌, ◌⊎◌, inl, inr, ℕ, ◌+◌, ◌-◌, ◌<◌, ◌≤◌, max, Bool, true, false, ◌&&◌, ◌||◌, nat_le, nat_lt, List, [], ◌∷◌, ◌++◌, length, get_or, take, drop, Some, refl, ◌∙◌, ap, subst, arith, length-append, length-drop, length-take}
use Rattle.std.proofs.lemmas.Bool.{cases_lt}
use Rattle.std.proofs.lemmas.Bool.Decides.{nat_tests}
use Rattle.std.proofs.lemmas.List.{get_or_append_left, get_or-append_right, get_or-take, get_or-drop, length-take-le}
use Rattle.sect_journal.specs.Disk.{Content, Told, IsImage, is_touched, reach, put, touched}
use Rattle.sect_journal.specs.Memory.{DiskState, Step, Looked, Wrote, Tore, Synced, after, replay, fresh, told_by}

reach-push : (size at n : ℕ) (ranges : List (ℕ × ℕ)) → reach size (ranges ++ (at, n) ∷ []) ≡ max (reach size ranges) (at + n)
reach-push size at n [] = omega arith
reach-push size at n (range ∷ ranges) = omega (arith, reach-push size at n ranges)

or_left : (a b : Bool) → (a || b) ≡ false → a ≡ false
or_left false b is = refl
or_left true b is = absurd (cc)

or_right : (a b : Bool) → (a || b) ≡ false → b ≡ false
or_right false b is = is
or_right true b is = absurd (cc)

or_none : (a b : Bool) → a ≡ false → b ≡ false → (a || b) ≡ false
or_none false b p q = q
or_none true b p q = absurd (cc)

untouched_before : (i at n : ℕ) (ranges : List (ℕ × ℕ)) → is_touched (ranges ++ (at, n) ∷ []) i ≡ false → is_touched ranges i ≡ false
untouched_before i at n [] is = refl
untouched_before i at n (range ∷ ranges) is =
    let covers = nat_le range.0 i && nat_lt i (range.0 + range.1) in
    or_none covers (is_touched ranges i) (or_left covers (is_touched (ranges ++ (at, n) ∷ []) i) is) (untouched_before i at n ranges (or_right covers (is_touched (ranges ++ (at, n) ∷ []) i) is))

outside_range : (i at n : ℕ) → (nat_le at i && nat_lt i (at + n)) ≡ false → (i < at) ⊎ (at + n ≤ i)
outside_range i at n is = elim (cases_lt i at) [
  | inl lt ↦ inl lt
  | inr ge ↦ elim (cases_lt i (at + n)) [
    | inl lt ↦ absurd (let yes : (nat_le at i && nat_lt i (at + n)) ≡ true = grind (arith, nat_tests) in cc)
    | inr past ↦ inr past
  ]
]

untouched_last : (i at n : ℕ) (ranges : List (ℕ × ℕ)) → is_touched (ranges ++ (at, n) ∷ []) i ≡ false → (i < at) ⊎ (at + n ≤ i)
untouched_last i at n [] is = outside_range i at n (or_left (nat_le at i && nat_lt i (at + n)) false is)
untouched_last i at n (range ∷ ranges) is = untouched_last i at n ranges (or_right (nat_le range.0 i && nat_lt i (range.0 + range.1)) (is_touched (ranges ++ (at, n) ∷ []) i) is)

-- what a write leaves as it was
put_same : (old : List ℕ) (at : ℕ) (piece : List ℕ) (i : ℕ) → i < length old → (i < at) ⊎ (at + length piece ≤ i) → get_or (put old at piece) i 0 ≡ get_or old i 0
put_same old at piece i lt (inl below) =
    let n = length piece in
    get_or_append_left (take at old) (piece ++ drop n (drop at old)) 0 i (omega (arith, length-take at old)) ∙ get_or-take at old i 0 below
put_same old at piece i lt (inr past) =
    let n = length piece in
    let front : length (take at old) ≡ at = length-take-le at old (omega arith) in
    let place : at + (n + (i - at - n)) ≡ i = omega arith in
    get_or-append_right (take at old) (piece ++ drop n (drop at old)) at i 0 front (omega arith)
    ∙ get_or-append_right piece (drop n (drop at old)) n (i - at) 0 refl (omega arith)
    ∙ get_or-drop n (drop at old) (i - at - n) 0
    ∙ get_or-drop at old (n + (i - at - n)) 0
    ∙ ap (λ k. get_or old k 0) place

put_long : (old : List ℕ) (at : ℕ) (piece : List ℕ) → (length old ≤ length (put old at piece)) × (length (put old at piece) ≤ max (length old) (at + length piece))
put_long old at piece =
    let behind = drop (length piece) (drop at old) in
    let size : length (put old at piece) ≡ length (take at old) + (length piece + (length old - at - length piece)) =
    length-append (take at old) (piece ++ behind) ∙ omega (arith, length-append piece behind, length-drop (length piece) (drop at old), length-drop at old) in
    (omega (arith, size, length-take at old), omega (arith, size, length-take at old))

touched_image : (c : Content) (at n : ℕ) (seen : List ℕ) → IsImage c c.seen → length c.seen ≤ length seen → length seen ≤ max (length c.seen) (at + n)
    → ((i : ℕ) → i < length c.seen → (i < at) ⊎ (at + n ≤ i) → get_or seen i 0 ≡ get_or c.seen i 0) → IsImage (touched c at n seen) seen
touched_image c at n seen is le ge same = record {
  no_shorter = omega (arith, is.no_shorter);
  no_longer = omega (arith, is.no_longer, reach-push (length c.durable) at n c.pending);
  outside = λ i lt out. same i (omega (arith, is.no_shorter)) (untouched_last i at n c.pending out) ∙ is.outside i lt (untouched_before i at n c.pending out);
}

after_image : (t : Told) (step : Step) → IsImage t.now t.now.seen → IsImage (after t step).now (after t step).now.seen
after_image t Looked is = is
after_image t (Wrote at piece) is =
    let long = put_long t.now.seen at piece in
    touched_image t.now at (length piece) (put t.now.seen at piece) is long.0 long.1 (put_same t.now.seen at piece)
after_image t (Tore at n) is = touched_image t.now at n t.now.seen is (omega arith) (omega arith) (λ i lt out. refl)
after_image t Synced is = record { no_shorter = omega arith; no_longer = omega arith; outside = λ i lt out. refl }

pub replay_image : (t : Told) (steps : List Step) → IsImage t.now t.now.seen → IsImage (replay t steps).now (replay t steps).now.seen
replay_image t [] is = is
replay_image t (step ∷ steps) is = replay_image (after t step) steps (after_image t step is)

pub told_image : (disk : DiskState) → IsImage (told_by disk).now (told_by disk).now.seen
told_image disk = replay_image (fresh disk.first) disk.steps (record { no_shorter = omega arith; no_longer = omega arith; outside = λ i lt out. refl })

pub reads_image : (disk : DiskState) (t : Told) → Some (told_by disk) ≡ Some t → IsImage t.now t.now.seen
reads_image disk t is = let same : told_by disk ≡ t = cc in subst (λ u. IsImage u.now u.now.seen) same (told_image disk)
