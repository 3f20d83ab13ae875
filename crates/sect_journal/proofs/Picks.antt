-- The images that are picked are images.
use Rattle.std.proofs.Common.{◌≡◌, ℕ, zero, suc, ◌+◌, Bool, true, false, if◌then◌else◌, List, [], ◌∷◌, length, get_or, refl, sym, ◌∙◌, ap, subst, arith}
use Rattle.sect_journal.specs.Disk.{Content, IsImage, is_touched}
use Rattle.sect_journal.specs.Memory.{DiskState, told_by, marked}
use Rattle.sect_journal.specs.Law.{told_image}

length-marked : (ranges : List (ℕ × ℕ)) (mark i : ℕ) (bytes : List ℕ) → length (marked ranges mark i bytes) ≡ length bytes
length-marked ranges mark i [] = refl
length-marked ranges mark i (b ∷ bytes) = ap (λ n. suc n) (length-marked ranges mark (i + 1) bytes)

unmarked : (touched : Bool) (mark b : ℕ) → touched ≡ false → (if touched then mark else b) ≡ b
unmarked false mark b is = refl
unmarked true mark b is = absurd (cc)

marked_same : (ranges : List (ℕ × ℕ)) (mark i k : ℕ) (bytes : List ℕ) → is_touched ranges (i + k) ≡ false → get_or (marked ranges mark i bytes) k 0 ≡ get_or bytes k 0
marked_same ranges mark i k [] out = refl
marked_same ranges mark i zero (b ∷ bytes) out = let place : i + zero ≡ i = omega arith in unmarked (is_touched ranges i) mark b (subst (λ p. is_touched ranges p ≡ false) place out)
marked_same ranges mark i (suc k) (b ∷ bytes) out = let place : i + suc k ≡ i + 1 + k = omega arith in marked_same ranges mark (i + 1) k bytes (subst (λ p. is_touched ranges p ≡ false) place out)

pub durable_image : (disk : DiskState) → IsImage (told_by disk).now (told_by disk).now.durable
durable_image disk = let is = told_image disk in record { no_shorter = omega arith; no_longer = omega (arith, is.no_shorter, is.no_longer); outside = λ i lt out. refl }

marks : (c : Content) (mark : ℕ) → IsImage c c.seen → IsImage c (marked c.pending mark 0 c.seen)
marks c mark is =
    let long = length-marked c.pending mark 0 c.seen in
    record {
      no_shorter = omega (arith, long, is.no_shorter);
      no_longer = omega (arith, long, is.no_longer);
      outside = λ i lt out. marked_same c.pending mark 0 i c.seen (let place : 0 + i ≡ i = omega arith in subst (λ p. is_touched c.pending p ≡ false) (sym place) out) ∙ is.outside i lt out;
    }

pub marked_image : (disk : DiskState) (mark : ℕ) → IsImage (told_by disk).now (marked (told_by disk).now.pending mark 0 (told_by disk).now.seen)
marked_image disk mark = marks (told_by disk).now mark (told_image disk)
