-- What printing a tree adds, step by step.
use Rattle.std.proofs.Common.{◌≡◌, ℕ, ◌+◌, ◌<◌, Bool, true, false, List, [], ◌∷◌, length, take, refl, ap, arith, get_or, suc, zero}
use Rattle.sect_base.specs.Tree.{Tree, Trees, trees_of, size_of, sizes_of}
use Rattle.sect_command.specs.TreeText.{inside_text, others_text}

-- what is still to be printed of a split
abbrev pub left_text : Bool → Trees → List ℕ
left_text true ts = inside_text ts
left_text false ts = others_text ts

-- a front of a front is a front
pub front_stays : (old mid new : List ℕ) → take (length old) mid ≡ old → take (length mid) new ≡ mid → take (length old) new ≡ old
front_stays [] mid new p q = refl
front_stays (x ∷ old) [] new p q = absurd (cc)
front_stays (x ∷ old) (y ∷ mid) [] p q = absurd (cc)
front_stays (x ∷ old) (y ∷ mid) (z ∷ new) p q =
    let h : take (length mid) new ≡ mid = cc in
    let g : take (length old) mid ≡ old = cc in
    let e : take (length old) new ≡ old = front_stays old mid new g h in
    cc

-- each tree of a list is smaller than the split that has them
pub size_item : (ts : List Tree) (i : ℕ) (t : Tree) → i < length ts → get_or ts i t ≡ t → size_of t < sizes_of (trees_of ts) + 1
size_item [] i t h e = absurd (omega arith)
size_item (u ∷ ts) zero t h e = let k : size_of u ≡ size_of t = ap size_of e in omega (arith, k)
size_item (u ∷ ts) (suc i) t h e = let k : size_of t < sizes_of (trees_of ts) + 1 = size_item ts i t (omega arith) e in omega (arith, k)
