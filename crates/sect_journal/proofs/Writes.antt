-- What a write changes.
use Rattle.std.proofs.Common.{◌≡◌, ℕ, ◌+◌, ◌-◌, ◌≤◌, List, ◌++◌, length, take, drop, Option, Some, None, refl, sym, ◌∙◌, ap, subst, arith, append_assoc, length-append, length-drop}
use Rattle.std.proofs.lemmas.List.{take_at, drop_at, length-take-le, drop-drop}
use Rattle.sect_journal.specs.Disk.{Told, Torn, put, after_write, Tears, IsWithin}

-- a piece that was written is a write that stopped at its end
pub put_torn : (old : List ℕ) (at : ℕ) (piece : List ℕ) → at ≤ length old → Torn at (length piece) old (put old at piece)
put_torn old at piece le =
    let front : length (take at old) ≡ at = length-take-le at old le in
    let behind = drop (length piece) (drop at old) in
    let size : length (put old at piece) ≡ at + (length piece + (length old - at - length piece)) =
    length-append (take at old) (piece ++ behind) ∙ omega (arith, front, length-append piece behind, length-drop (length piece) (drop at old), length-drop at old) in
    record {
      before = take_at (take at old) (piece ++ behind) at front;
      after =
          ap (λ l. drop (at + length piece) l) (sym (append_assoc (take at old) piece behind))
          ∙ drop_at (take at old ++ piece) behind (at + length piece) (omega (arith, length-append (take at old) piece, front))
          ∙ drop-drop (length piece) at old;
      no_shorter = omega (arith, size, le);
      no_longer = omega (arith, size, le);
    }

pub written_tears : (told : Option Told) (at : ℕ) (piece : List ℕ) → IsWithin told at → Tears told at (length piece) (after_write told at piece)
written_tears None at piece within = refl
written_tears (Some t) at piece within = (put t.now.seen at piece, put_torn t.now.seen at piece within, refl)

-- a write that was made and not synced
pub unsynced_tears : (told mid new : Option Told) (at : ℕ) (piece : List ℕ) → IsWithin told at → mid ≡ after_write told at piece → new ≡ mid → Tears told at (length piece) new
unsynced_tears told mid new at piece within is same = subst (λ t. Tears told at (length piece) t) (sym (same ∙ is)) (written_tears told at piece within)
