-- Answers that were gathered, and what of them is written.
use Rattle.std.proofs.Common.{◌≡◌, ℕ, ◌+◌, List, [], ◌++◌, length, take, drop, refl, sym, ap, ◌∙◌, append_assoc, append-nil, arith, subst, take-append-drop}
use Rattle.std.specs.Prelude.{Option, Result, Ok, Err, OnOk, OnErr}
use Rattle.std.specs.Io.KnownBytes.{Appends}
use Rattle.std.proofs.KnownBytes.{Appends-nil, Appends-trans}
use Rattle.std.proofs.lemmas.List.{take_all}
use Rattle.std.proofs.Math.Seq.{take-append-add, take-append_seam}
use Rattle.sect_script.specs.declared.script.RunEnd.{RunEnd}
use Rattle.sect_script.specs.declared.script.RunEnd.TheVariants as ends
use Rattle.sect_script.specs.Gathering.{WritesBut, WritesFront}
use Rattle.sect_script.specs.Progress.{WritesYet}
use Rattle.sect_script.specs.Run.{Writes}

-- nothing was written yet
pub but_gathered : (now : Option (List ℕ)) (gathered : List ℕ) → WritesBut now now gathered gathered
but_gathered now gathered = record { front = []; split = refl; written = Appends-nil now }

-- all was written
pub but_none : (old now : Option (List ℕ)) (bytes gathered : List ℕ) → Appends old now bytes → gathered ≡ [] → WritesBut old now bytes gathered
but_none old now bytes gathered written none = record {
  front = bytes;
  split = sym (append-nil bytes) ∙ ap (λ (l : List ℕ). bytes ++ l) (sym none);
  written = written;
}

-- then of those that were gathered some were written
pub but_then : (old now later : Option (List ℕ)) (bytes gathered left : List ℕ) → WritesBut old now bytes gathered → WritesBut now later gathered left → WritesBut old later bytes left
but_then old now later bytes gathered left b c = record {
  front = b.front ++ c.front;
  split = b.split ∙ ap (λ (l : List ℕ). b.front ++ l) c.split ∙ sym (append_assoc b.front c.front left);
  written = Appends-trans old now later b.front c.front b.written c.written;
}

-- with one more that is gathered
pub but_longer : (old now : Option (List ℕ)) (bytes gathered answer : List ℕ) → WritesBut old now bytes gathered → WritesBut old now (bytes ++ answer) (gathered ++ answer)
but_longer old now bytes gathered answer b = record {
  front = b.front;
  split = ap (λ (l : List ℕ). l ++ answer) b.split ∙ append_assoc b.front gathered answer;
  written = b.written;
}

-- then one more was gathered
pub but_more : (old now later : Option (List ℕ)) (bytes gathered answer left : List ℕ) → WritesBut old now bytes gathered → WritesBut now later (gathered ++ answer) left
    → WritesBut old later (bytes ++ answer) left
but_more old now later bytes gathered answer left b c =
    but_then old now later (bytes ++ answer) (gathered ++ answer) left (but_longer old now bytes gathered answer b) c

-- what stands in front was written
pub front_of_split : (old now : Option (List ℕ)) (bytes front rest : List ℕ) → bytes ≡ front ++ rest → Appends old now front → WritesFront old now bytes
front_of_split old now bytes front rest is written =
    (length front, subst (Appends old now) (sym (ap (take (length front)) is ∙ take-append_seam front rest)) written)

-- then of those that were gathered a front was written
pub but_front : (old now later : Option (List ℕ)) (bytes gathered : List ℕ) → WritesBut old now bytes gathered → WritesFront now later gathered → WritesFront old later bytes
but_front old now later bytes gathered b (n, written) =
    front_of_split old later bytes (b.front ++ take n gathered) (drop n gathered)
    (b.split ∙ ap (λ (l : List ℕ). b.front ++ l) (sym (take-append-drop n gathered)) ∙ sym (append_assoc b.front (take n gathered) (drop n gathered)))
    (Appends-trans old now later b.front (take n gathered) b.written written)

-- then all that was gathered was written
pub but_all : (old now later : Option (List ℕ)) (bytes gathered : List ℕ) → WritesBut old now bytes gathered → Appends now later gathered → Appends old later bytes
but_all old now later bytes gathered b written =
    subst (Appends old later) (sym b.split) (Appends-trans old now later b.front gathered b.written written)

-- a front of what comes first
pub front_longer : (old now : Option (List ℕ)) (bytes more : List ℕ) → WritesFront old now bytes → WritesFront old now (bytes ++ more)
front_longer old now bytes more (n, written) =
    front_of_split old now (bytes ++ more) (take n bytes) (drop n bytes ++ more)
    (ap (λ (l : List ℕ). l ++ more) (sym (take-append-drop n bytes)) ∙ append_assoc (take n bytes) (drop n bytes) more) written

-- a front of a front
front_shorter : (old now : Option (List ℕ)) (bytes : List ℕ) (n : ℕ) → WritesFront old now (take n bytes) → WritesFront old now bytes
front_shorter old now bytes n short =
    subst (WritesFront old now) (take-append-drop n bytes) (front_longer old now (take n bytes) (drop n bytes) short)

-- what was gathered was written, and an answer behind it or a front of that
pub straight_ok : {T E : Type 0} (r : Result T E) (old now later : Option (List ℕ)) (before bytes answer left : List ℕ) → bytes ≡ before → Appends old now bytes → left ≡ []
    → OnOk r (Appends now later answer) → OnOk r (WritesBut old later (before ++ answer) left)
straight_ok (Ok x) old now later before bytes answer left same written none more =
    subst (λ (l : List ℕ). WritesBut old later (l ++ answer) left) same
    (but_none old later (bytes ++ answer) left (Appends-trans old now later bytes answer written more) none)
straight_ok (Err e) old now later before bytes answer left same written none more = tt

pub straight_err : {T E : Type 0} (r : Result T E) (old now later : Option (List ℕ)) (before bytes answer : List ℕ) → bytes ≡ before → Appends old now bytes
    → OnErr r (WritesFront now later answer) → OnErr r (WritesFront old later (before ++ answer))
straight_err (Ok x) old now later before bytes answer same written more = tt
straight_err (Err e) old now later before bytes answer same written (n, more) =
    subst (λ (l : List ℕ). WritesFront old later (l ++ answer)) same
    (length bytes + n, subst (Appends old later) (sym (take-append-add bytes answer n)) (Appends-trans old now later bytes (take n answer) written more))

-- the sink failed before the answer
pub front_before : (old now : Option (List ℕ)) (before bytes answer : List ℕ) → bytes ≡ before → WritesFront old now bytes → WritesFront old now (before ++ answer)
front_before old now before bytes answer same cut = subst (λ (l : List ℕ). WritesFront old now (l ++ answer)) same (front_longer old now bytes answer cut)

-- the answer was put behind the others
pub but_put : (now : Option (List ℕ)) (bytes left : List ℕ) → left ≡ bytes → WritesBut now now bytes left
but_put now bytes left same = subst (WritesBut now now bytes) (sym same) (but_gathered now bytes)

pub on_err : {T E : Type 0} (r : Result T E) (P : Type 0) → P → OnErr r P
on_err (Ok x) P p = tt
on_err (Err e) P p = p

-- the sink failed
pub yet_failed : (old now : Option (List ℕ)) (bytes gathered : List ℕ) → WritesFront old now bytes → gathered ≡ [] → WritesYet ends.WriteFault old now bytes gathered
yet_failed old now bytes gathered (n, written) none = (n, but_none old now (take n bytes) gathered written none)

-- memory was wanted between the answers
pub yet_unanswered : (old now : Option (List ℕ)) (bytes gathered : List ℕ) → WritesBut old now bytes gathered → WritesYet ends.Memory old now bytes gathered
yet_unanswered old now bytes gathered b = (length bytes, rw (take_all (length bytes) bytes (omega arith)) b)

-- memory was wanted, and an answer isn't among those that are gathered
pub yet_wanted : (old now : Option (List ℕ)) (bytes answer gathered : List ℕ) → WritesBut old now bytes gathered → WritesYet ends.Memory old now (bytes ++ answer) gathered
yet_wanted old now bytes answer gathered b = (length bytes, subst (λ (l : List ℕ). WritesBut old now l gathered) (sym (take-append_seam bytes answer)) b)

-- what was gathered is written at an end
pub yet_written : (end : RunEnd) (old now later : Option (List ℕ)) (bytes gathered : List ℕ) → WritesYet end old now bytes gathered → Appends now later gathered → Writes end old later bytes
yet_written ends.Done old now later bytes gathered b written = but_all old now later bytes gathered b written
yet_written (ends.BadLine number field) old now later bytes gathered b written = but_all old now later bytes gathered b written
yet_written ends.ReadFault old now later bytes gathered b written = but_all old now later bytes gathered b written
yet_written ends.WriteFault old now later bytes gathered (n, b) written = (n, but_all old now later (take n bytes) gathered b written)
yet_written ends.Memory old now later bytes gathered (n, b) written = (n, but_all old now later (take n bytes) gathered b written)

-- the sink fails at an end
pub yet_cut : (end : RunEnd) (old now later : Option (List ℕ)) (bytes gathered : List ℕ) → WritesYet end old now bytes gathered → WritesFront now later gathered → WritesFront old later bytes
yet_cut ends.Done old now later bytes gathered b cut = but_front old now later bytes gathered b cut
yet_cut (ends.BadLine number field) old now later bytes gathered b cut = but_front old now later bytes gathered b cut
yet_cut ends.ReadFault old now later bytes gathered b cut = but_front old now later bytes gathered b cut
yet_cut ends.WriteFault old now later bytes gathered (n, b) cut = front_shorter old later bytes n (but_front old now later (take n bytes) gathered b cut)
yet_cut ends.Memory old now later bytes gathered (n, b) cut = front_shorter old later bytes n (but_front old now later (take n bytes) gathered b cut)
