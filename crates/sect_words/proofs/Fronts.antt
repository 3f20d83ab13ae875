-- The first part of a text, told by the text's front.
use Rattle.std.proofs.Common.{◌≡◌, ℕ, zero, suc, ◌==◌, ◌+◌, ◌-◌, ◌*◌, ◌<◌, ◌≤◌, Bool, true, false, List, [], ◌∷◌, ◌++◌, length, take, drop, Option, None, Some, refl, ap, sym, ◌∙◌, subst, arith, nat_lt, add-one, length-take-le}
use Rattle.std.specs.Prelude.{get_or, position}
use Rattle.std.specs.List.{position_or_len}
use Rattle.std.specs.Option.{option_map}
use Rattle.std.specs.Str.Parse.{AllDigits}
use Rattle.std.specs.Int.{IsInRange}
use Rattle.std.proofs.lemmas.Bool.{ltb-true, eq-eqb, ne_eqb}
use Rattle.std.proofs.lemmas.Int.Digits.{digits_more}
use Rattle.std.proofs.lemmas.List.{get_or-take, take-append-drop, take_all}
use Rattle.std.proofs.Math.Seq.{drop-cons}
use Rattle.std.proofs.lemmas.List.Elements.{All-from_recursion}
use Rattle.std.proofs.lemmas.List.Splits.{slice_split_at, slice_split_none}
use Rattle.std.proofs.lemmas.Option.{cond_some}
use Rattle.std.proofs.lemmas.Str.{digit_value_digit}
use Rattle.std.proofs.lemmas.Str.Parse.{digit_from_value}
use Rattle.sect_words.specs.Parts.{pieces, parts_left}
use Rattle.sect_words.specs.Reading.{first_part, later_parts, begins, with_rest, word_at}
use Rattle.sect_words.proofs.Cuts.{pieces_some, pieces_none}
use Rattle.sect_words.proofs.Exact.{same_word}
use Rattle.sect_words.proofs.Parsing.{IsPlain, read_on}
use Rattle.sect_words.proofs.Pieces.{Lacks}

-- ---- a part of which the length is known

-- the part is as long as the word
pub begins_len : (word : List ℕ) (parts : List (List ℕ)) → begins word parts ≡ true → option_map length (first_part parts) ≡ Some (length word)
begins_len word [] e = absurd (cc)
begins_len word (p ∷ ps) e = ap (λ (w : List ℕ). Some (length w)) (same_word p word e)

-- where the mark stands
mark_within : (mark : ℕ) (text : List ℕ) (at : ℕ) → Some at ≡ position (λ byte. byte == mark) text → at < length text
mark_within mark text at e =
    let test = cond_some (nat_lt (position_or_len (λ byte. byte == mark) text) (length text)) (position_or_len (λ byte. byte == mark) text) at (sym e) in
    let within = ltb-true _ _ test.0 in
    omega (arith, within, test.1)

-- a text's first part ends at the mark that follows it, or is the text
front_by : (mark : ℕ) (text : List ℕ) (len : ℕ) (o : Option ℕ) → o ≡ position (λ byte. byte == mark) text → option_map length (first_part (pieces mark text)) ≡ Some len
    → (len < length text → pieces mark (drop (len + 1) text) ≡ later_parts (pieces mark text)) × (length text ≤ len → [] ≡ later_parts (pieces mark text))
front_by mark text len None e is =
    let one = pieces_none mark text e in
    let long : Some (length text) ≡ Some len = sym (ap (λ ps. option_map length (first_part ps)) one) ∙ is in
    let same : length text ≡ len = cc in
    ((λ within. absurd (omega (arith, within, same))), (λ _. sym (ap later_parts one)))
front_by mark text len (Some at) e is =
    let cut = pieces_some mark text at e in
    let within = mark_within mark text at e in
    let long : Some (length (take at text)) ≡ Some len = sym (ap (λ ps. option_map length (first_part ps)) cut) ∙ is in
    let same : length (take at text) ≡ len = cc in
    let size : length (take at text) ≡ at = length-take-le at text (omega (arith, within)) in
    let there : at ≡ len = sym size ∙ same in
    ((λ _. sym (ap later_parts cut ∙ ap (λ k. pieces mark (drop (k + 1) text)) there)), (λ past. absurd (omega (arith, within, there, past))))

-- a text's first part is no longer than the text
within_by : (mark : ℕ) (text : List ℕ) (len : ℕ) (o : Option ℕ) → o ≡ position (λ byte. byte == mark) text → option_map length (first_part (pieces mark text)) ≡ Some len → len ≤ length text
within_by mark text len None e is =
    let long : Some (length text) ≡ Some len = sym (ap (λ ps. option_map length (first_part ps)) (pieces_none mark text e)) ∙ is in
    let same : length text ≡ len = cc in
    omega (arith, same)
within_by mark text len (Some at) e is =
    let long : Some (length (take at text)) ≡ Some len = sym (ap (λ ps. option_map length (first_part ps)) (pieces_some mark text at e)) ∙ is in
    let same : length (take at text) ≡ len = cc in
    let within = mark_within mark text at e in
    let size : length (take at text) ≡ at = length-take-le at text (omega (arith, within)) in
    omega (arith, within, size, same)

part_within : (done : Bool) (mark : ℕ) (text : List ℕ) (len : ℕ) → option_map length (first_part (parts_left done mark text)) ≡ Some len → len ≤ length text
part_within true mark text len is = absurd (cc)
part_within false mark text len is = within_by mark text len (position (λ byte. byte == mark) text) refl is

-- no text begins with a word that is longer
pub begins_short : (word : List ℕ) (mark : ℕ) (text : List ℕ) → length text < length word → begins word (pieces mark text) ≡ false
begins_short word mark text short = by (begins word (pieces mark text)) refl
  where
    by : (b : Bool) → begins word (pieces mark text) ≡ b → b ≡ false
    by true e = absurd (omega (arith, short, part_within false mark text (length word) (begins_len word (pieces mark text) e)))
    by false e = refl

pub pass_some : (done : Bool) (mark : ℕ) (text rest : List ℕ) (len : ℕ) → option_map length (first_part (parts_left done mark text)) ≡ Some len → (len ≡ length text → ⊥) → rest ≡ drop (len + 1) text
    → parts_left done mark rest ≡ later_parts (parts_left done mark text)
pass_some true mark text rest len is more behind = refl
pass_some false mark text rest len is more behind =
    ap (pieces mark) behind ∙ (front_by mark text len (position (λ byte. byte == mark) text) refl is).0 (omega (arith, part_within false mark text len is, more))

-- the place where the part ends is within the text
pub pass_within : (done : Bool) (mark : ℕ) (text : List ℕ) (len : ℕ) → option_map length (first_part (parts_left done mark text)) ≡ Some len → (len ≡ length text → ⊥) → len < length text
pass_within done mark text len is more = omega (arith, part_within done mark text len is, more)

pub pass_none : (done : Bool) (mark : ℕ) (text : List ℕ) (len : ℕ) → option_map length (first_part (parts_left done mark text)) ≡ Some len → length text ≤ len → [] ≡ later_parts (parts_left done mark text)
pass_none true mark text len is past = refl
pass_none false mark text len is past = (front_by mark text len (position (λ byte. byte == mark) text) refl is).1 past

-- ---- numbers

-- no digit is a mark that is none
pub digits_lack : (mark : ℕ) (digits : List ℕ) → (IsInRange 48 57 mark → ⊥) → AllDigits 10 digits → Lacks mark digits
digits_lack mark [] other all = tt
digits_lack mark (digit ∷ digits) other all =
    (ne_eqb digit mark (λ same. other (subst (IsInRange 48 57) same (digit_from_value digit all.0))), digits_lack mark digits other all.1)

-- digits up to the text's end are its first part
pub whole_front : (mark : ℕ) (text : List ℕ) (count : ℕ) → (IsInRange 48 57 mark → ⊥) → AllDigits 10 (take count text) → count ≡ length text
    → first_part (pieces mark text) ≡ Some (take count text)
whole_front mark text count other all whole =
    let same : take count text ≡ text = take_all count text (omega (arith, whole)) in
    let lack = digits_lack mark text other (subst (AllDigits 10) same all) in
    ap first_part (slice_split_none (λ byte. byte == mark) text (All-from_recursion (λ byte. (byte == mark) ≡ false) text lack)) ∙ ap Some (sym same)

-- so are digits up to a mark
pub marked_front : (mark : ℕ) (text : List ℕ) (count : ℕ) → (IsInRange 48 57 mark → ⊥) → AllDigits 10 (take count text) → count < length text → get_or text count 0 ≡ mark
    → first_part (pieces mark text) ≡ Some (take count text)
marked_front mark text count other all within marked =
    let lack = digits_lack mark (take count text) other all in
    let cut : take count text ++ (get_or text count 0 ∷ drop (count + 1) text) ≡ text = ap (λ (ds : List ℕ). take count text ++ ds) (sym (rw add-one (drop-cons text count 0 within))) ∙ take-append-drop count text in
    ap (λ (ds : List ℕ). first_part (pieces mark ds)) (sym cut)
    ∙ ap first_part (slice_split_at (λ byte. byte == mark) (take count text) (get_or text count 0) (drop (count + 1) text) (All-from_recursion (λ byte. (byte == mark) ≡ false) (take count text) lack) (eq-eqb (get_or text count 0) mark marked))

-- the number of one more digit
read_more : (number at : ℕ) (digits : List ℕ) → at < length digits → read_on number (take (suc at) digits) ≡ read_on number (take at digits) * 10 + (get_or digits at 0 - 48)
read_more number at [] within = absurd (omega (arith, within))
read_more number zero (digit ∷ rest) within = refl
read_more number (suc at) (digit ∷ rest) within = read_more (number * 10 + (digit - 48)) at rest (omega (arith, within))

pub read_next_digit : (number at : ℕ) (digits : List ℕ) → at < length digits → number ≡ read_on 0 (take at digits) → number * 10 + (get_or digits at 0 - 48) ≡ read_on 0 (take (at + 1) digits)
read_next_digit number at digits within is =
    let next : suc at ≡ at + 1 = omega arith in
    ap (λ k. k * 10 + (get_or digits at 0 - 48)) is ∙ sym (read_more 0 at digits within) ∙ ap (λ k. read_on 0 (take k digits)) next

-- so many bytes are digits
pub digits_next : (at : ℕ) (digits : List ℕ) → at < length digits → IsInRange 48 57 (get_or digits at 0) → AllDigits 10 (take at digits) → AllDigits 10 (take (at + 1) digits)
digits_next at digits within range all = digits_more 10 digits at within all (omega (arith, digit_value_digit (get_or digits at 0) range, range))

-- the digits are a number's
pub plain_front : (text : List ℕ) (count : ℕ) → count ≤ length text → 0 < count → 49 ≤ get_or text 0 0 → IsPlain (take count text)
plain_front text count within some high =
    let size : length (take count text) ≡ count = length-take-le count text within in
    let first : get_or (take count text) 0 0 ≡ get_or text 0 0 = get_or-take count text 0 0 some in
    (omega (arith, size, some), (λ zero. absurd (omega (arith, first, zero, high))))

-- the value of the first part, and the parts behind it
pub word_front : {X : Type 0} (of : List ℕ → Option X) (parts rest : List (List ℕ)) (part : List ℕ) (x : X) → first_part parts ≡ Some part → rest ≡ later_parts parts → of part ≡ Some x
    → word_at of parts ≡ Some (x, rest)
word_front of [] rest part x first later is = absurd (cc)
word_front of (p ∷ ps) rest part x first later is =
    let same : p ≡ part = cc in
    ap (λ q. with_rest ps (of q)) same ∙ ap (with_rest ps) is ∙ ap (λ (qs : List (List ℕ)). Some (x, qs)) (sym later)
