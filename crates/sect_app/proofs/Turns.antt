-- The turns of a run over a table.
use Rattle.std.proofs.Common.{◌≡◌, ℕ, ◌+◌, ◌<◌, ◌≤◌, ◌^◌, Bool, true, false, List, [], ◌++◌, length, length-append, take, Option, None, Some, Result, Ok, refl, sym, ap, ◌∙◌, subst, append-nil, arith, nat_lt}
use Rattle.std.specs.Io.KnownBytes.{Consumes, IsAtEnd, Keeps}
use Rattle.std.proofs.KnownBytes.{Appends-nil, Consumes-kept, Consumes-nil, Consumes-trans}
use Rattle.std.proofs.lemmas.Bool.{lt-ltb, ltb-false, ltb-true}
use Rattle.std.proofs.lemmas.List.{length-take-le}
use Rattle.sect_command.specs.declared.view.Table.{Table}
use Rattle.sect_csv.proofs.ReadingLemmas.{read_so_far-nothing}
use Rattle.sect_csv.specs.Intake.{Intake, beginning, read_so_far}
use Rattle.sect_tables.specs.Rows.{Step}
use Rattle.sect_tables.specs.declared.given.Given.{Given}
use Rattle.sect_script.specs.declared.script.RunEnd.{RunEnd}
use Rattle.sect_script.specs.declared.script.RunEnd.TheVariants as ends
use Rattle.sect_app.specs.Numbers.{Numbered, number_at}
use Rattle.sect_app.specs.Table.{RanTable, TABLE_LIMIT}
use Rattle.sect_app.specs.Underway.{AskedSoFar, GoesOn, LooksPast, TakesEnd, TakesPiece, Underway}
use Rattle.sect_app.proofs.Outcomes.{through_limit, through_memory, through_read_fault}

-- fewer bytes with those that count
front_small : (front more all : List ℕ) (most : ℕ) → front ++ more ≡ all → length all ≤ most → length front ≤ most
front_small front more all most same small = omega (arith, length-append front more, ap (λ (l : List ℕ). length l) same, small)

-- what a call that succeeds gives
pub ok_is : {A E : Type 0} (x y : A) → ◌≡◌ {A = Result A E} (Ok x) (Ok y) → x ≡ y
ok_is x y e = cc

-- what a look for another byte took
pub looked : (now later : Option (List ℕ)) (count : ℕ) (buffer : List ℕ) → count ≤ 1 → count ≤ length buffer → Consumes now later (take count buffer) → (count ≡ 0 → IsAtEnd later)
    → LooksPast (nat_lt 0 count) now later
looked now later count buffer few within consumed end = by (nat_lt 0 count) refl
  where
    by : (b : Bool) → nat_lt 0 count ≡ b → LooksPast b now later
    by true is =
        let one : count ≡ 1 = omega (arith, few, ltb-true 0 count is) in
        (take count buffer, consumed, length-take-le count buffer within ∙ one)
    by false is =
        let none : count ≡ 0 = omega (arith, ltb-false 0 count is) in
        (subst (Consumes now later) (ap (λ (n : ℕ). take n buffer) none) consumed, end none)

module _ {H : Type 0} {answers : H → Numbered → List ℕ → H → Type 0} {table : Table} {term : Option ℕ} {first : ℕ} {left taken : Option (List ℕ)} {old : H} where
  -- nothing was read
  pub begun : (import : Intake) (next : Option ℕ) (total : ℕ) → import ≡ beginning table term → next ≡ Some first → first < 2 ^ 64 → total ≡ 0
      → Underway answers table term first left left taken taken old old import next total
  begun import next total is_new is_first small none =
      let nothing : read_so_far table term [] false ≡ _ = read_so_far-nothing table term in
      let one : number_at first ≡ Some first = rw (lt-ltb first (2 ^ 64) small) refl in
      let start : first ≡ first + 0 = omega arith in
      record {
        read = [];
        consumed = Consumes-nil left;
        fed = is_new;
        through = record {
          well = ap (λ (s : Step). s.0.fault) nothing;
          so_far = subst (λ (l : List Given). AskedSoFar answers first taken taken old old l next) (sym (ap (λ (s : Step). s.1) nothing)) (record {
            bytes = [];
            answered = (refl, refl);
            written = Appends-nil taken;
            next_is = is_first ∙ sym one ∙ ap number_at start;
            numbers = omega (arith, small);
          });
          has_number = λ row out. let opened : None ≡ Some row = sym (ap (λ (s : Step). s.0.open_row) nothing) ∙ out.0 in absurd (cc);
        };
        count = none;
        small = omega arith;
      }

  module _ {now taken' : Option (List ℕ)} {new : H} {import : Intake} {next : Option ℕ} {total : ℕ} (u : Underway answers table term first left now taken taken' old new import next total) where
    -- with nothing behind the bytes
    just : (later : Option (List ℕ)) → Consumes left later u.read → Consumes left later (u.read ++ [])
    just later consumed = subst (Consumes left later) (sym (append-nil u.read)) consumed

    -- the source failed
    pub read_failed : (later : Option (List ℕ)) → Keeps now later → RanTable answers table term first left later taken taken' old new ends.ReadFault
    read_failed later keeps = record {
      read = u.read;
      more = [];
      consumed = just later (Consumes-kept left now later u.read u.consumed keeps);
      small = u.small;
      ended = false;
      at_end = λ all. absurd (cc);
      asks = through_read_fault u.through refl;
    }

    -- the table ended
    pub table_ended : (later : Option (List ℕ)) (taken'' : Option (List ℕ)) (last : H) (none : List ℕ) (end : RunEnd) → Consumes now later none → none ≡ [] → IsAtEnd later
        → TakesEnd answers table term first taken taken'' old last u.read end → RanTable answers table term first left later taken taken'' old last end
    table_ended later taken'' last none end consumed nothing at_end (ended, asks) =
        record {
          read = u.read;
          more = [];
          consumed = subst (λ (l : List ℕ). Consumes left later (u.read ++ l)) nothing (Consumes-trans left now later u.read none u.consumed consumed);
          small = u.small;
          ended = ended;
          at_end = λ all. at_end;
          asks = asks;
        }

    -- a piece was taken
    pub piece_taken : (later : Option (List ℕ)) (taken'' : Option (List ℕ)) (last : H) (import' : Intake) (next' : Option ℕ) (total' : ℕ) (piece : List ℕ) (result : Option RunEnd) → Consumes now later piece
        → total' ≡ total + length piece → total' ≤ TABLE_LIMIT → TakesPiece answers table term first taken taken'' old last import' next' u.read piece result
        → GoesOn (Underway answers table term first left later taken taken'' old last import' next' total') (λ end. RanTable answers table term first left later taken taken'' old last end) result
    piece_taken later taken'' last import' next' total' piece None consumed longer few (goes, through) =
        let both = length-append u.read piece in
        let count : total' ≡ length (u.read ++ piece) = omega (arith, longer, both, u.count) in
        record {
          read = u.read ++ piece;
          consumed = Consumes-trans left now later u.read piece u.consumed consumed;
          fed = goes;
          through = through;
          count = count;
          small = omega (arith, count, few);
        }
    piece_taken later taken'' last import' next' total' piece (Some end) consumed longer few (front, more, same, asks) =
        let both = length-append u.read piece in
        record {
          read = front;
          more = more;
          consumed = subst (Consumes left later) (sym same) (Consumes-trans left now later u.read piece u.consumed consumed);
          small = front_small front more (u.read ++ piece) TABLE_LIMIT same (omega (arith, longer, both, u.count, few));
          ended = false;
          at_end = λ all. absurd (cc);
          asks = asks;
        }

    -- a piece of the buffer was taken
    pub bytes_taken : (later : Option (List ℕ)) (taken'' : Option (List ℕ)) (last : H) (import' : Intake) (next' : Option ℕ) (total' count : ℕ) (buffer piece : List ℕ) (result : Option RunEnd)
        → piece ≡ take count buffer → count ≤ length buffer → Consumes now later (take count buffer)
        → total' ≡ total + count → total' ≤ TABLE_LIMIT → TakesPiece answers table term first taken taken'' old last import' next' u.read piece result
        → GoesOn (Underway answers table term first left later taken taken'' old last import' next' total') (λ end. RanTable answers table term first left later taken taken'' old last end) result
    bytes_taken later taken'' last import' next' total' count buffer piece result value within consumed longer few takes =
        let size : length piece ≡ count = ap (λ (l : List ℕ). length l) value ∙ length-take-le count buffer within in
        piece_taken later taken'' last import' next' total' piece result (subst (Consumes now later) (sym value) consumed) (omega (arith, size, longer)) few takes

    -- a byte stands behind as many as a table may have
    pub past_limit : (later : Option (List ℕ)) (row : ℕ) (byte : List ℕ) → Consumes now later byte → length byte ≡ 1 → total ≡ TABLE_LIMIT → row ≡ (read_so_far table term u.read false).0.rows + 1
        → RanTable answers table term first left later taken taken' old new (ends.BadLine row 0)
    past_limit later row byte consumed one full is = record {
      read = u.read;
      more = byte;
      consumed = Consumes-trans left now later u.read byte u.consumed consumed;
      small = u.small;
      ended = false;
      at_end = λ all. absurd (cc);
      asks = through_limit u.through row byte is refl (sym u.count ∙ full) one;
    }

    -- memory was wanted
    pub out_of_memory : (later : Option (List ℕ)) (more : List ℕ) → Consumes now later more → RanTable answers table term first left later taken taken' old new ends.Memory
    out_of_memory later more consumed = record {
      read = u.read;
      more = more;
      consumed = Consumes-trans left now later u.read more u.consumed consumed;
      small = u.small;
      ended = false;
      at_end = λ all. absurd (cc);
      asks = through_memory u.through more;
    }
