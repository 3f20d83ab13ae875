-- What came of asking the commands that bytes show.
use Rattle.std.proofs.Common.{◌≡◌, ℕ, ◌+◌, ◌≤◌, ◌^◌, Bool, true, false, List, [], ◌∷◌, ◌++◌, length, length-append, take, Option, None, Some, refl, sym, ap, ◌∙◌, subst, append_assoc, append-nil, arith}
use Rattle.std.specs.Io.KnownBytes.{Appends}
use Rattle.std.proofs.KnownBytes.{Appends-trans}
use Rattle.std.proofs.Math.Seq.{take-append-add}
use Rattle.std.proofs.lemmas.List.{take_all}
use Rattle.sect_command.specs.declared.view.Table.{Table}
use Rattle.sect_csv.specs.Intake.{read_so_far}
use Rattle.sect_tables.specs.Progress.{Progress}
use Rattle.sect_tables.specs.declared.given.Given.{Given}
use Rattle.sect_script.specs.declared.script.RunEnd.{RunEnd}
use Rattle.sect_script.specs.declared.script.RunEnd.TheVariants as ends
use Rattle.sect_script.specs.Run.{AnswersEach, Writes}
use Rattle.sect_app.specs.Asking.{Asks, AsksEach, AsksSome}
use Rattle.sect_app.specs.Numbers.{Numbered, number_at, numbered}
use Rattle.sect_app.specs.Table.{AsksTable, AtBadRow, AtEnd, AtMemory, AtReadFault, AtWriteFault, EndsTable, HasNumber, OpenWithoutNumber, PastLimit, TABLE_LIMIT, WithoutNumber}
use Rattle.sect_app.specs.Underway.{AskedSoFar, Shows, Through, open_without}
use Rattle.sect_app.proofs.Numbering.{AnswersEach-append, number_none, numbered-append}

-- an open row that has no number
open_found : (next open_row : Option ℕ) (row : ℕ) → open_without next open_row ≡ Some row → (next ≡ None) × (open_row ≡ Some row)
open_found None open_row row e = (refl, e)
open_found (Some number) open_row row e = absurd (cc)

module _ {H : Type 0} {answers : H → Numbered → List ℕ → H → Type 0} {first : ℕ} {before : Option (List ℕ)} {old : H} where
  -- where no number is left, they ran out
  numbers_out : {now : Option (List ℕ)} {new : H} {asked : List Given} {next : Option ℕ} → AskedSoFar answers first before now old new asked next → next ≡ None → first + length asked ≡ 2 ^ 64
  numbers_out {asked = asked} so_far none = omega (arith, so_far.numbers, number_none (first + length asked) (sym so_far.next_is ∙ none))

  -- others were asked behind those before
  asked_then : {T : Type 0} (taken : T → Option (List ℕ)) (sink : T) {mid : H} {next : Option ℕ} {front : List Given} (done : List Given) (new : H) (sink' : T) (next' : Option ℕ)
      → AskedSoFar answers first before (taken sink) old mid front next
      → first + length front + length done ≤ 2 ^ 64 → next' ≡ number_at (first + length front + length done) → Asks answers taken (first + length front) done mid new sink sink'
      → AskedSoFar answers first before (taken sink') old new (front ++ done) next'
  asked_then taken sink {mid = mid} {front = front} done new sink' next' so_far few after (bytes, answered, written) =
      let longer = length-append front done in
      let count : first + length front + length done ≡ first + length (front ++ done) = omega (arith, longer) in
      record {
        bytes = so_far.bytes ++ bytes;
        answered = subst (λ (l : List Numbered). AnswersEach answers old l (so_far.bytes ++ bytes) new) (sym (numbered-append first front done))
            (AnswersEach-append answers old mid new (numbered first front) (numbered (first + length front) done) so_far.bytes bytes so_far.answered answered);
        written = Appends-trans before (taken sink) (taken sink') so_far.bytes bytes so_far.written written;
        next_is = after ∙ ap number_at count;
        numbers = omega (arith, few, count);
      }

-- where those that were asked stand in what is shown
front_of : (all front given done rest : List Given) → all ≡ front ++ given → given ≡ done ++ rest → all ≡ (front ++ done) ++ rest
front_of all front given done rest behind split = behind ∙ ap (λ (g : List Given). front ++ g) split ∙ sym (append_assoc front done rest)

-- the open command has a number
still_numbered : {H : Type 0} {answers : H → Numbered → List ℕ → H → Type 0} {first : ℕ} {before now : Option (List ℕ)} {old new : H} {next : Option ℕ} (asked : List Given) (p : Progress) (open_row : Option ℕ)
    → AskedSoFar answers first before now old new asked next → open_row ≡ p.open_row → open_without next open_row ≡ None → HasNumber first asked p
still_numbered {next = next} asked p open_row so_far open_is none = λ row out.
    let last : next ≡ None = so_far.next_is ∙ ap number_at out.1 in
    let closed : open_row ≡ None = sym (ap (λ (n : Option ℕ). open_without n open_row) last) ∙ none in
    let opened : None ≡ Some row = sym closed ∙ open_is ∙ out.0 in
    absurd (cc)

module _ {H : Type 0} {answers : H → Numbered → List ℕ → H → Type 0} {table : Table} {term : Option ℕ} {first : ℕ} {before : Option (List ℕ)} {old : H} {read : List ℕ} {ended : Bool} where
  -- all that the bytes show was asked, and the run ends so
  all_asked : {now : Option (List ℕ)} {new : H} {next : Option ℕ} {more : List ℕ} (end : RunEnd) → AskedSoFar answers first before now old new (read_so_far table term read ended).1 next
      → ((bytes : List ℕ) → Appends before now bytes → Writes end before now bytes)
      → EndsTable first (read_so_far table term read ended) read more ended (read_so_far table term read ended).1 end
      → AsksTable answers table term first before now old new read more ended end
  all_asked end so_far writes how = record {
    asked = (read_so_far table term read ended).1;
    shown = ([], sym (append-nil (read_so_far table term read ended).1));
    numbers = so_far.numbers;
    bytes = so_far.bytes;
    answered = so_far.answered;
    written = writes so_far.bytes so_far.written;
    how = how;
  }

  module _ {T : Type 0} (taken : T → Option (List ℕ)) {mid : H} {sink : T} {next : Option ℕ} {given : List Given} {open_row : Option ℕ} {fault : Option (ℕ × ℕ)} where
    -- all that is shown was asked
    pub shown_all : {new : H} {sink' : T} {next' : Option ℕ} (s : Shows answers table term first before (taken sink) old mid next read ended given open_row fault)
        → AsksEach answers taken (first + length s.before) given mid new sink sink' next' None → AskedSoFar answers first before (taken sink') old new (read_so_far table term read ended).1 next'
    shown_all {new = new} {sink' = sink'} {next' = next'} s (few, after, asks) =
        subst (λ (l : List Given). AskedSoFar answers first before (taken sink') old new l next') (sym s.behind) (asked_then taken sink given new sink' next' s.so_far few after asks)

    -- the run goes on
    pub shown_goes_on : {new : H} {sink' : T} {next' : Option ℕ} (s : Shows answers table term first before (taken sink) old mid next read ended given open_row fault)
        → AsksEach answers taken (first + length s.before) given mid new sink sink' next' None → open_without next' open_row ≡ None → fault ≡ None
        → Through answers table term first before (taken sink') old new next' read ended
    shown_goes_on s asked none well =
        let so_far = shown_all s asked in
        record { well = sym s.fault_is ∙ well; so_far = so_far; has_number = still_numbered (read_so_far table term read ended).1 (read_so_far table term read ended).0 open_row so_far s.open_is none }

    -- a row is bad
    pub shown_bad : {new : H} {sink' : T} {next' : Option ℕ} (row field : ℕ) (s : Shows answers table term first before (taken sink) old mid next read ended given open_row fault)
        → AsksEach answers taken (first + length s.before) given mid new sink sink' next' None → open_without next' open_row ≡ None → fault ≡ Some (row, field)
        → AsksTable answers table term first before (taken sink') old new read [] ended (ends.BadLine row field)
    shown_bad row field s asked none bad =
        let so_far = shown_all s asked in
        all_asked (ends.BadLine row field) so_far (λ bytes w. w) (AtBadRow row field (sym s.fault_is ∙ bad) refl (still_numbered (read_so_far table term read ended).1 (read_so_far table term read ended).0 open_row so_far s.open_is none) refl)

    -- an open command has no number
    pub shown_open : {new : H} {sink' : T} {next' : Option ℕ} (row : ℕ) (s : Shows answers table term first before (taken sink) old mid next read ended given open_row fault)
        → AsksEach answers taken (first + length s.before) given mid new sink sink' next' None → open_without next' open_row ≡ Some row
        → AsksTable answers table term first before (taken sink') old new read [] ended (ends.BadLine row 0)
    shown_open {next' = next'} row s asked without_number =
        let so_far = shown_all s asked in
        let found = open_found next' open_row row without_number in
        all_asked (ends.BadLine row 0) so_far (λ bytes w. w) (OpenWithoutNumber row (sym s.open_is ∙ found.1, numbers_out so_far found.0) refl refl)

    -- a command has no number
    without : {new : H} {sink' : T} (row field : ℕ) (s : Shows answers table term first before (taken sink) old mid next read ended given open_row fault) (done : List Given) (it : Given) (rest : List Given)
        → given ≡ done ++ it ∷ rest → row ≡ it.row → field ≡ 0 → first + length s.before + length done ≡ 2 ^ 64 → Asks answers taken (first + length s.before) done mid new sink sink'
        → AsksTable answers table term first before (taken sink') old new read [] ended (ends.BadLine row field)
    without {new = new} {sink' = sink'} row field s done it rest split row_is field_is full asks =
        let so_far = asked_then taken sink done new sink' (number_at (first + length s.before + length done)) s.so_far (omega (arith, full)) refl asks in
        let count : first + length (s.before ++ done) ≡ 2 ^ 64 = omega (arith, full, length-append s.before done) in
        let front = front_of (read_so_far table term read ended).1 s.before given done (it ∷ rest) s.behind split in
        subst (λ (r : ℕ). AsksTable answers table term first before (taken sink') old new read [] ended (ends.BadLine r field)) (sym row_is)
        (subst (λ (f : ℕ). AsksTable answers table term first before (taken sink') old new read [] ended (ends.BadLine it.row f)) (sym field_is) (record {
          asked = s.before ++ done;
          shown = (it ∷ rest, front);
          numbers = so_far.numbers;
          bytes = so_far.bytes;
          answered = so_far.answered;
          written = so_far.written;
          how = WithoutNumber it rest front count refl;
        }))

    -- some were asked, and a front of the answers was written
    in_part : {new : H} {sink' : T} (end : RunEnd) (s : Shows answers table term first before (taken sink) old mid next read ended given open_row fault)
        → AsksSome answers taken (first + length s.before) given mid new sink sink'
        → ((bytes : List ℕ) → ((n : ℕ) × Appends before (taken sink') (take n bytes)) → Writes end before (taken sink') bytes)
        → ((asked : List Given) → EndsTable first (read_so_far table term read ended) read [] ended asked end)
        → AsksTable answers table term first before (taken sink') old new read [] ended end
    in_part {new = new} {sink' = sink'} end s (done, rest, split, few, (bytes, n, answered, written)) writes how =
        let longer = length-append s.before done in
        record {
          asked = s.before ++ done;
          shown = (rest, front_of (read_so_far table term read ended).1 s.before given done rest s.behind split);
          numbers = omega (arith, few, longer);
          bytes = s.so_far.bytes ++ bytes;
          answered = subst (λ (l : List Numbered). AnswersEach answers old l (s.so_far.bytes ++ bytes) new) (sym (numbered-append first s.before done))
              (AnswersEach-append answers old mid new (numbered first s.before) (numbered (first + length s.before) done) s.so_far.bytes bytes s.so_far.answered answered);
          written = writes (s.so_far.bytes ++ bytes) (
            length s.so_far.bytes + n,
            rw (take-append-add s.so_far.bytes bytes n) (Appends-trans before (taken sink) (taken sink') s.so_far.bytes (take n bytes) s.so_far.written written),
          );
          how = how (s.before ++ done);
        }

    -- the run ended among the commands
    pub shown_early : {new : H} {sink' : T} (next' : Option ℕ) (end : RunEnd) (s : Shows answers table term first before (taken sink) old mid next read ended given open_row fault)
        → AsksEach answers taken (first + length s.before) given mid new sink sink' next' (Some end) → AsksTable answers table term first before (taken sink') old new read [] ended end
    shown_early next' ends.Done s asked = absurd asked
    shown_early next' (ends.BadLine row field) s (done, it, rest, split, row_is, field_is, full, asks) = without row field s done it rest split row_is field_is full asks
    shown_early next' ends.ReadFault s asked = absurd asked
    shown_early next' ends.WriteFault s asked = in_part ends.WriteFault s asked (λ bytes w. w) (λ all. AtWriteFault refl)
    shown_early next' ends.Memory s asked = in_part ends.Memory s asked (λ bytes w. w) (λ all. AtMemory)

  -- ---- the ends between the commands

  module _ {now : Option (List ℕ)} {new : H} {next : Option ℕ} (t : Through answers table term first before now old new next read ended) where
    pub through_done : ended ≡ true → AsksTable answers table term first before now old new read [] ended ends.Done
    through_done all = all_asked ends.Done t.so_far (λ bytes w. w) (AtEnd all t.well refl refl)

    pub through_memory : (more : List ℕ) → AsksTable answers table term first before now old new read more ended ends.Memory
    through_memory more = all_asked ends.Memory t.so_far (λ bytes w. (length bytes, rw (take_all (length bytes) bytes (omega arith)) w)) AtMemory

    pub through_read_fault : ended ≡ false → AsksTable answers table term first before now old new read [] ended ends.ReadFault
    through_read_fault going = all_asked ends.ReadFault t.so_far (λ bytes w. w) (AtReadFault going t.well refl t.has_number refl)

    pub through_limit : (row : ℕ) (more : List ℕ) → row ≡ (read_so_far table term read ended).0.rows + 1 → ended ≡ false → length read ≡ TABLE_LIMIT → length more ≡ 1
        → AsksTable answers table term first before now old new read more ended (ends.BadLine row 0)
    through_limit row more is going full one = all_asked (ends.BadLine row 0) t.so_far (λ bytes w. w) (PastLimit row is going t.well refl t.has_number full one)
