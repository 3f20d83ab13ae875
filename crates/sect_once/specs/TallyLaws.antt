-- Rows of a tally have one entry, entries one row, and what may be asked gets one.
use Rattle.std.proofs.Common.{◌≡◌, ℕ, ◌+◌, ◌<◌, ◌≤◌, ◌^◌, List, [], ◌∷◌, ◌++◌, length, take, drop, Some, refl, sym, ap, ◌∙◌, arith}
use Rattle.std.specs.Prelude.{◌==◌}
use Rattle.std.specs.Int.{from_be_bytes, to_be_bytes, w32, w64}
use Rattle.std.proofs.lemmas.Nat.{from_be_bytes-to_be_bytes_4, from_be_bytes-to_be_bytes_8}
use Rattle.sect_base.specs.declared.limit.Caller.{Caller}
use Rattle.sect_base.specs.declared.limit.Caller.TheVariants.{Registrar, Student}
use Rattle.sect_once.specs.declared.entry.Entry.{Entry}
use Rattle.sect_once.specs.Tallies.{IsTallyRow, MayAsk, caller_number, caller_tag, tagged, tallied, tally_entry, tally_row}
use Rattle.sect_once.specs.Desks.{NextHasRow}

pub tally_one_row : (e : Entry ℕ ℕ) (a b : List ℕ) → IsTallyRow e a → IsTallyRow e b → a ≡ b
tally_one_row e a b h k = h.is ∙ sym k.is

same_caller : (c d : Caller) → caller_tag c ≡ caller_tag d → caller_number c ≡ caller_number d → c ≡ d
same_caller (Registrar n) (Registrar m) t h = ap Registrar h
same_caller (Registrar n) (Student s) t h = absurd (omega (arith, t))
same_caller (Student s) (Registrar m) t h = absurd (omega (arith, t))
same_caller (Student s) (Student r) t h = λ i. Student record { 0 = h i }

-- the parts of a row
day_in : (e : Entry ℕ ℕ) → take 4 (tally_row e) ≡ to_be_bytes w32 e.day
day_in e = refl

tag_in : (e : Entry ℕ ℕ) → take 1 (drop 4 (tally_row e)) ≡ caller_tag e.id.caller ∷ []
tag_in e = refl

caller_in : (e : Entry ℕ ℕ) → take 4 (drop 5 (tally_row e)) ≡ to_be_bytes w32 (caller_number e.id.caller)
caller_in e = refl

number_in : (e : Entry ℕ ℕ) → take 8 (drop 9 (tally_row e)) ≡ to_be_bytes w64 e.id.number
number_in e = refl

command_in : (e : Entry ℕ ℕ) → take 1 (drop 17 (tally_row e)) ≡ e.command ∷ []
command_in e = refl

reply_in : (e : Entry ℕ ℕ) → drop 18 (tally_row e) ≡ to_be_bytes w64 e.reply
reply_in e = refl

same_4 : (m n : ℕ) → m < 2 ^ 32 → n < 2 ^ 32 → to_be_bytes w32 m ≡ to_be_bytes w32 n → m ≡ n
same_4 m n h k e = sym (from_be_bytes-to_be_bytes_4 m h) ∙ ap (from_be_bytes w32) e ∙ from_be_bytes-to_be_bytes_4 n k

same_8 : (m n : ℕ) → m < 2 ^ 64 → n < 2 ^ 64 → to_be_bytes w64 m ≡ to_be_bytes w64 n → m ≡ n
same_8 m n h k e = sym (from_be_bytes-to_be_bytes_8 m h) ∙ ap (from_be_bytes w64) e ∙ from_be_bytes-to_be_bytes_8 n k

pub tally_one_entry : (e f : Entry ℕ ℕ) (row : List ℕ) → IsTallyRow e row → IsTallyRow f row → e ≡ f
tally_one_entry e f row h k =
    let rows : tally_row e ≡ tally_row f = sym h.is ∙ k.is in
    let day : e.day ≡ f.day = same_4 e.day f.day (omega (arith, h.day)) (omega (arith, k.day)) (ap (take 4) rows) in
    let tag : caller_tag e.id.caller ≡ caller_tag f.id.caller = ap (λ (r : List ℕ). Rattle.std.proofs.Common.get_or (drop 4 r) 0 0) rows in
    let caller : caller_number e.id.caller ≡ caller_number f.id.caller = same_4 _ _ h.caller k.caller (ap (λ (r : List ℕ). take 4 (drop 5 r)) rows) in
    let number : e.id.number ≡ f.id.number = same_8 _ _ h.number k.number (ap (λ (r : List ℕ). take 8 (drop 9 r)) rows) in
    let command : e.command ≡ f.command = ap (λ (r : List ℕ). Rattle.std.proofs.Common.get_or (drop 17 r) 0 0) rows in
    let reply : e.reply ≡ f.reply = same_8 _ _ h.reply k.reply (ap (drop 18) rows) in
    let who : e.id.caller ≡ f.id.caller = same_caller _ _ tag caller in
    λ i. record { id = record { caller = who i; number = number i }; day = day i; command = command i; reply = reply i }

tagged_again : (c : Caller) → tagged (caller_tag c == 114) (caller_number c) ≡ c
tagged_again (Registrar n) = refl
tagged_again (Student s) = refl

pub tally_reads_row : (e : Entry ℕ ℕ) (row : List ℕ) → IsTallyRow e row → tally_entry row ≡ Some e
tally_reads_row e row h =
    let day : from_be_bytes w32 (to_be_bytes w32 e.day) ≡ e.day = from_be_bytes-to_be_bytes_4 e.day (omega (arith, h.day)) in
    let caller : from_be_bytes w32 (to_be_bytes w32 (caller_number e.id.caller)) ≡ caller_number e.id.caller = from_be_bytes-to_be_bytes_4 _ h.caller in
    let number : from_be_bytes w64 (to_be_bytes w64 e.id.number) ≡ e.id.number = from_be_bytes-to_be_bytes_8 _ h.number in
    let reply : from_be_bytes w64 (to_be_bytes w64 e.reply) ≡ e.reply = from_be_bytes-to_be_bytes_8 _ h.reply in
    let who = ap (tagged (caller_tag e.id.caller == 114)) caller ∙ tagged_again e.id.caller in
    ap tally_entry h.is ∙ (λ i. Some (record { id = record { caller = who i; number = number i }; day = day i; command = e.command; reply = reply i }))

pub tally_next_has_row : NextHasRow 0 tallied IsTallyRow MayAsk
tally_next_has_row es rows e h few asked replied = (tally_row e, record { day = asked.0; caller = asked.1; number = asked.2; command = asked.3; reply = omega (arith, replied); is = refl })
