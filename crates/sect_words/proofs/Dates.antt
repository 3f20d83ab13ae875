-- Each day of the years 1970 to 2199 has a date.
use Rattle.std.proofs.Common.{◌≡◌, ℕ, zero, suc, ◌+◌, ◌<◌, ◌≤◌, refl, ap, sym, ◌∙◌, arith, ◌⊎◌, inl, inr}
use Rattle.std.specs.Prelude.{pos}
use Rattle.std.proofs.lemmas.Int.{ints}
use Rattle.std.proofs.lemmas.Bool.{cases_lt, cases_eq}
use Rattle.jiff_core.specs.Calendar.{days_in_month, days_from_civil}
use Rattle.jiff_core.proofs.CalendarLemmas.{day_count-epoch, days_in_month_bounds, days_from_civil-day_count}
use Rattle.jiff_core.proofs.DateLemmas.{days_from_civil-day, days_from_civil-next_month, days_from_civil-next_year, days_from_civil-max}
use Rattle.sect_base.specs.DayText.{date_text, IsDayText}
use Rattle.sect_words.specs.Days.{day_text}
use Rattle.sect_words.proofs.DayLaws.{says_day}

-- a date with this number
record Dated (day : ℕ) : Type 0 where
  year : ℕ
  month : ℕ
  date : ℕ
  late : year ≤ 9999
  has_month : (1 ≤ month) × (month ≤ 12)
  has_date : (1 ≤ date) × (date ≤ days_in_month (pos year) month)
  number : days_from_civil (pos year) month date ≡ pos day

next_date : (day : ℕ) → (d : Dated day) → d.date < days_in_month (pos d.year) d.month → Dated (suc day)
next_date day d more =
    let step = days_from_civil-day (pos d.year) d.month d.date (d.date + 1) d.has_date.0 (omega arith) in
    record {
      year = d.year;
      month = d.month;
      date = d.date + 1;
      late = d.late;
      has_month = d.has_month;
      has_date = (omega arith, omega (arith, more));
      number = omega (arith, ints, step, d.number);
    }

next_month : (day : ℕ) → (d : Dated day) → days_in_month (pos d.year) d.month ≤ d.date → d.month < 12 → Dated (suc day)
next_month day d last more =
    let step = days_from_civil-next_month (pos d.year) d.month d.date d.has_month.0 (omega (arith, last, d.has_date)) in
    let few = days_in_month_bounds (pos d.year) (d.month + 1) in
    record {
      year = d.year;
      month = d.month + 1;
      date = 1;
      late = d.late;
      has_month = (omega arith, omega (arith, more));
      has_date = (omega arith, omega (arith, few));
      number = omega (arith, ints, step, d.number);
    }

next_year : (day : ℕ) → day ≤ 84005 → (d : Dated day) → days_in_month (pos d.year) d.month ≤ d.date → 12 ≤ d.month → Dated (suc day)
next_year day low d last december =
    let month : d.month ≡ 12 = omega (arith, december, d.has_month) in
    let days : days_in_month (pos d.year) d.month ≡ 31 = ap (days_in_month (pos d.year)) month in
    let date : d.date ≡ 31 = omega (arith, days, last, d.has_date) in
    let number : days_from_civil (pos d.year) 12 31 ≡ pos day = ap (λ m. days_from_civil (pos d.year) m 31) (sym month) ∙ ap (days_from_civil (pos d.year) d.month) (sym date) ∙ d.number in
    by_year day low d.year d.late number (cases_eq d.year 9999)
  where
    by_year : (day : ℕ) → day ≤ 84005 → (year : ℕ) → year ≤ 9999 → days_from_civil (pos year) 12 31 ≡ pos day → (year ≡ 9999) ⊎ (year ≡ 9999 → ⊥) → Dated (suc day)
    by_year day low year late number (inl e) =
        let most = sym (ap (λ y. days_from_civil (pos y) 12 31) e) ∙ number in
        absurd (omega (arith, ints, days_from_civil-max, most, low))
    by_year day low year late number (inr other) =
        let step = days_from_civil-next_year (pos year) (pos (year + 1)) (omega (arith, ints)) (omega (arith, ints)) in
        let few = days_in_month_bounds (pos (year + 1)) 1 in
        record {
          year = year + 1;
          month = 1;
          date = 1;
          late = omega (arith, late, other);
          has_month = (omega arith, omega arith);
          has_date = (omega arith, omega (arith, few));
          number = omega (arith, ints, step, number);
        }

by_month : (day : ℕ) → day ≤ 84005 → (d : Dated day) → days_in_month (pos d.year) d.month ≤ d.date → (d.month < 12) ⊎ (12 ≤ d.month) → Dated (suc day)
by_month day low d last (inl more) = next_month day d last more
by_month day low d last (inr december) = next_year day low d last december

by_date : (day : ℕ) → day ≤ 84005 → (d : Dated day) → (d.date < days_in_month (pos d.year) d.month) ⊎ (days_in_month (pos d.year) d.month ≤ d.date) → Dated (suc day)
by_date day low d (inl more) = next_date day d more
by_date day low d (inr last) = by_month day low d last (cases_lt d.month 12)

dated : (day : ℕ) → day ≤ 84005 → Dated day
dated zero low = record {
  year = 1970;
  month = 1;
  date = 1;
  late = omega arith;
  has_month = (omega arith, omega arith);
  has_date = (omega arith, omega arith);
  number = omega (arith, ints, days_from_civil-day_count (pos 1970) 1 1, day_count-epoch);
}
dated (suc day) low = let d = dated day (omega (arith, low)) in by_date day (omega (arith, low)) d (cases_lt d.date (days_in_month (pos d.year) d.month))

-- the text of a day says it
pub has_day : (day : ℕ) → day ≤ 84005 → IsDayText (day_text day) day
has_day day low =
    let d = dated day low in
    says_day (date_text d.year d.month d.date) day (record {
      year = d.year;
      month = d.month;
      date = d.date;
      is_date = ((omega (arith, ints), omega (arith, ints, d.late)), (omega (arith, ints, d.has_month), omega (arith, ints, d.has_month)), (omega (arith, ints, d.has_date), omega (arith, ints, d.has_date)));
      is_text = refl;
      is_number = d.number;
    })
