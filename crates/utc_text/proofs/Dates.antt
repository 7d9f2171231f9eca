-- The date of a day, counted by years and months, is that of jiff's calendar.
use Rattle.std.proofs.Common.{◌≡◌, ℕ, zero, suc, ◌+◌, ◌-◌, ◌/◌, ◌%◌, ◌<◌, ◌≤◌, ℤ, pos, negsuc, ◌≤ℤ◌, if◌then◌else◌, List, ◌++◌, ◌∷◌, [], refl, sym, ap, subst, ◌∙◌, arith, le-ltb, lt-ltb}
use Rattle.std.proofs.lemmas.Int.{by_lt_z}
use Rattle.jiff_core.specs.declared.civil.date.Date.{Date as Day}
use Rattle.jiff_core.specs.Calendar.{IsCivilDate, day_count, days_in_month, days_in_year}
use Rattle.jiff_core.specs.Date.{epoch_day}
use Rattle.jiff_core.proofs.SignedLemmas.{signed_arith}
use Rattle.jiff_core.proofs.CalendarLemmas.{day_count-day, day_count-day_of_year, day_count-epoch, day_count-last_of_year, day_count-lt_month, day_count-lt_year, day_count-next_month, day_count-next_year, day_of_year_bound, days_from_civil-day_count, days_in_month_bounds, days_in_year_bounds}
use Rattle.jiff_fmt.specs.Text as jiff
use Rattle.utc_text.specs.Texts.{date_text, month_days, month_of, two_digits, year_days, year_of}

in_this_year : (most year days : ℕ) → days < year_days year → year_of most year days ≡ (year, days)
in_this_year zero year days h = refl
in_this_year (suc most) year days h =
    ap (λ b. if b then (year, days) else year_of most (year + 1) (days - year_days year)) (lt-ltb days (year_days year) h)

in_this_month : (most year month days : ℕ) → days < month_days year month → month_of most year month days ≡ (month, days)
in_this_month zero year month days h = refl
in_this_month (suc most) year month days h =
    ap (λ b. if b then (month, days) else month_of most year (month + 1) (days - month_days year month)) (lt-ltb days (month_days year month) h)

-- a date, and its number among all days of the calendar
module _ (year month day : ℕ) (is : IsCivilDate (pos year) month day) where
  abbrev count : ℕ
  count = day_count (pos year) month day

  -- the first of its year has a number, and it is no later
  year_begins : (day_count (pos year) 1 1 ≤ count) × (count < day_count (pos year) 1 1 + days_in_year (pos year))
  year_begins =
      let of_year = day_count-day_of_year (pos year) month day is.2.0 in
      let bound = day_of_year_bound (pos year) month day is in
      (omega (arith, is.2.0), omega (arith, is.2.0))

  its_year : (k most y days : ℕ) → y + k ≡ year → day_count (pos y) 1 1 + days ≡ count → days ≤ most
      → year_of most y days ≡ (year, count - day_count (pos year) 1 1)
  its_year zero most y days at h room =
      let same : y ≡ year = omega arith in
      let there : day_count (pos year) 1 1 + days ≡ count = subst (λ n. day_count (pos n) 1 1 + days ≡ count) same h in
      rw same (in_this_year most year days (omega (arith, there, year_begins)) ∙ ap (λ (n : ℕ). (year, n)) (omega (arith, there)))
  its_year (suc k) most y days at h room =
      let before = day_count-lt_year (pos y) 12 31 (pos year) month day
      ((omega (arith, signed_arith, is.0), omega (arith, signed_arith, is.0)), (omega arith, omega arith), (omega arith, omega arith)) is.2.0 (omega (arith, signed_arith)) in
      let last = day_count-last_of_year (pos y) in
      let long = days_in_year_bounds (pos y) in
      let past : days_in_year (pos y) ≤ days = omega arith in
      let next : day_count (pos (y + 1)) 1 1 ≡ day_count (pos y) 1 1 + days_in_year (pos y) =
      day_count-next_year (pos y) (pos (y + 1)) (omega (arith, signed_arith)) (omega (arith, signed_arith)) in
      on most room past (λ rest left. its_year k rest (y + 1) (days - days_in_year (pos y)) (omega arith) (omega arith) left)
    where
      on : (most : ℕ) → days ≤ most → days_in_year (pos y) ≤ days
          → ((rest : ℕ) → days - days_in_year (pos y) ≤ rest → year_of rest (y + 1) (days - days_in_year (pos y)) ≡ (year, count - day_count (pos year) 1 1))
          → year_of most y days ≡ (year, count - day_count (pos year) 1 1)
      on zero room past more = absurd (omega (arith, days_in_year_bounds (pos y)))
      on (suc rest) room past more =
          ap (λ b. if b then (y, days) else year_of rest (y + 1) (days - year_days y)) (le-ltb days (year_days y) past)
          ∙ more rest (omega (arith, days_in_year_bounds (pos y)))

  its_month : (k most m days : ℕ) → m + k ≡ month → 1 ≤ m → day_count (pos year) m 1 + days ≡ count → k ≤ most
      → month_of most year m days ≡ (month, day - 1)
  its_month zero most m days at first h room =
      let same : m ≡ month = omega arith in
      let there : day_count (pos year) month 1 + days ≡ count = subst (λ n. day_count (pos year) n 1 + days ≡ count) same h in
      let of_month = day_count-day (pos year) month day 1 is.2.0 (omega arith) in
      rw same (in_this_month most year month days (omega (arith, there, is.2)) ∙ ap (λ (n : ℕ). (month, n)) (omega (arith, there, is.2)))
  its_month (suc k) zero m days at first h room = absurd (omega arith)
  its_month (suc k) (suc most) m days at first h room =
      let long = days_in_month_bounds (pos year) m in
      let before = day_count-lt_month (pos year) m (days_in_month (pos year) m) month day
      (is.0, (omega arith, omega (arith, is.1)), (omega arith, omega arith)) is.2.0 (omega arith) in
      let last = day_count-day (pos year) m (days_in_month (pos year) m) 1 (omega arith) (omega arith) in
      let past : month_days year m ≤ days = omega arith in
      let next = day_count-next_month (pos year) m first in
      ap (λ b. if b then (m, days) else month_of most year (m + 1) (days - month_days year m)) (le-ltb days (month_days year m) past)
      ∙ its_month k most (m + 1) (days - month_days year m) (omega arith) (omega arith) (omega arith) (omega arith)

  its_text : (n : ℕ) → 1970 ≤ year → n + 4_371_953 ≡ count
      → date_text n ≡ two_digits (year / 100) ++ two_digits (year % 100) ++ 45 ∷ two_digits month ++ 45 ∷ two_digits day
  its_text n late at =
      let in_year = its_year (year - 1970) n 1970 n (omega arith) (omega (arith, day_count-epoch, at)) (omega arith) in
      let days : ℕ = count - day_count (pos year) 1 1 in
      let in_month = its_month (month - 1) 12 1 days (omega (arith, is.1)) (omega arith) (omega (arith, year_begins)) (omega (arith, is.1)) in
      let back : day - 1 + 1 ≡ day = omega (arith, is.2) in
      let text : (ℕ × ℕ → ℕ × ℕ → List ℕ) =
      λ y m. two_digits (y.0 / 100) ++ two_digits (y.0 % 100) ++ 45 ∷ two_digits m.0 ++ 45 ∷ two_digits (m.1 + 1) in
      (λ i. text (in_year i) (month_of 12 (in_year i).0 1 (in_year i).1)) ∙ (λ i. text (year, days) (in_month i))
      ∙ ap (λ d. two_digits (year / 100) ++ two_digits (year % 100) ++ 45 ∷ two_digits month ++ 45 ∷ two_digits d) back

-- the text of jiff's date with this number
pub date_is : (date : Day) (n : ℕ) → epoch_day date ≡ pos n → jiff.date_text date ≡ date_text n
date_is date n e = by date.year refl
  where
    at : n + 4_371_953 ≡ day_count date.year date.month date.day
    at = omega (arith, signed_arith, days_from_civil-day_count date.year date.month date.day, e)

    from_1970 : pos 1970 ≤ℤ date.year
    from_1970 = by_lt_z date.year (pos 1970)
        (λ before. absurd (omega (arith, at, day_count-epoch, day_count-lt_year date.year date.month date.day (pos 1970) 1 1 (date.year_in, date.month_in, date.day_in) (omega arith) before)))
        (λ h. h)

    by : (y : ℤ) → date.year ≡ y → jiff.date_text date ≡ date_text n
    by (negsuc y) is = absurd (omega (arith, signed_arith, from_1970, is))
    by (pos y) is =
        ap (λ z. jiff.year_text z ++ 45 ∷ [] ++ jiff.pad2 date.month ++ 45 ∷ [] ++ jiff.pad2 date.day) is
        ∙ sym (its_text y date.month date.day (subst (λ z. IsCivilDate z date.month date.day) is (date.year_in, date.month_in, date.day_in)) n
        (omega (arith, signed_arith, from_1970, is)) (at ∙ ap (λ z. day_count z date.month date.day) is))
