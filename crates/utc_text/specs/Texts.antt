use Rattle.std.specs.Prelude.{ℕ, zero, suc, ◌+◌, ◌-◌, ◌/◌, ◌%◌, ◌==◌, ◌&&◌, ◌||◌, not, nat_lt, Bool}
use Rattle.std.specs.Prelude.{List, [], ◌∷◌, ◌++◌, Option, Some, None, option_map, if◌then◌else◌}

-- The texts of UTC days, hours and minutes, each by its number. The first of 1970 has the number 0.

-- every fourth year, but of those that begin a century only every fourth
abbrev pub is_leap : ℕ → Bool
is_leap year = year % 4 == 0 && (not (year % 100 == 0) || year % 400 == 0)

abbrev pub year_days : ℕ → ℕ
year_days year = if is_leap year then 366 else 365

-- the days of a month: 30 in April, June, September and November
abbrev pub month_days : ℕ → ℕ → ℕ
month_days year month =
    if month == 2 then (if is_leap year then 29 else 28)
    else (if (month == 4) || (month == 6) || (month == 9) || (month == 11) then 30 else 31)

-- the year, and the number of days before in that year, of the day that is this many days after the first of a year; at
-- most the given number of years later
abbrev pub year_of : ℕ → ℕ → ℕ → ℕ × ℕ
year_of zero year days = (year, days)
year_of (suc most) year days =
    if nat_lt days (year_days year) then (year, days)
    else year_of most (year + 1) (days - year_days year)

-- the same for the months of a year
abbrev pub month_of : ℕ → ℕ → ℕ → ℕ → ℕ × ℕ
month_of zero year month days = (month, days)
month_of (suc most) year month days =
    if nat_lt days (month_days year month) then (month, days)
    else month_of most year (month + 1) (days - month_days year month)

-- a number below 100 in two digits
abbrev pub two_digits : ℕ → List ℕ
two_digits n = (48 + n / 10) ∷ (48 + n % 10) ∷ []

-- the year, the month and the day of the month, as in 2023-11-14
abbrev pub date_text : ℕ → List ℕ
date_text day = let in_year = year_of day 1970 day in
    let in_month = month_of 12 in_year.0 1 in_year.1 in
    two_digits (in_year.0 / 100) ++ two_digits (in_year.0 % 100) ++ 45 ∷ two_digits in_month.0
    ++ 45 ∷ two_digits (in_month.1 + 1)

-- the text of a day up to the last of the year 9999
abbrev pub day_text : ℕ → Option (List ℕ)
day_text day = if nat_lt 2_932_896 day then None else Some (date_text day)

-- the text of an hour, as in 2023-11-14T22Z
abbrev pub hour_text : ℕ → Option (List ℕ)
hour_text hour =
    option_map (λ day. day ++ 84 ∷ two_digits (hour % 24) ++ 90 ∷ []) (day_text (hour / 24))

-- the text of a minute, as in 2023-11-14T22:13Z
abbrev pub minute_text : ℕ → Option (List ℕ)
minute_text minute =
    option_map (λ day. day ++ 84 ∷ two_digits (minute % 1440 / 60) ++ 58 ∷ two_digits (minute % 60)
    ++ 90 ∷ []) (day_text (minute / 1440))
