use Rattle.std.specs.Prelude.{ℕ, ◌==◌, ◌-◌, ◌/◌, ◌%◌, List, Option, Some, None, codes, if◌then◌else◌}
use Rattle.flow_uniq.specs.declared.field.Precision.{Precision}
use Rattle.flow_uniq.specs.declared.field.Precision.TheVariants.{Day, Hour, Minute}
use Rattle.flow_uniq.specs.declared.field.TimeUnit.{TimeUnit}

-- Units of time, and their starts.

-- the names of a day, an hour and a minute, and the milliseconds of each
abbrev pub precision_name : Precision → List ℕ
precision_name Day = codes "day"
precision_name Hour = codes "hour"
precision_name Minute = codes "minute"

abbrev pub milliseconds_of : Precision → ℕ
milliseconds_of Day = 86_400_000
milliseconds_of Hour = 3_600_000
milliseconds_of Minute = 60_000

-- The number of the UTC day, hour or minute at which the unit begins that a time is in. The first of 1970 has the
-- number 0. The time is in milliseconds since then; 0 is no time.
abbrev pub unit_start : TimeUnit → ℕ → Option ℕ
unit_start unit time =
    if time == 0 then None
    else let number = time / milliseconds_of unit.precision in Some (number - number % unit.count)

-- the number of how exact a time is
abbrev pub precision_number : Precision → ℕ
precision_number Day = 0
precision_number Hour = 1
precision_number Minute = 2

-- how exact the unit of this number of minutes is, and its number, if a whole number of units makes a day
abbrev pub minutes_unit : ℕ → Option (Precision × ℕ)
minutes_unit count =
    if count == 0 then None else if 1440 % count == 0 then Some (Minute, count) else None
