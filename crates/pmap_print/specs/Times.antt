use Rattle.std.specs.Prelude.{ℕ, Option, Some, None, codes, decimal, unwrap_or}
use Rattle.flow_uniq.specs.declared.field.Precision.{Precision}
use Rattle.flow_uniq.specs.declared.field.Precision.TheVariants.{Day, Hour, Minute}
use Rattle.utc_text.specs.Texts.{day_text, hour_text, minute_text}
use Rattle.pmap_print.specs.Table.{Text}

-- The printed text of times.

-- the text of the UTC day, hour or minute with this number, up to the year 9999
abbrev pub calendar_text : Precision → ℕ → Option Text
calendar_text Day = day_text
calendar_text Hour = hour_text
calendar_text Minute = minute_text

-- the text of a time: that of its day, hour or minute, its number after the year 9999, or 0 for no time
abbrev pub time_text : Precision → Option ℕ → Text
time_text precision None = codes "0"
time_text precision (Some number) = unwrap_or (calendar_text precision number) (decimal number)
