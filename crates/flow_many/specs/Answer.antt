use Rattle.std.specs.Prelude.{ℕ, ◌==◌, ◌&&◌, ◌||◌, List, [], Option, Some, None, Result, Ok, Err}
use Rattle.std.specs.Prelude.{codes, if◌then◌else◌, is_none, length, ok_or, option_and_then, unwrap_or}
use Rattle.std.specs.List.{after_first, before_first, list_any}
use Rattle.std.specs.Str.{bytes_eq}
use Rattle.prefix_keys.specs.Text.{decimal_number}
use Rattle.pmap_model.specs.Steps.{◌>>=◌}
use Rattle.flow_filter.specs.Condition.{condition_needs_labels}
use Rattle.flow_filter.specs.declared.option.TheConstants.{MANY_OPTIONS}
use Rattle.flow_uniq.specs.declared.field.KeyField.{KeyField}
use Rattle.flow_uniq.specs.declared.field.Precision.{Precision}
use Rattle.flow_uniq.specs.declared.field.Precision.TheVariants.{Day, Hour, Minute}
use Rattle.flow_uniq.specs.Key.{fields_need_labels, many_fields}
use Rattle.flow_uniq.specs.Times.{minutes_unit}
use Rattle.clap.specs.Words.{Row, all_of, first_of}
use Rattle.flow_files.specs.Answer.{AreAnswered, AreFaulty, AreParsed, condition_among}
use Rattle.flow_files.specs.Answer.{fields_reading, is_given, sources_in_rows}
use Rattle.flow_files.specs.declared.usage.UsageFault.{UsageFault}
use Rattle.flow_files.specs.declared.usage.UsageFault.TheVariants.{Unit as BadUnit, KeysMissing, LabelNeedsMap}
use Rattle.flow_files.specs.Sources.{Text}
use Rattle.flow_many.specs.Definition.{many_app}
use Rattle.flow_many.specs.Request.{Command, Request, messages, request_of, sum}

-- The answer to a command line.

abbrev pub Answer : Type 0
Answer = Result Request UsageFault

-- N minutes of which a whole number makes a day, for a text `Nm`, where N has up to four digits
abbrev pub minutes_named : Text → Option (Precision × ℕ)
minutes_named text =
    if list_any (λ b. b == 109) text && length (after_first (λ b. b == 109) text) == 0
    then option_and_then minutes_unit (decimal_number 4 1440 (before_first (λ b. b == 109) text))
    else None

-- the unit of time that a text names
abbrev pub unit_named : Text → Option (Precision × ℕ)
unit_named text =
    if bytes_eq text (codes "day") then Some (Day, 1)
    else if bytes_eq text (codes "hour") then Some (Hour, 1)
    else if bytes_eq text (codes "minute") then Some (Minute, 1) else minutes_named text

-- the unit of time and the fields of the keys, by the texts of `--by` and `--fields`, of which one must be given
abbrev pub keys_answer : Option Text → Option Text
    → Result (Option (Precision × ℕ) × List KeyField) UsageFault
keys_answer None None = Err KeysMissing
keys_answer None (Some names) = fields_reading many_fields names >>= (λ fields. Ok (None, fields))
keys_answer (Some name) None = ok_or (unit_named name) BadUnit >>= (λ unit. Ok (Some unit, []))
keys_answer (Some name) (Some names) = ok_or (unit_named name) BadUnit >>= (λ unit.
    fields_reading many_fields names >>= (λ fields. Ok (Some unit, fields)))

abbrev pub keys_in_rows : List Row → Result (Option (Precision × ℕ) × List KeyField) UsageFault
keys_in_rows entries =
    keys_answer (first_of (codes "by") entries) (first_of (codes "fields") entries)

-- the names of the Files
abbrev pub files_in_rows : List Row → List Text
files_in_rows entries = unwrap_or (all_of (codes "files") entries) []

abbrev pub answer_of_sum : List Row → Answer
answer_of_sum entries =
    sources_in_rows entries >>= (λ source. condition_among MANY_OPTIONS entries >>= (λ condition.
    keys_in_rows entries >>= (λ keys.
    if (condition_needs_labels condition || fields_need_labels keys.1) && is_none source
    then Err LabelNeedsMap else Ok (sum keys.0 keys.1 source condition
    (is_given (codes "allow-skipped") entries)
    (is_given (codes "columns") entries) (files_in_rows entries)))))

-- the answer for a subcommand, by its name and its entries
abbrev pub answer_of : Text × List Row → Answer
answer_of found =
    if bytes_eq found.0 (codes "messages") then Ok (messages (files_in_rows found.1))
    else answer_of_sum found.1

-- clap takes the words, and this is the answer to them
abbrev pub Answers : List Text → Answer → Type 0
Answers = AreAnswered many_app answer_of

-- what a fault says about the words
abbrev pub IsFaultAt : List Text → UsageFault → Type 0
IsFaultAt = AreFaulty many_app answer_of

-- the result is what the words ask for
abbrev pub IsAnswer : List Text → Result Command UsageFault → Type 0
IsAnswer = AreParsed many_app answer_of request_of
