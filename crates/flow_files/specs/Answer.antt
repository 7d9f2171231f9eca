use Rattle.std.specs.Prelude.{◌≡◌, ◌≢◌, Bool, true, false, List, [], codes, map, Option}
use Rattle.std.specs.Prelude.{Some, None, Result, Ok, Err, option_map, unwrap_or}
use Rattle.std.specs.List.{list_any}
use Rattle.std.specs.Result.{result_map_both}
use Rattle.std.specs.Str.{bytes_eq}
use Rattle.std.specs.declared.io.ErrorKind.TheVariants as io
use Rattle.std.specs.declared.io.ErrorKind.{ErrorKind as IoErrorKind}
use Rattle.flow_filter.specs.Condition.{Condition, filter_among}
use Rattle.flow_filter.specs.Options.{name_of}
use Rattle.flow_filter.specs.declared.option.FilterOption.{FilterOption}
use Rattle.flow_filter.specs.declared.option.TheConstants.{ALL_OPTIONS}
use Rattle.flow_uniq.specs.Key.{all_fields, keys_among}
use Rattle.flow_uniq.specs.declared.field.KeyField.{KeyField}
use Rattle.clap.specs.Words.{App, Row, fault_of, first_of, subcommand_of}
use Rattle.clap.specs.declared.error.kind.ErrorKind.{ErrorKind}
use Rattle.clap.specs.declared.error.kind.ErrorKind.TheVariants as kind
use Rattle.flow_files.specs.Sources.{FromList, FromMap, LabelSource, Text}
pub use Rattle.flow_files.specs.declared.usage.UsageFault.{UsageFault}
pub use Rattle.flow_files.specs.declared.usage.UsageFault.TheVariants.{BadAddress, CompactAlone, Filter, Help, Key}
pub use Rattle.flow_files.specs.declared.usage.UsageFault.TheVariants.{KeysMissing, LabelNeedsMap, MapMissing, MapTwice}
pub use Rattle.flow_files.specs.declared.usage.UsageFault.TheVariants.{NoMemory, NotUtf8, Refused, Unit as BadUnit}

-- The answer to a command line, by the entries that clap finds in it.

-- the source of labels, by the map and the list that are named; naming both is a fault
abbrev pub source_answer : Option Text → Option Text → Result (Option LabelSource) UsageFault
source_answer (Some map) (Some list) = Err MapTwice
source_answer (Some map) None = Ok (Some (FromMap map))
source_answer None (Some list) = Ok (Some (FromList list))
source_answer None None = Ok None

abbrev pub sources_in_rows : List Row → Result (Option LabelSource) UsageFault
sources_in_rows entries =
    source_answer (first_of (codes "pmap") entries) (first_of (codes "list") entries)

-- the text of a required option or word: clap refuses a line without it
abbrev pub text_in_rows : Text → List Row → Text
text_in_rows id entries = unwrap_or (first_of id entries) []

-- whether a flag is given, to which clap then gives the value `true`
abbrev pub is_given : Text → List Row → Bool
is_given flag entries = bytes_eq (text_in_rows flag entries) (codes "true")

-- the condition of the texts of these filter options, and of those of `flowlabel`
abbrev pub condition_among : List FilterOption → List Row → Result Condition UsageFault
condition_among options entries =
    result_map_both (λ condition. condition) Filter
    (filter_among options (map (λ o. first_of (name_of o) entries) options))

abbrev pub condition_in_rows : List Row → Result Condition UsageFault
condition_in_rows entries = condition_among ALL_OPTIONS entries

-- the known fields that the text of `--fields` names, and those of `flowlabel`
abbrev pub fields_reading : List KeyField → Text → Result (List KeyField) UsageFault
fields_reading known names = result_map_both (λ fields. fields) Key (keys_among known names)

abbrev pub fields_in_rows : List Row → Result (List KeyField) UsageFault
fields_in_rows entries = fields_reading all_fields (text_in_rows (codes "fields") entries)

-- the error asks for help or the version, and the error is a mistake in the words
abbrev pub is_help : ErrorKind → Bool
is_help kind.DisplayHelp = true
is_help kind.DisplayVersion = true
is_help k = false

abbrev pub is_mistake : ErrorKind → Bool
is_mistake kind.DisplayHelp = false
is_mistake kind.DisplayVersion = false
is_mistake kind.OutOfMemory = false
is_mistake k = true

-- The answer to the words of a program's command line. `app` is how clap reads them, and `answer_of` the answer to a
-- subcommand and its entries: what they ask for, or a fault that the program itself finds.
module _ {Request : Type 0} (app : App) (answer_of : Text × List Row → Result Request UsageFault) where
  -- clap takes the words, and this is the answer to the subcommand and the entries that it finds in them
  abbrev pub AreAnswered : List Text → Result Request UsageFault → Type 0
  AreAnswered words answer =
      (fault_of app words ≡ []) × (option_map answer_of (subcommand_of app words) ≡ Some answer)

  -- what a fault says about the words: clap refuses them, they ask for help, or the program itself finds a fault
  abbrev pub AreFaulty : List Text → UsageFault → Type 0
  AreFaulty words (Refused text) = list_any is_mistake (fault_of app words) ≡ true
  AreFaulty words NotUtf8 = ⊥
  AreFaulty words (Help text) = list_any is_help (fault_of app words) ≡ true
  AreFaulty words NoMemory = Unit {0}
  AreFaulty words fault = AreAnswered words (Err fault)

  -- the result is what the words ask for; a value of the program has this meaning
  abbrev pub AreParsed : {Command : Type 0} → (Command → Request) → List Text
      → Result Command UsageFault → Type 0
  AreParsed meaning words (Ok command) = AreAnswered words (Ok (meaning command))
  AreParsed meaning words (Err fault) = AreFaulty words fault

-- the fault is neither a refusal of clap's nor help
abbrev pub IsOwnFault : UsageFault → Type 0
IsOwnFault (Refused text) = ⊥
IsOwnFault NotUtf8 = ⊥
IsOwnFault (Help text) = ⊥
IsOwnFault fault = Unit {0}

-- the fault of a command line whose words can't be obtained: a word isn't UTF-8, or an allocation failed
abbrev pub words_fault_of : IoErrorKind → UsageFault
words_fault_of io.InvalidData = NotUtf8
words_fault_of k = NoMemory

-- Below: only contracts of parts and proofs use these; no promise of the program rests on them.

-- the result is this answer, with the meaning of its value, or out of memory; it is no refusal of clap's and no help
abbrev pub IsUnlessMemory : {A B : Type 0} → (A → B) → Result B UsageFault → Result A UsageFault → Type 0
IsUnlessMemory meaning answer (Ok value) = answer ≡ Ok (meaning value)
IsUnlessMemory meaning answer (Err fault) = IsOwnFault fault × (fault ≢ NoMemory → answer ≡ Err fault)

-- the fault is that of an error of this kind
abbrev pub IsFaultOfKind : ErrorKind → UsageFault → Type 0
IsFaultOfKind k (Refused text) = is_mistake k ≡ true
IsFaultOfKind k (Help text) = is_help k ≡ true
IsFaultOfKind k NoMemory = Unit {0}
IsFaultOfKind k fault = ⊥
