use Rattle.std.specs.Prelude.{ℕ, Bool, List, ◌∷◌, Option, Some, None, option_map}
use Rattle.flow_filter.specs.Condition.{Condition}
use Rattle.flow_uniq.specs.declared.field.KeyField.{KeyField}
use Rattle.flow_uniq.specs.declared.field.KeyField.TheVariants.{Start}
use Rattle.flow_uniq.specs.declared.field.Precision.{Precision}
use Rattle.flow_files.specs.declared.by_file.ByFile.{ByFile}
use Rattle.flow_files.specs.Sources.{LabelSource, source_of, files_named}
use Rattle.flow_files.specs.Sources.{Text}
pub use Rattle.flow_many.specs.declared.command.Command.{Command}
pub use Rattle.flow_many.specs.declared.command.Command.TheVariants.{Messages, Sum}

-- What a command line may ask for, independent of how the program represents it.

-- `sum`: the groups of the rows of Files that meet a condition, by the start of a unit of time, if there is one, and by
-- fields. The unit is a number of days, hours or minutes. Skipped sets are allowed or not, and the table is padded to
-- columns or not. `messages`: a line for each message of Files.
pub data Request : Type 0 where
  sum : (unit : Option (Precision × ℕ)) (fields : List KeyField) (source : Option LabelSource)
      (condition : Condition) (allowed : Bool) (columns : Bool) (files : List Text) → Request
  messages : (files : List Text) → Request

-- the unit of time that keys by these fields begin with, if they do, and the other fields
abbrev pub unit_in : List KeyField → Option (Precision × ℕ)
unit_in (Start unit ∷ fields) = Some (unit.precision, unit.count)
unit_in fields = None

abbrev pub fields_in : List KeyField → List KeyField
fields_in (Start unit ∷ fields) = fields
fields_in fields = fields

-- the request of a command
abbrev pub request_of : Command → Request
request_of (Sum keys labels filter allowed columns files) =
    sum (unit_in keys) (fields_in keys) (option_map source_of labels) filter allowed columns files
request_of (Messages files) = messages files

-- the names of the map or the list of a request, and of its Files
abbrev pub labels_named : Request → ByFile (Option Text)
labels_named (sum unit fields source condition allowed columns files) = files_named source None
labels_named (messages files) = files_named None None

abbrev pub files_of : Request → List Text
files_of (sum unit fields source condition allowed columns files) = files
files_of (messages files) = files
