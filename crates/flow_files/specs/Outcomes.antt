use Rattle.std.specs.Prelude.{◌≡◌, ℕ, List, Option, Some, None, Result, Ok, Err}
use Rattle.std.specs.Result.{result_map_both}
use Rattle.pmap_model.specs.Steps.{◌>>=◌}
use Rattle.pmap_text.specs.Reading.{list_reading, map_reading}
use Rattle.ipfix_read.specs.Messages.{file_reading}
use Rattle.ipfix_read.specs.Message.{MessageView}
use Rattle.label_lookup.specs.Labelling.{Labelling, labelling_of_list, labelling_of_map}
pub use Rattle.flow_files.specs.declared.bytes_fault.BytesFault.{BytesFault}
use Rattle.flow_files.specs.declared.bytes_fault.BytesFault.TheVariants.{Map as InMap, List as InList, Flows as InFlows}
use Rattle.flow_files.specs.ByFile.{ByFile}
use Rattle.flow_files.specs.Sources.{Text}
use Rattle.flow_files.specs.declared.label_file.LabelFile.{LabelFile}
use Rattle.flow_files.specs.declared.label_file.LabelFile.TheVariants.{Map, List as Prefixes}

-- What the texts of a command's files are read as, and the outcome of the command: the text that it prints, or the
-- first fault of these texts.

-- a reading, with its faults as those of a file
abbrev pub with_bytes_fault : {F A : Type 0} → (F → BytesFault) → Result A F → Result A BytesFault
with_bytes_fault = result_map_both (λ value. value)

-- the labelling of the map or the list that labels come from, and the same if there is one
abbrev pub labels_reading : LabelFile → ByFile Text → Result Labelling BytesFault
labels_reading (Map file) texts = result_map_both labelling_of_map InMap (map_reading texts.map)
labels_reading (Prefixes file) texts =
    result_map_both labelling_of_list InList (list_reading texts.list)

abbrev pub source_reading : Option LabelFile → ByFile Text → Result (Option Labelling) BytesFault
source_reading None texts = Ok None
source_reading (Some file) texts = labels_reading file texts >>= (λ l. Ok (Some l))

-- what a report is on: the labelling, if there is one, and the messages of the File
abbrev pub report_reading : Option LabelFile → ByFile Text
    → Result (Option Labelling × List MessageView) BytesFault
report_reading source texts = source_reading source texts >>= (λ labels.
    result_map_both (λ messages. (labels, messages)) InFlows (file_reading texts.flows))

-- a text, or the first fault
abbrev pub Outcome : Type 0
Outcome = Result (List ℕ) BytesFault

-- the outcome is this text
abbrev pub Prints : List ℕ → Outcome → Type 0
Prints text outcome = outcome ≡ Ok text

-- the outcome by what texts are read as: their first fault, or the outcome for the value
abbrev pub Then : {A : Type 0} → (A → Outcome → Type 0) → Result A BytesFault → Outcome → Type 0
Then rest (Ok value) outcome = rest value outcome
Then rest (Err fault) outcome = outcome ≡ Err fault
