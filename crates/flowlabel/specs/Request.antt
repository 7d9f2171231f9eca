use Rattle.std.specs.Prelude.{◌^◌, ◌<◌, Bool, List, Option, Some, None, option_map}
use Rattle.prefix_keys.specs.Text.{AddressOf}
use Rattle.prefix_keys.specs.Block.{width_of}
use Rattle.flow_filter.specs.Condition.{Condition}
pub use Rattle.flowlabel.specs.declared.command.Command.{Command}
pub use Rattle.flowlabel.specs.declared.command.Command.TheVariants.{Cat, Check, Info, Label}
pub use Rattle.flowlabel.specs.declared.command.Command.TheVariants.{Recert, Rows, Shrink, Uniq}
use Rattle.flow_uniq.specs.declared.field.KeyField.{KeyField}
use Rattle.flow_files.specs.declared.by_file.ByFile.{ByFile}
pub use Rattle.flowlabel.specs.declared.command.Shrunk.{Shrunk}
use Rattle.flow_files.specs.Sources.{FromMap, LabelSource, Text, files_named, source_of}

-- What a command line may ask for, independent of how the program represents it.

-- `label`: the label that a file's labels give an address. `info`: the counts of a File. `rows`: the rows of a File
-- that meet a condition, with the labels of their addresses if there is a source of labels, padded to columns or not.
-- `uniq`: the groups of such rows by fields, with their totals, sorted or in the order of their first rows. `cat`: the
-- runs of a file's labels. `shrink`: a shortest list of a map, or its certificate, compacted or not. `check`: whether
-- a certificate shows that a list is a shortest one for a map. `recert`: a certificate, compacted.
pub data Request : Type 0 where
  label : (source : LabelSource) (address : AddressOf) → Request
  info : (flows : Text) → Request
  rows : (source : Option LabelSource) (condition : Condition) (columns : Bool) (flows : Text)
      → Request
  uniq : (fields : List KeyField) (source : Option LabelSource) (condition : Condition)
      (sorted : Bool) (columns : Bool) (flows : Text) → Request
  cat : (source : LabelSource) → Request
  shrink : (map : Text) (printed : Shrunk) → Request
  check : (map list certificate : Text) → Request
  recert : (certificate : Text) → Request

-- the number of an address in a request is one of its version
abbrev pub IsProper : Request → Type 0
IsProper (label source address) = address.1 < 2 ^ width_of address.0
IsProper request = Unit {0}

-- the request of a command
abbrev pub request_of : Command → Request
request_of (Label labels addr) = label (source_of labels) (addr.version, addr.value)
request_of (Info flows) = info flows.now
request_of (Rows labels filter columns flows) =
    rows (option_map source_of labels) filter columns flows.now
request_of (Uniq keys labels filter sorted columns flows) =
    uniq keys (option_map source_of labels) filter sorted columns flows.now
request_of (Cat labels) = cat (source_of labels)
request_of (Shrink map printed) = shrink map.now printed
request_of (Check map list certificate) = check map.now list.now certificate.now
request_of (Recert certificate) = recert certificate.now

-- the names of the files of a request
abbrev pub files_of : Request → ByFile (Option Text)
files_of (label source address) = files_named (Some source) None
files_of (info flows) = files_named None (Some flows)
files_of (rows source condition columns flows) = files_named source (Some flows)
files_of (uniq fields source condition sorted columns flows) = files_named source (Some flows)
files_of (cat source) = files_named (Some source) None
files_of (shrink map printed) = files_named (Some (FromMap map)) None
files_of (check map list certificate) =
    record { map = Some map; list = Some list; certificate = Some certificate; flows = None }
files_of (recert certificate) =
    record { map = None; list = None; certificate = Some certificate; flows = None }
