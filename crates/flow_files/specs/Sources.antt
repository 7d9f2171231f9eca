use Rattle.std.specs.Prelude.{ℕ, List, Option, Some, None, option_map}
use Rattle.std.specs.Borrow.{Bor}
use Rattle.flow_files.specs.ByFile.{ByFile, each}
use Rattle.flow_files.specs.declared.label_file.LabelFile.{LabelFile}
use Rattle.flow_files.specs.declared.label_file.LabelFile.TheVariants.{Map, List as Prefixes}
pub use Rattle.pmap_print.specs.Table.{Text}

-- The files that a command line names.

-- the source of labels: a map, or a prefix list, by its name or its text
pub data LabelSource : Type 0 where
  FromMap : (file : Text) → LabelSource
  FromList : (file : Text) → LabelSource

-- a file of labels as a source of labels
abbrev pub source_of : LabelFile → LabelSource
source_of (Map file) = FromMap file.now
source_of (Prefixes file) = FromList file.now

-- the names of the files of labels and of flows
abbrev pub files_named : Option LabelSource → Option Text → ByFile (Option Text)
files_named None flows = record { map = None; list = None; certificate = None; flows = flows }
files_named (Some (FromMap map)) flows =
    record { map = Some map; list = None; certificate = None; flows = flows }
files_named (Some (FromList list)) flows =
    record { map = None; list = Some list; certificate = None; flows = flows }

-- Below: only contracts of parts and proofs use these; no promise of the program rests on them.

abbrev pub names_of : ByFile (Option (Bor (List ℕ))) → ByFile (Option Text)
names_of = each (option_map (λ s. s.now))
