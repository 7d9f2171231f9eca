use Rattle.std.specs.Prelude.{ℕ, List, [], ◌++◌, Result, Ok, Err, codes, decimal}
use Rattle.std.specs.String.{string_bytes}
use Rattle.flow_filter.specs.declared.fault.FilterFaultKind.{FilterFaultKind}
use Rattle.flow_filter.specs.declared.fault.FilterFaultKind.TheVariants as filters
use Rattle.flow_filter.specs.Options.{name_of}
use Rattle.flow_uniq.specs.declared.fault.KeyFault.{KeyFault}
use Rattle.flow_uniq.specs.declared.fault.KeyFault.TheVariants as keys
use Rattle.flow_files.specs.BytesFault.{name_and_position}
use Rattle.flow_files.specs.declared.fault.RunFault.{RunFault}
use Rattle.flow_files.specs.declared.fault.RunFault.TheVariants.{CannotOpen, CannotRead}
use Rattle.flow_files.specs.declared.fault.RunFault.TheVariants.{CannotWrite, File, NoMemory, Usage}
use Rattle.flow_files.specs.declared.usage.UsageFault.{UsageFault}
use Rattle.flow_files.specs.declared.usage.UsageFault.TheVariants as usage

-- The line that a program with this name prints for a fault, and its exit status.

abbrev pub out_of_memory_text : List ℕ → List ℕ
out_of_memory_text program = program ++ codes ": out of memory\n"

-- the line of a fault of a file or of the output, and of a fault of a file's bytes
abbrev pub file_text : List ℕ → List ℕ → List ℕ → List ℕ
file_text program file name = program ++ codes ": " ++ file ++ codes ": " ++ name ++ codes "\n"

abbrev pub position_text : List ℕ → List ℕ → List ℕ → ℕ → List ℕ
position_text program file name place =
    program ++ codes ": " ++ file ++ codes ": " ++ name
    ++ codes " at " ++ decimal place ++ codes "\n"

abbrev pub filter_fault_text : FilterFaultKind → List ℕ
filter_fault_text filters.BadNumberList = codes "L1 BadNumberList"
filter_fault_text filters.BadRange = codes "L2 BadRange"
filter_fault_text filters.BadBlock = codes "L3 BadBlock"
filter_fault_text filters.NoMemory = codes "L4 NoMemory"

abbrev pub key_fault_text : KeyFault → List ℕ
key_fault_text keys.BadField = codes "U1 BadField"
key_fault_text keys.FieldRepeated = codes "U2 FieldRepeated"
key_fault_text keys.NoMemory = codes "U3 NoMemory"

-- the line of a usage fault, and of a usage fault of an option
abbrev pub named_text : List ℕ → List ℕ → List ℕ
named_text program name = program ++ codes ": usage: " ++ name ++ codes "\n"

abbrev pub option_text : List ℕ → List ℕ → List ℕ → List ℕ
option_text program option name =
    program ++ codes ": usage: --" ++ option ++ codes " " ++ name ++ codes "\n"

abbrev pub usage_fault_text : List ℕ → UsageFault → List ℕ
usage_fault_text program (usage.Refused text) = string_bytes text
usage_fault_text program usage.NotUtf8 = named_text program (codes "P1 NotUtf8")
usage_fault_text program (usage.Help text) = []
usage_fault_text program usage.MapTwice = named_text program (codes "P3 MapTwice")
usage_fault_text program usage.MapMissing = named_text program (codes "P2 MapMissing")
usage_fault_text program usage.BadAddress = named_text program (codes "P4 BadAddress")
usage_fault_text program (usage.Filter fault) =
    option_text program (name_of fault.option) (filter_fault_text fault.kind)
usage_fault_text program (usage.Key fault) =
    option_text program (codes "fields") (key_fault_text fault)
usage_fault_text program usage.LabelNeedsMap = named_text program (codes "P5 LabelNeedsMap")
usage_fault_text program usage.CompactAlone = named_text program (codes "P6 CompactAlone")
usage_fault_text program usage.Unit = option_text program (codes "by") (codes "U4 BadUnit")
usage_fault_text program usage.KeysMissing = named_text program (codes "P7 KeysMissing")
usage_fault_text program usage.NoMemory = out_of_memory_text program

abbrev pub fault_text : List ℕ → RunFault → List ℕ
fault_text program (Usage fault) = usage_fault_text program fault
fault_text program (CannotOpen file) = file_text program file.now (codes "cannot open")
fault_text program (CannotRead file) = file_text program file.now (codes "cannot read")
fault_text program CannotWrite = file_text program (codes "output") (codes "cannot write")
fault_text program NoMemory = out_of_memory_text program
fault_text program (File file fault) =
    let found = name_and_position fault in position_text program file.now found.0 found.1

abbrev pub status_of : RunFault → ℕ
status_of (Usage (usage.Help text)) = 0
status_of (Usage usage.NoMemory) = 3
status_of (Usage fault) = 2
status_of NoMemory = 3
status_of (File file fault) = 1
status_of fault = 4

abbrev pub exit_status_of : {A : Type 0} → Result A RunFault → ℕ
exit_status_of (Ok done) = 0
exit_status_of (Err fault) = status_of fault
