use Rattle.std.specs.Prelude.{ℕ, Bool, true, false, List, codes}
use Rattle.ipfix_read.specs.declared.fault.ReadFaultKind.{ReadFaultKind}
use Rattle.ipfix_read.specs.declared.fault.ReadFaultKind.TheVariants as flows
use Rattle.ipfix_templates.specs.declared.fault.TemplateFaultKind.{TemplateFaultKind}
use Rattle.ipfix_templates.specs.declared.fault.TemplateFaultKind.TheVariants as template
use Rattle.pmap_text.specs.declared.fault.MapFaultKind.{MapFaultKind}
use Rattle.pmap_text.specs.declared.fault.MapFaultKind.TheVariants as kind
use Rattle.pmap_cert.specs.declared.fault.CertFaultKind.{CertFaultKind}
use Rattle.pmap_cert.specs.declared.fault.CertFaultKind.TheVariants as certificate
use Rattle.cert_check.specs.declared.fault.CheckFaultKind.{CheckFaultKind}
use Rattle.cert_check.specs.declared.fault.CheckFaultKind.TheVariants as check
use Rattle.flow_files.specs.ByFile.{Role}
use Rattle.flow_files.specs.ByFile as role
use Rattle.flow_files.specs.declared.bytes_fault.SumFaultKind.{SumFaultKind}
use Rattle.flow_files.specs.declared.bytes_fault.SumFaultKind.TheVariants as sum
use Rattle.flow_files.specs.declared.bytes_fault.BytesFault.{BytesFault}
use Rattle.flow_files.specs.declared.bytes_fault.BytesFault.TheVariants.{Map as InMap, List as InList, Flows as InFlows}
use Rattle.flow_files.specs.declared.bytes_fault.BytesFault.TheVariants.{Certificate as InCertificate, Check as InCheck}
use Rattle.flow_files.specs.declared.bytes_fault.BytesFault.TheVariants.{Sum as InSum}

-- The code, the name and the position of a fault of a file's bytes, or of a certificate for a map and a list.

abbrev pub map_fault_name : MapFaultKind → List ℕ
map_fault_name kind.BadStatement = codes "M1 BadStatement"
map_fault_name kind.BadAddress = codes "M2 BadAddress"
map_fault_name kind.BadLength = codes "M3 BadLength"
map_fault_name kind.LowAboveHigh = codes "M4 LowAboveHigh"
map_fault_name kind.WrongVersion = codes "M5 WrongVersion"
map_fault_name kind.MissingLabel = codes "M6 MissingLabel"
map_fault_name kind.BadLabel = codes "M7 BadLabel"
map_fault_name kind.LabelConflict = codes "M8 LabelConflict"
map_fault_name kind.BadMode = codes "M9 BadMode"
map_fault_name kind.ModeLate = codes "M10 ModeLate"
map_fault_name kind.ModeRepeated = codes "M11 ModeRepeated"
map_fault_name kind.TooMany = codes "M12 TooMany"
map_fault_name kind.NotAList = codes "M13 NotAList"
map_fault_name kind.DuplicateBlock = codes "M14 DuplicateBlock"
map_fault_name kind.NoMemory = codes "M15 NoMemory"

abbrev pub template_fault_name : TemplateFaultKind → List ℕ
template_fault_name template.Truncated = codes "F6 BadTemplate X1"
template_fault_name template.BadTemplateId = codes "F6 BadTemplate X2"
template_fault_name template.BadScope = codes "F6 BadTemplate X3"

abbrev pub flows_fault_name : ReadFaultKind → List ℕ
flows_fault_name flows.TruncatedHeader = codes "F1 TruncatedHeader"
flows_fault_name flows.BadVersion = codes "F2 BadVersion"
flows_fault_name flows.BadMessageLength = codes "F3 BadMessageLength"
flows_fault_name flows.TruncatedMessage = codes "F4 TruncatedMessage"
flows_fault_name flows.BadSetLength = codes "F5 BadSetLength"
flows_fault_name (flows.BadTemplate kind) = template_fault_name kind
flows_fault_name flows.BadRecord = codes "F7 BadRecord"
flows_fault_name flows.ReadFault = codes "F8 ReadFault"
flows_fault_name flows.TooManyMessages = codes "F9 TooManyMessages"
flows_fault_name flows.NoMemory = codes "F10 NoMemory"
flows_fault_name flows.Failed = codes "F11 Failed"

abbrev pub certificate_fault_name : CertFaultKind → List ℕ
certificate_fault_name certificate.BadHeader = codes "C1 BadHeader"
certificate_fault_name certificate.BadLabelTable = codes "C2 BadLabelTable"
certificate_fault_name certificate.BadNode = codes "C3 BadNode"
certificate_fault_name certificate.TooDeep = codes "C4 TooDeep"
certificate_fault_name certificate.NodesMissing = codes "C5 NodesMissing"
certificate_fault_name certificate.NodesLeft = codes "C6 NodesLeft"
certificate_fault_name certificate.NoMemory = codes "C7 NoMemory"

abbrev pub check_fault_name : CheckFaultKind → List ℕ
check_fault_name check.VersionDiffers = codes "K1 VersionDiffers"
check_fault_name check.LeafNotUniform = codes "K2 LeafNotUniform"
check_fault_name check.ListDiffers = codes "K3 ListDiffers"
check_fault_name check.SetTooSmall = codes "K4 SetTooSmall"
check_fault_name check.CostTooHigh = codes "K5 CostTooHigh"
check_fault_name check.BoundNotMet = codes "K6 BoundNotMet"
check_fault_name check.NoMemory = codes "K7 NoMemory"

abbrev pub sum_fault_name : SumFaultKind → List ℕ
sum_fault_name sum.SkippedSet = codes "S1 SkippedSet"
sum_fault_name sum.TooManyRows = codes "S2 TooManyRows"
sum_fault_name sum.StartTooLate = codes "S3 StartTooLate"

-- the code and the name of a fault, and its position
abbrev pub name_and_position : BytesFault → List ℕ × ℕ
name_and_position (InMap fault) = (map_fault_name fault.kind, fault.line)
name_and_position (InList fault) = (map_fault_name fault.kind, fault.line)
name_and_position (InFlows fault) = (flows_fault_name fault.kind, fault.offset)
name_and_position (InCertificate fault) = (certificate_fault_name fault.kind, fault.line)
name_and_position (InCheck fault) = (check_fault_name fault.kind, fault.node)
name_and_position (InSum fault) = (sum_fault_name fault.kind, fault.offset)

-- the file that the fault names; it is the certificate if it doesn't fit the map and the list
abbrev pub role_of : BytesFault → Role
role_of (InMap fault) = role.Map
role_of (InList fault) = role.List
role_of (InFlows fault) = role.Flows
role_of (InCertificate fault) = role.Certificate
role_of (InCheck fault) = role.Certificate
role_of (InSum fault) = role.Flows

-- Below: only contracts of parts and proofs use these; no promise of the program rests on them.

-- whether the fault is out of memory, which says nothing about the bytes
abbrev pub is_out_of_memory : BytesFault → Bool
is_out_of_memory (InMap fault) = elim fault.kind [ kind.NoMemory ↦ true | _ ↦ false ]
is_out_of_memory (InList fault) = elim fault.kind [ kind.NoMemory ↦ true | _ ↦ false ]
is_out_of_memory (InFlows fault) = elim fault.kind [ flows.NoMemory ↦ true | _ ↦ false ]
is_out_of_memory (InCertificate fault) = elim fault.kind [ certificate.NoMemory ↦ true | _ ↦ false ]
is_out_of_memory (InCheck fault) = elim fault.kind [ check.NoMemory ↦ true | _ ↦ false ]
is_out_of_memory (InSum fault) = false
