use Rattle.std.specs.Prelude.{◌≡◌, ◌+◌, ◌*◌, ◌==◌, ℕ, Bool, List, [], ◌∷◌, ◌++◌, Option, None}
use Rattle.std.specs.Prelude.{Some, Result, Ok, Err, codes, false, if◌then◌else◌, unwrap_or}
use Rattle.std.specs.Borrow.{Bor}
use Rattle.std.specs.Fmt.{digits}
use Rattle.std.specs.List.{list_any, slice_split}
use Rattle.std.specs.Str.{bytes_eq}
use Rattle.std.specs.String.{string_bytes}
use lib.Dec.{lit<}
use Rattle.prefix_keys.specs.Text.{hex_digit_value}
use Rattle.prefix_keys.specs.declared.addr.Addr.{Addr}
use Rattle.prefix_keys.specs.declared.version.Version.TheVariants.{V4, V6}
use Rattle.ipfix_templates.specs.Elements.{fits}
use Rattle.ipfix_templates.specs.Reading.{definition_at, field_at, fields_at, template_record_at}
use Rattle.ipfix_read.specs.Value.{value_at, values_at}
use Rattle.pmap_cert.specs.CertificateModel.{CertificateModel}
use Rattle.pmap_cert.specs.Compacting.{compacted_in}
use Rattle.pmap_cert.specs.FormatReading.{format_reading, nodes_at}
use Rattle.pmap_cert.specs.declared.fault.CertFault.{CertFault}
use Rattle.flow_filter.specs.declared.option.FilterOption.{FilterOption}
use Rattle.flow_uniq.specs.declared.field.KeyField.{KeyField}
use Rattle.clap.specs.Words.{fault_of}
use Rattle.definition_examples.specs.Devices.{flushes_by}
use Rattle.flow_io.specs.Devices.{InputView, OutputView}
use Rattle.flow_io.specs.declared.devices.LastCall.{LastCall}
use Rattle.flowlabel.specs.Answer.{Answers}
use Rattle.flow_files.specs.Answer.{is_help, is_mistake}
use Rattle.flow_files.specs.BytesFault.{role_of}
use Rattle.flow_files.specs.ByFile.{at}
use Rattle.flowlabel.specs.Definition.{flowlabel_app, program_name}
use Rattle.flow_files.specs.Faults.{exit_status_of, fault_text}
use Rattle.flowlabel.specs.Output.{IsOutput}
use Rattle.flow_files.specs.Outcomes.{Outcome}
use Rattle.flowlabel.specs.Request.{Request, files_of, request_of}
use Rattle.flow_files.specs.Sources.{Text}
use Rattle.flow_files.specs.declared.by_file.ByFile.{ByFile}
use Rattle.flowlabel.specs.declared.command.Command.{Command}
use Rattle.flowlabel.specs.declared.command.Command.TheVariants.{Check, Info, Label, Recert, Rows, Uniq}
use Rattle.flow_files.specs.declared.label_file.LabelFile.{LabelFile}
use Rattle.flow_files.specs.declared.label_file.LabelFile.TheVariants.{Map, List as Prefixes}
use Rattle.flow_files.specs.declared.fault.RunFault.{RunFault}
use Rattle.flow_files.specs.declared.fault.RunFault.TheVariants.{File, Usage}
use Rattle.flow_files.specs.declared.inputs.Source.{Source}
use Rattle.flow_files.specs.declared.usage.UsageFault.{UsageFault}
use Rattle.flow_files.specs.declared.usage.UsageFault.TheVariants.{Help}

-- Texts of the worked examples.

-- a map of two halves, which is also a list, and its certificate
abbrev pub halves_map : List ℕ
halves_map = codes "0.0.0.0/1 A\n128.0.0.0/1 B\n"

abbrev pub halves_certificate : List ℕ
halves_certificate = codes "flowlabel-cert 1 ipv4 3\nA\nB\nUNKNOWN\nn 1 0 1\nl 0\nl 1\n"

-- a map of four quarters, its shortest list, and the certificate's header with the labels, and its nodes after the root
abbrev pub quarters_map : List ℕ
quarters_map = codes "0.0.0.0/2 A\n64.0.0.0/2 B\n128.0.0.0/2 A\n192.0.0.0/2 C\n"

abbrev pub quarters_list : List ℕ
quarters_list = codes "0.0.0.0/0 A\n64.0.0.0/2 B\n192.0.0.0/2 C\n"

abbrev pub head : List ℕ
head = codes "flowlabel-cert 1 ipv4 4\nA\nB\nC\nUNKNOWN\n"

abbrev pub quarters_nodes : List ℕ
quarters_nodes = codes "n 1 0 1\nl 0\nl 1\nn 1 0 2\nl 0\nl 2\n"

-- the bytes of a text of hexadecimal digits
abbrev pub hex : List ℕ → List ℕ
hex (a ∷ b ∷ text) = (hex_digit_value a * 16 + hex_digit_value b) ∷ hex text
hex _ = []

-- a File of one flow, that of FORMATS.md, "Records of both directions", one way
abbrev pub one_flow : List ℕ
one_flow = hex (codes "000a006a000000000000000000000001000200300100000a00080004000c000400070002000b00020004000100060001000200040001000400980008009900080100002a0a000000c63364e4070c01bb061b00000005000002220000018bcfe66dd60000018bcfe66f22")

-- a File of one flow with its way back: 10.0.0.1 sent 8.8.8.8 three packets of 180 bytes, and got two of 100 bytes
abbrev pub both_ways : List ℕ
both_ways = hex (codes "000a00596000000000000000000000010002002c0100000700080004000c0004000400010002000400010004800200040000727980010004000072790100001d0a000001080808080600000003000000b40000000200000064")

-- What a user sees of a run.

pub data Stream : Type 0 where
  StandardOutput : Stream
  StandardError : Stream

-- the exit status, and the text that is written to one of the streams, for the end of a run
abbrev pub seen : Result Text RunFault → ℕ × Stream × Text
seen (Ok out) = (exit_status_of (Ok out), StandardOutput, out)
seen (Err (Usage (Help text))) =
    (exit_status_of {A = Text} (Err (Usage (Help text))), StandardOutput, string_bytes text)
seen (Err fault) = (exit_status_of {A = Text} (Err fault), StandardError, fault_text program_name fault)

-- a name of a file on the command line
abbrev pub named : Text → Bor Text
named name = record { ref_ptr = (0, 0); now = name }

-- the end of a run for an outcome over the texts of its files, if no device fails and there is memory
abbrev pub end_of : ByFile (Option Text) → Outcome → Result Text RunFault
end_of names (Ok out) = Ok out
end_of names (Err fault) = Err (File (named (unwrap_or (at (role_of fault) names) [])) fault)

-- this is seen of a run of the command, if its files have these texts
abbrev pub Shows : Command → ByFile Text → ℕ × Stream × Text → Type 0
Shows command texts end =
    (outcome : Outcome) × IsOutput command texts outcome
    × (seen (end_of (files_of (request_of command)) outcome) ≡ end)

-- the run writes this text, or it reports this fault of a file
abbrev pub Writes : Command → ByFile Text → Text → Type 0
Writes command texts out = Shows command texts (0, StandardOutput, out)

abbrev pub Reports : Command → ByFile Text → Text → Type 0
Reports command texts fault = Shows command texts (1, StandardError, codes "flowlabel: " ++ fault ++ codes "\n")

-- The files of the commands, and their texts.

abbrev pub by_map : LabelFile
by_map = Map (named (codes "map.txt"))

abbrev pub by_list : LabelFile
by_list = Prefixes (named (codes "list.txt"))

abbrev pub day : Bor Text
day = named (codes "day.ipfix")

abbrev pub empty : ByFile Text
empty = record { map = []; list = []; certificate = []; flows = [] }

abbrev pub of_map : Text → ByFile Text
of_map text = record empty { map = text }

abbrev pub of_list : Text → ByFile Text
of_list text = record empty { list = text }

abbrev pub of_flows : Text → ByFile Text
of_flows text = record empty { flows = text }

-- Claims about one command each.

-- the address 10.1.2.3, and 2001:db8::1, on the command line
abbrev pub address : Addr
address = record { version = V4; value = 0x0a01_0203; in_range = lit< tt }

abbrev pub long_address : Addr
long_address = record { version = V6; value = 0x2001_0db8_0000_0000_0000_0000_0000_0001; in_range = lit< tt }

-- `label` writes this line, or reports this fault, for 10.1.2.3 under a map or a list
abbrev pub Labels : Text → Text → Type 0
Labels map line = Writes (Label by_map address) (of_map map) line

abbrev pub LabelsByList : Text → Text → Type 0
LabelsByList list line = Writes (Label by_list address) (of_list list) line

abbrev pub HasMapFault : Text → Text → Type 0
HasMapFault map fault = Reports (Label by_map address) (of_map map) (codes "map.txt: " ++ fault)

abbrev pub HasListFault : Text → Text → Type 0
HasListFault list fault = Reports (Label by_list address) (of_list list) (codes "list.txt: " ++ fault)

-- `recert` writes this certificate for another one, or reports this fault
abbrev pub Recerts : Text → Text → Type 0
Recerts text out = Writes (Recert (named (codes "cert.txt"))) (record empty { certificate = text }) out

abbrev pub HasCertificateFault : Text → Text → Type 0
HasCertificateFault text fault =
    Reports (Recert (named (codes "cert.txt"))) (record empty { certificate = text }) (codes "cert.txt: " ++ fault)

-- `check` writes this line, or reports this fault, for the texts of a map, a list and a certificate
abbrev pub check_all : Command
check_all = Check (named (codes "map.txt")) (named (codes "list.txt")) (named (codes "cert.txt"))

abbrev pub Checks : Text → Text → Text → Text → Type 0
Checks map list certificate line =
    Writes check_all (record empty { map = map; list = list; certificate = certificate }) line

abbrev pub HasCheckFault : Text → Text → Text → Text → Type 0
HasCheckFault map list certificate fault =
    Reports check_all (record empty { map = map; list = list; certificate = certificate }) fault

-- `info` writes these numbers for a File of these hexadecimal digits, or reports this fault
abbrev pub Counts : Text → Text → Type 0
Counts digits out = Writes (Info day) (of_flows (hex digits)) out

abbrev pub HasFlowsFault : Text → Text → Type 0
HasFlowsFault digits fault = Reports (Info day) (of_flows (hex digits)) (codes "day.ipfix: " ++ fault)

-- The File of one flow, with the labels In and Out. `rows` with this option writes the row, or the header alone.
abbrev pub labelled_flow : ByFile Text
labelled_flow = record empty { map = codes "10.0.0.0/8 In\ndefault Out\n"; flows = one_flow }

abbrev pub labelled_header : Text
labelled_header = codes "sip|dip|sport|dport|proto|flags|packets|bytes|stime|etime|src-label|dst-label\n"

abbrev pub Drops : FilterOption → Text → Type 0
Drops option text = Writes (Rows (Some by_map) ((option, text) ∷ []) false day) labelled_flow labelled_header

abbrev pub Keeps : FilterOption → Text → Type 0
Keeps option text = Writes (Rows (Some by_map) ((option, text) ∷ []) false day) labelled_flow
    (labelled_header ++ codes "10.0.0.0|198.51.100.228|1804|443|6|27|5|546|1700000067030|1700000067362|In|Out\n")

-- `uniq` by these fields writes these lines for the File of one flow with the labels
abbrev pub Groups : List KeyField → Text → Type 0
Groups fields out = Writes (Uniq fields (Some by_map) [] false false day) labelled_flow out

-- Claims about command lines, whose words are those between the blanks of a text.

abbrev pub words_of : Text → List Text
words_of line = slice_split (λ b. b == 32) line

-- the command line asks for this, or has this fault
abbrev pub Asks : Text → Request → Type 0
Asks line request = Answers (words_of line) (Ok request)

abbrev pub HasUsageFault : Text → UsageFault → Type 0
HasUsageFault line fault = Answers (words_of line) (Err fault)

-- clap refuses the command line, or it asks for help or the version
abbrev pub is_refused : Text → Bool
is_refused line = list_any is_mistake (fault_of flowlabel_app (words_of line))

abbrev pub asks_for_help : Text → Bool
asks_for_help line = list_any is_help (fault_of flowlabel_app (words_of line))

-- Claims about files and their readers. The reader of a file is what contracts see of it.

-- a file with this name can be opened, and its reader is then this number; no other file can
abbrev pub opens : Text → Option ℕ → Type 0
opens name reader = reader ≡ (if bytes_eq name (codes "there") then Some 7 else None)

-- a file with a name and a reader
abbrev pub file_with : {R : Type 0} → Text → R → Option (Source R)
file_with name reader = Some (record { name = named name; reader = reader })

-- something for each file, in the order in which they are read
abbrev pub of_files : {T : Type 0} → T → T → T → T → ByFile T
of_files map list certificate flows = record { map = map; list = list; certificate = certificate; flows = flows }

-- a reader that has returned these bytes; whether it has failed, and whether it has ended
abbrev pub reader_of : Bool → Bool → Text → InputView
reader_of failed ended returned = record { failed = failed; returned = returned; stopped = ended; left = None }

abbrev pub seen_of : InputView → InputView
seen_of view = view

-- the files of `label` under a map, with the map's reader
abbrev pub map_read : InputView → ByFile (Option (Source InputView))
map_read reader = of_files (file_with (codes "map.txt") reader) None None None

-- a writer that has taken these bytes, whose last call was this one, and that has failed or not
abbrev pub writer_of : Bool → LastCall → Text → OutputView
writer_of failed last taken =
    record { failed = failed; last_call = last; flushes = flushes_by last; taken = taken; contents = None }

abbrev pub shown_of : OutputView → OutputView
shown_of view = view

-- The examples unfold `opened`, and with it the opaque definitions that are named here after `unfolding`.
unfoldable pub opened : List ℕ → Result CertificateModel CertFault
unfolding compacted_in definition_at digits field_at fields_at fits format_reading nodes_at template_record_at value_at
    values_at
opened text = format_reading text
