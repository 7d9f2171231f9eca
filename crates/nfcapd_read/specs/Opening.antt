-- How a text is opened: a file of nfcapd is read whole, and otherwise at most two bytes are read.
use Rattle.std.specs.Prelude.{◌≡◌, ◌<◌, ⊤, ℕ, Bool, true, false, List, [], ◌++◌, IfErr, length, take, Result, Ok, Err}
use Rattle.flow_io.specs.Devices.{MayFollow}
use Rattle.nfcapd_read.specs.File.{ipfix_of, is_nfcapd, packed_from}
use Rattle.nfcapd_read.specs.Making.{after_bytes}
use Rattle.nfcapd_read.specs.declared.encode.TheConstants.{TEMPLATES}
use Rattle.nfcapd_read.specs.declared.fault.FlowFileFault.{FlowFileFault}
use Rattle.nfcapd_read.specs.declared.fault.FlowFileFaultKind.TheVariants.{Truncated}
use Rattle.nfcapd_read.specs.declared.file.Begun.{Begun}
use Rattle.nfcapd_read.specs.declared.file.Begun.TheVariants.{Flows, Other, Short}
use Rattle.nfcapd_read.specs.declared.file.Found.{Found}
use Rattle.nfcapd_read.specs.declared.file.Found.TheVariants.{Made, Other as NoFlows}
use Rattle.nfcapd_read.specs.declared.file.PartStop.{PartStop}
use Rattle.nfcapd_read.specs.declared.file.PartStop.TheVariants as part
use Rattle.nfcapd_read.specs.declared.file.Stop.{Stop}
use Rattle.nfcapd_read.specs.declared.file.Stop.TheVariants.{Device, Fault, NoMemory}
use Rattle.nfcapd_read.specs.declared.reading.Reading.{Reading}

-- What was read before the reader failed: fewer than two bytes, or a file of nfcapd without a fault so far, which may
-- be cut short.
abbrev pub IsCut : Bool → List ℕ → Type 0
IsCut allow text = (is_nfcapd text ≡ false → length text < 2)
    × IfErr (ipfix_of allow text) (λ fault. fault.kind ≡ Truncated)

-- How a text begins, by the bytes that were taken of it to the start of a buffer: with fewer than two bytes, which are
-- all; with two bytes that no file of nfcapd begins with; or with the header of one. Or it has a fault, whatever bytes
-- may follow, or the reader failed.
abbrev pub Begins : Bool → List ℕ → Result Begun PartStop → Bool → List ℕ → Type 0
Begins allow buffer (Ok (Short count)) ended taken = (ended ≡ true) × (count < 2) × (take count buffer ≡ taken)
Begins allow buffer (Ok Other) ended taken =
    (take 2 buffer ≡ taken) × ((rest : List ℕ) → is_nfcapd (taken ++ rest) ≡ false)
Begins allow buffer (Ok (Flows now)) ended taken = (length taken ≡ 40)
    × ((rest : List ℕ) → ipfix_of allow (taken ++ rest) ≡ after_bytes TEMPLATES (packed_from now [] [] rest))
    × ((rest : List ℕ) → is_nfcapd (taken ++ rest) ≡ true)
Begins allow buffer (Err (part.Fault fault)) ended taken =
    (rest : List ℕ) → MayFollow ended rest → ipfix_of allow (taken ++ rest) ≡ Err fault
Begins allow buffer (Err part.Device) ended taken = IsCut allow taken

-- the IPFIX File of the rest of a file after its header
abbrev pub whole_from : Reading → List ℕ → Result (List ℕ) FlowFileFault
whole_from now bytes = after_bytes TEMPLATES (packed_from now [] [] bytes)

-- The taken bytes are the rest of a file, and lead to its IPFIX File; or to a fault, whatever bytes may follow. Or the
-- reader failed, and the taken bytes have no fault so far.
abbrev pub Converts : Reading → Result (List ℕ) Stop → Bool → List ℕ → Type 0
Converts now (Ok made) ended taken = (ended ≡ true) × (whole_from now taken ≡ Ok made)
Converts now (Err (Fault fault)) ended taken =
    (rest : List ℕ) → MayFollow ended rest → whole_from now (taken ++ rest) ≡ Err fault
Converts now (Err Device) ended taken = IfErr (whole_from now taken) (λ fault. fault.kind ≡ Truncated)
Converts now (Err NoMemory) ended taken = ⊤

-- What opening a text returns, by the bytes that were taken of it.
abbrev pub Opens : Bool → Result Found Stop → Bool → List ℕ → Type 0
Opens allow (Ok (Made made)) ended taken = (ended ≡ true) × (ipfix_of allow taken ≡ Ok made.items)
Opens allow (Ok (NoFlows front)) ended taken =
    (taken ≡ front) × ((rest : List ℕ) → is_nfcapd (taken ++ rest) ≡ false)
Opens allow (Err (Fault fault)) ended taken =
    (rest : List ℕ) → MayFollow ended rest → ipfix_of allow (taken ++ rest) ≡ Err fault
Opens allow (Err Device) ended taken = IsCut allow taken
Opens allow (Err NoMemory) ended taken = ⊤

-- a stop of a part is one of the text
abbrev pub StopsAs : PartStop → Stop → Type 0
StopsAs part.Device stop = stop ≡ Device
StopsAs (part.Fault fault) stop = stop ≡ Fault fault

-- a stop reports whether the reader failed
abbrev pub EndsBy : Bool → Bool → Stop → Type 0
EndsBy old new Device = new ≡ true
EndsBy old new stop = new ≡ old
