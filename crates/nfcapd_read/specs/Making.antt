-- Messages that are made of parts.
use Rattle.std.specs.Prelude.{⊤, ◌≡◌, ◌≤◌, ◌<◌, ◌+◌, ℕ, Bool, true, List, ◌++◌, length, take, vec_len}
use Rattle.std.specs.Prelude.{IfErr, Option, Some, None, Result, Ok, Err}
use Rattle.std.specs.Result.{result_map_both}
use Rattle.flow_io.specs.Devices.{MayFollow}
use Rattle.nfcapd_read.specs.File.{packed_from}
use Rattle.nfcapd_read.specs.Pending.{four_in, six_in}
use Rattle.nfcapd_read.specs.Reading.{parts_left}
use Rattle.nfcapd_read.specs.declared.fault.FlowFileFault.{FlowFileFault}
use Rattle.nfcapd_read.specs.declared.fault.FlowFileFaultKind.TheVariants.{Truncated}
use Rattle.nfcapd_read.specs.declared.file.Made.{Made}
use Rattle.nfcapd_read.specs.declared.file.Made.TheVariants.{Last, Message}
use Rattle.nfcapd_read.specs.declared.file.PartStop.{PartStop}
use Rattle.nfcapd_read.specs.declared.file.PartStop.TheVariants.{Device, Fault}
use Rattle.nfcapd_read.specs.declared.pending.Pending.{Pending}
use Rattle.nfcapd_read.specs.declared.reading.Reading.{Reading}

-- the message has room for another flow
abbrev pub IsOpen : Pending → Type 0
IsOpen pending = length (four_in pending) + length (six_in pending) ≤ 65000

-- the message has no records
abbrev pub IsEmpty : Pending → Type 0
IsEmpty pending = (pending.at ≡ 20) × (pending.count ≡ 0)

-- the messages of the rest of a file
abbrev pub rest_of : Reading → Pending → List ℕ → Result (List ℕ) FlowFileFault
rest_of now pending bytes = packed_from now (four_in pending) (six_in pending) bytes

-- these bytes and then those of a reading, unless it is a fault
abbrev pub after_bytes : List ℕ → Result (List ℕ) FlowFileFault → Result (List ℕ) FlowFileFault
after_bytes bytes = result_map_both (λ later. bytes ++ later) (λ fault. fault)

-- a part leads on, with its flow added to the message; or to a whole message, at the start of its buffer; or to a fault
abbrev pub GoesOn : Reading → Pending → List ℕ → Result (Option ℕ) FlowFileFault → Reading → Pending → Type 0
GoesOn old before part (Ok None) new after =
    IsOpen after × ((rest : List ℕ) → rest_of old before (part ++ rest) ≡ rest_of new after rest)
GoesOn old before part (Ok (Some size)) new after =
    IsEmpty after × ((0 < size) × (size ≤ vec_len after.out))
    × ((rest : List ℕ) → rest_of old before (part ++ rest)
    ≡ after_bytes (take size after.out.items) (rest_of new after rest))
GoesOn old before part (Err fault) new after = (rest : List ℕ) → rest_of old before (part ++ rest) ≡ Err fault

-- The taken bytes lead to a whole message, at the start of its buffer; to the last one, at the end of the file; or to a
-- fault, whatever bytes may follow. Or the reader failed, and the taken bytes have no fault so far.
abbrev pub Makes : Reading → Pending → Result Made PartStop → Reading → Pending → Bool → List ℕ → Type 0
Makes old before (Ok (Message size)) new after ended taken =
    IsEmpty after × ((0 < size) × (size ≤ vec_len after.out))
    × ((rest : List ℕ) → rest_of old before (taken ++ rest)
    ≡ after_bytes (take size after.out.items) (rest_of new after rest))
Makes old before (Ok (Last size)) new after ended taken =
    (ended ≡ true) × ((0 < size) × (size ≤ vec_len after.out))
    × (rest_of old before taken ≡ Ok (take size after.out.items))
Makes old before (Err (Fault fault)) new after ended taken =
    (rest : List ℕ) → MayFollow ended rest → rest_of old before (taken ++ rest) ≡ Err fault
Makes old before (Err Device) new after ended taken =
    IfErr (rest_of old before taken) (λ fault. fault.kind ≡ Truncated)

-- fewer parts may be left after a message that isn't the last one
abbrev pub LeavesLess : Reading → Result Made PartStop → Reading → Type 0
LeavesLess old (Ok (Message size)) new = parts_left new < parts_left old
LeavesLess old result new = ⊤
