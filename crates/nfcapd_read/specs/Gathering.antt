-- The next part of a file, which is read to the start of a buffer.
use Rattle.std.specs.Prelude.{◌≡◌, ◌⊎◌, ◌<◌, ◌≤◌, ℕ, Bool, true, List, [], ◌++◌, length, take}
use Rattle.std.specs.Prelude.{Option, Some, None, option_map, Result, Ok, Err}
use Rattle.flow_io.specs.Devices.{MayFollow}
use Rattle.nfcapd_read.specs.Reading.{part_fault, head_size, part_next, part_size}
use Rattle.nfcapd_read.specs.declared.fault.FlowFileFaultKind.TheVariants.{Truncated}
use Rattle.nfcapd_read.specs.declared.file.PartStop.{PartStop}
use Rattle.nfcapd_read.specs.declared.file.PartStop.TheVariants.{Device, Fault}
use Rattle.nfcapd_read.specs.declared.reading.Reading.{Reading}

-- the bytes of the part of this size at the start of a buffer, if there is one
abbrev pub front_in : List ℕ → Option ℕ → Option (List ℕ)
front_in buffer = option_map (λ size. take size buffer)

-- The taken bytes are the next part, or there is no byte before the end. Or the part has this fault, whatever bytes may
-- follow; or the reader failed, before the part or within it.
abbrev pub GathersPart : Reading → Result (Option (List ℕ)) PartStop → Bool → List ℕ → Type 0
GathersPart now (Ok (Some part)) ended taken =
    (part ≡ taken) × (head_size now.stage ≤ length part) × (part_size now part ≡ Ok (length part))
GathersPart now (Ok None) ended taken = (taken ≡ []) × (ended ≡ true)
GathersPart now (Err (Fault fault)) ended taken = (0 < length taken)
    × ((rest : List ℕ) → MayFollow ended rest → part_next now (taken ++ rest) ≡ Err fault)
GathersPart now (Err Device) ended taken =
    (taken ≡ []) ⊎ ((0 < length taken) × (part_next now taken ≡ Err (part_fault now Truncated)))

-- a stop tells whether the reader failed
abbrev pub StopsOf : Bool → Bool → PartStop → Type 0
StopsOf old new Device = new ≡ true
StopsOf old new (Fault fault) = new ≡ old
