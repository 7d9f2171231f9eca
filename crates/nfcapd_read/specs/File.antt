use Rattle.std.specs.Prelude.{ℕ, ◌==◌, ◌&&◌, Bool, List, length, not, nat_lt, Result, Ok, if◌then◌else◌}
use Rattle.std.specs.Result.{result_map_both}
use Rattle.byteorder.specs.Endian.{little_number}
use Rattle.nfcapd_read.specs.Encode.{file_of_flows, packed}
use Rattle.nfcapd_read.specs.Reading.{flows_from, flows_reading}
use Rattle.nfcapd_read.specs.declared.reading.Reading.{Reading}
use Rattle.nfcapd_read.specs.declared.fault.FlowFileFault.{FlowFileFault}

-- the text is a file of nfcapd: it begins with its number
abbrev pub is_nfcapd : List ℕ → Bool
is_nfcapd text = not (nat_lt (length text) 2) && little_number 2 text == 42252

-- The IPFIX File that a text represents: of a file of nfcapd the File of its flows, of any other text the text itself.
-- Sampled flows are a fault unless they are allowed.
abbrev pub ipfix_of : (allow_sampled : Bool) → List ℕ → Result (List ℕ) FlowFileFault
ipfix_of allow_sampled text =
    if is_nfcapd text
    then result_map_both file_of_flows (λ fault. fault) (flows_reading allow_sampled text) else Ok text

-- the messages that the rest of a file leads to, when the message so far has these records
abbrev pub packed_from : Reading → List ℕ → List ℕ → List ℕ → Result (List ℕ) FlowFileFault
packed_from now four six bytes = result_map_both (packed four six) (λ fault. fault) (flows_from now bytes)
