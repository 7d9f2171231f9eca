-- The flow of a record (nfdump 1.7, record type 11): a header of 12 bytes, and elements. Numbers are little-endian.
use Rattle.std.specs.Prelude.{ℕ, zero, suc, ◌/◌, ◌%◌, ◌==◌, ◌&&◌, ◌||◌, Bool, true, false, not, List, drop, take}
use Rattle.std.specs.Prelude.{length, slice_index, Result, Ok, Err, nat_lt, if◌then◌else◌}
use Rattle.pmap_model.specs.Steps.{◌>>=◌}
use Rattle.byteorder.specs.Endian.{little_number}
use Rattle.nfcapd_read.specs.declared.flow.Flow.{Flow}
use Rattle.nfcapd_read.specs.declared.fault.FlowFileFaultKind.{FlowFileFaultKind}
use Rattle.nfcapd_read.specs.declared.fault.FlowFileFaultKind.TheVariants.{BadFlow, BadRecord, RepeatedElement, Sampled}

-- the flow of a record without elements
abbrev pub no_elements : Flow
no_elements = record {
  has_v4 = false;
  has_v6 = false;
  has_counts = false;
  has_back = false;
  is_event = false;
  src_v4 = 0;
  dst_v4 = 0;
  src_high = 0;
  src_low = 0;
  dst_high = 0;
  dst_low = 0;
  first = 0;
  last = 0;
  packets = 0;
  octets = 0;
  sport = 0;
  dport = 0;
  protocol = 0;
  flags = 0;
  packets_back = 0;
  octets_back = 0;
}

-- a flow with what an element says, by its bytes: the counts, the addresses, or the counts of the other direction
abbrev pub with_counts : Flow → List ℕ → Flow
with_counts flow body = record flow {
  has_counts = true;
  first = little_number 8 body;
  last = little_number 8 (drop 8 body);
  packets = little_number 8 (drop 24 body);
  octets = little_number 8 (drop 32 body);
  sport = little_number 2 (drop 40 body);
  dport = little_number 2 (drop 42 body);
  protocol = slice_index body 44;
  flags = slice_index body 45;
}

abbrev pub with_v4 : Flow → List ℕ → Flow
with_v4 flow body = record flow {
  has_v4 = true;
  src_v4 = little_number 4 body;
  dst_v4 = little_number 4 (drop 4 body);
}

abbrev pub with_v6 : Flow → List ℕ → Flow
with_v6 flow body = record flow {
  has_v6 = true;
  src_high = little_number 8 body;
  src_low = little_number 8 (drop 8 body);
  dst_high = little_number 8 (drop 16 body);
  dst_low = little_number 8 (drop 24 body);
}

abbrev pub with_back : Flow → List ℕ → Flow
with_back flow body = record flow {
  has_back = true;
  packets_back = little_number 8 (drop 8 body);
  octets_back = little_number 8 (drop 16 body);
}

-- what an element leads to, which must not be there twice, and must have this size
abbrev pub checked : Bool → ℕ → List ℕ → Flow → Result Flow FlowFileFaultKind
checked seen size body flow =
    if seen then Err RepeatedElement
    else (if length body == size then Ok flow else Err BadRecord)

-- a flow with what the element with this number says; elements with other numbers say nothing of a row
abbrev pub with_element : Flow → ℕ → List ℕ → Result Flow FlowFileFaultKind
with_element flow kind body =
    if kind == 1 then checked flow.has_counts 48 body (with_counts flow body)
    else (if kind == 2 then checked flow.has_v4 8 body (with_v4 flow body)
    else (if kind == 3 then checked flow.has_v6 32 body (with_v6 flow body)
    else (if kind == 5 then checked flow.has_back 24 body (with_back flow body)
    else Ok flow)))

-- a flow with what the next elements say, which are exactly these bytes: each has its number, its size with both
-- numbers, and other bytes
abbrev pub with_elements : ℕ → Flow → List ℕ → Result Flow FlowFileFaultKind
with_elements zero flow bytes = if length bytes == 0 then Ok flow else Err BadRecord
with_elements (suc count) flow bytes =
    let size = little_number 2 (drop 2 bytes) in
    if nat_lt (length bytes) 4 then Err BadRecord
    else (if nat_lt size 4 then Err BadRecord
    else (if nat_lt (length bytes) size then Err BadRecord
    else with_element flow (little_number 2 bytes) (drop 4 (take size bytes)) >>= (λ more.
    with_elements count more (drop size bytes))))

-- the flow of a record, which must have counts and addresses, and be sampled only if this is allowed
abbrev pub flow_of_record : (allow_sampled : Bool) → List ℕ → Result Flow FlowFileFaultKind
flow_of_record allow_sampled bytes =
    if nat_lt (length bytes) 12 then Err BadRecord
    else (if not allow_sampled && slice_index bytes 10 / 2 % 2 == 1 then Err Sampled
    else with_elements (little_number 2 (drop 4 bytes)) no_elements (drop 12 bytes) >>= (λ flow.
    if flow.has_counts && (flow.has_v4 || flow.has_v6)
    then Ok (record flow { is_event = slice_index bytes 10 % 2 == 1 }) else Err BadFlow))
