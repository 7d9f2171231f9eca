-- Files of nfcapd, layout 2: a header, blocks of records, and the appendix, a last block, which has the totals of the
-- flows. Numbers are little-endian.
use Rattle.std.specs.Prelude.{ℕ, zero, suc, ◌+◌, ◌-◌, ◌*◌, ◌%◌, ◌^◌, ◌==◌, ◌||◌, ◌&&◌, Bool, true, false, not}
use Rattle.std.specs.Prelude.{List, [], ◌++◌, drop, take}
use Rattle.std.specs.Prelude.{length, slice_index, Option, Some, None, Result, Ok, Err, nat_lt, if◌then◌else◌}
use Rattle.std.specs.Option.{option_to_list}
use Rattle.std.specs.Result.{result_map_both}
use Rattle.pmap_model.specs.Steps.{◌>>=◌}
use Rattle.byteorder.specs.Endian.{little_number}
use Rattle.nfcapd_read.specs.Flow.{flow_of_record}
use Rattle.nfcapd_read.specs.declared.flow.Flow.{Flow}
use Rattle.nfcapd_read.specs.declared.reading.Reading.{Reading}
use Rattle.nfcapd_read.specs.declared.reading.Stage.{Stage}
use Rattle.nfcapd_read.specs.declared.reading.Stage.TheVariants.{Block, End, Header, Record}
use Rattle.nfcapd_read.specs.declared.fault.FlowFileFault.{FlowFileFault}
use Rattle.nfcapd_read.specs.declared.fault.FlowFileFaultKind.{FlowFileFaultKind}
use Rattle.nfcapd_read.specs.declared.fault.FlowFileFaultKind.TheVariants.{BadAppendix, BadBlock, BadRecord, BytesLeft}
use Rattle.nfcapd_read.specs.declared.fault.FlowFileFaultKind.TheVariants.{Compressed, Encrypted, OldRecord}
use Rattle.nfcapd_read.specs.declared.fault.FlowFileFaultKind.TheVariants.{OtherLayout, TotalsDiffer, Truncated}
use Rattle.nfcapd_read.specs.declared.fault.FlowFileFaultKind.TheVariants.{Unfinished}

-- a file of which nothing was read
abbrev pub started : (allow_sampled : Bool) → Reading
started allow_sampled = record {
  allow_sampled = allow_sampled;
  stage = Header;
  offset = 0;
  blocks = 0;
  appendix = 0;
  records = 0;
  room = 0;
  flows = 0;
  packets = 0;
  octets = 0;
  agrees = false;
}

-- a fault of the next part
abbrev pub part_fault : Reading → FlowFileFaultKind → FlowFileFault
part_fault now kind = record { kind = kind; offset = now.offset }

-- these many bytes later
abbrev pub passed : Reading → ℕ → Reading
passed now size = record now { offset = (now.offset + size) % 2 ^ 64 }

-- what a part of a file leads to: how far the file is read then, and the flow of the part, if it has one
abbrev pub Step : Type 0
Step = Result (Reading × Option Flow) FlowFileFaultKind

abbrev pub without_flow : Result Reading FlowFileFaultKind → Step
without_flow reading = reading >>= (λ next. Ok (next, None))

-- what comes after the header of a block, or after a record of it: another record, the next block, or the end
abbrev pub closed : Reading → Result Reading FlowFileFaultKind
closed now =
    if nat_lt 0 now.records then Ok (record now { stage = Record })
    else (if nat_lt 0 now.room then Err BadBlock
    else (if nat_lt 0 now.blocks then Ok (record now { stage = Block })
    else (if now.agrees then Ok (record now { stage = End }) else Err TotalsDiffer)))

-- after the header of the file, which has the offset of the appendix and the number of blocks before it
abbrev pub after_header : Reading → List ℕ → Result Reading FlowFileFaultKind
after_header now part =
    if not (little_number 2 part == 42252) || not (little_number 2 (drop 2 part) == 2) then Err OtherLayout
    else (if not (slice_index part 16 == 0) then Err Compressed
    else (if not (slice_index part 17 == 0) then Err Encrypted
    else (if not (little_number 2 (drop 18 part) == 1) then Err Unfinished
    else Ok (record now {
      stage = Block;
      appendix = little_number 8 (drop 24 part);
      blocks = little_number 4 (drop 36 part) + 1;
    }))))

-- the next block is the appendix, and not at its offset
abbrev pub is_misplaced : Reading → Bool
is_misplaced now = now.blocks == 1 && not (now.offset == now.appendix)

-- after the header of a block, which has the number of its records and of their bytes
abbrev pub after_block : Reading → List ℕ → Result Reading FlowFileFaultKind
after_block now part =
    if now.blocks == 0 then Err BadBlock
    else (if not (little_number 2 (drop 8 part) == 3) then Err BadBlock
    else (if is_misplaced now then Err BadAppendix
    else closed (record now {
      blocks = now.blocks - 1;
      records = little_number 4 part;
      room = little_number 4 (drop 4 part);
    })))

-- one more flow; both directions count
abbrev pub counted : Reading → Flow → Reading
counted now flow = record now {
  flows = (now.flows + 1) % 2 ^ 64;
  packets = (now.packets + (flow.packets + flow.packets_back) % 2 ^ 64) % 2 ^ 64;
  octets = (now.octets + (flow.octets + flow.octets_back) % 2 ^ 64) % 2 ^ 64;
}

-- the totals in a record must be those of the flows
abbrev pub compared : Reading → List ℕ → Result Reading FlowFileFaultKind
compared now part =
    if not (length part == 148) then Err TotalsDiffer
    else (if not (little_number 8 (drop 4 part) == now.flows) then Err TotalsDiffer
    else (if not (little_number 8 (drop 12 part) == now.octets) then Err TotalsDiffer
    else (if not (little_number 8 (drop 20 part) == now.packets) then Err TotalsDiffer
    else Ok (record now { agrees = true }))))

-- after the record of a flow
abbrev pub after_flow : Reading → List ℕ → Step
after_flow now part = flow_of_record now.allow_sampled part >>= (λ flow.
    closed (counted now flow) >>= (λ read. Ok (read, Some flow)))

-- after a record, which has one of these: the totals, in the appendix; a flow, in another block; or nothing for sums
abbrev pub after_record : Reading → List ℕ → Step
after_record now part =
    let kind = little_number 2 part in
    let next : Reading = record now { records = now.records - 1; room = now.room - length part } in
    if now.blocks == 0
    then without_flow ((if kind == 32770 then compared next part else Ok next) >>= closed)
    else (if kind == 1 || kind == 2 || kind == 10 then Err OldRecord
    else (if not (kind == 11) then without_flow (closed next)
    else after_flow next part))

-- after the part that comes next
abbrev pub after_stage : Stage → Reading → List ℕ → Step
after_stage Header now part = without_flow (after_header now part)
after_stage Block now part = without_flow (after_block now part)
after_stage Record now part = after_record now part
after_stage End now part = Err BytesLeft

abbrev pub after_part : Reading → List ℕ → Step
after_part now part = after_stage now.stage now part >>= (λ step. Ok (passed step.0 (length part), step.1))

-- the number of bytes that tell the size of the next part
abbrev pub head_size : Stage → ℕ
head_size Header = 40
head_size Block = 12
head_size Record = 4
head_size End = 1

-- the size of the next part, which begins with these bytes; a record has at most as many as are left in the block
abbrev pub size_at : Stage → ℕ → List ℕ → Result ℕ FlowFileFaultKind
size_at Header room bytes = Ok 40
size_at Block room bytes = Ok 12
size_at Record room bytes =
    let size = little_number 2 (drop 2 bytes) in
    if nat_lt size 4 then Err BadRecord else (if nat_lt room size then Err BadRecord else Ok size)
size_at End room bytes = Err BytesLeft

abbrev pub part_size : Reading → List ℕ → Result ℕ FlowFileFaultKind
part_size now bytes = size_at now.stage now.room bytes

-- the next part is at the start of these bytes: what it leads to, and the bytes after it
abbrev pub part_at : Reading → List ℕ → Result ((Reading × Option Flow) × List ℕ) FlowFileFaultKind
part_at now bytes =
    if nat_lt (length bytes) (head_size now.stage) then Err Truncated
    else part_size now bytes >>= (λ size.
    if nat_lt (length bytes) size then Err Truncated
    else after_part now (take size bytes) >>= (λ step. Ok (step, drop size bytes)))

-- its fault is at its offset
abbrev pub part_next : Reading → List ℕ → Result ((Reading × Option Flow) × List ℕ) FlowFileFault
part_next now bytes = result_map_both (λ read. read) (part_fault now) (part_at now bytes)

-- these flows and then those of a reading, unless it is a fault
abbrev pub after_flows : List Flow → Result (List Flow) FlowFileFault → Result (List Flow) FlowFileFault
after_flows flows reading = reading >>= (λ later. Ok (flows ++ later))

abbrev pub is_end : Stage → Bool
is_end End = true
is_end _ = false

-- the flows in the rest of a file, with at most this number of parts, or its first fault
abbrev pub flows_by : ℕ → Reading → List ℕ → Result (List Flow) FlowFileFault
flows_by zero now bytes = Err (part_fault now Truncated)
flows_by (suc most) now bytes =
    if length bytes == 0 then (if is_end now.stage then Ok [] else Err (part_fault now Truncated))
    else part_next now bytes >>= (λ read. after_flows (option_to_list read.0.1) (flows_by most read.0.0 read.1))

-- the flows in the rest of a file, or its first fault; a part has at least one byte
abbrev pub flows_from : Reading → List ℕ → Result (List Flow) FlowFileFault
flows_from now bytes = flows_by (length bytes + 1) now bytes

-- the flows of a file, or its first fault
abbrev pub flows_reading : (allow_sampled : Bool) → List ℕ → Result (List Flow) FlowFileFault
flows_reading allow_sampled text = flows_from (started allow_sampled) text

-- a bound on the number of parts that are left, by the numbers of blocks and of records
abbrev pub counts_left : Reading → ℕ
counts_left now = 4 * (8589934592 * now.blocks + now.records)

abbrev pub left_at : Stage → ℕ → ℕ
left_at Header count = 2 ^ 70
left_at Block count = count + 1
left_at Record count = count + 2
left_at End count = count

abbrev pub parts_left : Reading → ℕ
parts_left now = left_at now.stage (counts_left now)
