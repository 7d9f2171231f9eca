-- Messages (RFC 7011 section 3.1).
use Rattle.std.specs.Prelude.{◌≡◌, ℕ, ◌+◌, ◌≤◌, List, length, take, drop, fold, sum_by, Option}
use Rattle.std.specs.Prelude.{Some, None, Result, Err, nat_lt, not, ◌==◌, if◌then◌else◌}
use Rattle.std.specs.Option.{option_map_or, option_or}
use Rattle.std.specs.Result.{result_map_both}
use Rattle.byteorder.specs.Endian.{big_number}
use Rattle.ipfix_templates.specs.InForce.{InForce}
use Rattle.ipfix_read.specs.Set.{Set, Templates, Values, Skipped, written_length, sets_reading, after_set}
pub use Rattle.ipfix_read.specs.declared.fault.ReadFault.{ReadFault}
pub use Rattle.ipfix_read.specs.declared.fault.ReadFaultKind.{ReadFaultKind}
use Rattle.ipfix_read.specs.declared.fault.ReadFaultKind.TheVariants.{TruncatedHeader, BadVersion, BadMessageLength}
use Rattle.ipfix_read.specs.declared.fault.ReadFaultKind.TheVariants.{TruncatedMessage, TooManyMessages}

-- a message, without how it is stored
pub record MessageView : Type 0 where
  pub export_time : ℕ
  pub sequence : ℕ
  pub domain : ℕ
  pub sets : List Set

-- the templates in force after a message
abbrev pub after_message : InForce → MessageView → InForce
after_message before m = fold (after_set m.domain) before m.sets

-- the fault of a header itself, after `count` messages, whatever bytes follow it
abbrev pub own_fault : ℕ → List ℕ → Option ReadFaultKind
own_fault count header =
    if not (nat_lt count 4294967295) then Some TooManyMessages
    else (if not (big_number 2 header == 10) then Some BadVersion
    else (if nat_lt (written_length header) 16 then Some BadMessageLength else None))

-- the fault of the header at the start of the bytes, after `count` messages
abbrev pub header_fault : ℕ → List ℕ → Option ReadFaultKind
header_fault count bytes =
    if nat_lt (length bytes) 16 then Some TruncatedHeader
    else option_or (own_fault count bytes)
    (if nat_lt (length bytes) (written_length bytes) then Some TruncatedMessage else None)

-- the message whose header has no fault and which is exactly these bytes, or the first fault of its sets
abbrev pub whole_reading : InForce → ℕ → List ℕ → Result MessageView ReadFault
whole_reading templates offset bytes =
    let domain = big_number 4 (drop 12 bytes) in
    result_map_both
    (λ sets. record {
      export_time = big_number 4 (drop 4 bytes);
      sequence = big_number 4 (drop 8 bytes);
      domain = domain;
      sets = sets;
    })
    (λ fault. fault)
    (sets_reading templates domain (offset + 16) (drop 16 bytes))

-- the message at the start of bytes at this offset, and the bytes after it, or its first fault; `count` messages
-- precede it, after which these templates are in force
abbrev pub message_next : InForce → ℕ → ℕ → List ℕ → Result (MessageView × List ℕ) ReadFault
message_next templates count offset bytes =
    let size = written_length bytes in
    option_map_or (λ kind. Err (record { kind = kind; offset = offset })) (header_fault count bytes)
    (result_map_both (λ m. (m, drop size bytes)) (λ fault. fault)
    (whole_reading templates offset (take size bytes)))

-- Below: only contracts of parts and proofs use these; no promise of the program rests on them.

-- the size of a set: one, and one for each event or record
abbrev pub set_size : Set → ℕ
set_size (Templates kind events) = 1 + length events
set_size (Values kind records) = 1 + length records
set_size (Skipped id) = 1

-- the number of sets, events and records of a message
abbrev pub message_size : List Set → ℕ
message_size sets = sum_by set_size sets

-- bytes have a header with version 10 and their length, which a message can have
pub record HasHeader (bytes : List ℕ) : Type 0 where
  pub least : 16 ≤ length bytes
  pub most : length bytes ≤ 65535
  pub version : big_number 2 bytes ≡ 10
  pub whole : written_length bytes ≡ length bytes
