-- Faults that don't concern the bytes: an allocation failed, a reader failed, or an earlier call failed.
use Rattle.std.specs.Prelude.{◌≡◌, ◌⊎◌, ℕ, Bool, true, false, Result, Ok, Err}
use Rattle.ipfix_read.specs.declared.fault.ReadFault.{ReadFault}
use Rattle.ipfix_read.specs.declared.fault.ReadFaultKind.{ReadFaultKind}
pub use Rattle.ipfix_read.specs.declared.fault.ReadFaultKind.TheVariants.{BadMessageLength, BadRecord}
pub use Rattle.ipfix_read.specs.declared.fault.ReadFaultKind.TheVariants.{BadSetLength, BadTemplate, BadVersion}
pub use Rattle.ipfix_read.specs.declared.fault.ReadFaultKind.TheVariants.{Failed, NoMemory, TooManyMessages}
pub use Rattle.ipfix_read.specs.declared.fault.ReadFaultKind.TheVariants.{TruncatedHeader, TruncatedMessage}
use Rattle.ipfix_read.specs.declared.fault.ReadFaultKind.TheVariants.{ReadFault as Unread}

-- the reader failed, in the message at this offset
abbrev pub read_fault : ℕ → ReadFault
read_fault offset = record { kind = Unread; offset = offset }

-- an allocation failed, which has no position
abbrev pub out_of_memory : ReadFault
out_of_memory = record { kind = NoMemory; offset = 0 }

-- an earlier call failed, which has no position
abbrev pub failed_before : ReadFault
failed_before = record { kind = Failed; offset = 0 }

-- the kind of a failed reader
abbrev pub is_of_reader : ReadFaultKind → Bool
is_of_reader Unread = true
is_of_reader kind = false

-- a kind that only calls for messages return: a reader failed, or an earlier call failed
abbrev pub is_of_calls : ReadFaultKind → Bool
is_of_calls Unread = true
is_of_calls Failed = true
is_of_calls kind = false

-- The result of reading: what the bytes have, or that an allocation failed. No fault is one of calls.
abbrev pub Reads : {A : Type 0} → Result A ReadFault → Result A ReadFault → Type 0
Reads reading (Ok item) = reading ≡ Ok item
Reads reading (Err fault) = (is_of_calls fault.kind ≡ false) × ((fault ≡ out_of_memory) ⊎ (reading ≡ Err fault))
