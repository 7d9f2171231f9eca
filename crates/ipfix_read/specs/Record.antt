-- The records of a data set (RFC 7011 section 3.4.3).
use Rattle.std.specs.Prelude.{ℕ, Bool, List, length, Result, ok_or, option_map, nat_lt, ◌==◌, ◌||◌}
use Rattle.ipfix_templates.specs.Field.{least_length}
use Rattle.ipfix_templates.specs.Reading.{items_from}
use Rattle.ipfix_templates.specs.declared.template.Template.{Template}
use Rattle.ipfix_read.specs.declared.fault.ReadFault.{ReadFault}
pub use Rattle.ipfix_read.specs.declared.record.Record.{Record}
use Rattle.ipfix_read.specs.Fault.{BadRecord}
use Rattle.ipfix_read.specs.Value.{values_at}

-- the bytes are padding: they are fewer than the shortest record has, or records would be empty (section 3.3.1)
abbrev pub is_padding : Template → List ℕ → Bool
is_padding t bytes = least_length t.fields == 0 || nat_lt (length bytes) (least_length t.fields)

-- the record of this template at the start of bytes at this offset, and the bytes after it; or the fault that it
-- extends beyond the bytes
abbrev pub record_next : Template → ℕ → List ℕ → Result (Record × List ℕ) ReadFault
record_next t offset bytes =
    ok_or (option_map (λ v. (record { kind = t.kind; fields = v.0 }, v.1))
    (values_at t.fields bytes)) (record { kind = BadRecord; offset = offset })

-- the records of a data set, given the bytes after its header, which begin at this offset; or the first fault
abbrev pub data_set_reading : Template → ℕ → List ℕ → Result (List Record) ReadFault
data_set_reading t offset bytes =
    items_from (is_padding t) (λ _. record_next t) (λ _ _. tt) (tt {0}) offset bytes
