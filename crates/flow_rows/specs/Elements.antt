use Rattle.std.specs.Prelude.{ℕ, List, length, Option, Some, None, option_map, find}
use Rattle.std.specs.Prelude.{◌==◌, ◌++◌, option_and_then, unwrap_or, if◌then◌else◌}
use Rattle.std.specs.Option.{option_or, option_to_list}
use Rattle.byteorder.specs.Endian.{big_number}
use Rattle.prefix_keys.specs.declared.version.Version.{Version}
use Rattle.prefix_keys.specs.declared.version.Version.TheVariants.{V4, V6}
use Rattle.ipfix_templates.specs.Elements.{back, forward, is_usable}
use Rattle.ipfix_templates.specs.Template.{same_kind}
use Rattle.ipfix_templates.specs.declared.kind.Kind.TheVariants.{Flow}
use Rattle.ipfix_read.specs.Value.{FieldValueView}
use Rattle.ipfix_read.specs.declared.record.Record.{Record}

-- A flow row as contracts see it.

pub record RowView : Type 0 where
  pub version : Version
  pub src : ℕ
  pub dst : ℕ
  pub sport : ℕ
  pub dport : ℕ
  pub protocol : ℕ
  pub flags : ℕ
  pub in_if : ℕ
  pub out_if : ℕ
  pub vlan : ℕ
  pub src_as : ℕ
  pub dst_as : ℕ
  pub packets : ℕ
  pub octets : ℕ
  pub start_ms : ℕ
  pub end_ms : ℕ

-- The numbers of a row's information elements in a record.

-- the number of an element of a direction in values: that of the bytes, in network byte order, of the first value whose
-- field is usable for it
abbrev pub element : Option ℕ → List FieldValueView → ℕ → Option ℕ
element direction values number =
    option_map (λ v. big_number (length v.value) v.value)
    (find (λ v. is_usable direction number v.field) values)

-- The rows of a record, from the numbers of its elements.

-- the number of the first of two elements that is there, or 0: the count since the last report precedes that since the
-- flow began
abbrev pub either : ℕ → ℕ → (ℕ → Option ℕ) → ℕ
either first second said = unwrap_or (option_or (said first) (said second)) 0

-- the row between two addresses of a version, if both exist; missing numbers are 0
abbrev pub row_between : Version → Option ℕ → Option ℕ → (ℕ → Option ℕ) → Option RowView
row_between version (Some src) (Some dst) said =
    let number : ℕ → ℕ = λ e. unwrap_or (said e) 0 in
    Some (record {
      version = version;
      src = src;
      dst = dst;
      sport = number 7;
      dport = number 11;
      protocol = number 4;
      flags = number 6;
      in_if = number 10;
      out_if = number 14;
      vlan = either 58 243 said;
      src_as = number 16;
      dst_as = number 17;
      packets = either 2 86 said;
      octets = either 1 85 said;
      start_ms = number 152;
      end_ms = number 153;
    })
row_between version _ _ said = None

-- the row of the numbers of the elements: between the IPv4 addresses, or otherwise between the IPv6 addresses
abbrev pub row_of_elements : (ℕ → Option ℕ) → Option RowView
row_of_elements said =
    option_or (row_between V4 (said 8) (said 12) said) (row_between V6 (said 27) (said 28) said)

-- the first row of a record; an options record has none
abbrev pub first_row : Record → Option RowView
first_row r = if same_kind r.kind Flow then row_of_elements (element forward r.fields) else None

-- the row of the reverse direction of a row, from the numbers of that direction, if it has packets: addresses, ports,
-- interfaces and ASes are exchanged, the protocol and the VLAN are the same, and a missing time is that of the row
abbrev pub row_back : (ℕ → Option ℕ) → RowView → Option RowView
row_back said row = if either 2 86 said == 0 then None else Some (record row {
  src = row.dst;
  dst = row.src;
  sport = row.dport;
  dport = row.sport;
  flags = unwrap_or (said 6) 0;
  in_if = row.out_if;
  out_if = row.in_if;
  src_as = row.dst_as;
  dst_as = row.src_as;
  packets = either 2 86 said;
  octets = either 1 85 said;
  start_ms = unwrap_or (said 152) row.start_ms;
  end_ms = unwrap_or (said 153) row.end_ms;
})

-- the second row of a record: that of the reverse direction of its first row, if it has a first row and packets went
-- back
abbrev pub second_row : Record → Option RowView
second_row r = option_and_then (row_back (element back r.fields)) (first_row r)

-- the rows of a record in order: none, one or two
abbrev pub rows_of_record : Record → List RowView
rows_of_record r = option_to_list (first_row r) ++ option_to_list (second_row r)
