use Rattle.std.specs.Prelude.{◌≡◌, ℕ, ◌+◌, ◌≤◌, ◌==◌, All, List, [], length, map, take, Bool}
use Rattle.std.specs.Prelude.{Option, Some, None, option_and_then, option_map, unwrap_or, if◌then◌else◌}
use Rattle.prefix_keys.specs.declared.version.Version.{Version}
use Rattle.prefix_keys.specs.declared.version.Version.TheVariants.{V4, V6}
use Rattle.ipfix_templates.specs.declared.field.Field.{Field}
use Rattle.ipfix_templates.specs.declared.kind.Kind.{Kind}
use Rattle.ipfix_templates.specs.declared.layout.Place.{Place}
use Rattle.ipfix_templates.specs.declared.layout.Places.{Places}
use Rattle.ipfix_templates.specs.declared.layout.RowLayout.{RowLayout}
use Rattle.ipfix_templates.specs.Layout.{layout_of}
use Rattle.ipfix_templates.specs.Runs.{runs_from}
use Rattle.ipfix_read.specs.declared.record.Record.{Record}
use Rattle.ipfix_read.specs.Value.{after_runs, bytes_at}
use Rattle.byteorder.specs.Endian.{big_number}
use Rattle.flow_rows.specs.Elements.{RowView}

-- What is read at the places of a row's numbers. This is private, and callers of the crate need not read it.

-- the bytes at a place in a record, given the runs of bytes before its values of variable length
abbrev pub bytes_there : Place → List ℕ → List ℕ → Option (List ℕ)
bytes_there p runs bytes =
    option_and_then (λ rest. option_map (λ v. v.0) (bytes_at p.length rest))
    (after_runs (take p.skips runs) p.offset bytes)

-- the number of bytes in network byte order
abbrev pub big_endian : List ℕ → ℕ
big_endian bytes = big_number (length bytes) bytes

-- the number there, or 0
abbrev pub number_there : Place → List ℕ → List ℕ → ℕ
number_there p runs bytes = big_endian (unwrap_or (bytes_there p runs bytes) [])

abbrev pub version_of : Bool → Version
version_of is_v4 = if is_v4 then V4 else V6

-- the row of the numbers at places
abbrev pub row_at : Places → (Place → ℕ) → RowView
row_at places number = record {
  version = version_of places.is_v4;
  src = number places.src;
  dst = number places.dst;
  sport = number places.sport;
  dport = number places.dport;
  protocol = number places.protocol;
  flags = number places.flags;
  in_if = number places.in_if;
  out_if = number places.out_if;
  vlan = number places.vlan;
  src_as = number places.src_as;
  dst_as = number places.dst_as;
  packets = number places.packets;
  octets = number places.octets;
  start_ms = number places.start_ms;
  end_ms = number places.end_ms;
}

-- the number has at most this many bytes, and is in a record of this size unless values of variable length are before
-- it
pub record IsWithin (most size : ℕ) (p : Place) : Type 0 where
  pub short : p.length ≤ most
  pub within : p.skips ≡ 0 → p.offset + p.length ≤ size

-- the numbers are as long as a row's numbers are at most, in a record of this size
pub record AreUsable (size : ℕ) (places : Places) : Type 0 where
  pub src : IsWithin (if places.is_v4 then 4 else 16) size places.src
  pub dst : IsWithin (if places.is_v4 then 4 else 16) size places.dst
  pub src_is : places.src.length ≡ (if places.is_v4 then 4 else 16)
  pub dst_is : places.dst.length ≡ (if places.is_v4 then 4 else 16)
  pub sport : IsWithin 2 size places.sport
  pub dport : IsWithin 2 size places.dport
  pub protocol : IsWithin 1 size places.protocol
  pub flags : IsWithin 2 size places.flags
  pub in_if : IsWithin 4 size places.in_if
  pub out_if : IsWithin 4 size places.out_if
  pub vlan : IsWithin 2 size places.vlan
  pub src_as : IsWithin 4 size places.src_as
  pub dst_as : IsWithin 4 size places.dst_as
  pub packets : IsWithin 8 size places.packets
  pub octets : IsWithin 8 size places.octets
  pub start_ms : IsWithin 8 size places.start_ms
  pub end_ms : IsWithin 8 size places.end_ms

-- the second row of the bytes of a record with this layout, if packets are counted in that direction
abbrev pub second_at : RowLayout → List ℕ → List ℕ → Option RowView
second_at layout runs bytes =
    let row = row_at layout.second (λ place. number_there place runs bytes) in
    if row.packets == 0 then None else Some row

-- these records all have the same kind and the same fields, which have this layout
pub record HaveLayout (layout : RowLayout) (runs : List ℕ) (records : List Record) : Type 0 where
  pub kind : Kind
  pub fields : List Field
  pub layout_is : Some layout ≡ layout_of kind fields
  pub runs_are : runs ≡ runs_from 0 fields
  pub of_kind : All (λ r. r.kind ≡ kind) records
  pub same : All (λ r. map (λ v. v.field) r.fields ≡ fields) records
