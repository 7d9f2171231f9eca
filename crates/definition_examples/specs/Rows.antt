use Rattle.std.specs.Prelude.{ℕ, List, [], ◌∷◌, ◌+◌, ◌*◌, ◌==◌, Some, None, codes, filter, length, not}
use Rattle.std.specs.Fmt.{digits}
use Rattle.prefix_keys.specs.Text.{hex_digit_value}
use Rattle.prefix_keys.specs.declared.version.Version.TheVariants.{V4, V6}
use Rattle.ipfix_templates.specs.declared.field.Field.{Field}
use Rattle.ipfix_templates.specs.declared.kind.Kind.TheVariants.{Flow}
use Rattle.ipfix_read.specs.Value.{FieldValueView, value_at, values_at}
use Rattle.ipfix_templates.specs.Elements.{fits}
use Rattle.flow_rows.specs.Elements.{RowView, rows_of_record}

-- Records and rows of examples.

-- Unfolds the opaque definitions on which rows and their texts rest.
unfoldable pub opened : List FieldValueView → List RowView
unfolding digits fits value_at values_at
opened values = rows_of_record (record { kind = Flow; fields = values })

-- the bytes of a text of hexadecimal digits and blanks
abbrev pub pairs : List ℕ → List ℕ
pairs (a ∷ b ∷ text) = (hex_digit_value a * 16 + hex_digit_value b) ∷ pairs text
pairs _ = []

abbrev pub hex : List ℕ → List ℕ
hex text = pairs (filter (λ b. not (b == 32)) text)

-- a field of an information element, and one of the reverse direction
abbrev pub field : ℕ → ℕ → Field
field number bytes = record { enterprise = None; number = number; length = bytes }

abbrev pub reverse_field : ℕ → ℕ → Field
reverse_field number bytes = record { enterprise = Some 29305; number = number; length = bytes }

-- a value of an element as bytes in hexadecimal, and one of the reverse direction
abbrev pub value : ℕ → List ℕ → FieldValueView
value number text = record { field = field number (length (hex text)); value = hex text }

abbrev pub reverse : ℕ → List ℕ → FieldValueView
reverse number text = record { field = reverse_field number (length (hex text)); value = hex text }

-- the rows of a flow record with these values
abbrev pub rows_of : List FieldValueView → List RowView
rows_of values = rows_of_record (record { kind = Flow; fields = values })

-- the rows of a flow record from 10.0.0.1 to 10.0.0.2 with these values, too
abbrev pub rows_with : List FieldValueView → List RowView
rows_with values = rows_of (value 8 (codes "0a000001") ∷ value 12 (codes "0a000002") ∷ values)

-- the addresses 2001:db8::1 and 2001:db8::2, and the values of a flow between them
abbrev pub first_ipv6 : FieldValueView
first_ipv6 = value 27 (codes "20010db8000000000000000000000001")

abbrev pub second_ipv6 : FieldValueView
second_ipv6 = value 28 (codes "20010db8000000000000000000000002")

-- the row from 10.0.0.1 to 10.0.0.2 without other values
abbrev pub plain : RowView
plain = record {
  version = V4;
  src = 0x0a00_0001;
  dst = 0x0a00_0002;
  sport = 0;
  dport = 0;
  protocol = 0;
  flags = 0;
  in_if = 0;
  out_if = 0;
  vlan = 0;
  src_as = 0;
  dst_as = 0;
  packets = 0;
  octets = 0;
  start_ms = 0;
  end_ms = 0;
}

-- the row of two packets back from 10.0.0.2 to 10.0.0.1
abbrev pub plain_back : RowView
plain_back = record plain { src = 0x0a00_0002; dst = 0x0a00_0001; packets = 2 }

-- the row from 2001:db8::1 to 2001:db8::2 without other values
abbrev pub plain_ipv6 : RowView
plain_ipv6 = record plain {
  version = V6;
  src = 0x2001_0db8_0000_0000_0000_0000_0000_0001;
  dst = 0x2001_0db8_0000_0000_0000_0000_0000_0002;
}

-- the values of the flow of TCP below
abbrev pub tcp_values : List FieldValueView
tcp_values =
    value 8 (codes "0a000000") ∷ value 12 (codes "c63364e4") ∷ value 7 (codes "070c") ∷ value 11 (codes "01bb")
    ∷ value 4 (codes "06") ∷ value 6 (codes "1b") ∷ value 2 (codes "00000005") ∷ value 1 (codes "00000222")
    ∷ value 152 (codes "0000018bcfe66dd6") ∷ value 153 (codes "0000018bcfe66f22") ∷ []

-- a flow of TCP from 10.0.0.0 to 198.51.100.228, which softflowd reported, and the way back
abbrev pub tcp : RowView
tcp = record plain {
  src = 0x0a00_0000;
  dst = 0xc633_64e4;
  sport = 1804;
  dport = 443;
  protocol = 6;
  flags = 27;
  packets = 5;
  octets = 546;
  start_ms = 1700000067030;
  end_ms = 1700000067362;
}

abbrev pub tcp_back : RowView
tcp_back = record plain {
  src = 0xc633_64e4;
  dst = 0x0a00_0000;
  sport = 443;
  dport = 1804;
  protocol = 6;
  flags = 19;
  packets = 2;
  octets = 80;
  start_ms = 1700000067030;
  end_ms = 1700000067362;
}
