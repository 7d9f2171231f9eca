use Rattle.std.specs.Prelude.{ℕ, ◌==◌, Bool, true, false, List, [], ◌∷◌, ◌++◌, Option, Result, Err, codes}
use Rattle.std.specs.Prelude.{find, filter_map, fold, is_none, ok_or, if◌then◌else◌, Some, None, map}
use Rattle.std.specs.List.{list_any, slice_split}
use Rattle.std.specs.Option.{option_map_or}
use Rattle.std.specs.Str.{bytes_eq}
use Rattle.std.specs.Cmp.Lexicographic.{pointwise, slice_cmp}
use Rattle.std.specs.Ordering.{nat_cmp}
use Rattle.std.specs.declared.cmp.Ordering.{Ordering}
use Rattle.prefix_keys.specs.Text.{AddressOf}
use Rattle.prefix_keys.specs.Block.{width_of}
use Rattle.pmap_model.specs.MapModel.{Label}
use Rattle.flow_rows.specs.Elements.{RowView}
pub use Rattle.flow_uniq.specs.declared.field.KeyField.{KeyField}
pub use Rattle.flow_uniq.specs.declared.field.TimeUnit.{TimeUnit}
pub use Rattle.flow_uniq.specs.declared.field.Precision.{Precision}
pub use Rattle.flow_uniq.specs.declared.field.Precision.TheVariants.{Day, Hour, Minute}
use Rattle.flow_uniq.specs.Times.{precision_name, precision_number, unit_start}
use Rattle.flow_uniq.specs.declared.field.KeyField.TheVariants.{SourceAddress, DestinationAddress}
use Rattle.flow_uniq.specs.declared.field.KeyField.TheVariants.{Number, SourceLabel, DestinationLabel, Start}
use Rattle.flow_rows.specs.declared.number.TheConstants.{MORE_NUMBERS, NUMBERS}
use Rattle.flow_rows.specs.Numbers.{about}
pub use Rattle.flow_uniq.specs.declared.fault.KeyFault.{KeyFault}
pub use Rattle.flow_uniq.specs.declared.fault.KeyFault.TheVariants.{BadField, FieldRepeated, NoMemory}

-- The fields of keys, and the texts that name them.

-- the name of a field
abbrev pub field_name : KeyField → List ℕ
field_name SourceAddress = codes "sip"
field_name DestinationAddress = codes "dip"
field_name (Number number) = (about number).0
field_name SourceLabel = codes "src-label"
field_name DestinationLabel = codes "dst-label"
field_name (Start unit) = precision_name unit.precision

-- the fields that a text can name, and those with the numbers that are no columns of rows
abbrev pub all_fields : List KeyField
all_fields =
    SourceAddress ∷ DestinationAddress ∷ map Number NUMBERS ++ SourceLabel ∷ DestinationLabel ∷ []

abbrev pub many_fields : List KeyField
many_fields = all_fields ++ map Number MORE_NUMBERS

-- whether the field is a label
abbrev pub is_label_field : KeyField → Bool
is_label_field SourceLabel = true
is_label_field DestinationLabel = true
is_label_field _ = false

-- whether some field is a label, so that rows have no keys without a map
abbrev pub fields_need_labels : List KeyField → Bool
fields_need_labels fields = list_any is_label_field fields

-- the items of a text, separated by commas
abbrev pub items_of : List ℕ → List (List ℕ)
items_of text = slice_split (λ b. b == 44) text

-- of known fields
module _ (known : List KeyField) where
  -- the field with this name
  abbrev pub field_named : List ℕ → Option KeyField
  field_named text = find (λ field. bytes_eq (field_name field) text) known

  -- whether an item is not the name of a field
  abbrev pub has_unnamed : List (List ℕ) → Bool
  has_unnamed items = list_any (λ item. is_none (field_named item)) items

  -- the fields that the items name
  abbrev pub named_fields : List (List ℕ) → List KeyField
  named_fields items = filter_map field_named items

-- whether both have the same name, and so are the same field
abbrev pub same_field : KeyField → KeyField → Bool
same_field a b = bytes_eq (field_name a) (field_name b)

-- fields followed by another one, or none if that field is one of them
abbrev pub with_field : Option (List KeyField) → KeyField → Option (List KeyField)
with_field None field = None
with_field (Some fields) field =
    if list_any (same_field field) fields then None else Some (fields ++ field ∷ [])

-- the fields, if each occurs once
abbrev pub each_once : List KeyField → Option (List KeyField)
each_once fields = fold with_field (Some []) fields

-- the result of reading a text: the known fields that its items name, or its fault
abbrev pub keys_among : List KeyField → List ℕ → Result (List KeyField) KeyFault
keys_among known text =
    if has_unnamed known (items_of text) then Err BadField
    else ok_or (each_once (named_fields known (items_of text))) FieldRepeated

-- What a row has in its fields, and how it compares.

-- a part of a key: an address, a number, the text of a label or none, or the number of a day, an hour or a minute or
-- none
pub data KeyPartModel : Type 0 where
  AddressPart : (address : AddressOf) → KeyPartModel
  NumberPart : (number : ℕ) → KeyPartModel
  LabelPart : (label : Option Label) → KeyPartModel
  TimePart : (precision : Precision) (number : Option ℕ) → KeyPartModel

abbrev pub Key : Type 0
Key = List KeyPartModel

module _ (label : AddressOf → Option Label) where
  -- the part for a field of a row, if each address has this label
  abbrev pub key_part : RowView → KeyField → KeyPartModel
  key_part row SourceAddress = AddressPart (row.version, row.src)
  key_part row DestinationAddress = AddressPart (row.version, row.dst)
  key_part row (Number number) = NumberPart ((about number).1.1 row)
  key_part row SourceLabel = LabelPart (label (row.version, row.src))
  key_part row DestinationLabel = LabelPart (label (row.version, row.dst))
  key_part row (Start unit) = TimePart unit.precision (unit_start unit row.start_ms)

  -- the key of a row: the parts for these fields, in order
  abbrev pub key_of : List KeyField → RowView → Key
  key_of fields row = map (key_part row) fields

-- the numbers by which parts are distinguished and ordered: the number of the kind, followed by the width and the value
-- of an address, by the number itself, by a zero and the bytes of a label, or by how exact a time is and its number; a
-- missing label or time has no numbers
abbrev pub part_numbers : KeyPartModel → List ℕ
part_numbers (AddressPart address) = 0 ∷ width_of address.0 ∷ address.1 ∷ []
part_numbers (NumberPart number) = 1 ∷ number ∷ []
part_numbers (LabelPart label) = 2 ∷ option_map_or (λ text. 0 ∷ text) label []
part_numbers (TimePart precision number) =
    3 ∷ precision_number precision ∷ option_map_or (λ n. n ∷ []) number []

-- how two parts compare
abbrev pub compare_parts : KeyPartModel → KeyPartModel → Ordering
compare_parts p q = slice_cmp nat_cmp (part_numbers p) (part_numbers q)

-- Below: only contracts of parts and proofs use these; no promise of the program rests on them.

-- the result of reading a text that names fields of `flowlabel`
abbrev pub keys_reading : List ℕ → Result (List KeyField) KeyFault
keys_reading text = keys_among all_fields text

-- the start of a unit of time, followed by fields, if each occurs once
abbrev pub with_unit : TimeUnit → List KeyField → Option (List KeyField)
with_unit unit fields = fold with_field (Some (Start unit ∷ [])) fields

-- whether the keys have equal parts
abbrev pub same_key : Key → Key → Bool
same_key a b = pointwise (λ p q. bytes_eq (part_numbers p) (part_numbers q)) a b
