use Rattle.std.specs.Prelude.{ℕ, ◌-◌, ◌^◌, ◌==◌, Bool, true, false, List, [], ◌∷◌, ◌++◌, Option, Some, None}
use Rattle.std.specs.Prelude.{Result, Ok, Err, ◌&&◌, nat_le, ◌||◌, filter, find, is_none, map, option_map}
use Rattle.std.specs.List.{list_all, list_any, slice_split}
use Rattle.std.specs.Option.{option_eq, option_map_or, option_to_list}
use Rattle.std.specs.Str.{bytes_eq}
use Rattle.prefix_keys.specs.Block.{block_number, width_of}
use Rattle.prefix_keys.specs.Conversion.{converted}
use Rattle.prefix_keys.specs.Text.{AddressOf, BlockOf, all_some}
use Rattle.label_lookup.specs.Labelling.{Labelling, label_where}
use Rattle.flow_rows.specs.Elements.{RowView}
use Rattle.flow_rows.specs.Numbers.{about}
use Rattle.flow_filter.specs.Options.{FilterOption, is_list, is_on_labels, kind_of, AnyLabel}
use Rattle.flow_filter.specs.Options.{Bytes, DestinationAddress, DestinationLabel, Number}
use Rattle.flow_filter.specs.Options.{Packets, SourceAddress, SourceLabel}
use Rattle.flow_filter.specs.Texts.{address_item, number_range}
pub use Rattle.flow_filter.specs.declared.fault.FilterFault.{FilterFault}
use Rattle.flow_filter.specs.declared.option.TheConstants.{ALL_OPTIONS}
pub use Rattle.flow_filter.specs.declared.ranges.Range.{Range}

-- The rows that meet the options of a filter.

-- the block covers the address after conversion to the block's version
abbrev pub covers_converted : BlockOf → AddressOf → Bool
covers_converted (version, value, len) address =
    let block = block_number (width_of version) len in
    option_map_or (λ found. block found.1 == block value) (converted version address) false

-- a test of a row, by the labels of its addresses
abbrev pub RowTest : Type 0
RowTest = (AddressOf → Option (List ℕ)) → RowView → Bool

-- the number is in the range, its ends included
abbrev pub in_range : ℕ → Range → Bool
in_range n r = nat_le r.low n && nat_le n r.high

-- the test that an item states: a number of the row is in the item's range, the item's block covers an address of the
-- row, or the item is the label of an address of the row
abbrev pub by_number : (RowView → ℕ) → Bool → ℕ → List ℕ → Option RowTest
by_number number may_be_open limit item =
    option_map (λ range label row. in_range (number row) range)
    (number_range may_be_open limit item)

abbrev pub by_address : (RowView → ℕ) → List ℕ → Option RowTest
by_address address item =
    option_map (λ block label row. covers_converted block (row.version, address row))
    (address_item item)

abbrev pub by_label : (RowView → ℕ) → List ℕ → RowTest
by_label address item label row = option_eq bytes_eq (label (row.version, address row)) (Some item)

-- the test that an item of an option's text states
abbrev pub item_test : FilterOption → List ℕ → Option RowTest
item_test (Number n) item = by_number (about n).1.1 false (about n).1.0 item
item_test SourceAddress item = by_address (λ row. row.src) item
item_test DestinationAddress item = by_address (λ row. row.dst) item
item_test Packets item = by_number (λ row. row.packets) true (2 ^ 64 - 1) item
item_test Bytes item = by_number (λ row. row.octets) true (2 ^ 64 - 1) item
item_test SourceLabel item = Some (by_label (λ row. row.src) item)
item_test DestinationLabel item = Some (by_label (λ row. row.dst) item)
item_test AnyLabel item =
    Some (λ label row. by_label (λ row. row.src) item label row
    || by_label (λ row. row.dst) item label row)

-- an option that is given, with its text
abbrev pub Part : Type 0
Part = FilterOption × List ℕ

-- the tests of an option's items, if all items are well formed; the items are those between commas if the text is a
-- list, otherwise the whole text
abbrev pub tests_of : Part → Option (List RowTest)
tests_of (o, text) = all_some (map (item_test o) (slice_split (λ b. is_list o && b == 44) text))

abbrev pub is_malformed : Part → Bool
is_malformed part = is_none (tests_of part)

-- the row meets one of the tests of an option that is given
abbrev pub meets_option : (AddressOf → Option (List ℕ)) → RowView → Part → Bool
meets_option label row part =
    option_map_or (list_any (λ test. test label row)) (tests_of part) false

-- A condition: the options that are given.

abbrev pub Condition : Type 0
Condition = List Part

-- an option on labels is given
abbrev pub condition_needs_labels : Condition → Bool
condition_needs_labels condition = list_any (λ part. is_on_labels part.0) condition

-- the rows that meet each option given, under a labelling or without one
abbrev pub passing : Condition → Option Labelling → List RowView → List RowView
passing condition labels rows =
    filter (λ row. list_all (meets_option (label_where labels) row) condition) rows

-- the options that have a text, with their texts
abbrev pub given : List (Option (List ℕ)) → List FilterOption → Condition
given (text ∷ texts) (o ∷ os) = option_to_list (option_map (λ t. (o, t)) text) ++ given texts os
given texts os = []

abbrev pub fault_of : Part → FilterFault
fault_of part = record { option = part.0; kind = kind_of part.0 }

abbrev pub unless_malformed : Condition → Option Part → Result Condition FilterFault
unless_malformed condition None = Ok condition
unless_malformed condition (Some part) = Err (fault_of part)

-- the condition that the texts of these options state, or the fault of the first that is malformed
abbrev pub filter_among : List FilterOption → List (Option (List ℕ)) → Result Condition FilterFault
filter_among options texts =
    let condition = given texts options in
    unless_malformed condition (find is_malformed condition)

-- Below: only contracts of parts and proofs use these; no promise of the program rests on them.

-- the condition that the texts of the options of `flowlabel` state, or the fault of the first that is malformed
abbrev pub filter_of : List (Option (List ℕ)) → Result Condition FilterFault
filter_of texts = filter_among ALL_OPTIONS texts

-- the row meets each option given, with these labels of addresses
abbrev pub row_passes : Condition → (AddressOf → Option (List ℕ)) → RowView → Bool
row_passes condition label row = list_all (meets_option label row) condition
