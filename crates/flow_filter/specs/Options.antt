use Rattle.std.specs.Prelude.{ℕ, Bool, true, false, List, codes}
pub use Rattle.flow_filter.specs.declared.fault.FilterFaultKind.{FilterFaultKind}
pub use Rattle.flow_filter.specs.declared.fault.FilterFaultKind.TheVariants.{BadBlock, BadNumberList}
pub use Rattle.flow_filter.specs.declared.fault.FilterFaultKind.TheVariants.{BadRange, NoMemory}
pub use Rattle.flow_filter.specs.declared.option.FilterOption.{FilterOption}
pub use Rattle.flow_filter.specs.declared.option.FilterOption.TheVariants.{AnyLabel, Bytes, DestinationAddress}
pub use Rattle.flow_filter.specs.declared.option.FilterOption.TheVariants.{DestinationLabel, Number}
pub use Rattle.flow_filter.specs.declared.option.FilterOption.TheVariants.{Packets, SourceAddress}
pub use Rattle.flow_filter.specs.declared.option.FilterOption.TheVariants.{SourceLabel}
use Rattle.flow_rows.specs.declared.number.Number.TheVariants.{Protocol}
use Rattle.flow_rows.specs.Numbers.{about}

-- The options of filters.

-- the name of an option
abbrev pub name_of : FilterOption → List ℕ
name_of (Number Protocol) = codes "protocol"
name_of (Number number) = (about number).0
name_of SourceAddress = codes "saddress"
name_of DestinationAddress = codes "daddress"
name_of Packets = codes "packets"
name_of Bytes = codes "bytes"
name_of SourceLabel = codes "src-label"
name_of DestinationLabel = codes "dst-label"
name_of AnyLabel = codes "any-label"

-- the text is a list of items, separated by commas: it is no range, and no label
abbrev pub is_list : FilterOption → Bool
is_list Packets = false
is_list Bytes = false
is_list SourceLabel = false
is_list DestinationLabel = false
is_list AnyLabel = false
is_list o = true

-- the text is a label
abbrev pub is_on_labels : FilterOption → Bool
is_on_labels SourceLabel = true
is_on_labels DestinationLabel = true
is_on_labels AnyLabel = true
is_on_labels o = false

-- the fault of a text that is malformed; any text is a label
abbrev pub kind_of : FilterOption → FilterFaultKind
kind_of SourceAddress = BadBlock
kind_of DestinationAddress = BadBlock
kind_of Packets = BadRange
kind_of Bytes = BadRange
kind_of o = BadNumberList
