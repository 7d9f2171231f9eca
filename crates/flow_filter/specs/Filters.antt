use Rattle.std.specs.Prelude.{◌≡◌, ◌⊎◌, ℕ, ◌+◌, ◌++◌, ◌∷◌, Bool, true, false}
use Rattle.std.specs.Prelude.{List, Option, None, Err, find, map, option_map}
use Rattle.std.specs.Borrow.{Bor}
use Rattle.std.specs.List.{list_any}
use Rattle.std.specs.List.Sorted.{IsNonDecreasingBy}
use Rattle.prefix_keys.specs.Conversion.{mapped_prefix}
use Rattle.prefix_keys.specs.Text.{AddressOf, BlockOf}
use Rattle.prefix_keys.specs.declared.block.Block.{Block}
use Rattle.prefix_keys.specs.declared.version.Version.TheVariants.{V4, V6}
use Rattle.flow_rows.specs.Elements.{RowView}
use Rattle.flow_rows.specs.Numbers.{about}
use Rattle.flow_filter.specs.Condition.{Condition, FilterFault, Part, Range, RowTest}
use Rattle.flow_filter.specs.Condition.{filter_among, given, in_range, is_malformed, meets_option}
use Rattle.flow_filter.specs.Options.{FilterFaultKind, FilterOption, is_on_labels, kind_of, Bytes, DestinationAddress}
use Rattle.flow_filter.specs.Options.{NoMemory, Number, Packets, SourceAddress}
use Rattle.flow_filter.specs.declared.filter.FilterWords.{FilterWords}

-- How filters are read and stored. Callers of the crate need only `option_texts`, `texts_given` and `IsFault`.

abbrev pub texts_given : List (Option (Bor (List ℕ))) → List (Option (List ℕ))
texts_given texts = map (option_map (λ s. s.now)) texts

abbrev pub option_texts : FilterWords → List (Option (List ℕ))
option_texts words = texts_given words.texts

-- the option is given, and no option before it has a malformed text
pub record IsBeingRead (condition : Condition) (o : FilterOption) : Type 0 where
  pub before : Condition
  pub text : List ℕ
  pub after : Condition
  pub split : condition ≡ before ++ (o, text) ∷ after
  pub sound : find is_malformed before ≡ None

-- an allocation failed while an option was read, or the fault is the first one of the texts
abbrev pub IsFault : List FilterOption → List (Option (List ℕ)) → FilterFault → Type 0
IsFault options texts fault =
    ((fault.kind ≡ NoMemory) × IsBeingRead (given texts options) fault.option)
    ⊎ (filter_among options texts ≡ Err fault)

-- the kind of the fault of a part
abbrev pub IsRefused : Part → FilterFaultKind → Type 0
IsRefused part kind = (kind ≡ NoMemory) ⊎ ((is_malformed part ≡ true) × (kind ≡ kind_of part.0))

-- a block without the proofs of its invariants
abbrev pub plain_block : Block → BlockOf
plain_block block = (block.version, block.value, block.len)

-- the number of the address as an IPv6 address
abbrev pub mapped_number : AddressOf → ℕ
mapped_number (V4, value) = value + mapped_prefix
mapped_number (V6, value) = value

-- the number is in one of the ranges
abbrev pub in_ranges : List Range → ℕ → Bool
in_ranges ranges n = list_any (in_range n) ranges

-- neither the lower ends of the ranges nor their higher ends descend
abbrev pub AreAscending : List Range → Type 0
AreAscending ranges = IsNonDecreasingBy (λ range. range.low) ranges × IsNonDecreasingBy (λ range. range.high) ranges

-- the number of a row that the ranges of an option have
abbrev pub tested_number : FilterOption → RowView → ℕ
tested_number (Number number) row = (about number).1.1 row
tested_number SourceAddress row = mapped_number (row.version, row.src)
tested_number DestinationAddress row = mapped_number (row.version, row.dst)
tested_number Packets row = row.packets
tested_number Bytes row = row.octets
tested_number o row = 0

abbrev pub by_range : FilterOption → Range → RowTest
by_range o range label row = in_range (tested_number o row) range

-- the text is well formed, and unless it is a label, a row meets the option if and only if its number is in the ranges
pub record HasRanges (part : Part) (ranges : List Range) : Type 0 where
  pub sound : is_malformed part ≡ false
  pub ascending : is_on_labels part.0 ≡ false → AreAscending ranges
  pub numbers : is_on_labels part.0 ≡ false → (label : AddressOf → Option (List ℕ)) (row : RowView)
      → meets_option label row part ≡ in_ranges ranges (tested_number part.0 row)
