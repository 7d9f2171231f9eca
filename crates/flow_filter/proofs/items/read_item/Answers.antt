use Rattle.std.proofs.Common.{◌≡◌, ◌∙◌, Option, Some, None, inl, inr, ap}
use Rattle.std.specs.Prelude.{ok_or, option_map}
use Rattle.std.specs.Result.{result_map_both}
use Rattle.flow_filter.specs.Condition.{Range, RowTest}
use Rattle.flow_filter.specs.Filters.{by_range}
use Rattle.flow_filter.specs.Options.{FilterFaultKind, SourceAddress, DestinationAddress}
use Rattle.flow_filter.proofs.items.read_item.Goals as goal

-- a range that is read or not
range_or : (test : Range → RowTest) (range : Option Range) (tests : Option RowTest) (kind : FilterFaultKind)
    → option_map test range ≡ tests → result_map_both test (λ k. k) (ok_or range kind) ≡ ok_or tests kind
range_or test None tests kind is = ap (λ o. ok_or o kind) is
range_or test (Some range) tests kind is = ap (λ o. ok_or o kind) is

pub returns-in-SourceAddress : goal.returns-in-SourceAddress
returns-in-SourceAddress c = elim c.in-SourceAddress.is [
  | inl is ↦
      rw is (ap (result_map_both (by_range SourceAddress) (λ kind. kind)) c.ok_or-in-SourceAddress.ensures.value
      ∙ range_or (by_range SourceAddress) c.read_addresses.result _ _ (c.read_addresses.ensures (λ row. row.src)))
  | inr is ↦
      rw is (ap (result_map_both (by_range DestinationAddress) (λ kind. kind)) c.ok_or-in-SourceAddress.ensures.value
      ∙ range_or (by_range DestinationAddress) c.read_addresses.result _ _ (c.read_addresses.ensures (λ row. row.dst)))
]
