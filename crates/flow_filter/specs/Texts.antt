use Rattle.std.specs.Prelude.{ℕ, ◌&&◌, ◌==◌, Bool, List, Option, Some, None, length, nat_le, option_map, if◌then◌else◌}
use Rattle.std.specs.List.{after_first, before_first, list_any}
use Rattle.std.specs.Result.{result_ok}
use Rattle.prefix_keys.specs.Text.{BlockOf, address_of, block_of_text, decimal_number}
use Rattle.prefix_keys.specs.Block.{width_of}
use Rattle.flow_filter.specs.declared.ranges.Range.{Range}

-- The written forms of filters.

-- the numbers from the first to the second, which isn't less
abbrev pub range_between : Option ℕ → Option ℕ → Option Range
range_between (Some low) (Some high) =
    if nat_le low high then Some (record { low = low; high = high }) else None
range_between _ _ = None

-- the numbers of a text `N` or `N-M`, or `N-` if the range may be open: all from N to the limit; without a `-` the
-- upper end is the lower end; a number has up to 20 digits
abbrev pub number_range : Bool → ℕ → List ℕ → Option Range
number_range may_be_open limit text =
    let low = decimal_number 20 limit (before_first (λ b. b == 45) text) in
    let rest = after_first (λ b. b == 45) text in
    range_between low (if list_any (λ b. b == 45) text
    then (if may_be_open && length rest == 0 then Some limit else decimal_number 20 limit rest)
    else low)

-- an item of an address list: a block if there is a `/`, otherwise an address, as the block of this address alone
abbrev pub address_item : List ℕ → Option BlockOf
address_item text =
    if list_any (λ b. b == 47) text then result_ok (block_of_text text)
    else option_map (λ address. (address.0, address.1, width_of address.0)) (address_of text)
