use Rattle.std.specs.Prelude.{ℕ, ◌+◌, ◌-◌, ◌*◌, ◌^◌, ◌==◌, Option, Some, None, if◌then◌else◌}
use Rattle.prefix_keys.specs.Block.{block_number, Version, V4, V6}
use Rattle.prefix_keys.specs.Text.{AddressOf}

-- IPv4 addresses among the IPv6 addresses: the block ::ffff:0:0/96 (RFC 4291, section 2.5.5.2).

-- the number of ::ffff:0:0
abbrev pub mapped_prefix : ℕ
mapped_prefix = 65535 * 2 ^ 32

-- the address in the given version, unchanged if it is of that version; none for an IPv6 address that maps no IPv4
-- address
abbrev pub converted : Version → AddressOf → Option AddressOf
converted V4 (V6, value) =
    if block_number 128 96 value == block_number 128 96 mapped_prefix
    then Some (V4, value - mapped_prefix) else None
converted V6 (V4, value) = Some (V6, value + mapped_prefix)
converted _ address = Some address
