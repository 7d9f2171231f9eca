use Rattle.std.specs.Prelude.{ℕ, ◌≡◌}
use Rattle.std.specs.Net.Addr.{IsIpv4OfBits, IsIpv6OfBits, ipv4_octets, ipv6_segments}
use Rattle.std.specs.Net.Text.{hex_groups_text, ipv4_text}
use Rattle.std.specs.declared.net.ipv4_addr.Ipv4Addr.{Ipv4Addr}
use Rattle.std.specs.declared.net.ipv6_addr.Ipv6Addr.{Ipv6Addr}
use Rattle.prefix_keys.specs.Block.{V4, V6}
use Rattle.prefix_keys.specs.Print.{address_text}

-- Printed texts are those of the standard library, whose definitions are not ours.

-- the printed text of a number is what std's `Ipv4Addr` displays, and what `hex_groups` of std's `Ipv6Addr` displays,
-- of the address that `from_bits` makes of the number
pub record AddressIsDisplayed : Type 0 where
  pub v4 : (number : ℕ) (address : Ipv4Addr) → IsIpv4OfBits address number
      → address_text V4 number ≡ ipv4_text (ipv4_octets address)
  pub v6 : (number : ℕ) (address : Ipv6Addr) → IsIpv6OfBits address number
      → address_text V6 number ≡ hex_groups_text (ipv6_segments address)
