use Rattle.std.specs.Prelude.{ℕ, List, slice_range, take}
use Rattle.nfcapd_read.specs.declared.pending.Pending.{Pending}

-- the IPv4 and the IPv6 records of a message that is being put together
abbrev pub four_in : Pending → List ℕ
four_in pending = slice_range pending.out.items 20 pending.at

abbrev pub six_in : Pending → List ℕ
six_in pending = take pending.count pending.six.items
