use Rattle.std.specs.Prelude.{ℕ, ◌-◌, ◌^◌, List, codes}
use Rattle.flow_rows.specs.Elements.{RowView}
use Rattle.flow_rows.specs.declared.number.Number.{Number}
use Rattle.flow_rows.specs.declared.number.Number.TheVariants.{SourcePort, DestinationPort, Protocol, Flags}
use Rattle.flow_rows.specs.declared.number.Number.TheVariants.{InputInterface, OutputInterface, Vlan}
use Rattle.flow_rows.specs.declared.number.Number.TheVariants.{SourceAs, DestinationAs}

-- The numbers of a row of up to 32 bits.

-- the name of a number, its maximum, and the number that a row has
abbrev pub about : Number → List ℕ × (ℕ × (RowView → ℕ))
about SourcePort = (codes "sport", (65535, λ r. r.sport))
about DestinationPort = (codes "dport", (65535, λ r. r.dport))
about Protocol = (codes "proto", (255, λ r. r.protocol))
about Flags = (codes "flags", (65535, λ r. r.flags))
about InputInterface = (codes "in-if", (2 ^ 32 - 1, λ r. r.in_if))
about OutputInterface = (codes "out-if", (2 ^ 32 - 1, λ r. r.out_if))
about Vlan = (codes "vlan", (65535, λ r. r.vlan))
about SourceAs = (codes "src-as", (2 ^ 32 - 1, λ r. r.src_as))
about DestinationAs = (codes "dst-as", (2 ^ 32 - 1, λ r. r.dst_as))
