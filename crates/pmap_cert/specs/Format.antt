use Rattle.std.specs.Prelude.{◌≡◌, ℕ}
use Rattle.std.specs.Coded.{×_prop, →_prop, Unit-prop}
use Rattle.prefix_keys.specs.declared.version.Version.{Version}
use Rattle.pmap_cert.specs.CertificateModel.{ChainNode, InnerNode, IsPlain, LeafNode}
use Rattle.pmap_cert.specs.Node.{Node}
pub use Rattle.pmap_cert.specs.declared.format.Format.{Format}
pub use Rattle.pmap_cert.specs.declared.format.Format.TheVariants.{One, Two}

abbrev pub format_number : Format → ℕ
format_number One = 1
format_number Two = 2

-- the format number, the version and the number of labels of a header
abbrev pub header_of : Format × Version × ℕ → ℕ × (Version × ℕ)
header_of h = (format_number h.0, (h.1, h.2))

-- the format allows the node: in format 1 it has no chain
abbrev pub IsNodeOf : Format → Node → Type 0
IsNodeOf format node = format ≡ One → IsPlain node

IsPlain-prop : (node : Node) → IsProp (IsPlain node)
IsPlain-prop (LeafNode number) = Unit-prop
IsPlain-prop (InnerNode claim lower upper) = ×_prop (IsPlain-prop lower) (IsPlain-prop upper)
IsPlain-prop (ChainNode claim bits side end) = λ x y. absurd x

pub IsNodeOf-prop : (format : Format) (node : Node) → IsProp (IsNodeOf format node)
IsNodeOf-prop format node = →_prop (IsPlain-prop node)
