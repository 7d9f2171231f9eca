-- Trees without chains: those of minimal pairs, and those that the code keeps.
use Rattle.std.proofs.Common.{ℕ, suc, ◌+◌, ◌*◌, List, inl, inr, refl}
use Rattle.prefix_keys.specs.declared.version.Version.{Version}
use Rattle.pmap_model.specs.MapModel.{Label, MapModel}
use Rattle.pmap_model.specs.MapText.{text_at}
use Rattle.pmap_cert.specs.CertificateModel.{ChainNode, InnerNode, LeafNode, Tree, IsOfFormat, IsPlain}
use Rattle.pmap_cert.specs.Format.{IsNodeOf, format_number, Format, One, Two}
use Rattle.pmap_cert.specs.Acceptance.{StandsFor}
use Rattle.pmap_cert.specs.Node.{Node, tree_of}
use Rattle.pmap_cert.proofs.Relabelled.{plain-map}

-- a node that represents a block has no chain
pub plain-stands : (m : MapModel) (t : Tree) (n q : ℕ) → StandsFor m t n q → IsPlain t
plain-stands m (LeafNode x) n q h = tt
plain-stands m (InnerNode claim lower upper) n q h =
    (plain-stands m lower (suc n) (2 * q) h.2, plain-stands m upper (suc n) (2 * q + 1) h.3)
plain-stands m (ChainNode claim bits side end) n q h = absurd h

-- a certificate whose root is allowed in its format is of that format
pub of-kind : (table : List Label) (format : Format) (node : Node) (version : Version) → IsNodeOf format node
    → IsOfFormat (record { format = format_number format; version = version; table = table; root = tree_of table node })
of-kind table One node version kind = inl (refl, plain-map (text_at table) node (kind refl))
of-kind table Two node version kind = inr refl
