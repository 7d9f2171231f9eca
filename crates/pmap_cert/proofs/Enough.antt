use Rattle.std.proofs.Common.{◌≡◌, ℕ, suc, ◌+◌, ◌-◌, ◌*◌, ◌^◌, ◌<◌, ◌≤◌, List, Some, arith, length, sym, ap, ◌∙◌, subst, ⊎_elim}
use Rattle.prefix_keys.specs.Block.{block_number, first_of, width_of}
use Rattle.prefix_keys.specs.declared.version.Version.{Version}
use Rattle.pmap_model.specs.ListModel.{IsEquivalent, ListModel, Prefix, label_below}
use Rattle.pmap_model.specs.MapModel.{Label, MapModel, map_label}
use Rattle.pmap_cert.specs.Acceptance.{IsAccepted, ListSettles, IsLeast, IsNodeAccepted}
use Rattle.pmap_cert.specs.CertificateModel.{CertificateModel, ChainNode, InnerNode, LeafNode, Claim, Tree, claim_of, IsPlain, opened_certificate}
use Rattle.pmap_cert.proofs.Chains.{claim-opened, opened-accepted, opened-plain}
use Rattle.pmap_model.proofs.Blocks.{block_number-first_of, block_number-halves, block_number-zero}
use Rattle.pmap_cert.proofs.Counts.{count_of-le, is_within}
use Rattle.pmap_cert.proofs.Kernel.{kernel}
use Rattle.pmap_cert.proofs.Longest.{label_below-inside, label_below-same}
use Rattle.pmap_model.proofs.Settled.{map_label-settled}

-- An accepted certificate shows that its list is equivalent to the map and least.

-- a list that decides a block by a label gives it to each address of the block
label_below-decided : (W : ℕ) (ps : List Prefix) (n q a : ℕ) (x : Label) → n ≤ W → block_number W n a ≡ q →
    ListSettles W ps n q x → label_below W ps (suc W) a ≡ Some x
label_below-decided W ps n q a x le e decided =
    let s : suc W ≡ suc n + (W - n) = omega arith in
    ap (λ (j : ℕ). label_below W ps j a) s
    ∙ label_below-inside W ps n (W - n) q a (omega arith) e (ap length decided.inside)
    ∙ label_below-same W ps n a (first_of W n q) le (e ∙ sym (block_number-first_of W n q))
    ∙ decided.longest

-- at an accepted node the list labels each address of the block as the map does
pub node-labels : (m : MapModel) (ps : List Prefix) (t : Tree) (n q a : ℕ) → IsPlain t → n ≤ width_of m.version →
    block_number (width_of m.version) n a ≡ q → IsNodeAccepted m ps t n q →
    label_below (width_of m.version) ps (suc (width_of m.version)) a ≡ Some (map_label m a)
node-labels m ps (ChainNode claim bits side end) n q a plain le e h = absurd plain
node-labels m ps (LeafNode x) n q a plain le e h =
    label_below-decided (width_of m.version) ps n q a x le e h.1 ∙ ap Some (sym (map_label-settled m n q a x e h.0))
node-labels m ps (InnerNode claim lower upper) n q a plain le e h =
    ⊎_elim (λ low. node-labels m ps lower (suc n) (2 * q) a plain.0 h.0 low h.1)
    (λ high. node-labels m ps upper (suc n) (2 * q + 1) a plain.1 h.0 high h.2)
    (block_number-halves (width_of m.version) n q a h.0 e)

-- an equivalent list labels every address of the map's version as the map does
labels-at_version : (l : ListModel) (m : MapModel) → IsEquivalent l m → (a : ℕ) → a < 2 ^ width_of m.version →
    label_below (width_of m.version) l.prefixes (suc (width_of m.version)) a ≡ Some (map_label m a)
labels-at_version l m same a below =
    subst (λ (v : Version). label_below (width_of v) l.prefixes (suc (width_of v)) a ≡ Some (map_label m a)) same.version (same.labels a below)

pub equivalent-accepted : (m : MapModel) (l : ListModel) (c : CertificateModel) → IsAccepted m l c → IsEquivalent l m
equivalent-accepted m l c given = let h = opened-accepted m l c given in record {
  version = h.list_version;
  labels = λ a below.
      subst (λ (v : Version). label_below (width_of v) l.prefixes (suc (width_of v)) a ≡ Some (map_label m a)) (sym h.list_version)
      (node-labels m l.prefixes (opened_certificate c).root 0 0 a (opened-plain c.root) (omega arith) (block_number-zero (width_of m.version) a below) h.root);
}

pub bound-accepted : (m : MapModel) (l : ListModel) (c : CertificateModel) → IsAccepted m l c →
    (other : ListModel) → IsEquivalent other m → (claim_of c.root).cost + 1 ≤ length other.prefixes
bound-accepted m l c given other same =
    let h = opened-accepted m l c given in
    let k = kernel m l.prefixes other.prefixes (labels-at_version other m same) (opened_certificate c).root 0 0
    (opened-plain c.root) (omega arith) (omega arith) h.root in
    let cost = ap (λ (p : Claim). p.cost) (claim-opened m l.prefixes c.root 0 0 given.root) in
    omega (arith, cost, count_of-le (is_within (width_of m.version) 0 0) other.prefixes)

pub least-accepted : (m : MapModel) (l : ListModel) (c : CertificateModel) → IsAccepted m l c → IsLeast m l
least-accepted m l c h other same = omega (arith, h.count, bound-accepted m l c h other same)
