-- The certificate's node of two halves.
use Rattle.std.proofs.Common.{◌≡◌, ℕ, zero, suc, ◌+◌, ◌-◌, ◌*◌, ◌^◌, ◌<◌, ◌∙◌, List, None, length, refl, sym, ap, subst, arith}
use Rattle.prefix_keys.specs.Block.{width_of}
use Rattle.prefix_keys.specs.declared.block.Block.{Block}
use Rattle.pmap_model.specs.Label.{IsLabelTable}
use Rattle.pmap_model.specs.MapModel.{Label, MapModel, settled_label}
use Rattle.pmap_model.specs.MapText.{text_at}
use Rattle.pmap_cert.specs.CertificateText.{IsAscending}
use Rattle.pmap_cert.specs.CertificateModel.{ChainNode, Claim, ClaimOf, InnerNode, LeafNode, claim_of, exact_claim, map_claim}
use Rattle.pmap_cert.specs.Acceptance.{in_table_order}
use Rattle.pmap_cert.specs.Node.{HasNumberForm, Node, tree_of}
use Rattle.label_trie.specs.Parts.{IsHalf}
use Rattle.pmap_minimise.specs.Numbers.{IsExact, IsMapNode, IsSound}
use Rattle.pmap_cert.specs.Opened.{Opens}
use Rattle.pmap_minimise.proofs.Texts.{exact-ascending, exact-some, listed_claim}

-- a node's claim by its numbers
claim-is : (table : List Label) (node : Node) → claim_of (tree_of table node) ≡ map_claim (text_at table) (claim_of node)
claim-is table (LeafNode id) = refl
claim-is table (InnerNode claim left right) = refl
claim-is table (ChainNode claim bits side end) = refl

pub claim-cost : (table : List Label) (node : Node) → (claim_of (tree_of table node)).cost ≡ (claim_of node).cost
claim-cost table node = ap (λ (c : Claim). c.cost) (claim-is table node)

set-ascending : (count : ℕ) (node : Node) (room : ℕ) → HasNumberForm count node room → IsAscending count 0 (claim_of node).labels
set-ascending count (LeafNode id) room form = (omega arith, form.0, tt)
set-ascending count (InnerNode claim left right) zero form = absurd form.0
set-ascending count (InnerNode claim left right) (suc room) form = form.0.1
set-ascending count (ChainNode claim bits side end) room form = absurd form.1

pub set-some : (node : Node) (room : ℕ) → IsSound node room → 0 < length (claim_of node).labels
set-some (LeafNode id) room sound = omega arith
set-some (InnerNode claim left right) zero sound = absurd sound
set-some (InnerNode claim left right) (suc room) sound = sound.0
set-some (ChainNode claim bits side end) room sound = absurd sound

-- a half has one host bit less
pub half-room : (side : ℕ) (block half : Block) → IsHalf side block half → width_of block.version - block.len ≡ suc (width_of half.version - half.len)
half-room side block half is =
    let within = half.len_in_range in
    let len = is.len in
    let width : width_of half.version ≡ width_of block.version = ap width_of is.version in
    omega arith

-- the node of two halves
pub joined-in : (m : MapModel) (n q h : ℕ) (low high : Node) (claim : ClaimOf ℕ) → IsLabelTable m.table → settled_label m n q ≡ None → IsMapNode m (suc n) (2 * q) h low
    → IsMapNode m (suc n) (2 * q + 1) h high → IsExact (claim_of low) (claim_of high) claim → claim.cost < 2 ^ 32 → IsMapNode m n q (suc h) (InnerNode claim low high)
joined-in m n q h low high claim ok none lower upper exact few =
    let count : ℕ = length m.table in
    let below = set-ascending count low h lower.form in
    let above = set-ascending count high h upper.form in
    record {
      stands = (
        none,
        listed_claim m.table ok (claim_of low) (claim_of high) claim below above exact
            ∙ (λ i. in_table_order m.table (exact_claim (sym (claim-is m.table low) i) (sym (claim-is m.table high) i))),
        lower.stands,
        upper.stands,
      );
      form = ((few, exact-ascending count (claim_of low) (claim_of high) claim below above exact, lower.form.0, upper.form.0), (lower.form.1, upper.form.1));
    }

pub joined-sound : (h : ℕ) (low high : Node) (claim : ClaimOf ℕ) → IsSound low h → IsSound high h → IsExact (claim_of low) (claim_of high) claim → IsSound (InnerNode claim low high) (suc h)
joined-sound h low high claim lower upper exact = (exact-some (claim_of low) (claim_of high) claim (set-some low h lower) exact, lower, upper)

pub moved : (m : MapModel) (n n' q q' h h' : ℕ) (node : Node) → n ≡ n' → q ≡ q' → h ≡ h' → IsMapNode m n q h node → IsMapNode m n' q' h' node
moved m n n' q q' h h' node bits number room is =
    subst (λ (x : ℕ). IsMapNode m x q' h' node) bits (subst (λ (x : ℕ). IsMapNode m n x h' node) number (subst (λ (x : ℕ). IsMapNode m n q x node) room is))

-- a node without chains opens to itself
pub sound-opens : (node : Node) (room : ℕ) → IsSound node room → Opens node node
sound-opens (LeafNode id) room is = refl
sound-opens (InnerNode claim lower upper) zero is = absurd is
sound-opens (InnerNode claim lower upper) (suc room) is =
    record { lower = lower; upper = upper; low = sound-opens lower room is.1; high = sound-opens upper room is.2; node_is = refl }
sound-opens (ChainNode claim bits side end) room is = absurd is
